use Rattle.std.proofs.Common.{refl}
use Rattle.demangle_meets.proofs.Acts.{meets_ask, meets_block, meets_done, meets_text}
use Rattle.demangle_print_primaries.proofs.literals.real_bytes.Goals as goal

pub returns : goal.returns
returns g c =
    λ p. meets_ask (λ _. refl) (c.opening.ensures p) (meets_block (rw c.without_sign.ensures at
    (c.bytes_text.ensures p)) (meets_text c.text.ensures meets_done))
