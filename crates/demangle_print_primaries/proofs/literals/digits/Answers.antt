use Rattle.std.proofs.Common.{refl}
use Rattle.demangle_meets.proofs.Acts.{meets_ask, meets_block, meets_done}
use Rattle.demangle_print_primaries.proofs.literals.digits.Goals as goal

pub returns : goal.returns
returns g c =
    λ p. meets_ask (λ _. refl) (c.minus.ensures p) (meets_block (rw c.without_sign.ensures at (c.bytes_text.ensures
    p)) meets_done)
