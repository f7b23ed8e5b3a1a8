use Rattle.std.proofs.Common.{refl}
use Rattle.demangle_meets.proofs.Acts.{meets_ask, meets_text}
use Rattle.demangle_print_inner.proofs.arrays.others_before_bounds.Goals as goal

pub returns : goal.returns
returns g c = meets_ask (λ _. refl) c.all_waiting.ensures (meets_text c.text.ensures (c.space_before.ensures _))
