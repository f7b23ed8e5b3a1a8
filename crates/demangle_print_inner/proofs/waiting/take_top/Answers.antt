use Rattle.demangle_meets.proofs.Acts.{meets_call, meets_pop}
use Rattle.demangle_print_inner.proofs.waiting.take_top.Goals as goal

pub returns : goal.returns
returns g c = λ k. record { rest = λ b d. meets_pop c.pop.ensures.step (meets_call c.inner.ensures.meets d) }
