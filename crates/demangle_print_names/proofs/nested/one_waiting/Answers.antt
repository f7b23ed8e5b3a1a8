use Rattle.demangle_meets.proofs.Lines.{meets_taken, meets_taken_none}
use Rattle.demangle_print_names.proofs.nested.one_waiting.Goals as goal

pub returns-in-Some : goal.returns-in-Some
returns-in-Some g c = λ k. record { rest = λ b d. meets_taken c.in-Some.ensures c.inner.ensures d }

pub returns-in_default : goal.returns-in_default
returns-in_default g c = λ k. record { rest = λ b d. meets_taken_none _ c.in_default.ensures d }
