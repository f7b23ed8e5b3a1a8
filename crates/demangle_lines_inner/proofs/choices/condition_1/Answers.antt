use Rattle.demangle_lines.proofs.Doing.{isnt_as}
use Rattle.demangle_lines_inner.proofs.choices.condition_1.Goals as goal

pub returns : goal.returns
returns g c = isnt_as (record { is = λ l. c.last_is.ensures })
