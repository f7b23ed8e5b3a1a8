use Rattle.demangle_lines.proofs.Doing.{always, isnt_as}
use Rattle.demangle_lines_functions.proofs.choices.condition_3.Goals as goal

pub returns : goal.returns
returns g c = isnt_as (always c.is_special.ensures)
