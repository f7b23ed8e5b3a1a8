use Rattle.demangle_lines.proofs.Doing.{both_off, both_on}
use Rattle.demangle_lines_functions.proofs.choices.condition_2.Goals as goal

pub returns-then-is_on : goal.returns-then-is_on
returns-then-is_on g c = both_on (record { is = λ l. c.is_on.ensures }) c.if-is_on.true c.condition_3.ensures

pub returns-else-is_on : goal.returns-else-is_on
returns-else-is_on g c = both_off (record { is = λ l. c.is_on.ensures }) c.if-is_on.false
