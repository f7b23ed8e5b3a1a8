use Rattle.demangle_lines.proofs.Doing.{always, both_off, both_on}
use Rattle.demangle_lines_functions.proofs.choices.condition_1.Goals as goal

pub returns-then-has_prefix_arguments : goal.returns-then-has_prefix_arguments
returns-then-has_prefix_arguments g c = both_on (always c.has_prefix_arguments.ensures) c.if-has_prefix_arguments.true
    c.condition_2.ensures

pub returns-else-has_prefix_arguments : goal.returns-else-has_prefix_arguments
returns-else-has_prefix_arguments g c = both_off (always c.has_prefix_arguments.ensures)
    c.if-has_prefix_arguments.false
