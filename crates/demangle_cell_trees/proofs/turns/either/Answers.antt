use Rattle.demangle_printing.specs.World.{nth}
use Rattle.demangle_cell_trees.specs.Own.{parts_in}
use Rattle.demangle_cell_trees.specs.Steps.{other_part}
use Rattle.demangle_cell_trees.proofs.Ways.{either_turns, either_none}
use Rattle.demangle_cell_trees.proofs.turns.either.Goals as goal

pub returns-then-part-lt-FIRST_INSIDE : goal.returns-then-part-lt-FIRST_INSIDE
returns-then-part-lt-FIRST_INSIDE c =
    λ s a x o p g h. either_turns s a x c.args.way c.requires o c.args.part p c.if-part-lt-FIRST_INSIDE.true g h

pub returns-else-part-lt-FIRST_INSIDE : goal.returns-else-part-lt-FIRST_INSIDE
returns-else-part-lt-FIRST_INSIDE c =
    λ s a x o p g h. either_none s a x o c.args.part (nth (other_part c.args.way) (parts_in x)) p
    c.if-part-lt-FIRST_INSIDE.false h
