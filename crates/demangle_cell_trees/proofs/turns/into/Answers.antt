use Rattle.demangle_cell_trees.proofs.Ways.{into_turns, into_none}
use Rattle.demangle_cell_trees.proofs.turns.into.Goals as goal

pub returns-then-part-lt-FIRST_INSIDE : goal.returns-then-part-lt-FIRST_INSIDE
returns-then-part-lt-FIRST_INSIDE c =
    λ s a x o p e h. into_turns s a x o c.args.part p c.if-part-lt-FIRST_INSIDE.true e h

pub returns-else-part-lt-FIRST_INSIDE : goal.returns-else-part-lt-FIRST_INSIDE
returns-else-part-lt-FIRST_INSIDE c =
    λ s a x o p e h. into_none s a x o c.args.part p c.if-part-lt-FIRST_INSIDE.false e
