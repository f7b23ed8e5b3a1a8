use Rattle.std.proofs.Common.{◌∙◌}
use Rattle.demangle_cell_trees.proofs.Numbers.{other_coded}
use Rattle.demangle_cell_trees.proofs.held.printed_other.Goals as goal

pub returns-then-part-lt-FIRST_INSIDE : goal.returns-then-part-lt-FIRST_INSIDE
returns-then-part-lt-FIRST_INSIDE c =
    λ input. other_coded c.args.arena.now c.args.subs.now c.referring_printed-part.result
    c.if-part-lt-FIRST_INSIDE.true
    ∙ c.referring_printed-part.ensures c.if-part-lt-FIRST_INSIDE.true input
