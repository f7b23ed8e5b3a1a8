use Rattle.demangle_cell_trees.proofs.Looks.{any_node}
use Rattle.demangle_cell_trees.proofs.cells.cell_of.Goals as goal

pub returns : goal.returns
returns c =
    any_node c.args.arena.now c.low_half.result c.plain.result c.plain.ensures.cell c.plain.ensures.none c.args.at
    c.low_half.ensures
