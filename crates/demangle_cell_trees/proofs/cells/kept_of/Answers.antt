use Rattle.demangle_cell_trees.proofs.Looks.{kept_node}
use Rattle.demangle_cell_trees.proofs.cells.kept_of.Goals as goal

pub returns : goal.returns
returns c =
    kept_node c.args.arena.now c.args.at c.low_half.result c.kept.result c.low_half.ensures c.kept.ensures.cell
