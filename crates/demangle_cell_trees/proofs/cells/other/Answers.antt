use Rattle.demangle_cell_trees.specs.ArenaTrees.{table_of, tree_at}
use Rattle.demangle_cell_trees.proofs.cells.other.Goals as goal

pub returns : goal.returns
unfolding table_of
returns c = c.other.ensures (tree_at c.args.subs.now)
