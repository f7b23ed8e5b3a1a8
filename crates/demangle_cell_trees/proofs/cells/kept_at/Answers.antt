use Rattle.demangle_cell_trees.proofs.Looks.{kept_cell}
use Rattle.demangle_cell_trees.proofs.cells.kept_at.Goals as goal

pub returns : goal.returns
returns c = kept_cell c.args.arena.now c.args.id c.kept.result c.kept.ensures.cell
