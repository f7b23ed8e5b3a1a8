use Rattle.demangle_cell_trees.proofs.Looks.{any_cell}
use Rattle.demangle_cell_trees.proofs.cells.cell_at.Goals as goal

pub returns : goal.returns
returns c = any_cell c.args.arena.now c.args.id c.plain.result c.plain.ensures.cell c.plain.ensures.none
