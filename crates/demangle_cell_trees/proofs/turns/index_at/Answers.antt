use Rattle.demangle_cell_trees.proofs.Ways.{index_part}
use Rattle.demangle_cell_trees.proofs.turns.index_at.Goals as goal

pub returns : goal.returns
returns c =
    index_part c.args.arena.now c.args.id c.cell_at.result c.args.number c.index_in.result c.cell_at.ensures
    c.index_in.ensures
