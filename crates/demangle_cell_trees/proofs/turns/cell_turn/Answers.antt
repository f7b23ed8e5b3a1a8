use Rattle.demangle_cell_trees.specs.ArenaTrees.{tree_at}
use Rattle.demangle_cell_trees.proofs.Ways.{step_turns}
use Rattle.demangle_cell_trees.proofs.turns.cell_turn.Goals as goal

pub returns-in-None : goal.returns-in-None
returns-in-None c =
    step_turns c.args.sought c.args.arena.now (tree_at c.args.arena.now c.args.id) c.end_step.result
    c.end_step.ensures.step c.end_step.ensures.is
