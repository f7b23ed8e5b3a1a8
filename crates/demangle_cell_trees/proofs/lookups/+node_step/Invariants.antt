use Rattle.demangle_cell_trees.specs.ArenaTrees.{tree_at}
use Rattle.demangle_cell_trees.specs.Steps.{size}
use Rattle.demangle_cell_trees.proofs.lookups.+node_step.Given as goal

abbrev pub decreases-node_step : goal.decreases-node_step
decreases-node_step l = size (tree_at l.arena.now l.id)
