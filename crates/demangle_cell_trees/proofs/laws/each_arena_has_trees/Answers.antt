use Rattle.demangle_cell_trees.proofs.Hold.{trees_hold}
use Rattle.demangle_cell_trees.proofs.laws.each_arena_has_trees.Goals as goal

pub returns : goal.returns
returns c = trees_hold c.args.arena.now
