use Rattle.std.proofs.Common.{◌≡◌}
use Rattle.demangle_core.specs.Lookups.{resolve, settled}
use Rattle.demangle_cell_trees.specs.ArenaTrees.{table_of}
use Rattle.demangle_cell_trees.specs.Steps.{component_in, step_of}
use Rattle.demangle_cell_trees.proofs.lookups.settled.Given as goal

-- what is left of the turns leads to the answer
abbrev pub invariant-loop-more : goal.invariant-loop-more
invariant-loop-more l =
    resolve (component_in l.sought) l.more (table_of l.subs) (step_of l.subs l.step)
    ≡ settled (component_in l.sought) (table_of l.subs) (step_of l.subs l.fn.first)

abbrev pub decreases-loop-more : goal.decreases-loop-more
decreases-loop-more l = l.more
