use Rattle.std.proofs.Common.{◌≤◌}
use Rattle.demangle_cell_trees.specs.Ends.{Kept}
use Rattle.demangle_cell_trees.specs.Steps.{past_steps}
use Rattle.demangle_cell_trees.proofs.ends.ends_of.Given as goal

-- each turn of the loop knows one turn more of a look-up
abbrev pub invariant-loop-round : goal.invariant-loop-round
invariant-loop-round l = Kept l.sought l.arena l.split l._round l.ends.items × (l.others ≤ past_steps)
