use Rattle.std.proofs.Common.{◌≡◌}
use Rattle.demangle_core.specs.Lookups.{resolve, settled}
use Rattle.demangle_table.specs.TableOf.{table_of}
use Rattle.demangle_tree.specs.Steps.{next_of}
use Rattle.demangle_tree.proofs.steps.follow.Given as goal

-- what is left of the turns leads to the answer
abbrev pub invariant-loop-more : goal.invariant-loop-more
invariant-loop-more g l =
    resolve g.L.LookUp.step l.more (table_of l.subs) (next_of g.L.LookUp.tree l.step)
    ≡ settled g.L.LookUp.step (table_of l.subs) (next_of g.L.LookUp.tree l.fn.first)

abbrev pub decreases-loop-more : goal.decreases-loop-more
decreases-loop-more g l = l.more
