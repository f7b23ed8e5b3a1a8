use Rattle.std.proofs.Common.{map, length}
use Rattle.demangle_components.specs.View.{woven}
use Rattle.demangle_entries.specs.TreeEntries.{tree_of_substitutable}
use Rattle.demangle_table.specs.TableOf.{table_of}
use Rattle.demangle_cells.specs.View.{view}
use Rattle.demangle_parse.specs.Adds.{Lacks}
use Rattle.demangle_parse.proofs.table.arena_of.Given as goal

abbrev pub invariant-loop-others : goal.invariant-loop-others
invariant-loop-others l =
    Lacks (view l.arena)
    (woven l.done (map tree_of_substitutable l.numbered) (map tree_of_substitutable l.others) l.before)
    (table_of l.subs)

abbrev pub decreases-loop-others : goal.decreases-loop-others
decreases-loop-others l = length l.others
