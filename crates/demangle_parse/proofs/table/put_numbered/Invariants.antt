use Rattle.std.proofs.Common.{map, take}
use Rattle.demangle_core.specs.Core.{N}
use Rattle.demangle_components.specs.View.{all_of}
use Rattle.demangle_entries.specs.TreeEntries.{tree_of_substitutable}
use Rattle.demangle_cells.specs.View.{view}
use Rattle.demangle_parse.specs.Adds.{Adds}
use Rattle.demangle_parse.proofs.table.put_numbered.Given as goal

abbrev pub invariant-loop-node : goal.invariant-loop-node
invariant-loop-node l =
    Adds (view l.initial.arena) (view l.arena) (all_of N (map tree_of_substitutable (take l.node-index l.nodes)))
