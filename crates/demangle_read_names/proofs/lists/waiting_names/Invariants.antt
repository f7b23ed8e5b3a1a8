use Rattle.std.proofs.Common.{◌-◌, ◌^◌}
use Rattle.demangle_grammar.specs.Rule.{Row}
use Rattle.demangle_cells.specs.View.{view}
use Rattle.demangle_read_rows.proofs.RowLists.{ListSoFar}
use Rattle.demangle_read_names.proofs.lists.waiting_names.Given as goal

abbrev pub invariant-loop-name : goal.invariant-loop-name
invariant-loop-name l =
    ListSoFar l.depth.levels Row.resource_name l.depth.conversion l.text l.fn.at l.end (view l.fn.arena) (view l.arena)

abbrev pub decreases-loop-name : goal.decreases-loop-name
decreases-loop-name l = 2 ^ 32 - l.end
