use Rattle.std.proofs.Common.{◌-◌, ◌^◌}
use Rattle.demangle_grammar.specs.Rule.{Row}
use Rattle.demangle_cells.specs.View.{view}
use Rattle.demangle_read_rows.proofs.RowLists.{ListSoFar}
use Rattle.demangle_read_rows.proofs.lists.waiting_tags.Given as goal

abbrev pub invariant-loop-tag : goal.invariant-loop-tag
invariant-loop-tag l =
    ListSoFar l.depth.levels Row.abi_tag l.depth.conversion l.text l.fn.at l.end (view l.fn.arena) (view l.arena)

abbrev pub decreases-loop-tag : goal.decreases-loop-tag
decreases-loop-tag l = 2 ^ 32 - l.end
