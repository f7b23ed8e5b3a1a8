use Rattle.std.proofs.Common.{◌-◌, ◌^◌}
use Rattle.demangle_grammar.specs.Rule.{Row}
use Rattle.demangle_cells.specs.View.{view}
use Rattle.demangle_read_rows.proofs.RowLists.{ListSoFar}
use Rattle.demangle_read_names.proofs.lists.waiting_suffixes.Given as goal

abbrev pub invariant-loop-suffix : goal.invariant-loop-suffix
invariant-loop-suffix l =
    ListSoFar l.depth.levels Row.clone_suffix l.depth.conversion l.text l.fn.at l.end (view l.fn.arena) (view l.arena)

abbrev pub decreases-loop-suffix : goal.decreases-loop-suffix
decreases-loop-suffix l = 2 ^ 32 - l.end
