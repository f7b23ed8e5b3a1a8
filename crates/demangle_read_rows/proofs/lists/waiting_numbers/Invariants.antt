use Rattle.std.proofs.Common.{◌-◌, ◌^◌}
use Rattle.demangle_cells.specs.View.{view}
use Rattle.demangle_read_rows.proofs.DottedNumbers.{NumbersSoFar}
use Rattle.demangle_read_rows.proofs.lists.waiting_numbers.Given as goal

abbrev pub invariant-loop-number : goal.invariant-loop-number
invariant-loop-number l = NumbersSoFar l.text l.fn.at l.end (view l.fn.arena) (view l.arena)

abbrev pub decreases-loop-number : goal.decreases-loop-number
decreases-loop-number l = 2 ^ 32 - l.end
