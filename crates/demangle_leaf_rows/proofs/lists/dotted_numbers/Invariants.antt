use Rattle.std.proofs.Common.{length}
use Rattle.demangle_text.specs.Spot.{spot}
use Rattle.demangle_leaf_rows.proofs.DottedNumbers.{NumbersSoFar}
use Rattle.demangle_leaf_rows.proofs.lists.dotted_numbers.Given as goal

abbrev pub invariant-loop-number : goal.invariant-loop-number
invariant-loop-number l = NumbersSoFar (spot l.fn.input) (spot l.rest) l.numbers.items

abbrev pub decreases-loop-number : goal.decreases-loop-number
decreases-loop-number l = length l.rest.string.now
