use Rattle.std.proofs.Common.{◌≡◌, ◌+◌, ◌≤◌, ◌++◌, length, drop}
use Rattle.std.specs.Fmt.{decimal}
use Rattle.demangle_decimal.proofs.digits.write_digits.Given as goal

-- What is left is to be written before what stands in the room from `at` on.
abbrev pub invariant-loop-left : goal.invariant-loop-left
invariant-loop-left l =
    (l.at ≤ 40) × (length l.bytes ≡ 40) × (l.at + length (decimal l.n) ≡ 40 + length (decimal l.left))
    × (decimal l.left ++ drop l.at l.bytes ≡ decimal l.n)

abbrev pub decreases-loop-left : goal.decreases-loop-left
decreases-loop-left l = l.left
