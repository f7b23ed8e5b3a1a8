use Rattle.std.proofs.Common.{◌≡◌, ◌+◌, ◌<◌, ◌^◌, length, drop}
use Rattle.demangle_text.specs.Number.{value_of, run_of}
use Rattle.demangle_text.proofs.number.run_value.Given as goal

abbrev pub invariant-loop-i : goal.invariant-loop-i
invariant-loop-i l =
    (value_of l.base 0 (run_of l.base l.bytes) ≡ value_of l.base l.value (run_of l.base (drop l.i l.bytes)))
    × (length (run_of l.base l.bytes) ≡ l.i + length (run_of l.base (drop l.i l.bytes)))
    × (l.value < 2 ^ 63)
