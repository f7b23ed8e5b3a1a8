use Rattle.std.proofs.Common.{◌≡◌, ◌+◌, drop}
use Rattle.demangle_text.specs.Bytes.{span}
use Rattle.demangle_read_types.specs.Bytes.{is_no_e}
use Rattle.demangle_read_types.proofs.bytes.length_to_e.Given as goal

abbrev pub invariant-loop-i : goal.invariant-loop-i
invariant-loop-i l = span is_no_e l.bytes ≡ l.i + span is_no_e (drop l.i l.bytes)
