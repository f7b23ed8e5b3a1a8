use Rattle.std.proofs.Common.{◌≡◌, ◌+◌, drop}
use Rattle.demangle_text.specs.Bytes.{span}
use Rattle.demangle_text.specs.Characters.{is_identifier_byte}
use Rattle.demangle_text.proofs.identifier.ascii_len.Given as goal

abbrev pub invariant-loop-i : goal.invariant-loop-i
invariant-loop-i l = span is_identifier_byte l.bytes ≡ l.i + span is_identifier_byte (drop l.i l.bytes)
