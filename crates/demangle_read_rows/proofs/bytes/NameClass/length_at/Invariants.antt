use Rattle.std.proofs.Common.{◌≡◌, ◌+◌, drop}
use Rattle.demangle_text.specs.Bytes.{span}
use Rattle.demangle_grammar.specs.Reading.{is_in}
use Rattle.demangle_read_rows.specs.NameClass.{class_of}
use Rattle.demangle_read_rows.proofs.bytes.NameClass.length_at.Given as goal

abbrev pub invariant-loop-i : goal.invariant-loop-i
invariant-loop-i l = span (is_in (class_of l.self)) l.bytes ≡ l.i + span (is_in (class_of l.self)) (drop l.i l.bytes)
