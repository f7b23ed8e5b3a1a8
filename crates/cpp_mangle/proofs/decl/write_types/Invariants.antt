use Rattle.std.proofs.Common.{take, map}
use Rattle.std.specs.Fmt.{HasWritten, IsPlainFormatter}
use Rattle.cpp_mangle.specs.Declarations.{behind_types}
use Rattle.cpp_mangle.specs.Plain.{plain_type}
use Rattle.cpp_mangle.proofs.decl.write_types.Given as goal

abbrev pub invariant-loop-one : goal.invariant-loop-one
invariant-loop-one g l =
    IsPlainFormatter l.initial.f →
    HasWritten g.W.Write.write_str_gives l.initial.f (behind_types (map plain_type (take l.one-index l.rest))) l.f
