use Rattle.std.proofs.Common.{◌≡◌, take, ◌++◌}
use Rattle.cpp_mangle.specs.Declarations.{source_names}
use Rattle.cpp_mangle.proofs.writer.put_source_names.Given as goal

abbrev pub invariant-loop-part : goal.invariant-loop-part
invariant-loop-part l = l.out.items ≡ l.initial.out.items ++ source_names (take l.part-index l.parts)
