use Rattle.std.proofs.Common.{◌≡◌, take, map, ◌++◌}
use Rattle.cpp_mangle.specs.Declarations.{with_types, types_bytes}
use Rattle.cpp_mangle.specs.Plain.{known, plain_type}
use Rattle.cpp_mangle.proofs.writer.Writer.put_types.Given as goal

abbrev pub invariant-loop-one : goal.invariant-loop-one
invariant-loop-one l = record {
  out : l.self.out.items
      ≡ l.initial.self.out.items ++ types_bytes (map plain_type (take l.one-index l.types)) (known l.initial.self);
  known : known l.self ≡ with_types (map plain_type (take l.one-index l.types)) (known l.initial.self);
}
