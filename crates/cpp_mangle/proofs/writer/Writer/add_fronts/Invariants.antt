use Rattle.std.proofs.Common.{◌≡◌, take}
use Rattle.cpp_mangle.specs.Declarations.{with_all, fronts}
use Rattle.cpp_mangle.specs.Plain.{known}
use Rattle.cpp_mangle.proofs.writer.Writer.add_fronts.Given as goal

abbrev pub invariant-loop-before : goal.invariant-loop-before
invariant-loop-before l = record {
  out : l.self.out ≡ l.initial.self.out;
  known : known l.self ≡ with_all (fronts (take l.before l.parts)) (known l.initial.self);
}
