use Rattle.std.proofs.Common.{◌≡◌, take, map}
use Rattle.std.specs.Prelude.{None}
use Rattle.cpp_mangle.specs.Declarations.{place}
use Rattle.cpp_mangle.specs.Plain.{plain_entity}
use Rattle.cpp_mangle.proofs.entity.place.Given as goal

abbrev pub invariant-loop-i : goal.invariant-loop-i
invariant-loop-i l = place (plain_entity l.entity) (map plain_entity (take l.i l.known)) ≡ None
