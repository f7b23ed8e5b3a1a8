use Rattle.std.proofs.Common.{◌≡◌, ◌-◌, length, map}
use Rattle.cpp_mangle.specs.Plain.{plain_entity}
use Rattle.cpp_mangle.proofs.Known.{longest_of}
use Rattle.cpp_mangle.proofs.entity.longest_front.Given as goal

abbrev pub invariant-loop-end : goal.invariant-loop-end
invariant-loop-end l =
    longest_of l.parts (map plain_entity l.known) (length l.parts - 1)
    ≡ longest_of l.parts (map plain_entity l.known) (l.end - 1)
