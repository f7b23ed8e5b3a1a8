use Rattle.std.specs.List.{list_all}
use Rattle.std.proofs.Common.{◌≡◌, true, take}
use Rattle.cpp_mangle.specs.Declarations.{is_ident}
use Rattle.cpp_mangle.proofs.path.each_is_ident.Given as goal

abbrev pub invariant-loop-part : goal.invariant-loop-part
invariant-loop-part l = list_all is_ident (take l.part-index l.parts) ≡ true
