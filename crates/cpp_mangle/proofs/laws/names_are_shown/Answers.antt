use Rattle.cpp_mangle.proofs.Theorem.{shown}
use Rattle.cpp_mangle.proofs.laws.names_are_shown.Goals as goal

pub returns : goal.returns
returns c = shown
