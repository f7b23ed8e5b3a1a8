use Rattle.cpp_mangle.proofs.Theorem.{numbered}
use Rattle.cpp_mangle.proofs.laws.components_are_entities.Goals as goal

pub returns : goal.returns
returns c = numbered
