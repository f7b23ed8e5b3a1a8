use Rattle.demangle_core.specs.Same.{same_equiv}
use Rattle.demangle_core.proofs.equality_is_an_equivalence.Goals as goal

pub returns : goal.returns
returns c = same_equiv
