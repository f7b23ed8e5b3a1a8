use Rattle.demangle_core.specs.Same.{same_tables_equiv}
use Rattle.demangle_core.proofs.equality_of_tables_is_an_equivalence.Goals as goal

pub returns : goal.returns
returns c = same_tables_equiv
