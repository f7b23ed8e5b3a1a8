use Rattle.demangle_printing.proofs.Shared.{equal_prints_equal}
use Rattle.demangle_printing.proofs.equal_prints_equal.Goals as goal

pub returns : goal.returns
returns c = equal_prints_equal
