use Rattle.demangle_outline.proofs.Sees.{same_ends}
use Rattle.demangle_outline.proofs.same_ends.Goals as goal

pub returns : goal.returns
returns c = same_ends
