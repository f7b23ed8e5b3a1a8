use Rattle.demangle_outline.proofs.Sees.{same_refusals}
use Rattle.demangle_outline.proofs.same_refusals.Goals as goal

pub returns : goal.returns
returns c = same_refusals
