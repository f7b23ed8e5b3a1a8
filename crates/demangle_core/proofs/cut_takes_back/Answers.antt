use Rattle.demangle_core.proofs.Cuts.{cut_added}
use Rattle.demangle_core.proofs.cut_takes_back.Goals as goal

pub returns : goal.returns
returns c = cut_added
