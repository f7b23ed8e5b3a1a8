use Rattle.demangle_meets.proofs.Laws.{counts_stay}
use Rattle.demangle_meets.proofs.counts_stay.Goals as goal

pub returns : goal.returns
returns c = counts_stay
