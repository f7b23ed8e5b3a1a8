use Rattle.demangle_meets.proofs.Laws.{stays_fixed}
use Rattle.demangle_meets.proofs.stays_fixed.Goals as goal

pub returns : goal.returns
returns c = stays_fixed
