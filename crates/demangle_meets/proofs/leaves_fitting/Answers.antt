use Rattle.demangle_meets.proofs.Laws.{leaves_fitting}
use Rattle.demangle_meets.proofs.leaves_fitting.Goals as goal

pub returns : goal.returns
returns c = leaves_fitting
