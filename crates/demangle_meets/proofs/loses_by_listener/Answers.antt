use Rattle.demangle_meets.proofs.Laws.{loses_by_listener}
use Rattle.demangle_meets.proofs.loses_by_listener.Goals as goal

pub returns : goal.returns
returns c = loses_by_listener
