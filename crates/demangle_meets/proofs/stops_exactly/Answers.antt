use Rattle.demangle_meets.proofs.Laws.{stops_exactly}
use Rattle.demangle_meets.proofs.stops_exactly.Goals as goal

pub returns : goal.returns
returns c = stops_exactly
