use Rattle.demangle_meets.proofs.Laws.{tells_in_order}
use Rattle.demangle_meets.proofs.tells_in_order.Goals as goal

pub returns : goal.returns
returns c = tells_in_order
