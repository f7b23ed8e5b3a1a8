use Rattle.demangle_meets.proofs.Laws.{leaves_items}
use Rattle.demangle_meets.proofs.leaves_items.Goals as goal

pub returns : goal.returns
returns c = leaves_items
