use Rattle.demangle_meets.proofs.Room.{stacks_suffice}
use Rattle.demangle_meets.proofs.stacks_suffice.Goals as goal

pub returns : goal.returns
returns c = stacks_suffice
