use Rattle.demangle_core.proofs.Ends.{all_end}
use Rattle.demangle_core.proofs.lookups_end.Goals as goal

pub returns : goal.returns
returns c = all_end
