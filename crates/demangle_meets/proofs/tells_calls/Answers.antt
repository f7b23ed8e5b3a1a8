use Rattle.demangle_meets.proofs.Heard.{tells_calls}
use Rattle.demangle_meets.proofs.tells_calls.Goals as goal

pub returns : goal.returns
returns c = tells_calls
