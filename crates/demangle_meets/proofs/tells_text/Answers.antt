use Rattle.demangle_meets.proofs.Heard.{tells_text}
use Rattle.demangle_meets.proofs.tells_text.Goals as goal

pub returns : goal.returns
returns c = tells_text
