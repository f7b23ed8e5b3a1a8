use Rattle.cppfilt_lines.proofs.DueLaws.{due_joins}
use Rattle.cppfilt_lines.proofs.laws.due_joins.Goals as goal

pub returns : goal.returns
returns c = due_joins
