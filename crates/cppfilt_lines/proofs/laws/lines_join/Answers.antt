use Rattle.cppfilt_lines.proofs.DueLaws.{lines_join}
use Rattle.cppfilt_lines.proofs.laws.lines_join.Goals as goal

pub returns : goal.returns
returns c = lines_join
