use Rattle.cppfilt_lines.proofs.DueLaws.{endings_stay}
use Rattle.cppfilt_lines.proofs.laws.endings_stay.Goals as goal

pub returns : goal.returns
returns c = endings_stay
