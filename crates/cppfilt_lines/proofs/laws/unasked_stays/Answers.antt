use Rattle.cppfilt_lines.proofs.DueLaws.{unasked_line_stays, unasked_stays}
use Rattle.cppfilt_lines.proofs.laws.unasked_stays.Goals as goal

pub returns-clause-line : goal.returns-clause-line
returns-clause-line c = unasked_line_stays

pub returns-clause-input : goal.returns-clause-input
returns-clause-input c = unasked_stays
