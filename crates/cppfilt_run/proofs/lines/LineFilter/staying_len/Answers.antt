use Rattle.std.proofs.Common.{refl}
use Rattle.cppfilt_run.specs.Staying.{begins_line, stays}
use Rattle.cppfilt_run.proofs.lines.LineFilter.staying_len.Goals as goal

pub returns-then-options-clause-stays : goal.returns-then-options-clause-stays
unfolding stays
returns-then-options-clause-stays c = refl

pub returns-then-options-clause-ends : goal.returns-then-options-clause-ends
unfolding begins_line
returns-then-options-clause-ends c = refl
