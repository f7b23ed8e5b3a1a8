use Rattle.std.proofs.Common.{length}
use Rattle.demangle_parts_text.proofs.divide.+scope_in.Given as goal

abbrev pub decreases-scope_in : goal.decreases-scope_in
decreases-scope_in l = length l.front.marks.now
