use Rattle.std.proofs.Common.{vec_len}
use Rattle.demangle_discard.proofs.VecDiscard.discard.Given as goal

abbrev pub decreases-loop-x : goal.decreases-loop-x
decreases-loop-x g l = vec_len l.list
