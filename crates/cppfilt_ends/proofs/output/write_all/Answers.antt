use Rattle.std.proofs.Common.{rules}
use Rattle.cppfilt_ends.proofs.MoveLaws.{moves-tail}
use Rattle.cppfilt_ends.proofs.output.write_all.Goals as goal

-- the write took the front of what was still due
pub loop-rest-preserved : goal.loop-rest-preserved
loop-rest-preserved g c =
    (moves-tail _ _ _ _ _ _ c.loop-rest.invariant.0 c.in_ok-count.ensures.bytes, search rules)
