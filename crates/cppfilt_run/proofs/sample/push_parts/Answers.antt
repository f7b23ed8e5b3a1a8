use Rattle.cppfilt_run.proofs.SampleLaws.{copies-next}
use Rattle.cppfilt_run.proofs.sample.push_parts.Goals as goal

pub loop-part-preserved : goal.loop-part-preserved
loop-part-preserved c = copies-next _ _ _ _ _ c.loop-part.invariant c.in_ok-push_part.ensures
