use Rattle.std.proofs.Common.{refl}
use Rattle.cppfilt_ends.proofs.MoveLaws.{begins-none}
use Rattle.cppfilt_run.proofs.sample.show_sample.Goals as goal

pub returns-in_default : goal.returns-in_default
returns-in_default g c = (refl, begins-none _ _)
