use Rattle.cppfilt_ends.proofs.MoveLaws.{refusal-none}
use Rattle.cppfilt_ends.proofs.output.emit.Goals as goal

-- nothing was written
pub returns-in_err-extend_from_slice : goal.returns-in_err-extend_from_slice
returns-in_err-extend_from_slice g c = refusal-none _ _ _ _ _ c.from_residual.ensures.1
