use Rattle.cppfilt_run.proofs.RunLaws.{finished-refused}
use Rattle.cppfilt_text_run.proofs.filter.end_input.Goals as goal

pub returns-in-Err : goal.returns-in-Err
returns-in-Err g c = rw c.status_of.ensures (finished-refused c.in-Err.fault _ _ _ _ _ c.in-Err.ensures)
