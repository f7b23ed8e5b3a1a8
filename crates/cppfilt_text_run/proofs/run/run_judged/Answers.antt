use Rattle.cppfilt_command.specs.Asked.{Asks}
use Rattle.cppfilt_command.specs.Refusals.{work_of}
use Rattle.cppfilt_text_run.proofs.RanLaws.{ended, ended-memory}
use Rattle.cppfilt_text_run.proofs.run.run_judged.Goals as goal

pub returns-in-Ok-clause-ended : goal.returns-in-Ok-clause-ended
returns-in-Ok-clause-ended g c =
    let r = c.in-Ok.request in
    rw c.in-Ok.ensures.asks
    (ended (Asks r.options (work_of r.task)) c.perform.result _ _ _ _ _ _ _ _ _ _ _ _ c.perform.ensures
    c.report.ensures.kept)

pub returns-in-Err-OutOfMemory-clause-ended : goal.returns-in-Err-OutOfMemory-clause-ended
returns-in-Err-OutOfMemory-clause-ended g c = ended-memory _ _ _ _ _ _ _ _ c.report-in-Err-OutOfMemory.ensures.kept
