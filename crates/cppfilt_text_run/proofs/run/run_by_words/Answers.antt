use Rattle.cppfilt_text_run.proofs.RanLaws.{ended-memory}
use Rattle.cppfilt_text_run.proofs.run.run_by_words.Goals as goal

pub returns-in_default-clause-ended : goal.returns-in_default-clause-ended
returns-in_default-clause-ended g c = ended-memory _ _ _ _ _ _ _ _ c.report.ensures.kept

pub returns-clause-ended : goal.returns-clause-ended
returns-clause-ended g c = rw (← c.in-Ok.ensures, ← c.as_slice.ensures.value) c.run_judged.ensures.ended
