use Rattle.std.specs.Prelude.{Some}
use Rattle.cppfilt_text_run.proofs.program.start.Goals as goal

pub returns-in-Ok-clause-ran : goal.returns-in-Ok-clause-ran
returns-in-Ok-clause-ran g c =
    record { words = Some c.in-Ok.words.items; ended = c.run_by_words-status.ensures.ended }
