-- What a process did, over the words that it was given.
use Rattle.std.specs.Prelude.{ℕ, List, Option, Some, None, String}
use Rattle.std.specs.declared.alloc.Global.{Global}
use Rattle.cppfilt_command.specs.Asked.{Verdict, Mistaken, text_verdict_on}
use Rattle.cppfilt_run.specs.declared.status.Status.{Status}
use Rattle.cppfilt_text_run.specs.Ran as run
use Rattle.cppfilt_text_run.specs.declared.program.Ended.{Ended}

-- the status with which a program ended
abbrev pub status_in : Ended → Status
status_in ended = ended.status

-- the verdict on its words; words that are no text are wrong
abbrev pub verdict_in : Option (List (String Global)) → Verdict
verdict_in (Some words) = text_verdict_on words
verdict_in None = Mistaken

-- It ended as a run over some words does, or as one over wrong words where they are no text.
pub record Started (status : Status) (read0 read1 write0 write1 taken0 taken1 given : ℕ)
    (left0 left1 out0 out1 : Option (List ℕ)) : Type 0 where
  pub words : Option (List (String Global))
  pub ended : run.Ended (verdict_in words) status read0 read1 write0 write1 taken0 taken1 given left0 left1 out0 out1
