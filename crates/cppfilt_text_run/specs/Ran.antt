-- What a run did, by the verdict on its words.
use Rattle.std.specs.Prelude.{◌≡◌, ◌⊎◌, ℕ, ◌^◌, Bool, true, false, List, Option}
use Rattle.cppfilt_command.specs.Asked.{Verdict, Mistaken, AsksHelp, Asks}
use Rattle.cppfilt_run.specs.Ran.{Helped, Unread}
use Rattle.cppfilt_run.specs.declared.status.Status.{Status}
use Rattle.cppfilt_run.specs.declared.status.Status.TheVariants.{Usage, OutOfMemory}
use Rattle.cppfilt_text_run.specs.Outcome.{Stopped}

-- the input is read where the words ask for it
abbrev pub reads : Verdict → Bool
reads (Asks o work) = true
reads _ = false

-- how a run ended, before its message
abbrev pub Ran : Verdict → Status → (read0 read1 write0 write1 taken0 taken1 given : ℕ)
    → (left0 left1 out0 out1 : Option (List ℕ)) → Type 0
Ran Mistaken s r0 r1 w0 w1 t0 t1 given left0 left1 out0 out1 =
    ((s ≡ Usage) ⊎ (s ≡ OutOfMemory)) × Unread r0 r1 t0 t1 left0 left1 × (w1 ≡ w0) × (out1 ≡ out0)
Ran AsksHelp s r0 r1 w0 w1 t0 t1 given left0 left1 out0 out1 = Helped s w0 w1 × Unread r0 r1 t0 t1 left0 left1
Ran (Asks o work) s r0 r1 w0 w1 t0 t1 given left0 left1 out0 out1 =
    Stopped o.parse o.print s (2 ^ 40) r0 r1 w0 w1 t0 t1 given left0 left1 out0 out1

-- how a run ended, by the status that it answers: there may have been no memory for its message
pub record Ended (v : Verdict) (status : Status) (read0 read1 write0 write1 taken0 taken1 given : ℕ)
    (left0 left1 out0 out1 : Option (List ℕ)) : Type 0 where
  pub before : Status
  pub ran : Ran v before read0 read1 write0 write1 taken0 taken1 given left0 left1 out0 out1
  pub kept : (status ≡ before) ⊎ (status ≡ OutOfMemory)
