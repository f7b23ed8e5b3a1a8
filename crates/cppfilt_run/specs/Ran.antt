-- What a run did, by the verdict on its words.
use Rattle.std.specs.Prelude.{◌≡◌, ◌⊎◌, ℕ, ◌^◌, ◌≤◌, Bool, false, List, Option}
use Rattle.cppfilt_command.specs.Asked.{Verdict, Mistaken, AsksHelp, Asks}
use Rattle.cppfilt_ends.specs.Causes.{Rose}
use Rattle.cppfilt_lines.specs.Due.{due_names}
use Rattle.cppfilt_lines.specs.Sample.{summary}
use Rattle.cppfilt_lines.specs.Work.{Work, lines, names, sample}
use Rattle.cppfilt_lines.specs.Work as asked
use Rattle.cppfilt_lines.specs.declared.options.FilterOptions.{FilterOptions}
use Rattle.cppfilt_run.specs.Outcome.{Stopped, Finished}
use Rattle.cppfilt_run.specs.declared.status.Status.{Status}
use Rattle.cppfilt_run.specs.declared.status.Status.TheVariants.{Help, Usage, WriteFault, OutOfMemory}

-- the input is read only where its lines are asked for
abbrev pub reads : Verdict → Bool
reads (Asks o work) = asked.reads work
reads _ = false

-- nothing was read
abbrev pub Unread : (read0 read1 taken0 taken1 : ℕ) → (left0 left1 : Option (List ℕ)) → Type 0
Unread r0 r1 t0 t1 left0 left1 = (r1 ≡ r0) × (t1 ≡ t0) × (left1 ≡ left0)

-- how a work was done
abbrev pub Performed : FilterOptions → Work → Status → (read0 read1 write0 write1 taken0 taken1 given : ℕ)
    → (left0 left1 out0 out1 : Option (List ℕ)) → Type 0
Performed o lines s r0 r1 w0 w1 t0 t1 given left0 left1 out0 out1 =
    Stopped o s (2 ^ 40) r0 r1 w0 w1 t0 t1 given left0 left1 out0 out1
Performed o (names all) s r0 r1 w0 w1 t0 t1 given left0 left1 out0 out1 =
    Unread r0 r1 t0 t1 left0 left1 × Finished s w0 w1 out0 out1 (due_names o all)
Performed o (sample n) s r0 r1 w0 w1 t0 t1 given left0 left1 out0 out1 =
    Unread r0 r1 t0 t1 left0 left1 × Finished s w0 w1 out0 out1 (summary o n)

-- how help was given
abbrev pub Helped : Status → (write0 write1 : ℕ) → Type 0
Helped Help w0 w1 = w1 ≡ w0
Helped WriteFault w0 w1 = (w0 ≤ w1) × Rose w0 w1
Helped OutOfMemory w0 w1 = w1 ≡ w0
Helped _ w0 w1 = ⊥

-- how a run ended, before its message
abbrev pub Ran : Verdict → Status → (read0 read1 write0 write1 taken0 taken1 given : ℕ)
    → (left0 left1 out0 out1 : Option (List ℕ)) → Type 0
Ran Mistaken s r0 r1 w0 w1 t0 t1 given left0 left1 out0 out1 =
    ((s ≡ Usage) ⊎ (s ≡ OutOfMemory)) × Unread r0 r1 t0 t1 left0 left1 × (w1 ≡ w0) × (out1 ≡ out0)
Ran AsksHelp s r0 r1 w0 w1 t0 t1 given left0 left1 out0 out1 = Helped s w0 w1 × Unread r0 r1 t0 t1 left0 left1
Ran (Asks o work) s r0 r1 w0 w1 t0 t1 given left0 left1 out0 out1 =
    Performed o work s r0 r1 w0 w1 t0 t1 given left0 left1 out0 out1

-- how a run ended, by the status that it answers: there may have been no memory for its message
pub record Ended (v : Verdict) (status : Status) (read0 read1 write0 write1 taken0 taken1 given : ℕ)
    (left0 left1 out0 out1 : Option (List ℕ)) : Type 0 where
  pub before : Status
  pub ran : Ran v before read0 read1 write0 write1 taken0 taken1 given left0 left1 out0 out1
  pub kept : (status ≡ before) ⊎ (status ≡ OutOfMemory)
