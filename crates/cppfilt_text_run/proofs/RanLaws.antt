-- Laws on a whole run: what holds of it by how it ended before its message, and by what was reported then.
use Rattle.std.proofs.Common.{◌≡◌, ◌⊎◌, inl, inr, ℕ, ◌+◌, ◌-◌, ◌^◌, ◌<◌, ◌≤◌, false, List, length, map, take, sym, ◌∙◌}
use Rattle.std.proofs.Common.{subst, refl}
use Rattle.std.specs.List.{All}
use Rattle.std.specs.Prelude.{Option, None, Some, IfSome}
use Rattle.std.specs.Io.KnownBytes.{Appends, IsAtEnd}
use Rattle.cppfilt_command.specs.Asked.{Verdict, Mistaken, AsksHelp, Asks}
use Rattle.cppfilt_ends.specs.Causes.{Rose, NoFault}
use Rattle.cppfilt_ends.specs.Moves.{Begins}
use Rattle.cppfilt_lines.specs.Named.{IsNamedWhenShown}
use Rattle.cppfilt_lines.specs.Work.{Work, names}
use Rattle.cppfilt_lines.specs.declared.options.FilterOptions.{FilterOptions}
use Rattle.cppfilt_lines.proofs.NamedLaws.{each_named}
use Rattle.cppfilt_run.specs.Outcome.{OfTaken}
use Rattle.cppfilt_run.specs.Ran.{Helped, Unread}
use Rattle.cppfilt_run.specs.declared.status.Status.{Status}
use Rattle.cppfilt_run.specs.declared.status.Status.TheVariants.{Done, Help, Usage, ReadFault, WriteFault}
use Rattle.cppfilt_run.specs.declared.status.Status.TheVariants.{InputTooLong, OutOfMemory}
use Rattle.cppfilt_run.proofs.RanLaws.{Quiet, Reported, at_most-by, helped-as, helped-quiet, long-by, long-bytes-by}
use Rattle.cppfilt_run.proofs.RanLaws.{long-bytes-told-by, long-told-by, read-by, read-told-by, usage-quiet, write-by}
use Rattle.cppfilt_run.proofs.RanLaws.{write-told-by}
use Rattle.cppfilt_run.proofs.ReportLaws.{Counts, run-complete, run-help, run-refused, run-usage}
use Rattle.demangle_printing.specs.Outcome.{Options}
use Rattle.cppfilt_text_run.specs.Outcome.{KeepsUp, Stopped, Written}
use Rattle.cppfilt_text_run.specs.Ran.{Ended, Ran, reads}
use Rattle.cppfilt_text_run.proofs.RunLaws.{stop-memory}
use Rattle.demangle_stream.specs.Replaced.{replaced}
use Rattle.demangle_stream.specs.Runs.{pieces}
use Rattle.demangle_stream.specs.Settled.{settled}
use Rattle.demangle_stream.specs.Shown.{name_of}

-- ---- names
pub runs-named : (o : FilterOptions) (bytes : Option (List ℕ))
    → IfSome bytes (λ b. All (IsNamedWhenShown o) (map name_of (pieces b)))
runs-named o None = tt
runs-named o (Some b) = each_named o (names (map name_of (pieces b))) (Some b)

counts : {s : Status} {p : ℕ} {o : Options} {limit r0 r w0 w t0 t g : ℕ} {left0 left out0 out : Option (List ℕ)}
    → Stopped p o s limit r0 r w0 w t0 t g left0 left out0 out → Counts s limit r0 r w0 w t0 t left0 left
counts st = record { faults = st.faults; amount = st.amount }

-- ---- a run
module _ (s res : Status) (r0 r w0 w t0 t g : ℕ) (left0 left out0 out : Option (List ℕ)) (kept : Reported s res) where
  abbrev HasRun : Verdict → Type 0
  HasRun v = Ran v s r0 r w0 w t0 t g left0 left out0 out

  abbrev Sorted : Type 0
  Sorted = Counts s (2 ^ 40) r0 r w0 w t0 t left0 left ⊎ (Unread r0 r t0 t left0 left × Quiet s w0 w)

  -- the input was filtered, or it wasn't read
  sorted : (v : Verdict) → HasRun v → Sorted
  sorted Mistaken p = inr (p.1, usage-quiet s w0 w p.0 p.2)
  sorted AsksHelp p = inr (p.1, helped-quiet s w0 w p.0)
  sorted (Asks o work) p = inl (counts p)

  -- a status other than want of memory is that before the message
  as-before : (other : Status) → (other ≡ OutOfMemory → ⊥) → res ≡ other → s ≡ other
  as-before other differs e = elim kept [ inl k ↦ sym k ∙ e | inr k ↦ absurd (differs (sym e ∙ k)) ]

  -- ---- by the verdict
  ran-unread : (v : Verdict) → HasRun v → reads v ≡ false → Unread r0 r t0 t left0 left
  ran-unread Mistaken p e = p.1
  ran-unread AsksHelp p e = p.1
  ran-unread (Asks o work) p e = absurd cc

  ran-usage : (v : Verdict) → HasRun v → res ≡ Usage → v ≡ Mistaken
  ran-usage Mistaken p e = refl
  ran-usage AsksHelp p e = absurd (subst (λ (x : Status). Helped x w0 w) (as-before Usage (λ k. cc) e) p.0)
  ran-usage (Asks o work) p e = absurd (run-usage s res (counts p) kept e)

  ran-usage-told : (v : Verdict) → HasRun v → v ≡ Mistaken
      → ((res ≡ Usage) ⊎ (res ≡ OutOfMemory)) × (out ≡ out0) × (w ≡ w0)
  ran-usage-told Mistaken p e = (
    elim kept [
      | inl k ↦ elim p.0 [ inl is ↦ inl (k ∙ is) | inr is ↦ inr (k ∙ is) ]
      | inr k ↦ inr k
    ],
    p.3,
    p.2,
  )
  ran-usage-told AsksHelp p e = absurd cc
  ran-usage-told (Asks o work) p e = absurd cc

  ran-help : (v : Verdict) → HasRun v → res ≡ Help → v ≡ AsksHelp
  ran-help Mistaken p e =
      let is = as-before Help (λ k. cc) e in
      absurd (elim p.0 [ inl k ↦ cc | inr k ↦ cc ])
  ran-help AsksHelp p e = refl
  ran-help (Asks o work) p e = absurd (run-help s res (counts p) kept e)

  ran-help-told : (v : Verdict) → HasRun v → v ≡ AsksHelp
      → (res ≡ Help) ⊎ ((res ≡ WriteFault) ⊎ (res ≡ OutOfMemory))
  ran-help-told Mistaken p e = absurd cc
  ran-help-told AsksHelp p e =
      elim kept [ inl k ↦ helped-as s res w0 w k p.0 | inr k ↦ inr (inr k) ]
  ran-help-told (Asks o work) p e = absurd cc

  -- ---- where the input was filtered
  stopped : (v : Verdict) (o : FilterOptions) (work : Work) → v ≡ Asks o work → HasRun v
      → Stopped o.parse o.print s (2 ^ 40) r0 r w0 w t0 t g left0 left out0 out
  stopped v o work e p = subst HasRun e p

  -- what was written, by the status that is answered
  written : (v : Verdict) (o : FilterOptions) (work : Work) → v ≡ Asks o work → HasRun v → (other : Status)
      → (other ≡ OutOfMemory → ⊥) → res ≡ other
      → Written o.parse o.print other (2 ^ 40) left0 left out0 out
  written v o work is p other differs e =
      subst (λ (x : Status). Written o.parse o.print x (2 ^ 40) left0 left out0 out) (as-before other differs e)
      (stopped v o work is p).written

-- at the end of the input
stopped-end : (s : Status) {p : ℕ} {o : Options} {limit r0 r w0 w t0 t g : ℕ} {left0 left out0 out : Option (List ℕ)}
    → Stopped p o s limit r0 r w0 w t0 t g left0 left out0 out → s ≡ Done → IsAtEnd left
stopped-end Done st e = st.written.0
stopped-end _ st e = absurd cc

-- ---- what holds at the end of a run
module _ {v : Verdict} {res : Status} {r0 r w0 w t0 t g : ℕ} {left0 left out0 out : Option (List ℕ)}
    (x : Ended v res r0 r w0 w t0 t g left0 left out0 out) where
  by : Counts x.before (2 ^ 40) r0 r w0 w t0 t left0 left ⊎ (Unread r0 r t0 t left0 left × Quiet x.before w0 w)
  by = sorted x.before res r0 r w0 w t0 t g left0 left out0 out x.kept v x.ran

  at : (o : FilterOptions) (work : Work) → v ≡ Asks o work
      → Stopped o.parse o.print x.before (2 ^ 40) r0 r w0 w t0 t g left0 left out0 out
  at o work is = stopped x.before res r0 r w0 w t0 t g left0 left out0 out x.kept v o work is x.ran

  gave : (o : FilterOptions) (work : Work) → v ≡ Asks o work → (other : Status) → (other ≡ OutOfMemory → ⊥)
      → res ≡ other → Written o.parse o.print other (2 ^ 40) left0 left out0 out
  gave o work is = written x.before res r0 r w0 w t0 t g left0 left out0 out x.kept v o work is x.ran

  pub ended-done : (o : FilterOptions) (work : Work) → v ≡ Asks o work → res ≡ Done
      → IsAtEnd left × IfSome left0 (λ bytes. Appends out0 out (replaced o.parse o.print bytes))
  ended-done o work is e = gave o work is Done (λ k. cc) e

  pub ended-front : (o : FilterOptions) (work : Work) → v ≡ Asks o work
      → IfSome left0 (λ bytes. Begins out0 out (replaced o.parse o.print bytes))
  ended-front o work is = (at o work is).front

  pub ended-keeps_up : (o : FilterOptions) (work : Work) → v ≡ Asks o work
      → OfTaken left0 left (KeepsUp o.parse o.print g out0 out)
  ended-keeps_up o work is = (at o work is).keeps_up

  pub ended-read-written : (o : FilterOptions) (work : Work) → v ≡ Asks o work → res ≡ ReadFault
      → OfTaken left0 left (λ taken. Appends out0 out (replaced o.parse o.print (settled taken)))
  ended-read-written o work is e = gave o work is ReadFault (λ k. cc) e

  pub ended-long-written : (o : FilterOptions) (work : Work) → v ≡ Asks o work → res ≡ InputTooLong
      → IfSome left0 (λ bytes. Appends out0 out (replaced o.parse o.print (settled (take (2 ^ 40) bytes))))
  ended-long-written o work is e = gave o work is InputTooLong (λ k. cc) e

  pub ended-complete : (o : FilterOptions) (work : Work) → v ≡ Asks o work → NoFault r0 r → NoFault w0 w
      → IfSome left0 (λ bytes. length bytes ≤ 2 ^ 40 → (res ≡ Done) ⊎ (res ≡ OutOfMemory))
  ended-complete o work is read write =
      let st = at o work is in
      run-complete x.before res (counts st) x.kept read write

  pub ended-refused : (o : FilterOptions) (work : Work) → v ≡ Asks o work → NoFault r0 r → NoFault w0 w
      → IfSome left0 (λ bytes. 2 ^ 40 < length bytes → (res ≡ InputTooLong) ⊎ (res ≡ OutOfMemory))
  ended-refused o work is read write =
      let st = at o work is in
      run-refused x.before res (counts st) (stopped-end x.before st) x.kept read write

  pub ended-usage : res ≡ Usage → v ≡ Mistaken
  ended-usage = ran-usage x.before res r0 r w0 w t0 t g left0 left out0 out x.kept v x.ran

  pub ended-usage-told : v ≡ Mistaken → ((res ≡ Usage) ⊎ (res ≡ OutOfMemory)) × (out ≡ out0) × (w ≡ w0)
  ended-usage-told = ran-usage-told x.before res r0 r w0 w t0 t g left0 left out0 out x.kept v x.ran

  pub ended-help : res ≡ Help → v ≡ AsksHelp
  ended-help = ran-help x.before res r0 r w0 w t0 t g left0 left out0 out x.kept v x.ran

  pub ended-help-told : v ≡ AsksHelp → (res ≡ Help) ⊎ ((res ≡ WriteFault) ⊎ (res ≡ OutOfMemory))
  ended-help-told = ran-help-told x.before res r0 r w0 w t0 t g left0 left out0 out x.kept v x.ran

  pub ended-unread : reads v ≡ false → Unread r0 r t0 t left0 left
  ended-unread = ran-unread x.before res r0 r w0 w t0 t g left0 left out0 out x.kept v x.ran

  pub ended-read : res ≡ ReadFault → Rose r0 r
  ended-read = read-by x.before res r0 r w0 w t0 t g left0 left out0 out x.kept by

  pub ended-read-told : r0 < r → (res ≡ ReadFault) ⊎ (res ≡ OutOfMemory)
  ended-read-told = read-told-by x.before res r0 r w0 w t0 t g left0 left out0 out x.kept by

  pub ended-write : res ≡ WriteFault → Rose w0 w
  ended-write = write-by x.before res r0 r w0 w t0 t g left0 left out0 out x.kept by

  pub ended-write-told : w0 < w → (res ≡ WriteFault) ⊎ (res ≡ OutOfMemory)
  ended-write-told = write-told-by x.before res r0 r w0 w t0 t g left0 left out0 out x.kept by

  pub ended-long : res ≡ InputTooLong → (t0 + 2 ^ 40 < t) ⊎ (2 ^ 64 - 1 ≤ t)
  ended-long = long-by x.before res r0 r w0 w t0 t g left0 left out0 out x.kept by

  pub ended-long-told : t0 + 2 ^ 40 < t → (res ≡ InputTooLong) ⊎ (res ≡ OutOfMemory)
  ended-long-told = long-told-by x.before res r0 r w0 w t0 t g left0 left out0 out x.kept by

  pub ended-long-bytes : res ≡ InputTooLong → OfTaken left0 left (λ taken. length taken ≡ 2 ^ 40 + 1)
  ended-long-bytes = long-bytes-by x.before res r0 r w0 w t0 t g left0 left out0 out x.kept by

  pub ended-long-bytes-told :
      OfTaken left0 left (λ taken. 2 ^ 40 < length taken → (res ≡ InputTooLong) ⊎ (res ≡ OutOfMemory))
  ended-long-bytes-told = long-bytes-told-by x.before res r0 r w0 w t0 t g left0 left out0 out x.kept by

  pub ended-at_most : t ≤ t0 + 2 ^ 40 + 1
  ended-at_most = at_most-by x.before res r0 r w0 w t0 t g left0 left out0 out x.kept by

-- ---- how a run is put together
pub ended : (v : Verdict) (s res : Status) (r0 r w0 w t0 t g : ℕ) (left0 left out0 out : Option (List ℕ))
    → Ran v s r0 r w0 w t0 t g left0 left out0 out → Reported s res
    → Ended v res r0 r w0 w t0 t g left0 left out0 out
ended v s res r0 r w0 w t0 t g left0 left out0 out ran kept = record { before = s; ran = ran; kept = kept }

-- there was no memory before anything else was done
memory : (v : Verdict) (r w t g : ℕ) (left out : Option (List ℕ)) → Ran v OutOfMemory r r w w t t g left left out out
memory Mistaken r w t g left out = (inr refl, (refl, refl, refl), refl, refl)
memory AsksHelp r w t g left out = (refl, (refl, refl, refl))
memory (Asks o work) r w t g left out = stop-memory o.parse o.print (2 ^ 40) r w t g left out

pub ended-memory : (v : Verdict) (res : Status) (r w t g : ℕ) (left out : Option (List ℕ)) → Reported OutOfMemory res
    → Ended v res r r w w t t g left left out out
ended-memory v res r w t g left out kept =
    ended v OutOfMemory res r r w w t t g left left out out (memory v r w t g left out) kept
