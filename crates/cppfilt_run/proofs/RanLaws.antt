-- Laws on a whole run: what holds of it by how it ended before its message, and by what was reported then.
use Rattle.std.proofs.Common.{◌≡◌, ◌⊎◌, inl, inr, ℕ, ◌+◌, ◌-◌, ◌^◌, ◌<◌, ◌≤◌, false, List, [], length, take, sym, ◌∙◌}
use Rattle.std.proofs.Common.{subst}
use Rattle.std.proofs.Common.{arith, refl}
use Rattle.std.specs.Prelude.{Option, IfSome}
use Rattle.std.specs.Io.KnownBytes.{Appends, IsAtEnd}
use Rattle.cppfilt_command.specs.Asked.{Verdict, Mistaken, AsksHelp, Asks}
use Rattle.cppfilt_ends.specs.Causes.{Rose, NoFault}
use Rattle.cppfilt_ends.specs.Moves.{Begins}
use Rattle.cppfilt_ends.proofs.MoveLaws.{begins, begins-none}
use Rattle.cppfilt_lines.specs.Due.{due, due_names}
use Rattle.cppfilt_lines.specs.Lines.{complete}
use Rattle.cppfilt_lines.specs.Sample.{summary}
use Rattle.cppfilt_lines.specs.Work.{Work, lines, names, sample, due_for, input_for}
use Rattle.cppfilt_lines.specs.declared.options.FilterOptions.{FilterOptions}
use Rattle.cppfilt_run.specs.Outcome.{Finished, KeepsUp, OfTaken, Stopped}
use Rattle.cppfilt_run.specs.Ran.{Ended, Helped, Ran, Unread, reads}
use Rattle.cppfilt_run.specs.declared.status.Status.{Status}
use Rattle.cppfilt_run.specs.declared.status.Status.TheVariants.{Done, Help, Usage, ReadFault, WriteFault}
use Rattle.cppfilt_run.specs.declared.status.Status.TheVariants.{InputTooLong}
use Rattle.cppfilt_run.specs.declared.status.Status.TheVariants.{OutOfMemory}
use Rattle.cppfilt_run.proofs.ReportLaws.{Counts, fault-free, run-done, run-read-written, run-long-written, run-complete}
use Rattle.cppfilt_run.proofs.ReportLaws.{run-refused, run-help, run-usage, run-read, run-read-told, run-write}
use Rattle.cppfilt_run.proofs.ReportLaws.{run-write-told, run-long, run-long-told, run-long-bytes, run-long-bytes-told}
use Rattle.cppfilt_run.proofs.ReportLaws.{run-at_most}
use Rattle.cppfilt_run.proofs.RunLaws.{moves-all, nothing-short, stop-memory}

abbrev pub Reported : Status → Status → Type 0
Reported s res = (res ≡ s) ⊎ (res ≡ OutOfMemory)

-- ---- what was written at once
finished-done : (s res : Status) (w0 w : ℕ) (out0 out : Option (List ℕ)) (whole : List ℕ)
    → Finished s w0 w out0 out whole → Reported s res → res ≡ Done → Appends out0 out whole
finished-done Done res w0 w out0 out whole f k e = moves-all out0 out whole f.1
finished-done _ res w0 w out0 out whole f (inl k) e = absurd cc
finished-done _ res w0 w out0 out whole f (inr k) e = absurd cc

finished-front : (s : Status) (w0 w : ℕ) (out0 out : Option (List ℕ)) (whole : List ℕ)
    → Finished s w0 w out0 out whole → Begins out0 out whole
finished-front Done w0 w out0 out whole f = begins out0 out whole [] f.1
finished-front WriteFault w0 w out0 out whole f = f.1
finished-front OutOfMemory w0 w out0 out whole f = f.1
finished-front _ w0 w out0 out whole f = absurd f

finished-complete : (s res : Status) (w0 w : ℕ) (out0 out : Option (List ℕ)) (whole : List ℕ)
    → Finished s w0 w out0 out whole → Reported s res → NoFault w0 w → (res ≡ Done) ⊎ (res ≡ OutOfMemory)
finished-complete Done res w0 w out0 out whole f k none = k
finished-complete WriteFault res w0 w out0 out whole f k none = absurd (fault-free w0 w none f.0.1)
finished-complete OutOfMemory res w0 w out0 out whole f (inl k) none = inr k
finished-complete OutOfMemory res w0 w out0 out whole f (inr k) none = inr k
finished-complete _ res w0 w out0 out whole f k none = absurd f

-- ---- where the input isn't read
-- what may come then, and why
pub record Quiet (s : Status) (w0 w : ℕ) : Type 0 where
  pub no_read : s ≡ ReadFault → ⊥
  pub no_long : s ≡ InputTooLong → ⊥
  pub write : s ≡ WriteFault → Rose w0 w
  pub told : w0 < w → s ≡ WriteFault

-- a status without a fault
pub calm : (s : Status) (w0 w : ℕ) → w ≡ w0 → (s ≡ ReadFault → ⊥) → (s ≡ InputTooLong → ⊥) → (s ≡ WriteFault → ⊥)
    → Quiet s w0 w
calm s w0 w same no_read no_long no_write = record {
  no_read = no_read;
  no_long = no_long;
  write = λ e. absurd (no_write e);
  told = λ rose. absurd (omega arith);
}

pub stormy : (w0 w : ℕ) → Rose w0 w → Quiet WriteFault w0 w
stormy w0 w rose = record { no_read = λ e. cc; no_long = λ e. cc; write = λ e. rose; told = λ more. refl }

finished-quiet : (s : Status) (w0 w : ℕ) (out0 out : Option (List ℕ)) (whole : List ℕ)
    → Finished s w0 w out0 out whole → Quiet s w0 w
finished-quiet Done w0 w out0 out whole f = calm Done w0 w f.0 (λ e. cc) (λ e. cc) (λ e. cc)
finished-quiet WriteFault w0 w out0 out whole f = stormy w0 w f.0.1
finished-quiet OutOfMemory w0 w out0 out whole f = calm OutOfMemory w0 w f.0 (λ e. cc) (λ e. cc) (λ e. cc)
finished-quiet _ w0 w out0 out whole f = absurd f

pub helped-quiet : (s : Status) (w0 w : ℕ) → Helped s w0 w → Quiet s w0 w
helped-quiet Help w0 w f = calm Help w0 w f (λ e. cc) (λ e. cc) (λ e. cc)
helped-quiet WriteFault w0 w f = stormy w0 w f.1
helped-quiet OutOfMemory w0 w f = calm OutOfMemory w0 w f (λ e. cc) (λ e. cc) (λ e. cc)
helped-quiet _ w0 w f = absurd f

pub usage-quiet : (s : Status) (w0 w : ℕ) → (s ≡ Usage) ⊎ (s ≡ OutOfMemory) → w ≡ w0 → Quiet s w0 w
usage-quiet s w0 w (inl is) same = calm s w0 w same (λ e. cc) (λ e. cc) (λ e. cc)
usage-quiet s w0 w (inr is) same = calm s w0 w same (λ e. cc) (λ e. cc) (λ e. cc)

-- help was given, or there was a fault or no memory
pub helped-as : (s res : Status) (w0 w : ℕ) → res ≡ s → Helped s w0 w
    → (res ≡ Help) ⊎ ((res ≡ WriteFault) ⊎ (res ≡ OutOfMemory))
helped-as Help res w0 w k f = inl k
helped-as WriteFault res w0 w k f = inr (inl k)
helped-as OutOfMemory res w0 w k f = inr (inr k)
helped-as _ res w0 w k f = absurd f

pub counts : {s : Status} {o : FilterOptions} {limit r0 r w0 w t0 t g : ℕ} {left0 left out0 out : Option (List ℕ)}
    → Stopped o s limit r0 r w0 w t0 t g left0 left out0 out → Counts s limit r0 r w0 w t0 t left0 left
counts st = record { faults = st.faults; amount = st.amount }

-- ---- a run
module _ (s res : Status) (r0 r w0 w t0 t g : ℕ) (left0 left out0 out : Option (List ℕ)) (kept : Reported s res) where
  abbrev HasRun : Verdict → Type 0
  HasRun v = Ran v s r0 r w0 w t0 t g left0 left out0 out

  -- the input was read, so far
  abbrev pub Filtered : Type 0
  Filtered = Counts s (2 ^ 40) r0 r w0 w t0 t left0 left

  abbrev pub Other : Type 0
  Other = Unread r0 r t0 t left0 left × Quiet s w0 w

  -- the lines of the input were filtered, or it wasn't read
  sorted : (v : Verdict) → HasRun v → Filtered ⊎ Other
  sorted Mistaken p = inr (p.1, usage-quiet s w0 w p.0 p.2)
  sorted AsksHelp p = inr (p.1, helped-quiet s w0 w p.0)
  sorted (Asks o lines) p = inl (counts p)
  sorted (Asks o (names given)) p = inr (p.0, finished-quiet s w0 w out0 out (due_names o given) p.1)
  sorted (Asks o (sample n)) p = inr (p.0, finished-quiet s w0 w out0 out (summary o n) p.1)

  -- a status other than want of memory is that before the message
  as-before : (other : Status) → (other ≡ OutOfMemory → ⊥) → res ≡ other → s ≡ other
  as-before other differs e = elim kept [ inl k ↦ sym k ∙ e | inr k ↦ absurd (differs (sym e ∙ k)) ]

  -- ---- faults
  pub read-by : Filtered ⊎ Other → res ≡ ReadFault → Rose r0 r
  read-by (inl f) e = run-read s res f kept e
  read-by (inr q) e = absurd (q.1.no_read (as-before ReadFault (λ k. cc) e))

  ran-read : (v : Verdict) → HasRun v → res ≡ ReadFault → Rose r0 r
  ran-read v p = read-by (sorted v p)

  pub read-told-by : Filtered ⊎ Other → r0 < r → (res ≡ ReadFault) ⊎ (res ≡ OutOfMemory)
  read-told-by (inl f) rose = run-read-told s res f kept rose
  read-told-by (inr q) rose = let e = q.0.0 in absurd (omega arith)

  ran-read-told : (v : Verdict) → HasRun v → r0 < r → (res ≡ ReadFault) ⊎ (res ≡ OutOfMemory)
  ran-read-told v p = read-told-by (sorted v p)

  pub write-by : Filtered ⊎ Other → res ≡ WriteFault → Rose w0 w
  write-by (inl f) e = run-write s res f kept e
  write-by (inr q) e = q.1.write (as-before WriteFault (λ k. cc) e)

  ran-write : (v : Verdict) → HasRun v → res ≡ WriteFault → Rose w0 w
  ran-write v p = write-by (sorted v p)

  pub write-told-by : Filtered ⊎ Other → w0 < w → (res ≡ WriteFault) ⊎ (res ≡ OutOfMemory)
  write-told-by (inl f) rose = run-write-told s res f kept rose
  write-told-by (inr q) rose = elim kept [ inl k ↦ inl (k ∙ q.1.told rose) | inr k ↦ inr k ]

  ran-write-told : (v : Verdict) → HasRun v → w0 < w → (res ≡ WriteFault) ⊎ (res ≡ OutOfMemory)
  ran-write-told v p = write-told-by (sorted v p)

  pub long-by : Filtered ⊎ Other → res ≡ InputTooLong → (t0 + 2 ^ 40 < t) ⊎ (2 ^ 64 - 1 ≤ t)
  long-by (inl f) e = run-long s res f kept e
  long-by (inr q) e = absurd (q.1.no_long (as-before InputTooLong (λ k. cc) e))

  ran-long : (v : Verdict) → HasRun v → res ≡ InputTooLong → (t0 + 2 ^ 40 < t) ⊎ (2 ^ 64 - 1 ≤ t)
  ran-long v p = long-by (sorted v p)

  pub long-told-by : Filtered ⊎ Other → t0 + 2 ^ 40 < t → (res ≡ InputTooLong) ⊎ (res ≡ OutOfMemory)
  long-told-by (inl f) rose = run-long-told s res f kept rose
  long-told-by (inr q) rose = let e = q.0.1 in absurd (omega arith)

  ran-long-told : (v : Verdict) → HasRun v → t0 + 2 ^ 40 < t → (res ≡ InputTooLong) ⊎ (res ≡ OutOfMemory)
  ran-long-told v p = long-told-by (sorted v p)

  pub long-bytes-by : Filtered ⊎ Other → res ≡ InputTooLong
      → OfTaken left0 left (λ taken. length taken ≡ 2 ^ 40 + 1)
  long-bytes-by (inl f) e = run-long-bytes s res f kept e
  long-bytes-by (inr q) e = absurd (q.1.no_long (as-before InputTooLong (λ k. cc) e))

  ran-long-bytes : (v : Verdict) → HasRun v → res ≡ InputTooLong
      → OfTaken left0 left (λ taken. length taken ≡ 2 ^ 40 + 1)
  ran-long-bytes v p = long-bytes-by (sorted v p)

  pub long-bytes-told-by : Filtered ⊎ Other
      → OfTaken left0 left (λ taken. 2 ^ 40 < length taken → (res ≡ InputTooLong) ⊎ (res ≡ OutOfMemory))
  long-bytes-told-by (inl f) = run-long-bytes-told s res f kept
  long-bytes-told-by (inr q) = rw q.0.2 (nothing-short left0 _ (2 ^ 40))

  ran-long-bytes-told : (v : Verdict) → HasRun v
      → OfTaken left0 left (λ taken. 2 ^ 40 < length taken → (res ≡ InputTooLong) ⊎ (res ≡ OutOfMemory))
  ran-long-bytes-told v p = long-bytes-told-by (sorted v p)

  pub at_most-by : Filtered ⊎ Other → t ≤ t0 + 2 ^ 40 + 1
  at_most-by (inl f) = run-at_most s f
  at_most-by (inr q) = let e = q.0.1 in omega arith

  ran-at_most : (v : Verdict) → HasRun v → t ≤ t0 + 2 ^ 40 + 1
  ran-at_most v p = at_most-by (sorted v p)

  -- ---- by the verdict
  ran-unread : (v : Verdict) → HasRun v → reads v ≡ false → Unread r0 r t0 t left0 left
  ran-unread Mistaken p e = p.1
  ran-unread AsksHelp p e = p.1
  ran-unread (Asks o lines) p e = absurd cc
  ran-unread (Asks o (names given)) p e = p.0
  ran-unread (Asks o (sample n)) p e = p.0

  finished-others : (other : Status) (whole : List ℕ) → Finished s w0 w out0 out whole → s ≡ other
      → Finished other w0 w out0 out whole
  finished-others other whole f e = subst (λ (x : Status). Finished x w0 w out0 out whole) e f

  ran-usage : (v : Verdict) → HasRun v → res ≡ Usage → v ≡ Mistaken
  ran-usage Mistaken p e = refl
  ran-usage AsksHelp p e = absurd (subst (λ (x : Status). Helped x w0 w) (as-before Usage (λ k. cc) e) p.0)
  ran-usage (Asks o lines) p e = absurd (run-usage s res (counts p) kept e)
  ran-usage (Asks o (names given)) p e =
      absurd (finished-others Usage (due_names o given) p.1 (as-before Usage (λ k. cc) e))
  ran-usage (Asks o (sample n)) p e =
      absurd (finished-others Usage (summary o n) p.1 (as-before Usage (λ k. cc) e))

  ran-usage-told : (v : Verdict) → HasRun v → v ≡ Mistaken
      → ((res ≡ Usage) ⊎ (res ≡ OutOfMemory)) × (out ≡ out0) × (w ≡ w0)
  ran-usage-told Mistaken p e = (
    elim kept [
      | inl k ↦ elim p.0 [ inl is ↦ inl (k ∙ is) | inr is ↦ inr (k ∙ is) ]
      | inr k ↦ inr k
    ],
    p.3,
    p.2,
  )
  ran-usage-told AsksHelp p e = absurd cc
  ran-usage-told (Asks o work) p e = absurd cc

  ran-help : (v : Verdict) → HasRun v → res ≡ Help → v ≡ AsksHelp
  ran-help Mistaken p e =
      let is = as-before Help (λ k. cc) e in
      absurd (elim p.0 [ inl k ↦ cc | inr k ↦ cc ])
  ran-help AsksHelp p e = refl
  ran-help (Asks o lines) p e = absurd (run-help s res (counts p) kept e)
  ran-help (Asks o (names given)) p e =
      absurd (finished-others Help (due_names o given) p.1 (as-before Help (λ k. cc) e))
  ran-help (Asks o (sample n)) p e =
      absurd (finished-others Help (summary o n) p.1 (as-before Help (λ k. cc) e))

  ran-help-told : (v : Verdict) → HasRun v → v ≡ AsksHelp
      → (res ≡ Help) ⊎ ((res ≡ WriteFault) ⊎ (res ≡ OutOfMemory))
  ran-help-told Mistaken p e = absurd cc
  ran-help-told AsksHelp p e =
      elim kept [ inl k ↦ helped-as s res w0 w k p.0 | inr k ↦ inr (inr k) ]
  ran-help-told (Asks o work) p e = absurd cc

  -- ---- tasks
  asks : (v : Verdict) (o : FilterOptions) (work : Work) → v ≡ Asks o work → HasRun v → HasRun (Asks o work)
  asks v o work e p = subst HasRun e p

  performed-done : (o : FilterOptions) (work : Work) → HasRun (Asks o work) → res ≡ Done
      → IfSome (input_for work left0) (λ bytes. Appends out0 out (due_for o work bytes))
  performed-done o lines p e = (run-done s res p kept e).1
  performed-done o (names given) p e = finished-done s res w0 w out0 out (due_names o given) p.1 kept e
  performed-done o (sample n) p e = finished-done s res w0 w out0 out (summary o n) p.1 kept e

  ran-done : (v : Verdict) → HasRun v → (o : FilterOptions) (work : Work) → v ≡ Asks o work → res ≡ Done
      → IfSome (input_for work left0) (λ bytes. Appends out0 out (due_for o work bytes))
  ran-done v p o work is = performed-done o work (asks v o work is p)

  performed-front : (o : FilterOptions) (work : Work) → HasRun (Asks o work)
      → IfSome (input_for work left0) (λ bytes. Begins out0 out (due_for o work bytes))
  performed-front o lines p = p.front
  performed-front o (names given) p = finished-front s w0 w out0 out (due_names o given) p.1
  performed-front o (sample n) p = finished-front s w0 w out0 out (summary o n) p.1

  ran-front : (v : Verdict) → HasRun v → (o : FilterOptions) (work : Work) → v ≡ Asks o work
      → IfSome (input_for work left0) (λ bytes. Begins out0 out (due_for o work bytes))
  ran-front v p o work is = performed-front o work (asks v o work is p)

  performed-complete : (o : FilterOptions) (work : Work) → HasRun (Asks o work) → NoFault r0 r → NoFault w0 w
      → IfSome (input_for work left0) (λ bytes. length bytes ≤ 2 ^ 40 → (res ≡ Done) ⊎ (res ≡ OutOfMemory))
  performed-complete o lines p read write = run-complete s res (counts p) kept read write
  performed-complete o (names given) p read write =
      λ short. finished-complete s res w0 w out0 out (due_names o given) p.1 kept write
  performed-complete o (sample n) p read write =
      λ short. finished-complete s res w0 w out0 out (summary o n) p.1 kept write

  ran-complete : (v : Verdict) → HasRun v → (o : FilterOptions) (work : Work) → v ≡ Asks o work → NoFault r0 r
      → NoFault w0 w
      → IfSome (input_for work left0) (λ bytes. length bytes ≤ 2 ^ 40 → (res ≡ Done) ⊎ (res ≡ OutOfMemory))
  ran-complete v p o work is = performed-complete o work (asks v o work is p)

  -- ---- lines
  ran-lines : (v : Verdict) → HasRun v → (o : FilterOptions) → v ≡ Asks o lines
      → Stopped o s (2 ^ 40) r0 r w0 w t0 t g left0 left out0 out
  ran-lines v p o is = asks v o lines is p

-- at the end of the input
pub stopped-end : (s : Status) {o : FilterOptions} {limit r0 r w0 w t0 t g : ℕ} {left0 left out0 out : Option (List ℕ)}
    → Stopped o s limit r0 r w0 w t0 t g left0 left out0 out → s ≡ Done → IsAtEnd left
stopped-end Done st e = st.written.0
stopped-end _ st e = absurd cc

-- ---- what holds at the end of a run
module _ {v : Verdict} {res : Status} {r0 r w0 w t0 t g : ℕ} {left0 left out0 out : Option (List ℕ)}
    (x : Ended v res r0 r w0 w t0 t g left0 left out0 out) where
  pub ended-done : (o : FilterOptions) (work : Work) → v ≡ Asks o work → res ≡ Done
      → IfSome (input_for work left0) (λ bytes. Appends out0 out (due_for o work bytes))
  ended-done = ran-done x.before res r0 r w0 w t0 t g left0 left out0 out x.kept v x.ran

  pub ended-front : (o : FilterOptions) (work : Work) → v ≡ Asks o work
      → IfSome (input_for work left0) (λ bytes. Begins out0 out (due_for o work bytes))
  ended-front = ran-front x.before res r0 r w0 w t0 t g left0 left out0 out x.kept v x.ran

  pub ended-complete : (o : FilterOptions) (work : Work) → v ≡ Asks o work → NoFault r0 r → NoFault w0 w
      → IfSome (input_for work left0) (λ bytes. length bytes ≤ 2 ^ 40 → (res ≡ Done) ⊎ (res ≡ OutOfMemory))
  ended-complete = ran-complete x.before res r0 r w0 w t0 t g left0 left out0 out x.kept v x.ran

  pub ended-usage : res ≡ Usage → v ≡ Mistaken
  ended-usage = ran-usage x.before res r0 r w0 w t0 t g left0 left out0 out x.kept v x.ran

  pub ended-usage-told : v ≡ Mistaken → ((res ≡ Usage) ⊎ (res ≡ OutOfMemory)) × (out ≡ out0) × (w ≡ w0)
  ended-usage-told = ran-usage-told x.before res r0 r w0 w t0 t g left0 left out0 out x.kept v x.ran

  pub ended-help : res ≡ Help → v ≡ AsksHelp
  ended-help = ran-help x.before res r0 r w0 w t0 t g left0 left out0 out x.kept v x.ran

  pub ended-help-told : v ≡ AsksHelp → (res ≡ Help) ⊎ ((res ≡ WriteFault) ⊎ (res ≡ OutOfMemory))
  ended-help-told = ran-help-told x.before res r0 r w0 w t0 t g left0 left out0 out x.kept v x.ran

  pub ended-unread : reads v ≡ false → Unread r0 r t0 t left0 left
  ended-unread = ran-unread x.before res r0 r w0 w t0 t g left0 left out0 out x.kept v x.ran

  pub ended-read : res ≡ ReadFault → Rose r0 r
  ended-read = ran-read x.before res r0 r w0 w t0 t g left0 left out0 out x.kept v x.ran

  pub ended-read-told : r0 < r → (res ≡ ReadFault) ⊎ (res ≡ OutOfMemory)
  ended-read-told = ran-read-told x.before res r0 r w0 w t0 t g left0 left out0 out x.kept v x.ran

  pub ended-write : res ≡ WriteFault → Rose w0 w
  ended-write = ran-write x.before res r0 r w0 w t0 t g left0 left out0 out x.kept v x.ran

  pub ended-write-told : w0 < w → (res ≡ WriteFault) ⊎ (res ≡ OutOfMemory)
  ended-write-told = ran-write-told x.before res r0 r w0 w t0 t g left0 left out0 out x.kept v x.ran

  pub ended-long : res ≡ InputTooLong → (t0 + 2 ^ 40 < t) ⊎ (2 ^ 64 - 1 ≤ t)
  ended-long = ran-long x.before res r0 r w0 w t0 t g left0 left out0 out x.kept v x.ran

  pub ended-long-told : t0 + 2 ^ 40 < t → (res ≡ InputTooLong) ⊎ (res ≡ OutOfMemory)
  ended-long-told = ran-long-told x.before res r0 r w0 w t0 t g left0 left out0 out x.kept v x.ran

  pub ended-long-bytes : res ≡ InputTooLong → OfTaken left0 left (λ taken. length taken ≡ 2 ^ 40 + 1)
  ended-long-bytes = ran-long-bytes x.before res r0 r w0 w t0 t g left0 left out0 out x.kept v x.ran

  pub ended-long-bytes-told :
      OfTaken left0 left (λ taken. 2 ^ 40 < length taken → (res ≡ InputTooLong) ⊎ (res ≡ OutOfMemory))
  ended-long-bytes-told = ran-long-bytes-told x.before res r0 r w0 w t0 t g left0 left out0 out x.kept v x.ran

  pub ended-at_most : t ≤ t0 + 2 ^ 40 + 1
  ended-at_most = ran-at_most x.before res r0 r w0 w t0 t g left0 left out0 out x.kept v x.ran

  at : (o : FilterOptions) → v ≡ Asks o lines
      → Stopped o x.before (2 ^ 40) r0 r w0 w t0 t g left0 left out0 out
  at = ran-lines x.before res r0 r w0 w t0 t g left0 left out0 out x.kept v x.ran

  pub ended-done-reads : (o : FilterOptions) → v ≡ Asks o lines → res ≡ Done → IsAtEnd left
  ended-done-reads o is e = (run-done x.before res (at o is) x.kept e).0

  pub ended-keeps_up : (o : FilterOptions) → v ≡ Asks o lines → OfTaken left0 left (KeepsUp o g out0 out)
  ended-keeps_up o is = (at o is).keeps_up

  pub ended-read-written : (o : FilterOptions) → v ≡ Asks o lines → res ≡ ReadFault
      → OfTaken left0 left (λ taken. Appends out0 out (due o (complete taken)))
  ended-read-written o is e = run-read-written x.before res (at o is) x.kept e

  pub ended-long-written : (o : FilterOptions) → v ≡ Asks o lines → res ≡ InputTooLong
      → IfSome left0 (λ bytes. Appends out0 out (due o (complete (take (2 ^ 40) bytes))))
  ended-long-written o is e = run-long-written x.before res (at o is) x.kept e

  pub ended-refused : (o : FilterOptions) → v ≡ Asks o lines → NoFault r0 r → NoFault w0 w
      → IfSome left0 (λ bytes. 2 ^ 40 < length bytes → (res ≡ InputTooLong) ⊎ (res ≡ OutOfMemory))
  ended-refused o is read write =
      let st = at o is in
      run-refused x.before res (counts st) (stopped-end x.before st) x.kept read write

-- ---- how a run is put together
pub ended : (v : Verdict) (s res : Status) (r0 r w0 w t0 t g : ℕ) (left0 left out0 out : Option (List ℕ))
    → Ran v s r0 r w0 w t0 t g left0 left out0 out → Reported s res
    → Ended v res r0 r w0 w t0 t g left0 left out0 out
ended v s res r0 r w0 w t0 t g left0 left out0 out ran kept = record { before = s; ran = ran; kept = kept }

-- there was no memory before anything else was done
memory : (v : Verdict) (r w t g : ℕ) (left out : Option (List ℕ)) → Ran v OutOfMemory r r w w t t g left left out out
memory Mistaken r w t g left out = (inr refl, (refl, refl, refl), refl, refl)
memory AsksHelp r w t g left out = (refl, (refl, refl, refl))
memory (Asks o lines) r w t g left out = stop-memory o (2 ^ 40) r w t g left out
memory (Asks o (names given)) r w t g left out = ((refl, refl, refl), (refl, begins-none out (due_names o given)))
memory (Asks o (sample n)) r w t g left out = ((refl, refl, refl), (refl, begins-none out (summary o n)))

pub ended-memory : (v : Verdict) (res : Status) (r w t g : ℕ) (left out : Option (List ℕ)) → Reported OutOfMemory res
    → Ended v res r r w w t t g left left out out
ended-memory v res r w t g left out kept =
    ended v OutOfMemory res r r w w t t g left left out out (memory v r w t g left out) kept
