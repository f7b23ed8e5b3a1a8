-- Laws on a run over an input: how it goes on, and how it stops.
use Rattle.std.proofs.Common.{subst, ◌≡◌, ◌⊎◌, inl, inr, ℕ, ◌+◌, ◌-◌, ◌^◌, ◌<◌, ◌≤◌, min, List, [], ◌++◌, length, take}
use Rattle.std.proofs.Common.{refl}
use Rattle.std.proofs.Common.{sym, ap, ◌∙◌, append_assoc, append-nil, arith, length-append, Err}
use Rattle.std.specs.Prelude.{Option, Some, None, IfSome}
use Rattle.std.specs.Io.KnownBytes.{Appends, Consumes, Keeps, IsAtEnd}
use Rattle.std.proofs.lemmas.Bool.{cases_lt}
use Rattle.std.proofs.lemmas.List.{append_cancel_right}
use Rattle.std.proofs.Math.Seq.{take-append_seam}
use Rattle.std.proofs.KnownBytes.{Appends-nil, Appends-trans, Consumes-nil, Consumes-trans, Consumes-kept}
use Rattle.demangle_context.specs.declared.error.SinkFault.{SinkFault}
use Rattle.demangle_context.specs.declared.error.SinkFault.TheVariants as fault
use Rattle.cppfilt_ends.specs.Causes.{Rose, SinkCause}
use Rattle.cppfilt_ends.specs.Moves.{Moves, Begins}
use Rattle.cppfilt_ends.proofs.MoveLaws.{moves-none, moves-then, begins, begins-then, begins-none}
use Rattle.cppfilt_lines.specs.Due.{due}
use Rattle.cppfilt_lines.specs.Lines.{complete, unfinished}
use Rattle.cppfilt_lines.specs.declared.options.FilterOptions.{FilterOptions}
use Rattle.cppfilt_lines.proofs.LineLaws.{due-parts, due-nil, complete-nil, unfinished-nil}
use Rattle.cppfilt_run.specs.Outcome.{OfTaken, KeepsUp, Going, Stopped, Finished}
use Rattle.cppfilt_run.specs.Owed.{ahead, block_limit}
use Rattle.cppfilt_run.specs.Statuses.{refusal_status}
use Rattle.cppfilt_run.specs.declared.status.Status.{Status}
use Rattle.cppfilt_run.specs.declared.status.Status.TheVariants.{Done, Help, Usage, ReadFault, WriteFault}
use Rattle.cppfilt_run.specs.declared.status.Status.TheVariants.{InputTooLong}
use Rattle.cppfilt_run.specs.declared.status.Status.TheVariants.{OutOfMemory}

abbrev Bytes : Type 0
Bytes = Option (List ℕ)

-- ---- how a run goes on
-- the beginning of a line
starts : (o : FilterOptions) (out : Bytes) (gathered held : List ℕ) → (held ≡ []) × (gathered ≡ [])
    → (more : List ℕ) → Moves out out (due o more) (ahead o gathered held more)
starts o out gathered held e more = rw (e.1, e.0) (moves-none out (due o more))

pub going-start : (o : FilterOptions) (limit r w t : ℕ) (left out : Bytes) (gathered held : List ℕ)
    → (held ≡ []) × (gathered ≡ []) → Going o limit r r w w t t left left out out gathered held 0
going-start o limit r w t left out gathered held fresh = record {
  reads = refl;
  writes = refl;
  at_least = inl (omega arith);
  at_most = omega arith;
  within = omega arith;
  bytes = [];
  counted = refl;
  consumes = Consumes-nil left;
  moves = starts o out gathered held fresh;
  flushed = fresh.1;
  kept = fresh.0 ∙ sym unfinished-nil;
}

at-least : (t sum more : ℕ) → more ≡ sum
    → (min more (2 ^ 64 - 1) ≡ sum) ⊎ (2 ^ 64 - 1 ≤ min more (2 ^ 64 - 1))
at-least t sum more e = elim (cases_lt more (2 ^ 64 - 1)) [ inl lt ↦ inl (omega arith) | inr ge ↦ inr (omega arith) ]

-- the count of bytes taken, after one more read
pub count-more : (t0 t count n : ℕ) → (t ≡ t0 + count) ⊎ (2 ^ 64 - 1 ≤ t)
    → (min (t + n) (2 ^ 64 - 1) ≡ t0 + (count + n)) ⊎ (2 ^ 64 - 1 ≤ min (t + n) (2 ^ 64 - 1))
count-more t0 t count n (inl e) = at-least t (t0 + (count + n)) (t + n) (omega arith)
count-more t0 t count n (inr last) = inr (omega arith)

pub moves-block : (a b c : Bytes) (first mid last : List ℕ → List ℕ) (seen bytes : List ℕ)
    → ((more : List ℕ) → Moves a b (first (seen ++ more)) (mid more))
    → ((more : List ℕ) → Moves b c (mid (bytes ++ more)) (last more))
    → (more : List ℕ) → Moves a c (first ((seen ++ bytes) ++ more)) (last more)
moves-block a b c first mid last seen bytes p q more =
    rw (append_assoc seen bytes more)
    (moves-then a b c (first (seen ++ (bytes ++ more))) (mid (bytes ++ more)) (last more) (p (bytes ++ more)) (q more))

-- one more block
pub going-more : {o : FilterOptions} {limit r0 r w0 w t0 t : ℕ} {left0 left out0 out : Bytes}
    {gathered held : List ℕ} {count : ℕ} (n r' w' t' : ℕ) (left' out' : Bytes) (gathered' held' bytes : List ℕ)
    → Going o limit r0 r w0 w t0 t left0 left out0 out gathered held count → r' ≡ r → w' ≡ w
    → t' ≡ min (t + n) (2 ^ 64 - 1) → length bytes ≡ n → Consumes left left' bytes
    → ((more : List ℕ) → Moves out out' (ahead o gathered held (bytes ++ more)) (ahead o gathered' held' more))
    → gathered' ≡ [] → ((seen : List ℕ) → held ≡ unfinished seen → held' ≡ unfinished (seen ++ bytes))
    → count + n ≤ limit
    → Going o limit r0 r' w0 w' t0 t' left0 left' out0 out' gathered' held' (count + n)
going-more {o} {limit} {r0} {r} {w0} {w} {t0} {t} {left0} {left} {out0} {out} {gathered} {held} {count}
    n r' w' t' left' out' gathered' held' bytes g er ew et eb c m none kept within =
    let before = ahead o gathered held in
    let now = ahead o gathered' held' in
    record {
      reads = er ∙ g.reads;
      writes = ew ∙ g.writes;
      at_least = rw et (count-more t0 t count n g.at_least);
      at_most = (let h = g.at_most in omega arith);
      within = within;
      bytes = g.bytes ++ bytes;
      counted = length-append g.bytes bytes ∙ ap (λ k. k + length bytes) g.counted ∙ ap (λ k. count + k) eb;
      consumes = Consumes-trans left0 left left' g.bytes bytes g.consumes c;
      moves = moves-block out0 out out' (due o) before now g.bytes bytes g.moves m;
      flushed = none;
      kept = kept g.bytes g.kept;
    }

-- ---- what was written
-- what holds of the bytes that were taken
pub of-taken : (left0 left1 : Bytes) (P : List ℕ → Type 0) (bytes : List ℕ) → Consumes left0 left1 bytes → P bytes
    → OfTaken left0 left1 P
of-taken None left1 P bytes c p = tt
of-taken (Some x) None P bytes c p = absurd c
of-taken (Some x) (Some y) P bytes c p = (bytes, c, p)

-- between two blocks: what is due for the complete lines
so_far : (o : FilterOptions) (out0 out : Bytes) (bytes gathered held : List ℕ) → gathered ≡ []
    → held ≡ unfinished bytes → Moves out0 out (due o (bytes ++ [])) (ahead o gathered held [])
    → Appends out0 out (due o (complete bytes))
so_far o out0 out bytes gathered held none kept m =
    let rest = due o (unfinished bytes) in
    let left : gathered ++ due o (held ++ []) ≡ rest =
    ap (λ l. l ++ due o (held ++ [])) none ∙ ap (due o) (append-nil held ∙ kept) in
    let parts : m.given ++ rest ≡ due o (complete bytes) ++ rest =
    ap (λ l. m.given ++ l) (sym left) ∙ sym m.parts ∙ ap (due o) (append-nil bytes) ∙ due-parts o bytes in
    rw (sym (append_cancel_right m.given (due o (complete bytes)) rest parts)) m.appends

pub going-so_far : {o : FilterOptions} {limit r0 r w0 w t0 t : ℕ} {left0 left out0 out : Bytes}
    {gathered held : List ℕ} {count : ℕ}
    → (g : Going o limit r0 r w0 w t0 t left0 left out0 out gathered held count)
    → Appends out0 out (due o (complete g.bytes))
going-so_far {o} {limit} {r0} {r} {w0} {w} {t0} {t} {left0} {left} {out0} {out} {gathered} {held} g =
    so_far o out0 out g.bytes gathered held g.flushed g.kept (g.moves [])

-- nothing is behind a last block
pub keeps_up-all : (o : FilterOptions) (given : ℕ) (out0 out : Bytes) (taken : List ℕ)
    → Appends out0 out (due o (complete taken)) → KeepsUp o given out0 out taken
keeps_up-all o given out0 out taken a = record {
  seen = taken;
  last = [];
  more = [];
  parts = sym (append-nil taken);
  from_last_read = omega arith;
  small = omega arith;
  appends = rw append-nil a;
}

-- a last block is, and maybe more was written
keeps_up-more : (o : FilterOptions) (given : ℕ) (out0 out out' : Bytes) (seen block more : List ℕ)
    → length block ≤ given → length block ≤ block_limit
    → Appends out0 out (due o (complete seen)) → Appends out out' more → KeepsUp o given out0 out' (seen ++ block)
keeps_up-more o given out0 out out' seen block more of_last small a b = record {
  seen = seen;
  last = block;
  more = more;
  parts = refl;
  from_last_read = of_last;
  small = small;
  appends = Appends-trans out0 out out' (due o (complete seen)) more a b;
}

-- what holds whatever comes behind the bytes that were taken holds of the whole input
front-of : (o : FilterOptions) (left0 left1 out0 out1 : Bytes) (bytes : List ℕ) → Consumes left0 left1 bytes
    → ((more : List ℕ) → Begins out0 out1 (due o (bytes ++ more)))
    → IfSome left0 (λ input. Begins out0 out1 (due o input))
front-of o None left1 out0 out1 bytes c f = tt
front-of o (Some x) None out0 out1 bytes c f = absurd c
front-of o (Some x) (Some y) out0 out1 bytes c f = rw c (f y)

-- at the end of the input, the bytes that were taken are the whole of it
pub whole-of : (left0 left1 : Bytes) (bytes : List ℕ) (P : List ℕ → Type 0) → Consumes left0 left1 bytes
    → IsAtEnd left1 → P bytes → IfSome left0 P
whole-of None left1 bytes P c end p = tt
whole-of (Some x) None bytes P c end p = absurd c
whole-of (Some x) (Some y) bytes P c end p = rw (c, end, append-nil) p

-- the bytes before the last ones are the first of the input
pub first-of : (left0 left1 : Bytes) (bytes last : List ℕ) (P : List ℕ → Type 0) → Consumes left0 left1 (bytes ++ last)
    → P bytes → IfSome left0 (λ input. P (take (length bytes) input))
first-of None left1 bytes last P c p = tt
first-of (Some x) None bytes last P c p = absurd c
first-of (Some x) (Some y) bytes last P c p =
    rw (c ∙ append_assoc bytes last y, take-append_seam bytes (last ++ y)) p

-- ---- how a run stops
-- a read failed
pub stop-read : {o : FilterOptions} {limit r0 r w0 w t0 t : ℕ} {left0 left out0 out : Bytes}
    {gathered held : List ℕ} {count : ℕ} (r' t' given : ℕ) (left' : Bytes)
    → Going o limit r0 r w0 w t0 t left0 left out0 out gathered held count → (r ≤ r') × Rose r r' → t' ≡ t
    → Keeps left left' → Stopped o ReadFault limit r0 r' w0 w t0 t' given left0 left' out0 out
stop-read {o} {limit} {r0} {r} {w0} {w} {t0} {t} {left0} {left} {out0} {out} {gathered} {held}
    r' t' given left' g rose et kept =
    let e = g.reads in
    let h = g.at_most in
    let k = g.within in
    let n = g.counted in
    let c = Consumes-kept left0 left left' g.bytes g.consumes kept in
    let a = going-so_far g in record {
      faults = ((omega (arith, rose.0), rw (← e) rose.1), g.writes);
      amount = (omega arith, of-taken left0 left' (λ taken. length taken ≤ limit) g.bytes c (omega arith));
      front = front-of o left0 left' out0 out g.bytes c
          (λ more. begins out0 out (due o (g.bytes ++ more)) (ahead o gathered held more) (g.moves more));
      keeps_up = of-taken left0 left' (KeepsUp o given out0 out) g.bytes c (keeps_up-all o given out0 out g.bytes a);
      written = of-taken left0 left' (λ taken. Appends out0 out (due o (complete taken))) g.bytes c a;
    }

-- more bytes come than are taken
pub stop-long : {o : FilterOptions} {limit r0 r w0 w t0 t : ℕ} {left0 left out0 out : Bytes}
    {gathered held : List ℕ} {count : ℕ} (n r' t' given : ℕ) (left' : Bytes) (bytes : List ℕ)
    → Going o limit r0 r w0 w t0 t left0 left out0 out gathered held count → limit ≤ count → n ≡ 1 → r' ≡ r
    → given ≡ n
    → t' ≡ min (t + n) (2 ^ 64 - 1) → length bytes ≡ n → Consumes left left' bytes
    → Stopped o InputTooLong limit r0 r' w0 w t0 t' given left0 left' out0 out
stop-long {o} {limit} {r0} {r} {w0} {w} {t0} {t} {left0} {left} {out0} {out} {gathered} {held} {count}
    n r' t' given left' bytes g full one er eg et eb c =
    let h = g.at_most in
    let k = g.within in
    let counted = g.counted in
    let c' = Consumes-trans left0 left left' g.bytes bytes g.consumes c in
    let a = going-so_far g in
    let size : length g.bytes ≡ limit = omega arith in record {
      faults = (er ∙ g.reads, g.writes);
      amount = (
        elim (count-more t0 t count n g.at_least) [ inl e ↦ inl (omega arith) | inr last ↦ inr (omega arith) ],
        omega arith,
        of-taken left0 left' (λ taken. length taken ≡ limit + 1) (g.bytes ++ bytes) c'
            (rw length-append (omega arith)),
      );
      front = front-of o left0 left' out0 out (g.bytes ++ bytes) c'
          (λ more. rw (append_assoc g.bytes bytes more)
          (begins out0 out (due o (g.bytes ++ (bytes ++ more))) (ahead o gathered held (bytes ++ more))
          (g.moves (bytes ++ more))));
      keeps_up = of-taken left0 left' (KeepsUp o given out0 out) (g.bytes ++ bytes) c'
          (keeps_up-more o given out0 out out g.bytes bytes [] (omega arith) (omega arith) a (Appends-nil out));
      written = subst (λ m. IfSome left0 (λ input. Appends out0 out (due o (complete (take m input))))) size
          (first-of left0 left' g.bytes bytes (λ first. Appends out0 out (due o (complete first))) c' a);
    }

-- a write failed, or found no memory
stop-by : {o : FilterOptions} {limit r0 r w0 w t0 t : ℕ} {left0 left out0 out : Bytes}
    {gathered held : List ℕ} {count : ℕ} (n t' given : ℕ) (left' out' : Bytes) (bytes : List ℕ)
    → Going o limit r0 r w0 w t0 t left0 left out0 out gathered held count → given ≡ n
    → t' ≡ min (t + n) (2 ^ 64 - 1) → length bytes ≡ n → n ≤ block_limit → count + n ≤ limit → Consumes left left' bytes
    → ((more : List ℕ) → Begins out out' (ahead o gathered held (bytes ++ more)))
    → ((t' ≤ t0 + limit) × OfTaken left0 left' (λ taken. length taken ≤ limit))
    × IfSome left0 (λ input. Begins out0 out' (due o input)) × OfTaken left0 left' (KeepsUp o given out0 out')
stop-by {o} {limit} {r0} {r} {w0} {w} {t0} {t} {left0} {left} {out0} {out} {gathered} {held} {count}
    n t' given left' out' bytes g eg et eb small within c f =
    let h = g.at_most in
    let counted = g.counted in
    let c' = Consumes-trans left0 left left' g.bytes bytes g.consumes c in
    let b = (f []).moves in (
      (
        omega arith,
        of-taken left0 left' (λ taken. length taken ≤ limit) (g.bytes ++ bytes) c' (rw length-append (omega arith)),
      ),
      front-of o left0 left' out0 out' (g.bytes ++ bytes) c'
          (λ more. rw (append_assoc g.bytes bytes more)
          (begins-then out0 out out' (due o (g.bytes ++ (bytes ++ more))) (ahead o gathered held (bytes ++ more))
          (g.moves (bytes ++ more)) (f more))),
      of-taken left0 left' (KeepsUp o given out0 out') (g.bytes ++ bytes) c'
          (keeps_up-more o given out0 out out' g.bytes bytes b.given (omega arith) (omega arith) (going-so_far g) b.appends),
    )

pub stop-write : {o : FilterOptions} {limit r0 r w0 w t0 t : ℕ} {left0 left out0 out : Bytes}
    {gathered held : List ℕ} {count : ℕ} (e : SinkFault) (n r' w' t' given : ℕ) (left' out' : Bytes) (bytes : List ℕ)
    → Going o limit r0 r w0 w t0 t left0 left out0 out gathered held count → r' ≡ r → given ≡ n
    → t' ≡ min (t + n) (2 ^ 64 - 1) → length bytes ≡ n → n ≤ block_limit → count + n ≤ limit
    → Consumes left left' bytes → SinkCause {T = Unit {0}} w w' (Err e)
    → ((more : List ℕ) → Begins out out' (ahead o gathered held (bytes ++ more)))
    → Stopped o (refusal_status e) limit r0 r' w0 w' t0 t' given left0 left' out0 out'
stop-write fault.Failed n r' w' t' given left' out' bytes g er eg et eb small within c cause f =
    let e = g.writes in
    let s = stop-by n t' given left' out' bytes g eg et eb small within c f in record {
      faults = (er ∙ g.reads, (omega (arith, cause.0), rw (← e) cause.1));
      amount = s.0;
      front = s.1;
      keeps_up = s.2;
      written = tt;
    }
stop-write fault.OutOfMemory n r' w' t' given left' out' bytes g er eg et eb small within c cause f =
    let s = stop-by n t' given left' out' bytes g eg et eb small within c f in
    record { faults = (er ∙ g.reads, cause ∙ g.writes); amount = s.0; front = s.1; keeps_up = s.2; written = tt }

-- the end of the input
end-by : {o : FilterOptions} {limit r0 r w0 w t0 t : ℕ} {left0 left out0 out : Bytes}
    {gathered held : List ℕ} {count : ℕ} (t' given : ℕ) (left' out' : Bytes)
    → Going o limit r0 r w0 w t0 t left0 left out0 out gathered held count → t' ≡ min (t + 0) (2 ^ 64 - 1)
    → Consumes left left' [] → IsAtEnd left' → Begins out out' (ahead o gathered held [])
    → ((t' ≤ t0 + limit) × OfTaken left0 left' (λ taken. length taken ≤ limit))
    × IfSome left0 (λ input. Begins out0 out' (due o input)) × OfTaken left0 left' (KeepsUp o given out0 out')
end-by {o} {limit} {r0} {r} {w0} {w} {t0} {t} {left0} {left} {out0} {out} {gathered} {held}
    t' given left' out' g et c end f =
    let h = g.at_most in
    let k = g.within in
    let counted = g.counted in
    let c' : Consumes left0 left' g.bytes =
    rw (← append-nil g.bytes) (Consumes-trans left0 left left' g.bytes [] g.consumes c) in
    let before : Moves out0 out (due o g.bytes) (ahead o gathered held []) =
    rw (← append-nil g.bytes) (g.moves []) in
    let up : KeepsUp o given out0 out' g.bytes =
    rw (← append-nil g.bytes)
    (keeps_up-more o given out0 out out' g.bytes [] f.moves.given (omega arith) (omega arith) (going-so_far g) f.moves.appends) in (
      (omega arith, of-taken left0 left' (λ taken. length taken ≤ limit) g.bytes c' (omega arith)),
      whole-of left0 left' g.bytes (λ input. Begins out0 out' (due o input)) c' end
          (begins-then out0 out out' (due o g.bytes) (ahead o gathered held []) before f),
      of-taken left0 left' (KeepsUp o given out0 out') g.bytes c' up,
    )

-- all was given
pub moves-all : (a b : Bytes) (whole : List ℕ) → Moves a b whole [] → Appends a b whole
moves-all a b whole m = rw (m.parts, append-nil) m.appends

end-written : {o : FilterOptions} {limit r0 r w0 w t0 t : ℕ} {left0 left out0 out : Bytes}
    {gathered held : List ℕ} {count : ℕ} (left' out' : Bytes)
    → Going o limit r0 r w0 w t0 t left0 left out0 out gathered held count → Consumes left left' [] → IsAtEnd left'
    → Moves out out' (ahead o gathered held []) [] → IfSome left0 (λ input. Appends out0 out' (due o input))
end-written {o} {limit} {r0} {r} {w0} {w} {t0} {t} {left0} {left} {out0} {out} {gathered} {held}
    left' out' g c end m =
    let c' : Consumes left0 left' g.bytes =
    rw (← append-nil g.bytes) (Consumes-trans left0 left left' g.bytes [] g.consumes c) in
    let before : Moves out0 out (due o g.bytes) (ahead o gathered held []) =
    rw (← append-nil g.bytes) (g.moves []) in
    let all = moves-then out0 out out' (due o g.bytes) (ahead o gathered held []) [] before m in
    whole-of left0 left' g.bytes (λ input. Appends out0 out' (due o input)) c' end
    (moves-all out0 out' (due o g.bytes) all)

stop-end : {o : FilterOptions} {limit r0 r w0 w t0 t : ℕ} {left0 left out0 out : Bytes}
    {gathered held : List ℕ} {count : ℕ} (status : Status) (r' w' t' given : ℕ) (left' out' : Bytes)
    → Going o limit r0 r w0 w t0 t left0 left out0 out gathered held count → r' ≡ r
    → t' ≡ min (t + 0) (2 ^ 64 - 1) → Consumes left left' [] → IsAtEnd left'
    → Finished status w w' out out' (ahead o gathered held [])
    → Stopped o status limit r0 r' w0 w' t0 t' given left0 left' out0 out'
stop-end {o} {out} {gathered} {held} Done r' w' t' given left' out' g er et c end f =
    let s = end-by t' given left' out' g et c end (begins out out' (ahead o gathered held []) [] f.1) in record {
      faults = (er ∙ g.reads, f.0 ∙ g.writes);
      amount = s.0;
      front = s.1;
      keeps_up = s.2;
      written = (end, end-written left' out' g c end f.1);
    }
stop-end WriteFault r' w' t' given left' out' g er et c end f =
    let e = g.writes in
    let s = end-by t' given left' out' g et c end f.1 in record {
      faults = (er ∙ g.reads, (omega (arith, f.0.0), rw (← e) f.0.1));
      amount = s.0;
      front = s.1;
      keeps_up = s.2;
      written = tt;
    }
stop-end OutOfMemory r' w' t' given left' out' g er et c end f =
    let s = end-by t' given left' out' g et c end f.1 in
    record { faults = (er ∙ g.reads, f.0 ∙ g.writes); amount = s.0; front = s.1; keeps_up = s.2; written = tt }
stop-end Help r' w' t' given left' out' g er et c end f = absurd f
stop-end Usage r' w' t' given left' out' g er et c end f = absurd f
stop-end ReadFault r' w' t' given left' out' g er et c end f = absurd f
stop-end InputTooLong r' w' t' given left' out' g er et c end f = absurd f

-- the end of the input, by what the sink answered
pub finished-refused : (e : SinkFault) (w w' : ℕ) (out out' : Bytes) (whole : List ℕ)
    → SinkCause {T = Unit {0}} w w' (Err e) × Begins out out' whole
    → Finished (refusal_status e) w w' out out' whole
finished-refused fault.Failed w w' out out' whole g = g
finished-refused fault.OutOfMemory w w' out out' whole g = g

-- a read gave nothing
pub stop-empty : {o : FilterOptions} {limit r0 r w0 w t0 t : ℕ} {left0 left out0 out : Bytes}
    {gathered held : List ℕ} {count : ℕ} (status : Status) (n r' w' t' given : ℕ) (left' out' : Bytes) (block : List ℕ)
    → Going o limit r0 r w0 w t0 t left0 left out0 out gathered held count → n ≡ 0 → 0 < length block → r' ≡ r
    → t' ≡ min (t + n) (2 ^ 64 - 1)
    → Consumes left left' (take n block) × (n ≡ 0 → 0 < length block → IsAtEnd left')
    → Finished status w w' out out' (ahead o gathered held [])
    → Stopped o status limit r0 r' w0 w' t0 t' given left0 left' out0 out'
stop-empty {o} {limit} {r0} {r} {w0} {w} {t0} {t} {left0} {left} status n r' w' t' given left' out' block
    g none room er et c f =
    let nothing : take n block ≡ [] = ap (λ k. take k block) none in
    let consumes : Consumes left left' [] = rw (← nothing) c.0 in
    let et' : t' ≡ min (t + 0) (2 ^ 64 - 1) = et ∙ ap (λ k. min (t + k) (2 ^ 64 - 1)) none in
    stop-end status r' w' t' given left' out' g er et' consumes (c.1 none room) f

-- ---- where nothing was taken and nothing written
pub nothing-front : (o : FilterOptions) (left out : Bytes) → IfSome left (λ input. Begins out out (due o input))
nothing-front o None out = tt
nothing-front o (Some x) out = begins-none out (due o x)

pub nothing-keeps_up : (o : FilterOptions) (given : ℕ) (left out : Bytes)
    → OfTaken left left (KeepsUp o given out out)
nothing-keeps_up o given left out =
    of-taken left left (KeepsUp o given out out) [] (Consumes-nil left)
    (keeps_up-all o given out out [] (rw (complete-nil, due-nil o) (Appends-nil out)))

pub nothing-short : (left : Bytes) (P : Type 0) (limit : ℕ)
    → OfTaken left left (λ taken. limit < length taken → P)
nothing-short left P limit =
    of-taken left left (λ taken. limit < length taken → P) [] (Consumes-nil left) (λ long. absurd (omega arith))

pub stop-memory : (o : FilterOptions) (limit r w t given : ℕ) (left out : Bytes)
    → Stopped o OutOfMemory limit r r w w t t given left left out out
stop-memory o limit r w t given left out = record {
  faults = (refl, refl);
  amount = (
    omega arith,
    of-taken left left (λ taken. length taken ≤ limit) [] (Consumes-nil left) (omega arith),
  );
  front = nothing-front o left out;
  keeps_up = nothing-keeps_up o given left out;
  written = tt;
}
