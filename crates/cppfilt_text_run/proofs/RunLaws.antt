-- Laws on a run over an input: how it goes on, and how it stops.
use Rattle.std.proofs.Common.{◌≡◌, inl, inr, ℕ, ◌+◌, ◌-◌, ◌^◌, ◌<◌, ◌≤◌, min, List, [], ◌++◌, length, take}
use Rattle.std.proofs.Common.{subst, refl, sym, ap, ◌∙◌, append_assoc, append-nil, arith, length-append, Err}
use Rattle.std.specs.Prelude.{Option, Some, None, IfSome}
use Rattle.std.specs.Io.KnownBytes.{Appends, Consumes, Keeps, IsAtEnd}
use Rattle.std.proofs.KnownBytes.{Appends-nil, Appends-trans, Consumes-nil, Consumes-trans, Consumes-kept}
use Rattle.demangle_context.specs.declared.error.SinkFault.{SinkFault}
use Rattle.demangle_context.specs.declared.error.SinkFault.TheVariants as fault
use Rattle.cppfilt_ends.specs.Causes.{Rose, SinkCause}
use Rattle.cppfilt_ends.specs.Moves.{Moves, Begins}
use Rattle.cppfilt_ends.proofs.MoveLaws.{moves-none, moves-then, begins, begins-then, begins-none, cause-then}
use Rattle.demangle_printing.specs.Outcome.{Options}
use Rattle.demangle_stream.specs.Fed.{Behind}
use Rattle.demangle_stream.specs.Replaced.{replaced, rest}
use Rattle.demangle_stream.specs.Settled.{settled}
use Rattle.demangle_stream.specs.declared.state.Stream.{Stream}
use Rattle.demangle_stream.proofs.PieceLaws.{replaced-nil}
use Rattle.demangle_stream.proofs.SettledLaws.{settled-given, settled-nil}
use Rattle.cppfilt_run.specs.Outcome.{Finished, OfTaken}
use Rattle.cppfilt_run.specs.Owed.{block_limit}
use Rattle.cppfilt_run.specs.Statuses.{refusal_status}
use Rattle.cppfilt_run.specs.declared.status.Status.{Status}
use Rattle.cppfilt_run.specs.declared.status.Status.TheVariants.{Done, Help, Usage, ReadFault, WriteFault}
use Rattle.cppfilt_run.specs.declared.status.Status.TheVariants.{InputTooLong, OutOfMemory}
use Rattle.cppfilt_run.proofs.RunLaws.{count-more, first-of, moves-all, moves-block, of-taken, whole-of}
use Rattle.cppfilt_text_run.specs.Outcome.{KeepsUp, Going, Stopped, Taking}

abbrev Bytes : Type 0
Bytes = Option (List ℕ)

-- ---- how a run goes on
-- the beginning of a text
pub going-start : (p : ℕ) (o : Options) (limit r w t : ℕ) (left out : Bytes) (s : Stream) → s.parse ≡ p → s.print ≡ o
    → ((more : List ℕ) → rest s more ≡ replaced p o more) → Behind s []
    → Going p o limit r r w w t t left left out out s 0
going-start p o limit r w t left out s same-p same-o begins' behind' = record {
  reads = refl;
  writes = refl;
  at_least = inl (omega arith);
  at_most = omega arith;
  within = omega arith;
  bytes = [];
  counted = refl;
  consumes = Consumes-nil left;
  moves = λ more. rw (begins' more) (moves-none out (replaced p o more));
  behind = behind';
  parse = same-p;
  print = same-o;
}

-- one more block
pub going-more : {p : ℕ} {o : Options} {limit r0 r w0 w t0 t : ℕ} {left0 left out0 out : Bytes}
    {s : Stream} {count : ℕ} (n r' w' t' : ℕ) (left' out' : Bytes) (s' : Stream) (bytes : List ℕ)
    → Going p o limit r0 r w0 w t0 t left0 left out0 out s count → r' ≡ r → w' ≡ w
    → t' ≡ min (t + n) (2 ^ 64 - 1) → length bytes ≡ n → Consumes left left' bytes
    → ((more : List ℕ) → Moves out out' (rest s (bytes ++ more)) (rest s' more))
    → ((seen : List ℕ) → Behind s seen → Behind s' (seen ++ bytes))
    → (s'.parse ≡ s.parse) × (s'.print ≡ s.print)
    → count + n ≤ limit
    → Going p o limit r0 r' w0 w' t0 t' left0 left' out0 out' s' (count + n)
going-more {p} {o} {limit} {r0} {r} {w0} {w} {t0} {t} {left0} {left} {out0} {out} {s} {count}
    n r' w' t' left' out' s' bytes g er ew et eb c m behind' same within =
    record {
      reads = er ∙ g.reads;
      writes = ew ∙ g.writes;
      at_least = rw et (count-more t0 t count n g.at_least);
      at_most = (let h = g.at_most in omega arith);
      within = within;
      bytes = g.bytes ++ bytes;
      counted = length-append g.bytes bytes ∙ ap (λ k. k + length bytes) g.counted ∙ ap (λ k. count + k) eb;
      consumes = Consumes-trans left0 left left' g.bytes bytes g.consumes c;
      moves = moves-block out0 out out' (replaced p o) (rest s) (rest s') g.bytes bytes g.moves m;
      behind = behind' g.bytes g.behind;
      parse = same.0 ∙ g.parse;
      print = same.1 ∙ g.print;
    }

-- ---- what was written
-- between two blocks: what is due for what is settled
so_far : (p : ℕ) (o : Options) (out0 out : Bytes) (bytes : List ℕ) (s : Stream) → s.parse ≡ p → s.print ≡ o
    → Behind s bytes → Moves out0 out (replaced p o (bytes ++ [])) (rest s [])
    → Appends out0 out (replaced p o (settled bytes))
so_far p o out0 out bytes s same-p same-o b m =
    let given =
    settled-given p o s bytes m.given same-p same-o b (ap (replaced p o) (sym (append-nil bytes)) ∙ m.parts) in
    rw (sym given) m.appends

pub going-so_far : {p : ℕ} {o : Options} {limit r0 r w0 w t0 t : ℕ} {left0 left out0 out : Bytes}
    {s : Stream} {count : ℕ}
    → (g : Going p o limit r0 r w0 w t0 t left0 left out0 out s count)
    → Appends out0 out (replaced p o (settled g.bytes))
going-so_far {p} {o} {limit} {r0} {r} {w0} {w} {t0} {t} {left0} {left} {out0} {out} {s} g =
    so_far p o out0 out g.bytes s g.parse g.print g.behind (g.moves [])

-- nothing is behind a last block
pub keeps_up-all : (p : ℕ) (o : Options) (given : ℕ) (out0 out : Bytes) (taken : List ℕ)
    → Appends out0 out (replaced p o (settled taken)) → KeepsUp p o given out0 out taken
keeps_up-all p o given out0 out taken a = record {
  seen = taken;
  last = [];
  more = [];
  parts = sym (append-nil taken);
  from_last_read = omega arith;
  small = omega arith;
  appends = rw append-nil a;
}

-- a last block is, and maybe more was written
keeps_up-more : (p : ℕ) (o : Options) (given : ℕ) (out0 out out' : Bytes) (seen block more : List ℕ)
    → length block ≤ given → length block ≤ block_limit → Appends out0 out (replaced p o (settled seen))
    → Appends out out' more → KeepsUp p o given out0 out' (seen ++ block)
keeps_up-more p o given out0 out out' seen block more of_last small a b = record {
  seen = seen;
  last = block;
  more = more;
  parts = refl;
  from_last_read = of_last;
  small = small;
  appends = Appends-trans out0 out out' (replaced p o (settled seen)) more a b;
}

-- what holds whatever comes behind the bytes that were taken holds of the whole input
front-of : (p : ℕ) (o : Options) (left0 left1 out0 out1 : Bytes) (bytes : List ℕ) → Consumes left0 left1 bytes
    → ((more : List ℕ) → Begins out0 out1 (replaced p o (bytes ++ more)))
    → IfSome left0 (λ input. Begins out0 out1 (replaced p o input))
front-of p o None left1 out0 out1 bytes c f = tt
front-of p o (Some x) None out0 out1 bytes c f = absurd c
front-of p o (Some x) (Some y) out0 out1 bytes c f = rw c (f y)

-- ---- how a run stops
-- a read failed
pub stop-read : {p : ℕ} {o : Options} {limit r0 r w0 w t0 t : ℕ} {left0 left out0 out : Bytes}
    {s : Stream} {count : ℕ} (r' t' given : ℕ) (left' : Bytes)
    → Going p o limit r0 r w0 w t0 t left0 left out0 out s count → (r ≤ r') × Rose r r' → t' ≡ t
    → Keeps left left' → Stopped p o ReadFault limit r0 r' w0 w t0 t' given left0 left' out0 out
stop-read {p} {o} {limit} {r0} {r} {w0} {w} {t0} {t} {left0} {left} {out0} {out} {s}
    r' t' given left' g rose et kept =
    let e = g.reads in
    let h = g.at_most in
    let k = g.within in
    let n = g.counted in
    let c = Consumes-kept left0 left left' g.bytes g.consumes kept in
    let a = going-so_far g in record {
      faults = ((omega (arith, rose.0), rw (← e) rose.1), g.writes);
      amount = (omega arith, of-taken left0 left' (λ taken. length taken ≤ limit) g.bytes c (omega arith));
      front = front-of p o left0 left' out0 out g.bytes c
          (λ more. begins out0 out (replaced p o (g.bytes ++ more)) (rest s more) (g.moves more));
      keeps_up = of-taken left0 left' (KeepsUp p o given out0 out) g.bytes c (keeps_up-all p o given out0 out g.bytes a);
      written = of-taken left0 left' (λ taken. Appends out0 out (replaced p o (settled taken))) g.bytes c a;
    }

-- more bytes come than are taken
pub stop-long : {p : ℕ} {o : Options} {limit r0 r w0 w t0 t : ℕ} {left0 left out0 out : Bytes}
    {s : Stream} {count : ℕ} (n r' t' given : ℕ) (left' : Bytes) (bytes : List ℕ)
    → Going p o limit r0 r w0 w t0 t left0 left out0 out s count → limit ≤ count → n ≡ 1 → r' ≡ r
    → given ≡ n → t' ≡ min (t + n) (2 ^ 64 - 1) → length bytes ≡ n → Consumes left left' bytes
    → Stopped p o InputTooLong limit r0 r' w0 w t0 t' given left0 left' out0 out
stop-long {p} {o} {limit} {r0} {r} {w0} {w} {t0} {t} {left0} {left} {out0} {out} {s} {count}
    n r' t' given left' bytes g full one er eg et eb c =
    let h = g.at_most in
    let k = g.within in
    let counted = g.counted in
    let c' = Consumes-trans left0 left left' g.bytes bytes g.consumes c in
    let a = going-so_far g in
    let size : length g.bytes ≡ limit = omega arith in record {
      faults = (er ∙ g.reads, g.writes);
      amount = (
        elim (count-more t0 t count n g.at_least) [ inl e ↦ inl (omega arith) | inr last ↦ inr (omega arith) ],
        omega arith,
        of-taken left0 left' (λ taken. length taken ≡ limit + 1) (g.bytes ++ bytes) c'
            (rw length-append (omega arith)),
      );
      front = front-of p o left0 left' out0 out (g.bytes ++ bytes) c'
          (λ more. rw (append_assoc g.bytes bytes more)
          (begins out0 out (replaced p o (g.bytes ++ (bytes ++ more))) (rest s (bytes ++ more))
          (g.moves (bytes ++ more))));
      keeps_up = of-taken left0 left' (KeepsUp p o given out0 out) (g.bytes ++ bytes) c'
          (keeps_up-more p o given out0 out out g.bytes bytes [] (omega arith) (omega arith) a (Appends-nil out));
      written = subst (λ m. IfSome left0 (λ input. Appends out0 out (replaced p o (settled (take m input))))) size
          (first-of left0 left' g.bytes bytes (λ first. Appends out0 out (replaced p o (settled first))) c' a);
    }

-- a write failed, or found no memory
stop-by : {p : ℕ} {o : Options} {limit r0 r w0 w t0 t : ℕ} {left0 left out0 out : Bytes}
    {s : Stream} {count : ℕ} (n t' given : ℕ) (left' out' : Bytes) (bytes : List ℕ)
    → Going p o limit r0 r w0 w t0 t left0 left out0 out s count → given ≡ n → t' ≡ min (t + n) (2 ^ 64 - 1)
    → length bytes ≡ n → n ≤ block_limit → count + n ≤ limit → Consumes left left' bytes
    → ((more : List ℕ) → Begins out out' (rest s (bytes ++ more)))
    → ((t' ≤ t0 + limit) × OfTaken left0 left' (λ taken. length taken ≤ limit))
    × IfSome left0 (λ input. Begins out0 out' (replaced p o input)) × OfTaken left0 left' (KeepsUp p o given out0 out')
stop-by {p} {o} {limit} {r0} {r} {w0} {w} {t0} {t} {left0} {left} {out0} {out} {s} {count}
    n t' given left' out' bytes g eg et eb small within c f =
    let h = g.at_most in
    let counted = g.counted in
    let c' = Consumes-trans left0 left left' g.bytes bytes g.consumes c in
    let b = (f []).moves in (
      (
        omega arith,
        of-taken left0 left' (λ taken. length taken ≤ limit) (g.bytes ++ bytes) c' (rw length-append (omega arith)),
      ),
      front-of p o left0 left' out0 out' (g.bytes ++ bytes) c'
          (λ more. rw (append_assoc g.bytes bytes more)
          (begins-then out0 out out' (replaced p o (g.bytes ++ (bytes ++ more))) (rest s (bytes ++ more))
          (g.moves (bytes ++ more)) (f more))),
      of-taken left0 left' (KeepsUp p o given out0 out') (g.bytes ++ bytes) c'
          (keeps_up-more p o given out0 out out' g.bytes bytes b.given (omega arith) (omega arith) (going-so_far g) b.appends),
    )

pub stop-write : {p : ℕ} {o : Options} {limit r0 r w0 w t0 t : ℕ} {left0 left out0 out : Bytes}
    {s : Stream} {count : ℕ} (e : SinkFault) (n r' w' t' given : ℕ) (left' out' : Bytes) (bytes : List ℕ)
    → Going p o limit r0 r w0 w t0 t left0 left out0 out s count → r' ≡ r → given ≡ n
    → t' ≡ min (t + n) (2 ^ 64 - 1) → length bytes ≡ n → n ≤ block_limit → count + n ≤ limit
    → Consumes left left' bytes → SinkCause {T = Unit {0}} w w' (Err e)
    → ((more : List ℕ) → Begins out out' (rest s (bytes ++ more)))
    → Stopped p o (refusal_status e) limit r0 r' w0 w' t0 t' given left0 left' out0 out'
stop-write fault.Failed n r' w' t' given left' out' bytes g er eg et eb small within c cause f =
    let e = g.writes in
    let s = stop-by n t' given left' out' bytes g eg et eb small within c f in record {
      faults = (er ∙ g.reads, (omega (arith, cause.0), rw (← e) cause.1));
      amount = s.0;
      front = s.1;
      keeps_up = s.2;
      written = tt;
    }
stop-write fault.OutOfMemory n r' w' t' given left' out' bytes g er eg et eb small within c cause f =
    let s = stop-by n t' given left' out' bytes g eg et eb small within c f in
    record { faults = (er ∙ g.reads, cause ∙ g.writes); amount = s.0; front = s.1; keeps_up = s.2; written = tt }

-- the end of the input
end-by : {p : ℕ} {o : Options} {limit r0 r w0 w t0 t : ℕ} {left0 left out0 out : Bytes}
    {s : Stream} {count : ℕ} (t' given : ℕ) (left' out' : Bytes)
    → Going p o limit r0 r w0 w t0 t left0 left out0 out s count → t' ≡ min (t + 0) (2 ^ 64 - 1)
    → Consumes left left' [] → IsAtEnd left' → Begins out out' (rest s [])
    → ((t' ≤ t0 + limit) × OfTaken left0 left' (λ taken. length taken ≤ limit))
    × IfSome left0 (λ input. Begins out0 out' (replaced p o input)) × OfTaken left0 left' (KeepsUp p o given out0 out')
end-by {p} {o} {limit} {r0} {r} {w0} {w} {t0} {t} {left0} {left} {out0} {out} {s}
    t' given left' out' g et c end f =
    let h = g.at_most in
    let k = g.within in
    let counted = g.counted in
    let c' : Consumes left0 left' g.bytes =
    rw (← append-nil g.bytes) (Consumes-trans left0 left left' g.bytes [] g.consumes c) in
    let before : Moves out0 out (replaced p o g.bytes) (rest s []) =
    rw (← append-nil g.bytes) (g.moves []) in
    let up : KeepsUp p o given out0 out' g.bytes =
    rw (← append-nil g.bytes)
    (keeps_up-more p o given out0 out out' g.bytes [] f.moves.given (omega arith) (omega arith) (going-so_far g)
    f.moves.appends) in (
      (omega arith, of-taken left0 left' (λ taken. length taken ≤ limit) g.bytes c' (omega arith)),
      whole-of left0 left' g.bytes (λ input. Begins out0 out' (replaced p o input)) c' end
          (begins-then out0 out out' (replaced p o g.bytes) (rest s []) before f),
      of-taken left0 left' (KeepsUp p o given out0 out') g.bytes c' up,
    )

end-written : {p : ℕ} {o : Options} {limit r0 r w0 w t0 t : ℕ} {left0 left out0 out : Bytes}
    {s : Stream} {count : ℕ} (left' out' : Bytes)
    → Going p o limit r0 r w0 w t0 t left0 left out0 out s count → Consumes left left' [] → IsAtEnd left'
    → Moves out out' (rest s []) [] → IfSome left0 (λ input. Appends out0 out' (replaced p o input))
end-written {p} {o} {limit} {r0} {r} {w0} {w} {t0} {t} {left0} {left} {out0} {out} {s}
    left' out' g c end m =
    let c' : Consumes left0 left' g.bytes =
    rw (← append-nil g.bytes) (Consumes-trans left0 left left' g.bytes [] g.consumes c) in
    let before : Moves out0 out (replaced p o g.bytes) (rest s []) =
    rw (← append-nil g.bytes) (g.moves []) in
    let all = moves-then out0 out out' (replaced p o g.bytes) (rest s []) [] before m in
    whole-of left0 left' g.bytes (λ input. Appends out0 out' (replaced p o input)) c' end
    (moves-all out0 out' (replaced p o g.bytes) all)

stop-end : {p : ℕ} {o : Options} {limit r0 r w0 w t0 t : ℕ} {left0 left out0 out : Bytes}
    {s : Stream} {count : ℕ} (status : Status) (r' w' t' given : ℕ) (left' out' : Bytes)
    → Going p o limit r0 r w0 w t0 t left0 left out0 out s count → r' ≡ r
    → t' ≡ min (t + 0) (2 ^ 64 - 1) → Consumes left left' [] → IsAtEnd left'
    → Finished status w w' out out' (rest s [])
    → Stopped p o status limit r0 r' w0 w' t0 t' given left0 left' out0 out'
stop-end {p} {o} {out} {s} Done r' w' t' given left' out' g er et c end f =
    let s = end-by t' given left' out' g et c end (begins out out' (rest s []) [] f.1) in record {
      faults = (er ∙ g.reads, f.0 ∙ g.writes);
      amount = s.0;
      front = s.1;
      keeps_up = s.2;
      written = (end, end-written left' out' g c end f.1);
    }
stop-end WriteFault r' w' t' given left' out' g er et c end f =
    let e = g.writes in
    let s = end-by t' given left' out' g et c end f.1 in record {
      faults = (er ∙ g.reads, (omega (arith, f.0.0), rw (← e) f.0.1));
      amount = s.0;
      front = s.1;
      keeps_up = s.2;
      written = tt;
    }
stop-end OutOfMemory r' w' t' given left' out' g er et c end f =
    let s = end-by t' given left' out' g et c end f.1 in
    record { faults = (er ∙ g.reads, f.0 ∙ g.writes); amount = s.0; front = s.1; keeps_up = s.2; written = tt }
stop-end Help r' w' t' given left' out' g er et c end f = absurd f
stop-end Usage r' w' t' given left' out' g er et c end f = absurd f
stop-end ReadFault r' w' t' given left' out' g er et c end f = absurd f
stop-end InputTooLong r' w' t' given left' out' g er et c end f = absurd f

-- a read gave nothing
pub stop-empty : {p : ℕ} {o : Options} {limit r0 r w0 w t0 t : ℕ} {left0 left out0 out : Bytes}
    {s : Stream} {count : ℕ} (status : Status) (n r' w' t' given : ℕ) (left' out' : Bytes) (block : List ℕ)
    → Going p o limit r0 r w0 w t0 t left0 left out0 out s count → n ≡ 0 → 0 < length block → r' ≡ r
    → t' ≡ min (t + n) (2 ^ 64 - 1)
    → Consumes left left' (take n block) × (n ≡ 0 → 0 < length block → IsAtEnd left')
    → Finished status w w' out out' (rest s [])
    → Stopped p o status limit r0 r' w0 w' t0 t' given left0 left' out0 out'
stop-empty {p} {o} {limit} {r0} {r} {w0} {w} {t0} {t} {left0} {left} status n r' w' t' given left' out' block
    g none room er et c f =
    let nothing : take n block ≡ [] = ap (λ k. take k block) none in
    let consumes : Consumes left left' [] = rw (← nothing) c.0 in
    let et' : t' ≡ min (t + 0) (2 ^ 64 - 1) = et ∙ ap (λ k. min (t + k) (2 ^ 64 - 1)) none in
    stop-end status r' w' t' given left' out' g er et' consumes (c.1 none room) f

-- ---- where nothing was taken and nothing written
pub nothing-front : (p : ℕ) (o : Options) (left out : Bytes) → IfSome left (λ input. Begins out out (replaced p o input))
nothing-front p o None out = tt
nothing-front p o (Some x) out = begins-none out (replaced p o x)

pub nothing-keeps_up : (p : ℕ) (o : Options) (given : ℕ) (left out : Bytes)
    → OfTaken left left (KeepsUp p o given out out)
nothing-keeps_up p o given left out =
    of-taken left left (KeepsUp p o given out out) [] (Consumes-nil left)
    (keeps_up-all p o given out out [] (rw (settled-nil, replaced-nil p o) (Appends-nil out)))

pub stop-memory : (p : ℕ) (o : Options) (limit r w t given : ℕ) (left out : Bytes)
    → Stopped p o OutOfMemory limit r r w w t t given left left out out
stop-memory p o limit r w t given left out = record {
  faults = (refl, refl);
  amount = (
    omega arith,
    of-taken left left (λ taken. length taken ≤ limit) [] (Consumes-nil left) (omega arith),
  );
  front = nothing-front p o left out;
  keeps_up = nothing-keeps_up p o given left out;
  written = tt;
}

-- under the same options
pub stopped-same : (p p' : ℕ) (o o' : Options) (status : Status) (limit r0 r w0 w t0 t given : ℕ)
    (left0 left out0 out : Bytes) → p' ≡ p → o' ≡ o
    → Stopped p' o' status limit r0 r w0 w t0 t given left0 left out0 out
    → Stopped p o status limit r0 r w0 w t0 t given left0 left out0 out
stopped-same p p' o o' status limit r0 r w0 w t0 t given left0 left out0 out e f s =
    subst (λ k. Stopped k o status limit r0 r w0 w t0 t given left0 left out0 out) e
    (subst (λ k. Stopped p' k status limit r0 r w0 w t0 t given left0 left out0 out) f s)

-- ---- how a block is taken
pub taking-start : (s : Stream) (w : ℕ) (out : Bytes) (gathered block : List ℕ)
    → Taking s s w w out out gathered gathered block block
taking-start s w out gathered block = record {
  fed = [];
  parts = refl;
  writes = refl;
  moves = λ more. moves-none out (gathered ++ rest s (block ++ more));
  behind = λ seen b. rw (append-nil seen) b;
  parse = refl;
  print = refl;
}

-- one more piece
pub taking-more : {before now after : Stream} {w0 w w' : ℕ} {out0 out out' : Bytes}
    {gathered0 gathered gathered' block left : List ℕ} (piece left' : List ℕ) → left ≡ piece ++ left'
    → Taking before now w0 w out0 out gathered0 gathered block left
    → ((more : List ℕ) → (w' ≡ w) × Moves out out' (gathered ++ rest now (piece ++ more)) (gathered' ++ rest after more))
    → ((seen : List ℕ) → Behind now seen → Behind after (seen ++ piece))
    → (after.parse ≡ now.parse) × (after.print ≡ now.print)
    → Taking before after w0 w' out0 out' gathered0 gathered' block left'
taking-more {before} {now} {after} {w0} {w} {w'} {out0} {out} {out'} {gathered0} {gathered} {gathered'} {block} {left}
    piece left' e t gave behind' same =
    record {
      fed = t.fed ++ piece;
      parts = t.parts ∙ ap (λ l. t.fed ++ l) e ∙ sym (append_assoc t.fed piece left');
      writes = (gave []).0 ∙ t.writes;
      moves = λ more.
          let given : Moves out out' (gathered ++ rest now (left ++ more)) (gathered' ++ rest after (left' ++ more)) =
          rw (e, append_assoc piece left' more) (gave (left' ++ more)).1 in
          moves-then out0 out out' (gathered0 ++ rest before (block ++ more)) (gathered ++ rest now (left ++ more))
          (gathered' ++ rest after (left' ++ more)) (t.moves more) given;
      behind = λ seen b. rw (← append_assoc seen t.fed piece) (behind' (seen ++ t.fed) (t.behind seen b));
      parse = same.0 ∙ t.parse;
      print = same.1 ∙ t.print;
    }

-- a piece was refused
pub taking-refused : {before now : Stream} {w0 w : ℕ} {out0 out out' : Bytes}
    {gathered0 gathered block left : List ℕ} (w' : ℕ) (e : SinkFault) (piece left' : List ℕ) → left ≡ piece ++ left'
    → Taking before now w0 w out0 out gathered0 gathered block left
    → ((more : List ℕ) → SinkCause {T = Unit {0}} w w' (Err e) × Begins out out' (gathered ++ rest now (piece ++ more)))
    → (more : List ℕ) → SinkCause {T = Unit {0}} w0 w' (Err e)
    × Begins out0 out' (gathered0 ++ rest before (block ++ more))
taking-refused {before} {now} {w0} {w} {out0} {out} {out'} {gathered0} {gathered} {block} {left}
    w' e piece left' is t gave more =
    let given : Begins out out' (gathered ++ rest now (left ++ more)) =
    rw (is, append_assoc piece left' more) (gave (left' ++ more)).1 in (
      cause-then w0 w w' e t.writes (gave []).0,
      begins-then out0 out out' (gathered0 ++ rest before (block ++ more)) (gathered ++ rest now (left ++ more))
          (t.moves more) given,
    )

-- the whole block
pub taken-behind : {before now : Stream} {w0 w : ℕ} {out0 out : Bytes} {gathered0 gathered block left : List ℕ}
    → left ≡ [] → Taking before now w0 w out0 out gathered0 gathered block left
    → (seen : List ℕ) → Behind before seen → Behind now (seen ++ block)
taken-behind {block = block} none t seen b =
    let whole : block ≡ t.fed = t.parts ∙ ap (λ l. t.fed ++ l) none ∙ append-nil t.fed in
    rw whole (t.behind seen b)

pub taken-moves : {before now : Stream} {w0 w : ℕ} {out0 out : Bytes} {gathered0 gathered block left : List ℕ}
    → left ≡ [] → Taking before now w0 w out0 out gathered0 gathered block left
    → (more : List ℕ) → (w ≡ w0) × Moves out0 out (gathered0 ++ rest before (block ++ more)) (gathered ++ rest now more)
taken-moves none t more = (t.writes, rw none at (t.moves more))
