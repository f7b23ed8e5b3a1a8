-- Laws on what a sink was given, one write after another.
use Rattle.std.proofs.Common.{subst, Result, Ok, Err, ◌≡◌, ℕ, List, [], ◌++◌, length, take, drop, refl, sym, ap, ◌∙◌}
use Rattle.std.proofs.Common.{append_assoc, take-append-drop, ◌-◌, arith}
use Rattle.std.proofs.lemmas.Grind.{common_steps}
use Rattle.std.specs.Prelude.{Option}
use Rattle.std.specs.Io.KnownBytes.{Appends, Keeps}
use Rattle.std.proofs.KnownBytes.{Appends-nil, Appends-trans, Appends-kept}
use Rattle.std.specs.Result.{IsErrAnd}
use Rattle.demangle_context.specs.declared.error.SinkFault.{SinkFault}
use Rattle.demangle_context.specs.declared.error.SinkFault.TheVariants as fault
use Rattle.cppfilt_ends.specs.Causes.{SinkCause}
use Rattle.cppfilt_ends.specs.Moves.{Moves, Begins, Gives}

-- nothing was given yet
pub moves-none : (a : Option (List ℕ)) (whole : List ℕ) → Moves a a whole whole
moves-none a whole = record { given = []; appends = Appends-nil a; parts = refl }

-- one write after others
pub moves-then : (a b c : Option (List ℕ)) (x y z : List ℕ) → Moves a b x y → Moves b c y z → Moves a c x z
moves-then a b c x y z p q = record {
  given = p.given ++ q.given;
  appends = Appends-trans a b c p.given q.given p.appends q.appends;
  parts = p.parts ∙ ap (λ l. p.given ++ l) q.parts ∙ sym (append_assoc p.given q.given z);
}

-- a write of the front of what is due
pub moves-front : (a b : Option (List ℕ)) (n : ℕ) (x : List ℕ) → Appends a b (take n x) → Moves a b x (drop n x)
moves-front a b n x p = record { given = take n x; appends = p; parts = sym (take-append-drop n x) }

-- a refused write
pub moves-kept : (a b c : Option (List ℕ)) (x y : List ℕ) → Moves a b x y → Keeps b c → Moves a c x y
moves-kept a b c x y p q =
    record { given = p.given; appends = Appends-kept a b c p.given p.appends q; parts = p.parts }

-- bytes that come behind
pub moves-more : (a b : Option (List ℕ)) (x y more : List ℕ) → Moves a b x y → Moves a b (x ++ more) (y ++ more)
moves-more a b x y more p = record {
  given = p.given;
  appends = p.appends;
  parts = ap (λ l. l ++ more) p.parts ∙ append_assoc p.given y more;
}

-- writes that were not all
pub begins : (a b : Option (List ℕ)) (x y : List ℕ) → Moves a b x y → Begins a b x
begins a b x y p = record { after = y; moves = p }

pub begins-then : (a b c : Option (List ℕ)) (x y : List ℕ) → Moves a b x y → Begins b c y → Begins a c x
begins-then a b c x y p q = record { after = q.after; moves = moves-then a b c x y q.after p q.moves }

pub begins-more : (a b : Option (List ℕ)) (x more : List ℕ) → Begins a b x → Begins a b (x ++ more)
begins-more a b x more p = record { after = p.after ++ more; moves = moves-more a b x p.after more p.moves }

pub begins-none : (a : Option (List ℕ)) (whole : List ℕ) → Begins a a whole
begins-none a whole = record { after = whole; moves = moves-none a whole }

-- a write of the front of what is still due; the rest as code cuts it
pub moves-tail : (a b c : Option (List ℕ)) (n : ℕ) (x y : List ℕ) → Moves a b x y → Appends b c (take n y)
    → Moves a c x (take (length y - n) (drop n y))
moves-tail a b c n x y p q =
    let rest : take (length y - n) (drop n y) ≡ drop n y = grind (arith, common_steps) in
    rw rest (moves-then a b c x y (drop n y) p (moves-front b c n y q))

-- once all that was gathered is written, what comes behind it is due
pub flushed : (a b : Option (List ℕ)) (x more : List ℕ) → Moves a b x [] → Moves a b (x ++ more) more
flushed a b x more p = moves-more a b x [] more p

-- two pieces, one behind the other
pub begins-first : (a b : Option (List ℕ)) (x p q : List ℕ) → Begins a b (x ++ p) → Begins a b (x ++ (p ++ q))
begins-first a b x p q m = rw (← append_assoc x p q) (begins-more a b (x ++ p) q m)

-- ---- what calls gave, by their answers
-- a refusal that is handed on
pub refusal : {T : Type 0} (a b : Option (List ℕ)) (w0 w1 : ℕ) (r : Result T SinkFault) (e : SinkFault) (x y : List ℕ)
    → IsErrAnd r (λ e'. e' ≡ e)
    → SinkCause {T = Unit {0}} w0 w1 (Err e) × Begins a b x → Gives a b w0 w1 r x y
refusal a b w0 w1 (Ok u) e x y is g = absurd is
refusal a b w0 w1 (Err fault.Failed) fault.Failed x y is g = g
refusal a b w0 w1 (Err fault.OutOfMemory) fault.OutOfMemory x y is g = g
refusal a b w0 w1 (Err fault.Failed) fault.OutOfMemory x y is g = absurd cc
refusal a b w0 w1 (Err fault.OutOfMemory) fault.Failed x y is g = absurd cc

-- a refusal before anything was given
pub refusal-none : {T : Type 0} (a : Option (List ℕ)) (w : ℕ) (r : Result T SinkFault) (x y : List ℕ)
    → IsErrAnd r (λ e. e ≡ fault.OutOfMemory) → Gives a a w w r x y
refusal-none a w r x y is = refusal a a w w r fault.OutOfMemory x y is (refl, begins-none a x)

-- a refusal after a call that wasn't one
pub cause-then : (w0 w1 w2 : ℕ) (e : SinkFault) → w1 ≡ w0 → SinkCause {T = Unit {0}} w1 w2 (Err e)
    → SinkCause {T = Unit {0}} w0 w2 (Err e)
cause-then w0 w1 w2 e same cause = subst (λ w. SinkCause {T = Unit {0}} w w2 (Err e)) same cause

-- one call after another
pub gives-then : {T : Type 0} (a b c : Option (List ℕ)) (w0 w1 w2 : ℕ) (r : Result T SinkFault) (x y z : List ℕ)
    → (w1 ≡ w0) × Moves a b x y → Gives b c w1 w2 r y z → Gives a c w0 w2 r x z
gives-then a b c w0 w1 w2 (Ok u) x y z p q = (q.0 ∙ p.0, moves-then a b c x y z p.1 q.1)
gives-then a b c w0 w1 w2 (Err fault.Failed) x y z p q = (rw (← p.0) q.0, begins-then a b c x y p.1 q.1)
gives-then a b c w0 w1 w2 (Err fault.OutOfMemory) x y z p q = (q.0 ∙ p.0, begins-then a b c x y p.1 q.1)

-- two pieces, one behind the other
pub gives-both : {T : Type 0} (a b c : Option (List ℕ)) (w0 w1 w2 : ℕ) (r : Result T SinkFault) (x p q y z : List ℕ)
    → (w1 ≡ w0) × Moves a b (x ++ p) y → Gives b c w1 w2 r (y ++ q) z → Gives a c w0 w2 r (x ++ (p ++ q)) z
gives-both a b c w0 w1 w2 r x p q y z m n =
    rw (← append_assoc x p q)
    (gives-then a b c w0 w1 w2 r (x ++ p ++ q) (y ++ q) z (m.0, moves-more a b (x ++ p) y q m.1) n)

-- bytes that come behind
pub gives-more : {T : Type 0} (a b : Option (List ℕ)) (w0 w1 : ℕ) (r : Result T SinkFault) (x y more : List ℕ)
    → Gives a b w0 w1 r x y → Gives a b w0 w1 r (x ++ more) (y ++ more)
gives-more a b w0 w1 (Ok u) x y more g = (g.0, moves-more a b x y more g.1)
gives-more a b w0 w1 (Err e) x y more g = (g.0, begins-more a b x more g.1)

pub ruleset move_laws = (
  moves-none,
  moves-then,
  moves-front,
  moves-kept,
  moves-more,
  begins,
  begins-then,
  begins-more,
  begins-none,
  flushed,
)
