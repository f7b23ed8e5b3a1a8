-- What a listener was told, one after the other, and what it tells of it.
use Rattle.std.proofs.Common.{◌≡◌, ℕ, List, [], ◌∷◌, ◌++◌, map, Option, Some, None, refl, sym, ◌∙◌, ap, subst}
use Rattle.std.proofs.Common.{append_assoc, append-nil}
use Rattle.demangle_printing.specs.State.{Event, byte, opened, closed}
use Rattle.demangle_printing.specs.Outcome.{text_of}
use Rattle.demangle_meets.specs.Seen.{Call, piece, begins, ends, Seen, Grows, events_of, HaveText, Told}
use Rattle.demangle_meets.specs.Laws.{HeardCalls, TellsCalls, HeardText, TellsText}

-- ---- lists that are told
grows_same : {A : Type 0} (x : Option (List A)) → Grows x x []
grows_same None = tt
grows_same (Some xs) = sym (append-nil xs)

grows_then : {A : Type 0} (x y z : Option (List A)) (m n : List A) → Grows x y m → Grows y z n → Grows x z (m ++ n)
grows_then x y None m n p q = tt
grows_then x None (Some zs) m n p q = absurd q
grows_then None (Some ys) (Some zs) m n p q = absurd p
grows_then (Some xs) (Some ys) (Some zs) m n p q = q ∙ (ap (λ w. w ++ n) p ∙ append_assoc xs m n)

-- ---- calls and events
pub text_append : (m n : List Event) → text_of (m ++ n) ≡ text_of m ++ text_of n
text_append [] n = refl
text_append (byte b ∷ m) n = ap (λ w. b ∷ w) (text_append m n)
text_append (opened k ∷ m) n = text_append m n
text_append (closed ∷ m) n = text_append m n

pub text_bytes : (bs : List ℕ) → text_of (map byte bs) ≡ bs
text_bytes [] = refl
text_bytes (b ∷ bs) = ap (λ w. b ∷ w) (text_bytes bs)

events_append : (c d : List Call) → events_of (c ++ d) ≡ events_of c ++ events_of d
events_append [] d = refl
events_append (piece bs ∷ c) d =
    ap (λ w. map byte bs ++ w) (events_append c d) ∙ sym (append_assoc (map byte bs) (events_of c) (events_of d))
events_append (begins k ∷ c) d = ap (λ w. opened k ∷ w) (events_append c d)
events_append (ends ∷ c) d = ap (λ w. closed ∷ w) (events_append c d)

have_text : (c d : List Call) → HaveText c → HaveText d → HaveText (c ++ d)
have_text [] d p q = q
have_text (piece bs ∷ c) d p q = (p.0, have_text c d p.1 q)
have_text (begins k ∷ c) d p q = have_text c d p q
have_text (ends ∷ c) d p q = have_text c d p q

-- ---- what was told
pub told_nothing : (a : Seen) → Told a a []
told_nothing a =
    record { calls = []; are = refl; have_text = tt; text = grows_same a.text; heard = grows_same a.calls }

pub told_then : {a b c : Seen} {m n : List Event} → Told a b m → Told b c n → Told a c (m ++ n)
told_then {a} {b} {c} {m} {n} p q =
    record {
      calls = p.calls ++ q.calls;
      are = events_append p.calls q.calls ∙ (ap (λ w. w ++ events_of q.calls) p.are ∙ ap (λ w. m ++ w) q.are);
      have_text = have_text p.calls q.calls p.have_text q.have_text;
      text = subst (Grows a.text c.text) (sym (text_append m n))
          (grows_then a.text b.text c.text (text_of m) (text_of n) p.text q.text);
      heard = grows_then a.calls b.calls c.calls p.calls q.calls p.heard q.heard;
    }

pub told_silent : {a b c : Seen} {m : List Event} → Told a b m → Told b c [] → Told a c m
told_silent {a} {b} {c} {m} p q = subst (Told a c) (append-nil m) (told_then p q)

-- ---- listeners that tell
calls_of : (x : Option (List Call)) (old : Seen) (calls more : List Call) (m : List Event) → old.calls ≡ x →
    events_of more ≡ m → HaveText more → Grows x (Some calls) more → HeardCalls old calls m
calls_of None old calls more m was are have grown = absurd grown
calls_of (Some before) old calls more m was are have grown =
    record {
      before = before;
      more = more;
      was = was;
      is = grown;
      are = are;
      have_text = have;
      events = ap events_of grown ∙ (events_append before more ∙ ap (λ w. events_of before ++ w) are);
    }

pub tells_calls : TellsCalls
tells_calls old new m calls p e =
    calls_of old.calls old calls p.calls m refl p.are p.have_text (subst (λ x. Grows old.calls x p.calls) e p.heard)

text_in : (x : Option (List ℕ)) (old : Seen) (text : List ℕ) (m : List Event) → old.text ≡ x →
    Grows x (Some text) (text_of m) → HeardText old text m
text_in None old text m was grown = absurd grown
text_in (Some before) old text m was grown = record { before = before; was = was; is = grown }

pub tells_text : TellsText
tells_text old new m text p e =
    text_in old.text old text m refl (subst (λ x. Grows old.text x (text_of m)) e p.text)
