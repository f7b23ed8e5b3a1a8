-- Answers one after the other, and what a listener was told of them.
use Rattle.std.proofs.Common.{◌≡◌, ℕ, suc, ◌≤◌, List, [], ◌∷◌, ◌++◌, Option, Some, None, refl, sym, ◌∙◌}
use Rattle.std.proofs.Common.{ap, subst, arith}
use Rattle.std.specs.Char.{encode_utf8}
use Rattle.std.proofs.lemmas.List.{append_assoc, append-nil}
use Rattle.demangle_core.specs.Core.{Core}
use Rattle.demangle_printing.specs.State.{Event, byte, opened, closed, Fault, State, Answer, yes, no, after, bind}
use Rattle.demangle_printing.specs.Laws.{open_behind, closes, After}
use Rattle.demangle_printing.specs.Outcome.{text_of}
use Rattle.demangle_meets.specs.Seen.{Seen, Told, LastChar}
use Rattle.demangle_meets.specs.Page.{Page}
use Rattle.demangle_meets.specs.Goes.{Whole, events, ends, StandOpen, Stopped, Cut}
use Rattle.demangle_meets.proofs.Heard.{text_append, told_then, told_silent}

-- ---- answers
pub after_after : {X : Type 0} (m n : List Event) (x : Answer X) → after m (after n x) ≡ after (m ++ n) x
after_after m n (yes k s) = ap (λ z. yes z s) (sym (append_assoc m n k))
after_after m n (no k f) = ap (λ z. no z f) (sym (append_assoc m n k))

pub after_none : {X : Type 0} (x : Answer X) → after [] x ≡ x
after_none (yes k s) = refl
after_none (no k f) = refl

pub after_bind : {X : Type 0} (m : List Event) (x : Answer X) (go : State X → Answer X) →
    after m (bind x go) ≡ bind (after m x) go
after_bind m (yes k s) go = after_after m k (go s)
after_bind m (no k f) go = refl

-- ---- the last character
last_then : (s t : List ℕ) (a m b : Option ℕ) → LastChar s a m → LastChar t m b → LastChar (s ++ t) a b
last_then s [] a m b p q = subst (λ z. LastChar z a b) (sym (append-nil s)) (subst (LastChar s a) (sym q) p)
last_then [] (x ∷ xs) a m b p q = q
last_then (y ∷ ys) (x ∷ xs) a m b p q = (
  q.0,
  q.1,
  record {
    front = (y ∷ ys) ++ q.2.front;
    is = ap (λ z. (y ∷ ys) ++ z) q.2.is ∙ sym (append_assoc (y ∷ ys) q.2.front (encode_utf8 q.0));
  },
)

-- What holds behind an answer holds of the state that it leaves.
pub whole_after : {a b : Page} (P : State Core → Type 0) (x : Answer Core) (s : State Core) → Whole a b x s →
    After P x → P s
whole_after P x s w p = subst (After P) w.is p

pub whole_then : {a m b : Page} {x : Answer Core} {s t : State Core} (go : State Core → Answer Core) →
    Whole a m x s → Whole m b (go s) t → Whole a b (bind x go) t
whole_then {a} {m} {b} go p q =
    record {
      all = p.all ++ q.all;
      is = ap (λ y. bind y go) p.is ∙ ap (after p.all) q.is;
      told = told_then p.told q.told;
      last = subst (λ z. LastChar z a.last_char b.last_char) (sym (text_append p.all q.all))
          (last_then (text_of p.all) (text_of q.all) a.last_char m.last_char b.last_char p.last q.last);
    }

pub whole_as : {a b : Page} {x y : Answer Core} {s : State Core} → y ≡ x → Whole a b x s → Whole a b y s
whole_as e w = record { all = w.all; is = e ∙ w.is; told = w.told; last = w.last }

-- ---- events
pub events_after : {X : Type 0} (m : List Event) (x : Answer X) → events (after m x) ≡ m ++ events x
events_after m (yes k s) = refl
events_after m (no k f) = refl

-- ---- nodes that stand open
open_none : (k : List Event) → open_behind k None ≡ None
open_none [] = refl
open_none (e ∷ k) = refl

pub open_then : (m k : List Event) (o : Option ℕ) → open_behind (m ++ k) o ≡ open_behind k (open_behind m o)
open_then [] k o = refl
open_then (e ∷ m) k None = sym (open_none k)
open_then (byte b ∷ m) k (Some n) = open_then m k (Some n)
open_then (opened c ∷ m) k (Some n) = open_then m k (Some (suc n))
open_then (closed ∷ m) k (Some n) = open_then m k (closes n)

pub stand_none : (m : List Event) → StandOpen 0 m
stand_none m n j e = omega arith

stand_from : (d : ℕ) (k : List Event) (o : Option ℕ) (j : ℕ) → StandOpen d k → open_behind k o ≡ Some j → d ≤ j
stand_from d k None j p e = absurd (let same : None ≡ Some j = sym (open_none k) ∙ e in cc)
stand_from d k (Some n) j p e = p n j e

pub stand_behind : (d : ℕ) (m k : List Event) → StandOpen d k → StandOpen d (m ++ k)
stand_behind d m k p n j e = stand_from d k (open_behind m (Some n)) j p (sym (open_then m k (Some n)) ∙ e)

-- ---- what was told behind what had been told
pub stopped_behind : {x y : Answer Core} {old mid new : Seen} {f : Fault} (k : List Event) → y ≡ after k x →
    Told old mid k → Stopped mid new x f → Stopped old new y f
stopped_behind {old = old} {new = new} k e told p =
    record {
      before = k ++ p.before;
      ended = p.ended;
      is = e ∙ ap (after k) p.is;
      told = subst (Told old new) (sym (append_assoc k p.before (ends p.ended))) (told_then told p.told);
      were_open = stand_behind p.ended k p.before p.were_open;
    }

pub cut_behind : {x y : Answer Core} {old mid new : Seen} (k : List Event) → y ≡ after k x → Told old mid k →
    Cut mid new x → Cut old new y
cut_behind {x = x} {old = old} {new = new} k e told p =
    record {
      front = k ++ p.front;
      others = p.others;
      ended = p.ended;
      is = ap events e ∙ (events_after k x ∙ (ap (λ z. k ++ z) p.is ∙ sym (append_assoc k p.front p.others)));
      told = subst (Told old new) (sym (append_assoc k p.front (ends p.ended))) (told_then told p.told);
      were_open = stand_behind p.ended k p.front p.were_open;
    }

-- What was told of the first of two is a front of what is told of both, where nothing is told of the second.
pub cut_before : {old mid new : Seen} (x : Answer Core) (go : State Core → Answer Core) → Cut old mid x →
    Told mid new [] → Cut old new (bind x go)
cut_before (yes m s) go p q =
    record {
      front = p.front;
      others = p.others ++ events (go s);
      ended = p.ended;
      is = events_after m (go s)
          ∙ (ap (λ z. z ++ events (go s)) p.is ∙ append_assoc p.front p.others (events (go s)));
      told = told_silent p.told q;
      were_open = p.were_open;
    }
cut_before (no m f) go p q =
    record {
      front = p.front;
      others = p.others;
      ended = p.ended;
      is = p.is;
      told = told_silent p.told q;
      were_open = p.were_open;
    }

-- The fault of the first of two is that of both.
pub stopped_before : {old mid new : Seen} {f : Fault} (x : Answer Core) (go : State Core → Answer Core) →
    Stopped old mid x f → Told mid new [] → Stopped old new (bind x go) f
stopped_before x go p q =
    record {
      before = p.before;
      ended = p.ended;
      is = ap (λ z. bind z go) p.is;
      told = told_silent p.told q;
      were_open = p.were_open;
    }
