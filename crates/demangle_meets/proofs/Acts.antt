-- One lemma for each item of an act: the call that does it, and what was done behind it.
use Rattle.std.proofs.Common.{◌≡◌, ℕ, Bool, true, false, List, [], Option, Some, None}
use Rattle.std.proofs.Common.{refl, sym, ◌∙◌, ap, subst}
use Rattle.std.proofs.lemmas.List.{append-nil}
use Rattle.demangle_core.specs.Core.{Core}
use Rattle.demangle_printing.specs.State.{Fault, Flag, State, Answer, yes, no, bind, written}
use Rattle.demangle_printing.specs.State.{spaced, flagged, popped}
use Rattle.demangle_printing.specs.Scope.{Scope}
use Rattle.demangle_printing.specs.Act.{Job, Act, done, text, space, fail, call, block, ask, pop, set}
use Rattle.demangle_printing.specs.Act.{named, act, owned}
use Rattle.demangle_printing.specs.Reader.{chosen}
use Rattle.demangle_printing.specs.Laws.{After, Does, OwnDoes}
use Rattle.demangle_meets.specs.Page.{Page, Trouble, at}
use Rattle.demangle_meets.specs.Goes.{Goes}
use Rattle.demangle_meets.specs.Place.{Place}
use Rattle.demangle_meets.specs.Calls.{Keeps, Steps, PopsOwn}
use Rattle.demangle_meets.specs.Meets.{deeper, fitting, Ready, Meets, Closes}
use Rattle.demangle_meets.proofs.Told.{after_none}
use Rattle.demangle_meets.proofs.Goes.{no_trouble, goes_then, goes_after, goes_as, goes_nowhere}

-- ---- items that are set aside
pub keeps_then : {p : Place} {a m b : Page} {g : State Core → Answer Core} {T : Type 0} → Keeps a m → Goes p m b g T →
    Keeps m b → Keeps a b
keeps_then {p} {a} {m} {b} {g} {T} c d q = record { is = λ n z. by n z m.trouble refl }
  where
    by : a.trouble ≡ None → b.trouble ≡ None → (x : Option Trouble) → m.trouble ≡ x → b.aside ≡ a.aside
    by n z None e = q.is e z ∙ c.is n e
    by n z (Some t) e = no_trouble t b.trouble z (d.stays t e).1

-- without trouble at the end there was none before
pub was_well : {p : Place} {a b : Page} {g : State Core → Answer Core} {S : Type 0} → Goes p a b g S →
    b.trouble ≡ None → a.trouble ≡ None
was_well {p} {a} {b} d z = by a.trouble refl
  where
    by : (x : Option Trouble) → a.trouble ≡ x → a.trouble ≡ None
    by None e = e
    by (Some t) e = no_trouble t b.trouble z (d.stays t e).1

-- ---- one step, and then an act
pub then_act : {p : Place} {a m b : Page} {g : State Core → Answer Core} {S V : Type 0} {k : Act Core} →
    Goes p a m g S → Keeps a m → Meets p m b k → (V → S) → (V → After (Ready p k a.aside) (g (at p.level a))) →
    Goes p a b (λ s. bind (g s) (act (deeper p) k)) V
then_act {p} {a} {m} {k = k} d same q left right =
    goes_then d q.goes left (λ n e v. subst (λ z. Ready p k z (at p.level m)) (sym (same.is n e))
    (goes_after (Ready p k a.aside) d n e (right v)))

-- the same of a step that only changes the state
pub quiet_then : {p : Place} {a m b : Page} {to : State Core → State Core} {S V : Type 0} {k : Act Core} →
    Goes p a m (λ s. yes [] (to s)) S → Keeps a m → Meets p m b k → (V → S) →
    (V → Ready p k a.aside (to (at p.level a))) → Goes p a b (λ s. act (deeper p) k (to s)) V
quiet_then d same q left right = goes_as (λ _. sym (after_none _)) (λ _ v. v) (then_act d same q left right)

-- ---- texts
pub meets_done : {p : Place} {a : Page} → Meets p a a done
unfolding act
meets_done = record { goes = goes_nowhere; same = record { is = λ n z. refl } }

-- behind a step that tells nothing and changes nothing
pub meets_silent : {p : Place} {a m b : Page} {k : Act Core} → Steps a m (λ s. yes [] s) → Meets p m b k → Meets p a b k
meets_silent {p} d q =
    record {
      goes = quiet_then {to = λ s. s} (d.at_place p) d.same q (λ v. tt) (λ v. v);
      same = keeps_then d.same q.goes q.same;
    }

pub meets_text : {p : Place} {a m b : Page} {bs : List ℕ} {k : Act Core} → Steps a m (written bs) → Meets p m b k →
    Meets p a b (text bs k)
unfolding act Does
meets_text {p} d q =
    record {
      goes = then_act (d.at_place p) d.same q (λ v. tt) (λ v. v);
      same = keeps_then d.same q.goes q.same;
    }

pub meets_space : {p : Place} {a m b : Page} {k : Act Core} → Steps a m spaced → Meets p m b k → Meets p a b (space k)
unfolding act Does
meets_space {p} d q =
    record {
      goes = then_act (d.at_place p) d.same q (λ v. tt) (λ v. v);
      same = keeps_then d.same q.goes q.same;
    }

pub meets_fail : {p : Place} {a b : Page} {f : Fault} → Steps a b (λ s. no [] f) → Meets p a b (fail f)
unfolding act Does
meets_fail {p} d = record { goes = goes_as (λ _. refl) (λ _ v. tt) (d.at_place p); same = d.same }

-- ---- acts
pub meets_block : {p : Place} {a m b : Page} {f k : Act Core} → Meets p a m f → Meets p m b k →
    Meets p a b (block f k)
unfolding act Does
meets_block d q =
    record {
      goes = then_act d.goes d.same q (λ v. v.0) (λ v. v.1);
      same = keeps_then d.same q.goes q.same;
    }

-- an act that is done one level deeper
after_any : {X : Type 0} (x : Answer X) → After (λ t. Unit {0}) x
after_any (yes m s) = tt
after_any (no m f) = tt

bind_done : (p : Place) (x : Answer Core) → bind x (act (deeper p) done) ≡ x
unfolding act
bind_done p (yes m s) = ap (λ k. yes k s) (append-nil m)
bind_done p (no m f) = refl

pub meets_job : {p : Place} {a b : Page} {j : Job Core} {sc : Scope Core} →
    Goes p a b (deeper p j sc) (fitting p a.aside j sc (at p.level a)) → Keeps a b → Meets p a b (call j sc done)
unfolding act Does
meets_job {p} {a} {j = j} {sc = sc} d same =
    record { goes = goes_as (λ _. bind_done p (deeper p j sc (at p.level a))) (λ _ v. v.0) d; same = same }

pub job_meets : {p : Place} {a b : Page} {j : Job Core} {sc : Scope Core} → Meets p a b (call j sc done) →
    Goes p a b (deeper p j sc) (fitting p a.aside j sc (at p.level a))
unfolding act Does
job_meets {p} {a} {j = j} {sc = sc} d =
    goes_as (λ _. sym (bind_done p (deeper p j sc (at p.level a)))) (λ _ v. (v, after_any _)) d.goes

pub meets_call : {p : Place} {a m b : Page} {j : Job Core} {sc : Scope Core} {k : Act Core} →
    Meets p a m (call j sc done) → Meets p m b k → Meets p a b (call j sc k)
unfolding act Does
meets_call {p} {a} {j = j} {sc = sc} d q =
    record {
      goes = then_act {g = deeper p j sc} (job_meets d) d.same q (λ v. v.0) (λ v. v.1);
      same = keeps_then d.same q.goes q.same;
    }

-- An act that depends on the state, where it is known what it is.
pub meets_ask : {p : Place} {a m b : Page} {f : State Core → Act Core} {g k : Act Core} →
    (a.trouble ≡ None → f (at p.level a) ≡ g) → Meets p a m g → Meets p m b k → Meets p a b (ask f k)
unfolding act Does
meets_ask {p} {a} {f = f} {g = g} e d q =
    record {
      goes = then_act {g = λ s. act (deeper p) (f s) s}
          (goes_as (λ n. ap (λ y. act (deeper p) y (at p.level a)) (e n))
          (λ n v. subst (λ y. Ready p y a.aside (at p.level a)) (e n) v) d.goes)
          d.same q (λ v. v.0) (λ v. v.1);
      same = keeps_then d.same q.goes q.same;
    }

-- Of two acts the one that the state chooses.
pub meets_choose_on : {p : Place} {a m b : Page} {f k : Act Core} (c : State Core → Bool) (g : Act Core) →
    (a.trouble ≡ None → c (at p.level a) ≡ true) → Meets p a m f → Meets p m b k →
    Meets p a b (ask (λ s. chosen (c s) f g) k)
meets_choose_on {f = f} c g e d q = meets_ask (λ n. ap (λ v. chosen v f g) (e n)) d q

pub meets_choose_off : {p : Place} {a m b : Page} {g k : Act Core} (c : State Core → Bool) (f : Act Core) →
    (a.trouble ≡ None → c (at p.level a) ≡ false) → Meets p a m g → Meets p m b k →
    Meets p a b (ask (λ s. chosen (c s) f g) k)
meets_choose_off {g = g} c f e d q = meets_ask (λ n. ap (λ v. chosen v f g) (e n)) d q

-- ---- inner items
pub closes_own : {p : Place} {a m b : Page} {own : Act Core} → PopsOwn p.level a m true → Meets p m b own →
    Closes p a b own
closes_own {p} {a} {own = own} d q =
    record {
      goes = goes_as (λ n. ap (λ v. owned (deeper p) v (act (deeper p) own) (at p.level a)) (d.0 n))
          (λ n v. subst (λ y. OwnDoes (deeper p) (fitting p) y (Ready p own a.aside) (at p.level a)) (d.0 n) v)
          (quiet_then {V = Ready p own a.aside (popped (at p.level a))} (d.1.at_place p) d.1.same q (λ v. tt)
          (λ v. v));
      same = keeps_then d.1.same q.goes q.same;
    }

pub closes_other : {p : Place} {a b : Page} {own : Act Core} → PopsOwn p.level a b false → Closes p a b own
closes_other {p} {a} {own = own} d =
    record {
      goes = goes_as (λ n. ap (λ v. owned (deeper p) v (act (deeper p) own) (at p.level a)) (d.0 n)) (λ n v. tt)
          (d.1.at_place p);
      same = d.1.same;
    }

pub meets_pop : {p : Place} {a m b : Page} {k : Act Core} → Steps a m (λ s. yes [] (popped s)) → Meets p m b k →
    Meets p a b (pop k)
unfolding act Does
meets_pop {p} d q =
    record {
      goes = quiet_then (d.at_place p) d.same q (λ v. tt) (λ v. v);
      same = keeps_then d.same q.goes q.same;
    }

-- ---- flags and names
pub meets_set : {p : Place} {a m b : Page} {i : Flag} {v : Bool} {k : Act Core} →
    Steps a m (λ s. yes [] (flagged i v s)) → Meets p m b k → Meets p a b (set i v k)
unfolding act Does
meets_set {p} d q =
    record {
      goes = quiet_then (d.at_place p) d.same q (λ v. tt) (λ v. v);
      same = keeps_then d.same q.goes q.same;
    }

pub meets_named : {p : Place} {a m b : Page} {bs : List ℕ} {k : Act Core} →
    Steps a m (λ s. yes [] (record s { source = Some bs })) → Meets p m b k → Meets p a b (named bs k)
unfolding act Does
meets_named {p} d q =
    record {
      goes = quiet_then (d.at_place p) d.same q (λ v. tt) (λ v. v);
      same = keeps_then d.same q.goes q.same;
    }

-- A name, and behind it a fault.
pub meets_named_fails : {p : Place} {a b : Page} {bs : List ℕ} {f : Fault} {k : Act Core} → Steps a b (λ s. no [] f) →
    Meets p a b (named bs (block (fail f) k))
unfolding act Does
meets_named_fails {p} d =
    record { goes = goes_as (λ _. refl) (λ _ v. tt) (d.at_place p); same = d.same }
