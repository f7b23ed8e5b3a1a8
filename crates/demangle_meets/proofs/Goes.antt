-- The relation: one after the other, the same of another function, a level deeper; and the steps of a context.
use Rattle.std.proofs.Common.{◌≡◌, ℕ, ◌+◌, ◌≤◌, [], Option, Some, None, refl, sym}
use Rattle.std.proofs.Common.{◌∙◌, ap, subst}
use Rattle.demangle_core.specs.Core.{Core}
use Rattle.demangle_printing.specs.State.{Fault, State, Answer, yes, after, bind}
use Rattle.demangle_printing.specs.Laws.{After}
use Rattle.demangle_meets.specs.Page.{Page, Trouble, fault, lost, Loss, failed, refused, full, at}
use Rattle.demangle_meets.specs.Place.{Place}
use Rattle.demangle_meets.specs.Goes.{Whole, Stopped, Cut, Rose, Counts, Goes}
use Rattle.demangle_meets.proofs.Heard.{told_nothing, told_then}
use Rattle.demangle_meets.proofs.Told.{whole_after, whole_then, whole_as, stopped_behind, cut_behind, cut_before}
use Rattle.demangle_meets.proofs.Told.{stopped_before}

-- ---- trouble
pub no_trouble : {A : Type 0} (t : Trouble) (x : Option Trouble) → x ≡ None → x ≡ Some t → A
no_trouble t x e f = absurd (let k : None ≡ Some t = sym e ∙ f in cc)

-- ---- counts
pub counts_then : {why : Loss} {i j k : ℕ} {x y z : Option Trouble} → ((t : Trouble) → x ≡ Some t → y ≡ Some t) →
    ((t : Trouble) → y ≡ Some t → z ≡ Some t) →
    Counts why i j x y → Counts why j k y z → Counts why i k x z
counts_then {why} {i} {j} {k} {x} {y} {z} f g p q =
    let
    rose : (o : Option Trouble) → y ≡ o → x ≡ None → z ≡ Some (lost why) → Rose i k =
    elim [
      | None ↦ λ e n h. subst (λ v. Rose v k) (p.same n (λ u. no_trouble (lost why) y e u)) (q.rose e h)
      | Some t ↦ λ e n h. subst (Rose i) (sym (q.stays t e)) (p.rose n (e ∙ (sym (g t e) ∙ h)))
    ]
    in
    let
    same : (o : Option Trouble) → y ≡ o → x ≡ None → (z ≡ Some (lost why) → ⊥) → k ≡ i =
    elim [
      | None ↦ λ e n h. q.same e h ∙ p.same n (λ u. no_trouble (lost why) y e u)
      | Some t ↦ λ e n h. q.stays t e ∙ p.same n (λ u. h (g (lost why) u))
    ]
    in
    record {
      rose = rose y refl;
      same = same y refl;
      stays = λ t e. q.stays t (f t e) ∙ p.stays t e;
    }

-- where nothing is counted
pub counts_same : {why : Loss} {i j : ℕ} {x y : Option Trouble} → j ≡ i → (x ≡ None → y ≡ Some (lost why) → ⊥) →
    Counts why i j x y
counts_same e n =
    record { rose = λ h z. absurd (n h z); same = λ h z. e; stays = λ t h. e }

-- ---- one after the other
pub goes_then : {p : Place} {a m b : Page} {g h : State Core → Answer Core} {S T V : Type 0} → Goes p a m g S →
    Goes p m b h T → (V → S) → (a.trouble ≡ None → m.trouble ≡ None → V → T) → Goes p a b (λ s. bind (g s) h) V
goes_then {p} {a} {m} {b} {g} {h} {S} {T} {V} d q left right =
    let
    behind : (n : a.trouble ≡ None) (e : m.trouble ≡ None) →
    bind (g (at p.level a)) h ≡ after (d.done n e).all (h (at p.level m)) =
    λ n e. ap (λ z. bind z h) (d.done n e).is
    in
    let
    done_by : (x : Option Trouble) → m.trouble ≡ x → a.trouble ≡ None → b.trouble ≡ None →
    Whole a b (bind (g (at p.level a)) h) (at p.level b) =
    elim [
      | None ↦ λ e n z. whole_then h (d.done n e) (q.done e z)
      | Some t ↦ λ e n z. no_trouble t b.trouble z (q.stays t e).1
    ]
    in
    let
    stopped_by : (f : Fault) (x : Option Trouble) → m.trouble ≡ x → a.trouble ≡ None → b.trouble ≡ Some (fault f) →
    Stopped a.seen b.seen (bind (g (at p.level a)) h) f =
    λ f. elim [
      | None ↦ λ e n z. stopped_behind (d.done n e).all (behind n e) (d.done n e).told (q.stopped f e z)
      | Some t ↦ λ e n z. stopped_before (g (at p.level a)) h (d.stopped f n (e ∙ (sym (q.stays t e).1 ∙ z)))
          (q.stays t e).0
    ]
    in
    let
    cut_by : (c : Loss) (x : Option Trouble) → m.trouble ≡ x → a.trouble ≡ None → b.trouble ≡ Some (lost c) →
    Cut a.seen b.seen (bind (g (at p.level a)) h) =
    λ c. elim [
      | None ↦ λ e n z. cut_behind (d.done n e).all (behind n e) (d.done n e).told (q.cut c e z)
      | Some t ↦ λ e n z. cut_before (g (at p.level a)) h (d.cut c n (e ∙ (sym (q.stays t e).1 ∙ z))) (q.stays t e).0
    ]
    in
    let
    fits_by : (x : Option Trouble) → m.trouble ≡ x → a.trouble ≡ None → b.trouble ≡ Some (lost full) → V →
    a.fixed.reserved ≤ p.level + p.left =
    elim [
      | None ↦ λ e n z v. subst (λ k. k.reserved ≤ p.level + p.left) d.fixed (q.fits e z (right n e v))
      | Some t ↦ λ e n z v. d.fits n (e ∙ (sym (q.stays t e).1 ∙ z)) (left v)
    ]
    in
    record {
      done = done_by m.trouble refl;
      stopped = λ f. stopped_by f m.trouble refl;
      cut = λ c. cut_by c m.trouble refl;
      fits = fits_by m.trouble refl;
      fixed = q.fixed ∙ d.fixed;
      faults = counts_then (λ t e. (d.stays t e).1) (λ t e. (q.stays t e).1) d.faults q.faults;
      refusals = counts_then (λ t e. (d.stays t e).1) (λ t e. (q.stays t e).1) d.refusals q.refusals;
      stays = λ t e. (told_then (d.stays t e).0 (q.stays t (d.stays t e).1).0, (q.stays t (d.stays t e).1).1);
    }

-- What holds behind what was done holds of the page that it leaves.
pub goes_after : {p : Place} {a m : Page} {g : State Core → Answer Core} {S : Type 0} (P : State Core → Type 0) →
    Goes p a m g S → a.trouble ≡ None → m.trouble ≡ None → After P (g (at p.level a)) → P (at p.level m)
goes_after {p} {a} {m} {g} P d n e h = whole_after P (g (at p.level a)) (at p.level m) (d.done n e) h

-- The same of what answers the same wherever no trouble is.
pub goes_as : {p : Place} {a b : Page} {g h : State Core → Answer Core} {S T : Type 0} →
    (a.trouble ≡ None → h (at p.level a) ≡ g (at p.level a)) → (a.trouble ≡ None → T → S) → Goes p a b g S →
    Goes p a b h T
goes_as {p} {a} {b} {g} {h} {S} {T} e r d =
    record {
      done = λ n z. whole_as (e n) (d.done n z);
      stopped = λ f n z. subst (λ y. Stopped a.seen b.seen y f) (sym (e n)) (d.stopped f n z);
      cut = λ c n z. subst (λ y. Cut a.seen b.seen y) (sym (e n)) (d.cut c n z);
      fits = λ n z t. d.fits n z (r n t);
      fixed = d.fixed;
      faults = d.faults;
      refusals = d.refusals;
      stays = d.stays;
    }

-- Nothing.
pub goes_nowhere : {p : Place} {a : Page} {S : Type 0} → Goes p a a (λ s. yes [] s) S
goes_nowhere {p} {a} =
    record {
      done = λ n z. record { all = []; is = refl; told = told_nothing a.seen; last = refl };
      stopped = λ f n z. no_trouble (fault f) a.trouble n z;
      cut = λ c n z. no_trouble (lost c) a.trouble n z;
      fits = λ n z v. no_trouble (lost full) a.trouble n z;
      fixed = refl;
      faults = counts_same refl (λ n z. no_trouble (lost failed) a.trouble n z);
      refusals = counts_same refl (λ n z. no_trouble (lost refused) a.trouble n z);
      stays = λ t e. (told_nothing a.seen, e);
    }
