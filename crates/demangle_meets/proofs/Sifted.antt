-- Items that are done or kept, one after the other, from the top.
use Rattle.std.proofs.Common.{◌≡◌, ℕ, zero, suc, Bool, true, false, List, [], ◌∷◌, length, None, refl}
use Rattle.std.proofs.Common.{sym, ◌∙◌, ap, subst}
use Rattle.demangle_core.specs.Core.{Core}
use Rattle.demangle_printing.specs.State.{Held, State, Answer, yes, bind, popped}
use Rattle.demangle_printing.specs.Scope.{Scope}
use Rattle.demangle_printing.specs.Act.{Job, Act, done, call, sift, act, keeping, returned, sifted_item, sifted_from}
use Rattle.demangle_printing.specs.Act.{sifted}
use Rattle.demangle_printing.specs.Laws.{After, Does, IsReady, SiftsItem, SiftsFrom, SiftsAll}
use Rattle.demangle_meets.specs.Page.{Page, at}
use Rattle.demangle_meets.specs.Goes.{Goes}
use Rattle.demangle_meets.specs.Place.{Place}
use Rattle.demangle_meets.specs.Calls.{Keeps, Steps, KeepsTop, Returns}
use Rattle.demangle_meets.specs.Meets.{deeper, fitting, Ready, Meets, Sifts, RemainsToSift}
use Rattle.demangle_meets.proofs.Told.{after_none}
use Rattle.demangle_meets.proofs.Goes.{goes_then, goes_after, goes_as, goes_nowhere}
use Rattle.demangle_meets.proofs.Acts.{keeps_then, job_meets}

-- the top item is one of these, with what is known of it
item_at : (p : Place) (is_kept : Core → Bool) (doing : Core → Job Core × Scope Core) (n : ℕ) {a b : Page}
    {v : Bool} {h : Held Core} {hs : List (Held Core)} →
    (a.trouble ≡ None → a.inner ≡ h ∷ hs) → is_kept h.item ≡ v →
    Goes p a b (sifted_item (deeper p) doing h v (sifted (deeper p) is_kept doing n))
    (SiftsItem (deeper p) (fitting p) doing a.aside h v
    (SiftsAll (deeper p) (fitting p) is_kept doing a.aside n) (at p.level a)) →
    Goes p a b (sifted (deeper p) is_kept doing (suc n))
    (SiftsAll (deeper p) (fitting p) is_kept doing a.aside (suc n) (at p.level a))
item_at p is_kept doing n {a} {b} {v} {h} {hs} top is d =
    let
    more : State Core → Answer Core = sifted (deeper p) is_kept doing n
    in
    let
    More : State Core → Type 0 = SiftsAll (deeper p) (fitting p) is_kept doing a.aside n
    in
    goes_as (λ z. ap (λ y. sifted_from (deeper p) is_kept doing y more (at p.level a)) (top z)
    ∙ ap (λ u. sifted_item (deeper p) doing h u more (at p.level a)) is)
    (λ z r. subst (λ u. SiftsItem (deeper p) (fitting p) doing a.aside h u More (at p.level a)) is
    (subst (λ y. SiftsFrom (deeper p) (fitting p) is_kept doing a.aside y More (at p.level a)) (top z) r)) d

-- the top item is popped and done
item_done : (p : Place) (doing : Core → Job Core × Scope Core) (h : Held Core) {a m c : Page} →
    Steps a m (λ s. yes [] (popped s)) →
    Meets p m c (call (doing h.item).0 (doing h.item).1 done) →
    Goes p a c (λ s. deeper p (doing h.item).0 (doing h.item).1 (popped s))
    (fitting p a.aside (doing h.item).0 (doing h.item).1 (popped (at p.level a)))
item_done p doing h {a} {m} {c} d q =
    goes_as (λ _. sym (after_none _)) (λ _ r. r)
    (goes_then (d.at_place p) (job_meets q) (λ _. tt)
    (λ z y r. subst (λ u. fitting p u (doing h.item).0 (doing h.item).1 (at p.level m)) (sym (d.same.is z y))
    (goes_after (fitting p a.aside (doing h.item).0 (doing h.item).1) (d.at_place p) z y r)))

module _ {p : Place} {is_kept : Core → Bool} {doing : Core → Job Core × Scope Core} where
  -- no item is left, or as many were done as there were
  pub sifts_none : {a : Page} {n : ℕ} → (a.trouble ≡ None → a.inner ≡ []) → Sifts p a a is_kept doing n
  sifts_none {a = a} {n = zero} e = record { goes = goes_nowhere; same = record { is = λ _ _. refl } }
  sifts_none {a = a} {n = suc n} e =
      record {
        goes = goes_as
            (λ z. ap (λ y. sifted_from (deeper p) is_kept doing y (sifted (deeper p) is_kept doing n) (at p.level a))
            (e z)) (λ _ _. tt) (goes_nowhere {S = Unit {0}});
        same = record { is = λ _ _. refl };
      }

  pub sifts_over : {a : Page} → Sifts p a a is_kept doing 0
  sifts_over = record { goes = goes_nowhere; same = record { is = λ _ _. refl } }

  -- The top item is kept.
  pub sifts_kept : {a m b : Page} {n : ℕ} {h : Held Core} {hs : List (Held Core)} →
      (a.trouble ≡ None → a.inner ≡ h ∷ hs) → is_kept h.item ≡ true → KeepsTop a m h →
      Sifts p m b is_kept doing n → Sifts p a b is_kept doing (suc n)
  sifts_kept {a} {m} {b} {n} {h} {hs} top is d q =
      record {
        goes = item_at p is_kept doing n top is (goes_as (λ _. sym (after_none _)) (λ _ r. r)
            (goes_then (d.at_place p) q.goes
            (λ (r : IsReady a.aside (at p.level a)
            × SiftsAll (deeper p) (fitting p) is_kept doing a.aside n (keeping h (at p.level a))). r.0)
            (λ z y r. subst (λ u. SiftsAll (deeper p) (fitting p) is_kept doing u n (at p.level m))
            (sym (d.same.is z y))
            (goes_after (SiftsAll (deeper p) (fitting p) is_kept doing a.aside n) (d.at_place p) z y r.1))));
        same = keeps_then d.same q.goes q.same;
      }

  -- The top item is popped, and what of it stands behind done.
  pub sifts_done : {a m c b : Page} {n : ℕ} {h : Held Core} {hs : List (Held Core)} →
      (a.trouble ≡ None → a.inner ≡ h ∷ hs) → is_kept h.item ≡ false → Steps a m (λ s. yes [] (popped s)) →
      Meets p m c (call (doing h.item).0 (doing h.item).1 done) → Sifts p c b is_kept doing n →
      Sifts p a b is_kept doing (suc n)
  sifts_done {a} {m} {c} {b} {n} {h} {hs} top is d q r =
      let
      first = item_done p doing h d q
      in
      let
      same : Keeps a c = keeps_then d.same q.goes q.same
      in
      record {
        goes = item_at p is_kept doing n top is (goes_then first r.goes (λ v. v.0)
            (λ z y v. subst (λ u. SiftsAll (deeper p) (fitting p) is_kept doing u n (at p.level c)) (sym (same.is z y))
            (goes_after (SiftsAll (deeper p) (fitting p) is_kept doing a.aside n) first z y v.1)));
        same = keeps_then same r.goes r.same;
      }

  -- ---- in a loop
  pub remains_to_sift : {a : Page} {n : ℕ} → RemainsToSift p a a is_kept doing n n
  remains_to_sift = record { rest = λ b d. d }

  pub then_kept : {a c m : Page} {n k : ℕ} {h : Held Core} {hs : List (Held Core)} →
      RemainsToSift p a c is_kept doing n (suc k) → (c.trouble ≡ None → c.inner ≡ h ∷ hs) → is_kept h.item ≡ true →
      KeepsTop c m h → RemainsToSift p a m is_kept doing n k
  then_kept w top is d = record { rest = λ b q. w.rest b (sifts_kept top is d q) }

  pub then_done : {a c m o : Page} {n k : ℕ} {h : Held Core} {hs : List (Held Core)} →
      RemainsToSift p a c is_kept doing n (suc k) → (c.trouble ≡ None → c.inner ≡ h ∷ hs) → is_kept h.item ≡ false →
      Steps c m (λ s. yes [] (popped s)) → Meets p m o (call (doing h.item).0 (doing h.item).1 done) →
      RemainsToSift p a o is_kept doing n k
  then_done w top is d q = record { rest = λ b r. w.rest b (sifts_done top is d q r) }

-- All items are done or kept; then the kept ones are the items.
pub meets_sift : {p : Place} {a m n b : Page} {is_kept : Core → Bool} {doing : Core → Job Core × Scope Core}
    {k : Act Core} → Sifts p a m is_kept doing (length a.inner) → Returns (length a.kept) m n →
    Meets p n b k → Meets p a b (sift is_kept doing k)
unfolding act Does
meets_sift {p} {a} {m} {n} {b} {is_kept} {doing} {k} d e q =
    let
    back : State Core → State Core = returned (length a.kept)
    in
    let
    Behind : List (Held Core) → State Core → Type 0 = λ u t. IsReady u (back t) × Ready p k u (back t)
    in
    let
    behind : Goes p m b (λ t. act (deeper p) k (back t)) (Behind m.aside (at p.level m)) =
    goes_as (λ _. sym (after_none _)) (λ _ v. v)
    (goes_then (e.at_place p) q.goes (λ (v : Behind m.aside (at p.level m)). v.0)
    (λ z y v. subst (λ u. Ready p k u (at p.level n)) (sym (e.same.is z y))
    (goes_after (Ready p k m.aside) (e.at_place p) z y v.1)))
    in
    let
    whole : Goes p a b
    (λ s. bind (sifted (deeper p) is_kept doing (length a.inner) s) (λ t. act (deeper p) k (back t)))
    (SiftsAll (deeper p) (fitting p) is_kept doing a.aside (length a.inner) (at p.level a)
    × After (Behind a.aside) (sifted (deeper p) is_kept doing (length a.inner) (at p.level a))) =
    goes_then d.goes behind (λ v. v.0) (λ z y v. subst (λ u. Behind u (at p.level m)) (sym (d.same.is z y))
    (goes_after (Behind a.aside) d.goes z y v.1))
    in
    record {
      goes = goes_as (λ _. refl) (λ _ v. v) whole;
      same = keeps_then (keeps_then d.same (e.at_place p) e.same) q.goes q.same;
    }
