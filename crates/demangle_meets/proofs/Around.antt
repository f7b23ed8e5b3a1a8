-- One lemma for each item of an act that has another act within: an item in the midst, the items set aside, with
-- parameters.
use Rattle.std.proofs.Common.{◌≡◌, ℕ, true, [], ◌++◌, length, None, refl, sym}
use Rattle.std.proofs.Common.{◌∙◌, subst}
use Rattle.demangle_core.specs.Core.{Core}
use Rattle.demangle_printing.specs.State.{params, State, yes, bind, flagged, pushed, is_own}
use Rattle.demangle_printing.specs.Act.{Act, held, fence, with_params, act, owned}
use Rattle.demangle_printing.specs.Laws.{After, Does, OwnDoes, IsReady}
use Rattle.demangle_meets.specs.Page.{Page, at}
use Rattle.demangle_meets.specs.Goes.{Goes}
use Rattle.demangle_meets.specs.Place.{Place}
use Rattle.demangle_meets.specs.Calls.{Keeps, Steps, Pushes, SetsAside, BringsBack}
use Rattle.demangle_meets.specs.Meets.{deeper, fitting, Ready, Meets, Closes}
use Rattle.demangle_meets.proofs.Told.{after_none}
use Rattle.demangle_meets.proofs.Goes.{goes_then, goes_after, goes_as}
use Rattle.demangle_meets.proofs.Acts.{keeps_then, was_well, then_act, quiet_then}

-- ---- an item in the midst
-- the item is pushed, and the body done
body_done : {p : Place} {a m n : Page} {x : Core} {f : Act Core} → Pushes p.level a m x → Meets p m n f →
    Goes p a n (λ s. act (deeper p) f (pushed x s))
    (IsReady a.aside (at p.level a) × Ready p f a.aside (pushed x (at p.level a)))
body_done {p} d q = quiet_then (d.at_place p refl) d.same q (λ v. v.0) (λ v. v.1)

pub meets_held : {p : Place} {a m n o b : Page} {x : Core} {f own k : Act Core} → Pushes p.level a m x →
    Meets p m n f → Closes p n o own → Meets p o b k → Meets p a b (held x f own k)
unfolding act Does
meets_held {p} {a} {m} {n} {o} {b} {x} {f} {own} {k} d q c r =
    let
    Own : State Core → Type 0 = λ t. OwnDoes (deeper p) (fitting p) (is_own t) (Ready p own a.aside) t
    in
    let
    body = body_done d q
    in
    let
    same : Keeps a n = keeps_then d.same q.goes q.same
    in
    let
    closed : Goes p a o
    (λ s. bind (act (deeper p) f (pushed x s)) (λ t. owned (deeper p) (is_own t) (act (deeper p) own) t))
    (IsReady a.aside (at p.level a) × Ready p f a.aside (pushed x (at p.level a))
    × After Own (act (deeper p) f (pushed x (at p.level a)))) =
    goes_then body c.goes (λ v. (v.0, v.1)) (λ e z v.
    subst (λ y. OwnDoes (deeper p) (fitting p) (is_own (at p.level n)) (Ready p own y) (at p.level n))
    (sym (same.is e z))
    (goes_after Own body e z v.2))
    in
    record {
      goes = then_act closed (keeps_then same c.goes c.same) r (λ v. (v.0, v.1, v.2)) (λ v. v.3);
      same = keeps_then (keeps_then same c.goes c.same) r.goes r.same;
    }

-- ---- the items set aside
pub meets_fence : {p : Place} {a m n o b : Page} {count : ℕ} {f k : Act Core} → SetsAside a m count → Meets p m n f →
    BringsBack count n o → Meets p o b k → Meets p a b (fence f k)
unfolding act Does
meets_fence {p} {a} {m} {n} {o} {b} {count} {f} {k} d q e r =
    let
    emptied : Goes p a m (λ s. yes [] (record s { inner = [] })) (Unit {0}) = d.at_place p
    in
    let
    body : Goes p a n (λ s. act (deeper p) f (record s { inner = [] }))
    (Ready p f (a.inner ++ a.aside) (record (at p.level a) { inner = [] })) =
    goes_as (λ _. sym (after_none _)) (λ _ v. v)
    (goes_then emptied q.goes (λ v. tt) (λ z y v. subst (λ u. Ready p f u (at p.level m)) (sym (d.aside z y))
    (goes_after (Ready p f (a.inner ++ a.aside)) emptied z y v)))
    in
    let
    items : n.trouble ≡ None → n.aside ≡ a.inner ++ a.aside =
    λ z. q.same.is (was_well q.goes z) z ∙ d.aside (was_well emptied (was_well q.goes z)) (was_well q.goes z)
    in
    let
    counted : n.trouble ≡ None → count ≡ length a.aside =
    λ z. d.count (was_well emptied (was_well q.goes z))
    in
    let
    back : Goes p n o (λ s. yes [] (record s { inner = a.inner })) (Unit {0}) =
    e.at_place p a.inner a.aside items counted
    in
    let
    others : n.trouble ≡ None → o.trouble ≡ None → o.aside ≡ a.aside = e.aside a.inner a.aside items counted
    in
    let
    behind : Goes p n b (λ t. act (deeper p) k (record t { inner = a.inner }))
    (Ready p k a.aside (record (at p.level n) { inner = a.inner })) =
    goes_as (λ _. sym (after_none _)) (λ _ v. v)
    (goes_then back r.goes (λ v. tt) (λ z y v. subst (λ u. Ready p k u (at p.level o)) (sym (others z y))
    (goes_after (Ready p k a.aside) back z y v)))
    in
    let
    whole : Goes p a b
    (λ s. bind (act (deeper p) f (record s { inner = [] })) (λ t. act (deeper p) k (record t { inner = a.inner })))
    (Ready p f (a.inner ++ a.aside) (record (at p.level a) { inner = [] })
    × After (λ t. Ready p k a.aside (record t { inner = a.inner }))
    (act (deeper p) f (record (at p.level a) { inner = [] }))) =
    goes_then body behind (λ v. v.0)
    (λ z y v. goes_after (λ t. Ready p k a.aside (record t { inner = a.inner })) body z y v.1)
    in
    record {
      goes = goes_as (λ _. refl) (λ _ v. v) whole;
      same = record {
        is = λ z y. r.same.is (was_well r.goes y) y ∙ others (was_well back (was_well r.goes y)) (was_well r.goes y);
      };
    }

-- ---- with parameters
pub meets_with_params : {p : Place} {a m n o b : Page} {f k : Act Core} →
    Steps a m (λ s. yes [] (flagged params true s)) → Meets p m n f →
    Steps n o (λ s. yes [] (flagged params a.flags.params s)) → Meets p o b k → Meets p a b (with_params f k)
unfolding act Does
meets_with_params {p} {a} {m} {n} {o} {b} {f} {k} d q e r =
    let
    body : Goes p a n (λ s. act (deeper p) f (flagged params true s))
    (Ready p f a.aside (flagged params true (at p.level a))) =
    quiet_then (d.at_place p) d.same q (λ v. tt) (λ v. v)
    in
    let
    same : Keeps a n = keeps_then d.same q.goes q.same
    in
    let
    behind : Goes p n b (λ t. act (deeper p) k (flagged params a.flags.params t))
    (Ready p k n.aside (flagged params a.flags.params (at p.level n))) =
    quiet_then (e.at_place p) e.same r (λ v. tt) (λ v. v)
    in
    let
    whole : Goes p a b
    (λ s. bind (act (deeper p) f (flagged params true s))
    (λ t. act (deeper p) k (flagged params a.flags.params t)))
    (Ready p f a.aside (flagged params true (at p.level a))
    × After (λ t. Ready p k a.aside (flagged params a.flags.params t))
    (act (deeper p) f (flagged params true (at p.level a)))) =
    goes_then body behind (λ v. v.0) (λ z y v.
    subst (λ u. Ready p k u (flagged params a.flags.params (at p.level n))) (sym (same.is z y))
    (goes_after (λ t. Ready p k a.aside (flagged params a.flags.params t)) body z y v.1))
    in
    record {
      goes = goes_as (λ _. refl) (λ _ v. v) whole;
      same = keeps_then (keeps_then same (e.at_place p) e.same) r.goes r.same;
    }
