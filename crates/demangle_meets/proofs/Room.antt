-- Where the levels of all items differ and are below a level, there are no more items than that level.
use Rattle.std.proofs.Common.{◌≡◌, ℕ, zero, suc, ◌+◌, ◌≤◌, ◌<◌, ◌==◌, Bool, true, false, List, [], ◌∷◌, length, cond}
use Rattle.std.proofs.Common.{refl, sym, ◌∙◌, ap, arith, nat_lt, eq-eqb}
use Rattle.std.proofs.lemmas.Bool.{ltb-true, ltb-false}
use Rattle.demangle_core.specs.Core.{Core}
use Rattle.demangle_printing.specs.State.{Held, State}
use Rattle.demangle_printing.specs.Laws.{one_if, at_level, most, IsReady}
use Rattle.demangle_meets.specs.Laws.{StacksSuffice}

-- how many items have a level below this one
under : ℕ → List (Held Core) → ℕ
under zero hs = 0
under (suc n) hs = under n hs + at_level n hs

no_less : (b : Bool) (n : ℕ) → n ≤ one_if b n
no_less true n = omega arith
no_less false n = omega arith

under_more : (n : ℕ) (h : Held Core) (hs : List (Held Core)) → under n hs ≤ under n (h ∷ hs)
unfolding under
under_more zero h hs = omega arith
under_more (suc n) h hs =
    let a = under_more n h hs in let b = no_less (h.level == n) (at_level n hs) in omega (arith, a, b)

-- an item below the level is counted
under_item : (n : ℕ) (h : Held Core) (hs : List (Held Core)) → h.level < n → suc (under n hs) ≤ under n (h ∷ hs)
unfolding under
under_item zero h hs e = absurd (omega (arith, e))
under_item (suc n) h hs e = by (λ g. under_item n h hs g) (h.level == n) refl
  where
    below : (v : Bool) → nat_lt h.level n ≡ v → (h.level == n) ≡ false → h.level < n
    below true f g = ltb-true h.level n f
    below false f g =
        let a = ltb-false h.level n f in
        let b : h.level ≡ n = omega (arith, a, e) in
        absurd (let k : true ≡ false = sym (eq-eqb h.level n b) ∙ g in cc)

    by : (h.level < n → suc (under n hs) ≤ under n (h ∷ hs)) → (v : Bool) → (h.level == n) ≡ v →
        suc (under n hs + at_level n hs) ≤ under n (h ∷ hs) + one_if (h.level == n) (at_level n hs)
    by g true f =
        let a = under_more n h hs in
        let b : one_if (h.level == n) (at_level n hs) ≡ suc (at_level n hs) = ap (λ v. one_if v (at_level n hs)) f in
        omega (arith, a, b)
    by g false f =
        let a = g (below (nat_lt h.level n) refl f) in
        let b : one_if (h.level == n) (at_level n hs) ≡ at_level n hs = ap (λ v. one_if v (at_level n hs)) f in
        omega (arith, a, b)

-- where no item has this level or one above it, all are counted
all_under : (n : ℕ) (hs : List (Held Core)) → ((v : ℕ) → n ≤ v → at_level v hs ≤ 0) → length hs ≤ under n hs
all_under n [] e = omega arith
all_under n (h ∷ hs) e =
    let a =
    all_under n hs (λ v g. let x = e v g in let y = no_less (h.level == v) (at_level v hs) in omega (arith, x, y)) in
    let b = under_item n h hs (below (nat_lt h.level n) refl) in
    omega (arith, a, b)
  where
    below : (v : Bool) → nat_lt h.level n ≡ v → h.level < n
    below true f = ltb-true h.level n f
    below false f =
        let a = e h.level (ltb-false h.level n f) in
        let b : one_if (h.level == h.level) (at_level h.level hs) ≡ suc (at_level h.level hs) =
        ap (λ v. one_if v (at_level h.level hs)) (eq-eqb h.level h.level refl) in
        absurd (omega (arith, a, b))

-- at each level there is at most one
most_one : (v l : ℕ) → most false v l ≤ 1
most_one v l = by (nat_lt v l)
  where
    by : (b : Bool) → cond b 1 0 ≤ 1
    by true = omega arith
    by false = omega arith

under_all : (n : ℕ) (aside : List (Held Core)) (s : State Core) → IsReady aside s →
    under n aside + (under n s.inner + under n s.kept) ≤ n
unfolding under
under_all zero aside s r = omega arith
under_all (suc n) aside s r =
    let a = under_all n aside s r in let b = r n in let c = most_one n s.level in omega (arith, a, b, c)

-- and none at the level or above it
none_above : (v l : ℕ) → l ≤ v → most false v l ≤ 0
none_above v l e = by (nat_lt v l) refl
  where
    by : (b : Bool) → nat_lt v l ≡ b → cond b 1 0 ≤ 0
    by true f = absurd (let a = ltb-true v l f in omega (arith, a, e))
    by false f = omega arith

pub stacks_suffice : StacksSuffice
stacks_suffice aside s r =
    let a = under_all s.level aside s r in
    let b = all_under s.level aside (λ v e. let x = r v in let y = none_above v s.level e in omega (arith, x, y)) in
    let c = all_under s.level s.inner (λ v e. let x = r v in let y = none_above v s.level e in omega (arith, x, y)) in
    let d = all_under s.level s.kept (λ v e. let x = r v in let y = none_above v s.level e in omega (arith, x, y)) in
    omega (arith, a, b, c, d)
