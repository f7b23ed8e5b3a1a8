-- A row is refused, and goes `idle` levels deep, where the next byte isn't one with which it can begin.
use Rattle.std.specs.Prelude.{◌≡◌, ℕ, zero, suc, max, ◌+◌, ◌≤◌, ◌<◌, Bool, true, false, ◌&&◌, ◌||◌, List, [], ◌∷◌, drop, nat_lt, ◌==◌}
use Rattle.std.proofs.Common.{refl, subst, sym, ap, ◌∙◌, arith}
use Rattle.std.proofs.lemmas.Bool.{ltb-true, eqb-true}
use Rattle.demangle_grammar.specs.Rule.{Row, Rule, Leaf, Eat, Cond}
use Rattle.demangle_grammar.specs.Tree.{trees, Tree, nil, core, How}
use Rattle.demangle_grammar.specs.Rows.{rule}
use Rattle.demangle_grammar.specs.Reading.{State, Answer, Yes, No, Deep, stepped, found, where_so, holds, answer, go_on, flat, after, Measured, next_do, or_else, soft, ended, run_rule, measure_from, enough, refusal}
use Rattle.demangle_grammar.proofs.Steps.{step_then}
use Rattle.demangle_grammar.specs.First.{takes_row, takes_leaf, begins_leaf, begins_by, first, idle, idle_by, stops, unless, zero_if, Misses}
use Rattle.demangle_grammar.specs.Laws.{IsRefused, IsIdle}
use Rattle.demangle_grammar.proofs.Ranks.{rank, takes, guarded, all_agree, takes_is, idle_is, first_is, rank_small}
use Rattle.demangle_grammar.proofs.Truth.{both_true, either, or_false}
use Rattle.demangle_grammar.proofs.Misses.{Fails, stop_fails}
use Rattle.demangle_grammar.proofs.Limits.{whole}
use Rattle.demangle_grammar.proofs.NeverDeep.{enough_is}
use Rattle.demangle_text.specs.Number.{natural_at}
use Rattle.demangle_text.specs.Kind.{Cause}
use Rattle.demangle_text.specs.Found.{Found, took, none}
use Rattle.demangle_grammar.proofs.Numbers.{Missing, natural_missing}

-- what can't be empty fails, and what can is a Yes that takes nothing
abbrev Outcome : Bool → State → Answer Tree → Type 0
Outcome true s (No false k) = Unit {0}
Outcome false s (Yes m b) = m.rest ≡ s.rest
Outcome _ s _ = ⊥

record Idles (t : Bool) (s : State) (n : ℕ) (x : Measured) : Type 0 where
  outcome : Outcome t s x.answer
  levels : x.levels ≡ n

-- ---- a check of the data: what is tried at the next byte is tried for certain
abbrev stands : Leaf → Bool
stands (Leaf.eat (Eat.give c)) = true
stands (Leaf.eat Eat.here) = true
stands (Leaf.make m) = true
stands _ = false

abbrev tests : Leaf → Bool
tests (Leaf.check c) = true
tests _ = false

abbrev begins : Rule → ℕ → Bool
begins r b = begins_by takes_row first b r

abbrev idles : Rule → ℕ
idles r = idle_by takes_row idle r

-- all rows but the turn of a prefix, which goes on from what was read before
abbrev not_turn : Row → Bool
not_turn Row.prefix_turn = false
not_turn _ = true

abbrev plain : Rule → Bool
plain Rule.done = true
plain (Rule.leaf l k) = (stops l && (takes_leaf l || takes k)) || (plain k && (stands l || (tests l && (takes k && (idles k == 0)))))
plain (Rule.call on r k) = not_turn r && (takes_row r || plain k)
plain (Rule.loop r k) = false
plain (Rule.star x k) = plain x && (takes x && plain k)
plain (Rule.alt x y k) = (plain x && (takes x && plain y)) && (takes y || plain k)
plain (Rule.commit k) = false
plain (Rule.block x k) = true
plain (Rule.part m x k) = plain x && (takes x || plain k)
plain (Rule.trial r k) = false

is_plain : (r : Row) → not_turn r ≡ true → plain (rule r) ≡ true
unfolding rule Rattle.demangle_grammar.specs.First.takes_in Rattle.demangle_grammar.specs.First.idle_in
is_plain Row.prefix_turn e = absurd (cc)
is_plain _ e = refl

-- ---- what comes after an item
below : (a b : ℕ) → a ≡ b → max a 0 ≡ b
below a b e = omega arith

then_idle : (t u : Bool) (s : State) (n k : ℕ) (x : Measured) (go : State → Tree → Measured) → Idles t s n x
    → (t ≡ false → (m : State) (b : Tree) → m.rest ≡ s.rest → Idles u s k (go m b))
    → Idles (t || u) s (max n (zero_if t k)) (after x (next_do trees flat after go))
then_idle t u s n k x go h g = by t x.answer h.outcome g
  where
    by : (t : Bool) (y : Answer Tree) → Outcome t s y → (t ≡ false → (m : State) (b : Tree) → m.rest ≡ s.rest → Idles u s k (go m b))
        → Idles (t || u) s (max n (zero_if t k)) (record { answer = (next_do trees flat after go y).answer; levels = max x.levels (next_do trees flat after go y).levels })
    by true (No false e) o g = record { outcome = tt; levels = ap (λ z. max z 0) h.levels }
    by true (No true e) o g = absurd o
    by true (Yes m b) o g = absurd o
    by true Deep o g = absurd o
    by false (Yes m b) o g = let i = g refl m b o in record { outcome = i.outcome; levels = ap (λ z. max z (go m b).levels) h.levels ∙ ap (λ z. max n z) i.levels }
    by false (No true e) o g = absurd o
    by false (No false e) o g = absurd o
    by false Deep o g = absurd o

-- the same, where what comes after is a rule
moved : {t : Bool} {s : State} {n : ℕ} {x : Measured} (m : State) → m.rest ≡ s.rest → Idles t m n x → Idles t s n x
moved {t} {s} {n} {x} m e h = record { outcome = by t x.answer h.outcome; levels = h.levels }
  where
    by : (t : Bool) (y : Answer Tree) → Outcome t m y → Outcome t s y
    by true (No false k) o = tt
    by true (No true k) o = absurd o
    by true (Yes u b) o = absurd o
    by true Deep o = absurd o
    by false (Yes u b) o = o ∙ e
    by false (No true k) o = absurd o
    by false (No false k) o = absurd o
    by false Deep o = absurd o

-- ---- what is missed
misses_left : (f g : ℕ → Bool) (bs : List ℕ) → Misses (λ b. f b || g b) bs → Misses f bs
misses_left f g [] e = tt
misses_left f g (b ∷ bs) e = (or_false _ _ e).0

misses_right : (f g : ℕ → Bool) (bs : List ℕ) → Misses (λ b. f b || g b) bs → Misses g bs
misses_right f g [] e = tt
misses_right f g (b ∷ bs) e = (or_false _ _ e).1

misses_unless : (t : Bool) (g : ℕ → Bool) (bs : List ℕ) → t ≡ false → Misses (λ b. unless t (g b)) bs → Misses g bs
misses_unless true g bs p e = absurd (cc)
misses_unless false g [] p e = tt
misses_unless false g (b ∷ bs) p e = e

-- a failing leaf
failed : (u : Bool) (s : State) (y : Answer Tree) (go : State → Tree → Measured) → Fails y → Idles true s 0 (next_do trees flat after go y)
failed u s (No false k) go f = record { outcome = tt; levels = refl }
failed u s (No true k) go f = absurd f
failed u s (Yes m b) go f = absurd f
failed u s Deep go f = absurd f

as_true : {s : State} {x : Measured} (t : Bool) (n : ℕ) → t ≡ true → n ≡ 0 → Idles true s 0 x → Idles t s n x
as_true {s} {x} t n e p h = subst (λ z. Idles z s n x) (sym e) (subst (λ z. Idles true s z x) (sym p) h)

is_true : {s : State} {x : Measured} (t : Bool) (n : ℕ) → t ≡ true → n ≡ 0 → Idles t s n x → Idles true s 0 x
is_true {s} {x} t n e p h = subst (λ z. Idles z s 0 x) e (subst (λ z. Idles t s z x) p h)

or_true : (b c : Bool) → c ≡ true → (b || c) ≡ true
or_true true c e = refl
or_true false c e = e

zero_if_true : (b : Bool) (n : ℕ) → b ≡ true → zero_if b n ≡ 0
zero_if_true b n e = ap (λ z. zero_if z n) e

zero_if_zero : (b : Bool) (n : ℕ) → n ≡ 0 → zero_if b n ≡ 0
zero_if_zero true n e = refl
zero_if_zero false n e = e

nothing_taken : (s : State) → drop 0 s.rest ≡ s.rest
nothing_taken s = refl

-- ---- a leaf
no_take : (l : Leaf) → stops l ≡ false → takes_leaf l ≡ false
no_take (Leaf.check (Cond.next c)) e = refl
no_take (Leaf.check (Cond.ahead ws)) e = refl
no_take (Leaf.check (Cond.ahead_no_digit (c ∷ w))) e = refl
no_take _ e = e

module _ (s : State) (a : Tree) (go : State → Tree → Measured) (t : Bool) (n : ℕ) where
  abbrev Goes : Type 0
  Goes = (m : State) (b : Tree) → m.rest ≡ s.rest → Idles t s n (go m b)

  stands_idle : (l : Leaf) → stands l ≡ true → (stops l ≡ false → Goes) → Idles (takes_leaf l || t) s (zero_if (stops l) n) (next_do trees flat after go (stepped l s a))
  stands_idle (Leaf.eat (Eat.give c)) e goes = goes refl _ _ refl
  stands_idle (Leaf.eat Eat.here) e goes = goes refl _ _ refl
  stands_idle (Leaf.make m) e goes = goes refl _ _ refl
  stands_idle _ e goes = absurd (cc)

  tests_idle : (l : Leaf) → tests l ≡ true → t ≡ true → n ≡ 0 → Goes → Idles true s 0 (next_do trees flat after go (stepped l s a))
  tests_idle (Leaf.check c) e p q goes = by (holds c s.rest (core a))
    where
      by : (b : Bool) → Idles true s 0 (next_do trees flat after go (where_so trees answer go_on b (refusal c) (λ u. Yes s a)))
      by true = is_true t n p q (goes s a refl)
      by false = record { outcome = tt; levels = refl }
  tests_idle _ e p q goes = absurd (cc)

  leaf_idle : (l : Leaf) (pk : Bool) → ((stops l && (takes_leaf l || t)) || (pk && (stands l || (tests l && (t && (n == 0)))))) ≡ true → Misses (begins_leaf l) s.rest
      → (stops l ≡ false → pk ≡ true → Goes) → Idles (takes_leaf l || t) s (zero_if (stops l) n) (next_do trees flat after go (stepped l s a))
  leaf_idle l pk e m goes =
      either (stops l && (takes_leaf l || t)) (pk && (stands l || (tests l && (t && (n == 0))))) e
      (λ p. let ps = both_true (stops l) (takes_leaf l || t) p in stopped ps.0 ps.1)
      (λ p. let ps = both_true pk (stands l || (tests l && (t && (n == 0)))) p in
      either (stands l) (tests l && (t && (n == 0))) ps.1 (λ q. stands_idle l q (λ z. goes z ps.0))
      (λ q. let qs = both_true (tests l) (t && (n == 0)) q in let rs = both_true t (n == 0) qs.1 in tested (stops l) refl qs.0 rs.0 (eqb-true n 0 rs.1) ps.0))
    where
      Result : Type 0
      Result = Idles (takes_leaf l || t) s (zero_if (stops l) n) (next_do trees flat after go (stepped l s a))

      stopped : stops l ≡ true → (takes_leaf l || t) ≡ true → Result
      stopped x y = as_true _ _ y (zero_if_true _ _ x) (failed true s (stepped l s a) go (stop_fails l x s a m))

      tested : (z : Bool) → stops l ≡ z → tests l ≡ true → t ≡ true → n ≡ 0 → pk ≡ true → Result
      tested true z x y w v = stopped z (or_true _ _ y)
      tested false z x y w v = as_true _ _ (or_true _ _ y) (zero_if_zero _ _ w) (tests_idle l x y w (goes z v))

-- ---- alternatives, repetitions, blocks
or_idle : (t : Bool) (s : State) (n k : ℕ) (x : Measured) (go : Cause → Measured) → Idles true s n x → ((e : Cause) → Idles t s k (go e)) → Idles t s (max n k) (after x (or_else trees flat after go))
or_idle t s n k x go h g = by x.answer h.outcome
  where
    by : (y : Answer Tree) → Outcome true s y → Idles t s (max n k) (record { answer = (or_else trees flat after go y).answer; levels = max x.levels (or_else trees flat after go y).levels })
    by (No false e) o = record { outcome = (g e).outcome; levels = ap (λ z. max z (go e).levels) h.levels ∙ ap (λ z. max n z) (g e).levels }
    by (No true e) o = absurd o
    by (Yes m b) o = absurd o
    by Deep o = absurd o

star_idle : (s : State) (a : Tree) (n : ℕ) (x : Measured) (go : State → Tree → Measured) → Idles true s n x → Idles false s n (after x (ended trees flat after s a go))
star_idle s a n x go h = by x.answer h.outcome
  where
    by : (y : Answer Tree) → Outcome true s y → Idles false s n (record { answer = (ended trees flat after s a go y).answer; levels = max x.levels (ended trees flat after s a go y).levels })
    by (No false e) o = record { outcome = refl; levels = below _ _ h.levels }
    by (No true e) o = absurd o
    by (Yes m b) o = absurd o
    by Deep o = absurd o

block_idle : (s : State) (f : Found ℕ) (go : ℕ → ℕ → Measured) → Missing f → Idles true s 0 (found trees flat after f go)
block_idle s (took n v) go m = absurd m
block_idle s (none k) go m = record { outcome = tt; levels = refl }

false_then : (a b : Bool) → (a || b) ≡ true → a ≡ false → b ≡ true
false_then true b e p = absurd (cc)
false_then false b e p = e

module _ (g : ℕ) (rows : (r : Row) (c : Bool) (s : State) (a : Tree) → rank r < g → not_turn r ≡ true → Misses (first r) s.rest → Idles (takes_row r) s (idle r) (measure_from g r c s a)) where
  rule_idle : (c : Bool) (r : Rule) (n : ℕ) → n ≤ g → guarded n false r ≡ true → plain r ≡ true → (s : State) (a : Tree) → Misses (begins r) s.rest → Idles (takes r) s (idles r) (run_rule trees flat after (measure_from g) c r s a)
  unfolding run_rule
  rule_idle c Rule.done n l gd p s a m = record { outcome = refl; levels = refl }
  rule_idle c (Rule.leaf x k) n l gd p s a m =
      subst (Idles (takes_leaf x || takes k) s (zero_if (stops x) (idles k))) (sym (step_then flat after (run_rule trees flat after (measure_from g) c k) x s a))
      (leaf_idle s a (run_rule trees flat after (measure_from g) c k) (takes k) (idles k) x (plain k) p (misses_left (begins_leaf x) (λ b. unless (stops x) (begins k b)) s.rest m)
      (λ z q t b e. moved t e (rule_idle c k n l (subst (λ y. guarded n y k ≡ true) (no_take x z) gd) q t b
      (subst (Misses (begins k)) (sym e) (misses_unless (stops x) (begins k) s.rest z (misses_right (begins_leaf x) (λ b. unless (stops x) (begins k b)) s.rest m))))))
  rule_idle c (Rule.call on r k) n l gd p s a m =
      let gs = both_true (nat_lt (rank r) n) (guarded n (takes_row r) k) gd in
      let ps = both_true _ _ p in
      let ms = misses_left (first r) (λ b. unless (takes_row r) (begins k b)) s.rest m in
      then_idle (takes_row r) (takes k) s (idle r) (idles k) _ _
      (rows r (on || c) s nil (omega (arith, ltb-true (rank r) n gs.0)) ps.0 ms)
      (λ e t b q. moved t q
      (rule_idle c k n l (subst (λ z. guarded n z k ≡ true) e gs.1) (false_then _ _ ps.1 e) t (Tree.cat a b)
      (subst (Misses (begins k)) (sym q) (misses_unless (takes_row r) (begins k) s.rest e (misses_right (first r) (λ b. unless (takes_row r) (begins k b)) s.rest m)))))
  rule_idle c (Rule.loop r k) n l gd p s a m = absurd (cc)
  rule_idle c (Rule.star x k) n l gd p s a m =
      let gs = both_true _ _ gd in
      let ps = both_true _ _ p in
      let qs = both_true _ _ ps.1 in
      let x_idle = rule_idle c x n l gs.0 ps.0 s a (misses_left (begins x) (begins k) s.rest m) in
      then_idle false (takes k) s (idles x) (idles k) _ _ (star_idle s a (idles x) _ _ (subst (λ z. Idles z s (idles x) (run_rule trees flat after (measure_from g) c x s a)) qs.0 x_idle))
      (λ e t b q. moved t q (rule_idle c k n l gs.1 qs.1 t b (subst (Misses (begins k)) (sym q) (misses_right (begins x) (begins k) s.rest m))))
  rule_idle c (Rule.alt x y k) n l gd p s a m =
      let gs = both_true _ _ gd in
      let hs = both_true _ _ gs.1 in
      let ps = both_true _ _ p in
      let qs = both_true _ _ ps.0 in
      let rs = both_true _ _ qs.1 in
      let ms = misses_left (λ b. begins x b || begins y b) (λ b. unless (takes x && takes y) (begins k b)) s.rest m in
      let ns = misses_right (λ b. begins x b || begins y b) (λ b. unless (takes x && takes y) (begins k b)) s.rest m in
      let x_idle = rule_idle c x n l gs.0 qs.0 s a (misses_left (begins x) (begins y) s.rest ms) in
      let y_idle = rule_idle c y n l hs.0 rs.1 s a (misses_right (begins x) (begins y) s.rest ms) in
      let same : (takes x && takes y) ≡ takes y = ap (λ z. z && takes y) rs.0 in
      subst (λ z. Idles (z || takes k) s (max (max (idles x) (idles y)) (zero_if z (idles k))) (run_rule trees flat after (measure_from g) c (Rule.alt x y k) s a)) (sym same)
      (then_idle (takes y) (takes k) s (max (idles x) (idles y)) (idles k) _ _
      (or_idle (takes y) s (idles x) (idles y) _ _ (subst (λ z. Idles z s (idles x) (run_rule trees flat after (measure_from g) c x s a)) rs.0 x_idle) (λ e. y_idle))
      (λ e t b q. moved t q (rule_idle c k n l (subst (λ z. guarded n z k ≡ true) (same ∙ e) hs.1) (false_then _ _ ps.1 e) t b
      (subst (Misses (begins k)) (sym q) (misses_unless (takes x && takes y) (begins k) s.rest (same ∙ e) ns)))))
  rule_idle c (Rule.commit k) n l gd p s a m = absurd (cc)
  rule_idle c (Rule.block x k) n l gd p s a m = block_idle s (natural_at 10 s.rest) _ (natural_missing 10 s.rest m)
  rule_idle c (Rule.part h x k) n l gd p s a m =
      let gs = both_true _ _ gd in
      let ps = both_true _ _ p in
      let x_idle = rule_idle c x n l gs.0 ps.0 s nil (misses_left (begins x) (λ b. unless (takes x) (begins k b)) s.rest m) in
      then_idle (takes x) (takes k) s (idles x) (idles k) _ _ x_idle
      (λ e t b q. moved t q (rule_idle c k n l (subst (λ z. guarded n z k ≡ true) e gs.1) (false_then _ _ ps.1 e) t (Tree.cat a (Tree.over (How.shaped h) b))
      (subst (Misses (begins k)) (sym q) (misses_unless (takes x) (begins k) s.rest e (misses_right (begins x) (λ b. unless (takes x) (begins k b)) s.rest m)))))
  rule_idle c (Rule.trial r k) n l gd p s a m = absurd (cc)

-- ---- a row
soft_outcome : (t : Bool) (s : State) (y : Answer Tree) → Outcome t s y → Outcome t s (soft y)
soft_outcome true s (No false k) o = tt
soft_outcome true s (No true k) o = absurd o
soft_outcome true s (Yes u b) o = absurd o
soft_outcome true s Deep o = absurd o
soft_outcome false s (Yes u b) o = o
soft_outcome false s (No true k) o = absurd o
soft_outcome false s (No false k) o = absurd o
soft_outcome false s Deep o = absurd o

misses_rule : (r : Row) (bs : List ℕ) → Misses (first r) bs → Misses (begins (rule r)) bs
misses_rule r [] e = tt
misses_rule r (b ∷ bs) e = sym (first_is r b) ∙ e

row_idle : (g : ℕ) (r : Row) (c : Bool) (s : State) (a : Tree) → rank r < g → not_turn r ≡ true → Misses (first r) s.rest → Idles (takes_row r) s (idle r) (measure_from g r c s a)
unfolding measure_from
row_idle zero r c s a l p m = absurd (omega arith)
row_idle (suc g) r c s a l p m =
    let h = rule_idle g (row_idle g) c (rule r) (rank r) (omega (arith, l)) (both_true _ _ (all_agree r)).0 (is_plain r p) s a (misses_rule r s.rest m) in
    record {
      outcome = subst (λ z. Outcome z s (soft (run_rule trees flat after (measure_from g) c (rule r) s a).answer)) (sym (takes_is r)) (soft_outcome _ s _ h.outcome);
      levels = ap suc h.levels ∙ sym (idle_is r);
    }

is_not_turn : (r : Row) → takes_row r ≡ true → not_turn r ≡ true
unfolding rule Rattle.demangle_grammar.specs.First.takes_in
is_not_turn Row.prefix_turn e = absurd (cc)
is_not_turn _ e = refl

refused : (s : State) (x : Answer Tree) → Outcome true s x → IsRefused x
refused s (No false k) o = tt
refused s (No true k) o = absurd o
refused s (Yes m b) o = absurd o
refused s Deep o = absurd o

pub is_idle : IsIdle
is_idle n r c s t m =
    let h = row_idle (enough s.rest) r c s nil (omega (arith, rank_small r, enough_is s.rest)) (is_not_turn r t) m in
    (subst IsRefused (sym (whole r c s).1) (refused s _ (subst (λ z. Outcome z s (measure_from (enough s.rest) r c s nil).answer) t h.outcome)), ap (λ z. n + z) h.levels)
