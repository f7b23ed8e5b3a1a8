-- A reading under a limit is the measured one, cut.
use Rattle.std.specs.Prelude.{◌≡◌, ℕ, zero, suc, max, Bool, true, false, not, cond, List, length, take, drop, nat_lt, ◌||◌, codes, ◌≤◌}
use Rattle.std.proofs.Common.{refl, sym, ap, ◌∙◌, arith}
use Rattle.std.proofs.lemmas.Bool.{ltb-true, ltb-false, lt-ltb, le-ltb}
use Rattle.demangle_grammar.specs.Rule.{Row, Rule, Class}
use Rattle.demangle_grammar.specs.Tree.{trees, Tree, nil, How}
use Rattle.demangle_grammar.specs.Rows.{rule}
use Rattle.demangle_grammar.specs.Reading.{State, Answer, Yes, No, Deep, stepped, found, where_so, answer, go_on, flat, after, entered, Measured, next_do, or_else, hard, soft, ended, many, turned, turn, turns, sized, whole, is_empty, widened, ahead_by, trial_of, tried, next_is, run_rule, read_from, measure_from}
use Rattle.demangle_core.specs.Core.{Core}
use Rattle.demangle_grammar.proofs.Steps.{step_then}
use Rattle.demangle_text.specs.Number.{natural_at}
use Rattle.demangle_text.specs.Kind.{Cause, End, Text}
use Rattle.demangle_text.specs.Found.{Found, took, none}

-- a measured reading under a limit: Deep where it went as deep
abbrev pub limited : ℕ → Measured → Answer Tree
limited left m = cond (nat_lt left m.levels) Deep m.answer

-- With at most `more` levels left, a reading is the one with `more`, cut at the level where it went too deep.
abbrev pub IsCut : Type 0
IsCut = (left more : ℕ) (row : Row) (conv : Bool) (s : State) (a : Tree) → left ≤ more → read_from trees left row conv s a ≡ limited left (measure_from more row conv s a)

past_max : (l a b : ℕ) → nat_lt l a ≡ true → nat_lt l (max a b) ≡ true
past_max l a b e = lt-ltb l (max a b) (omega (arith, ltb-true l a e))

before_max : (l a b : ℕ) → nat_lt l a ≡ false → nat_lt l (max a b) ≡ nat_lt l b
before_max l a b e = by (nat_lt l b) refl
  where
    by : (x : Bool) → nat_lt l b ≡ x → nat_lt l (max a b) ≡ x
    by true p = lt-ltb l (max a b) (omega (arith, ltb-true l b p))
    by false p = le-ltb l (max a b) (omega (arith, ltb-false l b p, ltb-false l a e))

pub limited_flat : (l : ℕ) (x : Answer Tree) → limited l (flat x) ≡ x
limited_flat l x = ap (λ b. cond b Deep x) (le-ltb l 0 (omega arith))

-- Cutting goes through one reading after another, where what goes on leaves Deep as it is.
limited_after : (l : ℕ) (x : Measured) (go : Answer Tree → Measured) (go' : Answer Tree → Answer Tree) → go' Deep ≡ Deep → ((y : Answer Tree) → limited l (go y) ≡ go' y)
    → limited l (after x go) ≡ go' (limited l x)
limited_after l x go go' d h = by (nat_lt l x.levels) refl
  where
    by : (b : Bool) → nat_lt l x.levels ≡ b → limited l (after x go) ≡ go' (cond b Deep x.answer)
    by true e = ap (λ b. cond b Deep (go x.answer).answer) (past_max l x.levels (go x.answer).levels e) ∙ sym d
    by false e = ap (λ b. cond b Deep (go x.answer).answer) (before_max l x.levels (go x.answer).levels e) ∙ h x.answer

limited_map : (l : ℕ) (x : Measured) (f : Answer Tree → Answer Tree) → f Deep ≡ Deep → limited l (after x (λ y. flat (f y))) ≡ f (limited l x)
limited_map l x f d = limited_after l x (λ y. flat (f y)) f d (λ y. limited_flat l (f y))

module _ (l : ℕ) where
  -- the same reading, measured and under the limit
  abbrev Same : (State → Tree → Measured) → (State → Tree → Answer Tree) → Type 0
  Same go go' = (s : State) (a : Tree) → limited l (go s a) ≡ go' s a

  next_same : (go : State → Tree → Measured) (go' : State → Tree → Answer Tree) → Same go go' → (y : Answer Tree) → limited l (next_do trees flat after go y) ≡ next_do trees answer go_on go' y
  next_same go go' h (Yes s a) = h s a
  next_same go go' h (No b k) = limited_flat l (No b k)
  next_same go go' h Deep = limited_flat l Deep

  then_same : (x : Measured) (x' : Answer Tree) (go : State → Tree → Measured) (go' : State → Tree → Answer Tree) → limited l x ≡ x' → Same go go' → limited l (after x (next_do trees flat after go)) ≡ next_do trees answer go_on go' x'
  then_same x x' go go' e h = limited_after l x (next_do trees flat after go) (next_do trees answer go_on go') refl (next_same go go' h) ∙ ap (next_do trees answer go_on go') e

  or_same : (go : Cause → Measured) (go' : Cause → Answer Tree) → ((k : Cause) → limited l (go k) ≡ go' k) → (y : Answer Tree) → limited l (or_else trees flat after go y) ≡ or_else trees answer go_on go' y
  or_same go go' h (Yes s a) = limited_flat l (Yes s a)
  or_same go go' h (No true k) = limited_flat l (No true k)
  or_same go go' h (No false k) = h k
  or_same go go' h Deep = limited_flat l Deep

  ended_same : (s : State) (a : Tree) (go : State → Tree → Measured) (go' : State → Tree → Answer Tree) → Same go go' → (y : Answer Tree) → limited l (ended trees flat after s a go y) ≡ ended trees answer go_on s a go' y
  ended_same s a go go' h (Yes t b) = h t b
  ended_same s a go go' h (No b k) = limited_flat l (Yes s a)
  ended_same s a go go' h Deep = limited_flat l Deep

  many_same : (go : State → Tree → Measured) (go' : State → Tree → Answer Tree) → Same go go' → (n : ℕ) → Same (many trees flat after go n) (many trees answer go_on go' n)
  many_same go go' h zero s a = limited_flat l (Yes s a)
  many_same go go' h (suc n) s a =
      limited_after l (go s a) (ended trees flat after s a (many trees flat after go n)) (ended trees answer go_on s a (many trees answer go_on go' n)) refl (ended_same s a _ _ (many_same go go' h n))
      ∙ ap (ended trees answer go_on s a (many trees answer go_on go' n)) (h s a)

  turned_same : (t : State) (b : Tree) (e : Bool) (go : State → Tree → Measured) (go' : State → Tree → Answer Tree) → Same go go' → limited l (turned trees flat after t b e go) ≡ turned trees answer go_on t b e go'
  turned_same t b true go go' h = limited_flat l (Yes t b)
  turned_same t b false go go' h = h t b

  turn_same : (s : State) (go : State → Tree → Measured) (go' : State → Tree → Answer Tree) → Same go go' → (y : Answer Tree) → limited l (turn trees flat after s go y) ≡ turn trees answer go_on s go' y
  turn_same s go go' h (Yes t b) = turned_same t b _ go go' h
  turn_same s go go' h (No b k) = limited_flat l (No b k)
  turn_same s go go' h Deep = limited_flat l Deep

  turns_same : (go : State → Tree → Measured) (go' : State → Tree → Answer Tree) → Same go go' → (n : ℕ) → Same (turns trees flat after go n) (turns trees answer go_on go' n)
  turns_same go go' h zero s a = limited_flat l (Yes s a)
  turns_same go go' h (suc n) s a =
      limited_after l (go s a) (turn trees flat after s (turns trees flat after go n)) (turn trees answer go_on s (turns trees answer go_on go' n)) refl (turn_same s _ _ (turns_same go go' h n))
      ∙ ap (turn trees answer go_on s (turns trees answer go_on go' n)) (h s a)

  so_same : (b : Bool) (k : Cause) (go : Unit {0} → Measured) (go' : Unit {0} → Answer Tree) → limited l (go tt) ≡ go' tt → limited l (where_so trees flat after b k go) ≡ where_so trees answer go_on b k go'
  so_same true k go go' h = h
  so_same false k go go' h = limited_flat l (No false k)

  whole_same : (bs : List ℕ) (go : State → Tree → Measured) (go' : State → Tree → Answer Tree) → Same go go' → (y : Answer Tree) → limited l (whole trees flat after bs go y) ≡ whole trees answer go_on bs go' y
  whole_same bs go go' h (Yes s t) = so_same (is_empty s.rest) Text (λ u. go (widened bs s) t) (λ u. go' (widened bs s) t) (h (widened bs s) t)
  whole_same bs go go' h (No b k) = limited_flat l (No false k)
  whole_same bs go go' h Deep = limited_flat l Deep

  sized_same : (short : Bool) (v : ℕ) (s : State) (go on : State → Tree → Measured) (go' on' : State → Tree → Answer Tree) → Same go go' → Same on on' → limited l (sized trees flat after short v s go on) ≡ sized trees answer go_on short v s go' on'
  sized_same true v s go on go' on' h i = limited_flat l (No false End)
  sized_same false zero s go on go' on' h i = limited_flat l (No false Text)
  sized_same false (suc v) s go on go' on' h i =
      limited_after l _ (whole trees flat after (drop (suc v) s.rest) on) (whole trees answer go_on (drop (suc v) s.rest) on') refl (whole_same (drop (suc v) s.rest) on on' i) ∙ ap (whole trees answer go_on (drop (suc v) s.rest) on') (h _ nil)

  found_same : {A : Type 0} (f : Found A) (go : ℕ → A → Measured) (go' : ℕ → A → Answer Tree) → ((n : ℕ) (v : A) → limited l (go n v) ≡ go' n v) → limited l (found trees flat after f go) ≡ found trees answer go_on f go'
  found_same (took n v) go go' h = h n v
  found_same (none k) go go' h = limited_flat l (No false k)

  tried_same : (go : Unit {0} → Measured) (go' : Unit {0} → Answer Tree) → limited l (go tt) ≡ go' tt → (y : Answer Tree) → limited l (tried trees flat after go y) ≡ tried trees answer go_on go' y
  tried_same go go' h (Yes t b) = so_same (not (next_is (Class.these (codes "I")) t.rest)) Text go go' h
  tried_same go go' h (No b k) = h
  tried_same go go' h Deep = limited_flat l Deep

  trial_same : (b c : Bool) (x : Measured) (x' : Answer Tree) (go : Unit {0} → Measured) (go' : Unit {0} → Answer Tree) → limited l x ≡ x' → limited l (go tt) ≡ go' tt → limited l (trial_of trees flat after b c (λ u. x) go) ≡ trial_of trees answer go_on b c (λ u. x') go'
  trial_same false c x x' go go' h i = i
  trial_same true false x x' go go' h i = limited_flat l (No false Text)
  trial_same true true x x' go go' h i = limited_after l x (tried trees flat after go) (tried trees answer go_on go') refl (tried_same go go' i) ∙ ap (tried trees answer go_on go') h

  module _ (read : Row → Bool → State → Tree → Measured) (read' : Row → Bool → State → Tree → Answer Tree) (rows : (r : Row) (c : Bool) → Same (read r c) (read' r c)) where
    rule_same : (c : Bool) (r : Rule) → Same (run_rule trees flat after read c r) (run_rule trees answer go_on read' c r)
    unfolding run_rule
    rule_same c Rule.done s a = limited_flat l (Yes s a)
    rule_same c (Rule.leaf x k) s a =
        ap (limited l) (step_then flat after (run_rule trees flat after read c k) x s a) ∙ next_same (run_rule trees flat after read c k) (run_rule trees answer go_on read' c k) (rule_same c k) (stepped x s a)
        ∙ sym (step_then answer go_on (run_rule trees answer go_on read' c k) x s a)
    rule_same c (Rule.call on r k) s a = then_same _ _ _ _ (rows r (on || c) s nil) (λ m b. rule_same c k m (Tree.cat a b))
    rule_same c (Rule.loop r k) s a = then_same _ _ _ _ (turns_same _ _ (rows r c) (suc (length s.rest)) s a) (rule_same c k)
    rule_same c (Rule.star x k) s a = then_same _ _ _ _ (many_same _ _ (rule_same c x) (suc (length s.rest)) s a) (rule_same c k)
    rule_same c (Rule.alt x y k) s a =
        then_same _ _ _ _
        (limited_after l _ _ (or_else trees answer go_on (λ kind. run_rule trees answer go_on read' c y s a)) refl (or_same _ _ (λ kind. rule_same c y s a))
        ∙ ap (or_else trees answer go_on (λ kind. run_rule trees answer go_on read' c y s a)) (rule_same c x s a))
        (rule_same c k)
    rule_same c (Rule.commit k) s a = limited_map l _ hard refl ∙ ap hard (rule_same c k s a)
    rule_same c (Rule.block x k) s a =
        found_same (natural_at 10 s.rest) _ _ (λ n v.
        sized_same (nat_lt (length (drop n s.rest)) v) v (ahead_by n s) _ _ _ _ (rule_same c x) (λ m b. rule_same c k m (Tree.cat (Tree.cat a (Tree.leaf (take n s.rest) Core.end)) b)))
    rule_same c (Rule.part m x k) s a = then_same _ _ _ _ (rule_same c x s nil) (λ t b. rule_same c k t (Tree.cat a (Tree.over (How.shaped m) b)))
    rule_same c (Rule.trial r k) s a = trial_same (next_is (Class.these (codes "I")) s.rest) c _ _ _ _ (rows r c s nil) (rule_same c k s a)

-- one level
entered_same : (l : ℕ) (x : Measured) → limited (suc l) (entered x) ≡ soft (limited l x)
entered_same l x = by (nat_lt l x.levels) refl
  where
    by : (b : Bool) → nat_lt l x.levels ≡ b → limited (suc l) (entered x) ≡ soft (cond b Deep x.answer)
    by true e = ap (λ b. cond b Deep (soft x.answer)) (lt-ltb (suc l) (suc x.levels) (omega (arith, ltb-true l x.levels e)))
    by false e = ap (λ b. cond b Deep (soft x.answer)) (le-ltb (suc l) (suc x.levels) (omega (arith, ltb-false l x.levels e)))

none_left : (x : Measured) → limited zero (entered x) ≡ Deep
none_left x = ap (λ b. cond b Deep (soft x.answer)) (lt-ltb 0 (suc x.levels) (omega arith))

pub cut : IsCut
unfolding read_from measure_from
cut zero zero r c s a h = sym (ap (λ b. cond b Deep Deep) (lt-ltb 0 1 (omega arith)))
cut zero (suc more) r c s a h = sym (none_left (run_rule trees flat after (measure_from more) c (rule r) s a))
cut (suc left) zero r c s a h = absurd (omega arith)
cut (suc left) (suc more) r c s a h =
    ap soft (sym (rule_same left (measure_from more) (read_from trees left) (λ r' c' s' a'. sym (cut left more r' c' s' a' (omega (arith, h)))) c (rule r) s a)) ∙ sym (entered_same left (run_rule trees flat after (measure_from more) c (rule r) s a))
