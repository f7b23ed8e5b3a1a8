-- A reading of cores is the reading of trees, and then their cores.
use Rattle.std.specs.Prelude.{◌≡◌, ℕ, zero, suc, Bool, true, false, List, length, take, drop, nat_lt, ◌||◌, codes}
use Rattle.std.proofs.Common.{refl, ap, ◌∙◌}
use Rattle.demangle_core.specs.Table.{count}
use Rattle.demangle_core.specs.Core.{Core, end, N, ◌⊕◌}
use Rattle.demangle_grammar.specs.Rule.{Row, Rule, Class, Leaf}
use Rattle.demangle_grammar.specs.Tree.{Tree, How, nil, core, trees, cores, component_of, shape}
use Rattle.demangle_grammar.specs.Rows.{rule}
use Rattle.demangle_grammar.specs.Reading.{State, Answer, Yes, No, Deep, is_empty, widened, find, holds, refusal, prefix_entry, is_nestable, where_so, found, step, answer, go_on, next_do, or_else, hard, soft, ended, many, turned, turn, turns, sized, whole, trial_of, tried, next_is, run_rule, read_from, ahead_by}
use Rattle.demangle_grammar.specs.Laws.{cored, ReadsCores}
use Rattle.demangle_text.specs.Word.{starts, missing_word}
use Rattle.demangle_text.specs.Number.{natural_at}
use Rattle.demangle_text.specs.Kind.{Cause, Text, Bad}
use Rattle.demangle_text.specs.Found.{Found, took, none}

abbrev Same : (State → Tree → Answer Tree) → (State → Core → Answer Core) → Type 0
Same go go' = (s : State) (a : Tree) → cored (go s a) ≡ go' s (core a)

where_same : (b : Bool) (k : Cause) (go : Unit {0} → Answer Tree) (go' : Unit {0} → Answer Core) → cored (go tt) ≡ go' tt → cored (where_so trees answer go_on b k go) ≡ where_so cores answer go_on b k go'
where_same true k go go' h = h
where_same false k go go' h = refl

found_same : {A : Type 0} (f : Found A) (go : ℕ → A → Answer Tree) (go' : ℕ → A → Answer Core) → ((n : ℕ) (v : A) → cored (go n v) ≡ go' n v) → cored (found trees answer go_on f go) ≡ found cores answer go_on f go'
found_same (took n v) go go' h = h n v
found_same (none k) go go' h = refl

on_same : (b : Bool) (k : Cause) (t : State) (x : Tree) (go : State → Tree → Answer Tree) (go' : State → Core → Answer Core) → Same go go'
    → cored (where_so trees answer go_on b k (λ u. go t x)) ≡ where_so cores answer go_on b k (λ u. go' t (core x))
on_same b k t x go go' h = where_same b k (λ u. go t x) (λ u. go' t (core x)) (h t x)

step_same : (l : Leaf) (s : State) (a : Tree) (go : State → Tree → Answer Tree) (go' : State → Core → Answer Core) → Same go go' → cored (step trees answer go_on l s a go) ≡ step cores answer go_on l s (core a) go'
step_same (Leaf.word w) s a go go' h = on_same (starts w s.rest) (missing_word w s.rest) (ahead_by (length w) s) (Tree.cat a (Tree.leaf w end)) go go' h
step_same (Leaf.eat x) s a go go' h = found_same (find x s.at s.rest) _ _ (λ n v. h (ahead_by n s) (Tree.cat a (Tree.leaf (take n s.rest) v)))
step_same (Leaf.check c) s a go go' h = on_same (holds c s.rest (core a)) (refusal c) s a go go' h
step_same (Leaf.make m) s a go go' h = h _ _
step_same (Leaf.mark m) s a go go' h = h _ _
step_same Leaf.refer s a go go' h = let k = component_of (core a) in on_same (nat_lt k (count N s.entries)) Bad s (Tree.over (How.refers k) a) go go' h
step_same Leaf.take_over s a go go' h = let x = prefix_entry (core a) s.entries in on_same (is_nestable x) Text s (Tree.over (How.taken x) a) go go' h
step_same Leaf.no_prefix s a go go' h = refl
step_same Leaf.mark_first s a go go' h = h _ _

hard_same : (x : Answer Tree) → cored (hard x) ≡ hard (cored x)
hard_same (Yes s a) = refl
hard_same (No h k) = refl
hard_same Deep = refl

soft_same : (x : Answer Tree) → cored (soft x) ≡ soft (cored x)
soft_same (Yes s a) = refl
soft_same (No h k) = refl
soft_same Deep = refl

-- one reading after another
then_same : (y : Answer Tree) (y' : Answer Core) (go : State → Tree → Answer Tree) (go' : State → Core → Answer Core) → cored y ≡ y' → Same go go' → cored (next_do trees answer go_on go y) ≡ next_do cores answer go_on go' y'
then_same y y' go go' e h = by y ∙ ap (next_do cores answer go_on go') e
  where
    by : (y : Answer Tree) → cored (next_do trees answer go_on go y) ≡ next_do cores answer go_on go' (cored y)
    by (Yes s a) = h s a
    by (No b k) = refl
    by Deep = refl

or_same : (x : Answer Tree) (x' : Answer Core) (go : Cause → Answer Tree) (go' : Cause → Answer Core) → cored x ≡ x' → ((k : Cause) → cored (go k) ≡ go' k) → cored (or_else trees answer go_on go x) ≡ or_else cores answer go_on go' x'
or_same x x' go go' e h = by x ∙ ap (or_else cores answer go_on go') e
  where
    by : (y : Answer Tree) → cored (or_else trees answer go_on go y) ≡ or_else cores answer go_on go' (cored y)
    by (Yes s a) = refl
    by (No true k) = refl
    by (No false k) = h k
    by Deep = refl

ended_same : (s : State) (a : Tree) (go : State → Tree → Answer Tree) (go' : State → Core → Answer Core) → Same go go' → (y : Answer Tree) → cored (ended trees answer go_on s a go y) ≡ ended cores answer go_on s (core a) go' (cored y)
ended_same s a go go' h (Yes t b) = h t b
ended_same s a go go' h (No b k) = refl
ended_same s a go go' h Deep = refl

many_same : (go : State → Tree → Answer Tree) (go' : State → Core → Answer Core) → Same go go' → (n : ℕ) → Same (many trees answer go_on go n) (many cores answer go_on go' n)
many_same go go' h zero s a = refl
many_same go go' h (suc n) s a = ended_same s a _ _ (many_same go go' h n) (go s a) ∙ ap (ended cores answer go_on s (core a) (many cores answer go_on go' n)) (h s a)

turned_same : (t : State) (b : Tree) (e : Bool) (go : State → Tree → Answer Tree) (go' : State → Core → Answer Core) → Same go go' → cored (turned trees answer go_on t b e go) ≡ turned cores answer go_on t (core b) e go'
turned_same t b true go go' h = refl
turned_same t b false go go' h = h t b

turn_same : (s : State) (go : State → Tree → Answer Tree) (go' : State → Core → Answer Core) → Same go go' → (y : Answer Tree) → cored (turn trees answer go_on s go y) ≡ turn cores answer go_on s go' (cored y)
turn_same s go go' h (Yes t b) = turned_same t b _ go go' h
turn_same s go go' h (No b k) = refl
turn_same s go go' h Deep = refl

turns_same : (go : State → Tree → Answer Tree) (go' : State → Core → Answer Core) → Same go go' → (n : ℕ) → Same (turns trees answer go_on go n) (turns cores answer go_on go' n)
turns_same go go' h zero s a = refl
turns_same go go' h (suc n) s a = turn_same s _ _ (turns_same go go' h n) (go s a) ∙ ap (turn cores answer go_on s (turns cores answer go_on go' n)) (h s a)

whole_same : (bs : List ℕ) (go : State → Tree → Answer Tree) (go' : State → Core → Answer Core) → Same go go' → (y : Answer Tree) → cored (whole trees answer go_on bs go y) ≡ whole cores answer go_on bs go' (cored y)
whole_same bs go go' h (Yes s t) = on_same (is_empty s.rest) Text (widened bs s) t go go' h
whole_same bs go go' h (No b k) = refl
whole_same bs go go' h Deep = refl

sized_same : (short : Bool) (v : ℕ) (s : State) (go on : State → Tree → Answer Tree) (go' on' : State → Core → Answer Core) → Same go go' → Same on on' → cored (sized trees answer go_on short v s go on) ≡ sized cores answer go_on short v s go' on'
sized_same true v s go on go' on' h i = refl
sized_same false zero s go on go' on' h i = refl
sized_same false (suc v) s go on go' on' h i = whole_same _ on on' i _ ∙ ap (whole cores answer go_on (drop (suc v) s.rest) on') (h _ nil)

tried_same : (go : Unit {0} → Answer Tree) (go' : Unit {0} → Answer Core) → cored (go tt) ≡ go' tt → (x : Answer Tree) → cored (tried trees answer go_on go x) ≡ tried cores answer go_on go' (cored x)
tried_same go go' h (Yes t b) = where_same _ Text go go' h
tried_same go go' h (No b k) = h
tried_same go go' h Deep = refl

trial_same : (b c : Bool) (x : Answer Tree) (x' : Answer Core) (go : Unit {0} → Answer Tree) (go' : Unit {0} → Answer Core) → cored x ≡ x' → cored (go tt) ≡ go' tt → cored (trial_of trees answer go_on b c (λ u. x) go) ≡ trial_of cores answer go_on b c (λ u. x') go'
trial_same false c x x' go go' e h = h
trial_same true false x x' go go' e h = refl
trial_same true true x x' go go' e h = tried_same go go' h x ∙ ap (tried cores answer go_on go') e

module _ (read : Row → Bool → State → Tree → Answer Tree) (read' : Row → Bool → State → Core → Answer Core) (rows : (r : Row) (c : Bool) → Same (read r c) (read' r c)) where
  rule_same : (c : Bool) (r : Rule) → Same (run_rule trees answer go_on read c r) (run_rule cores answer go_on read' c r)
  unfolding run_rule
  rule_same c Rule.done s a = refl
  rule_same c (Rule.leaf x k) s a = step_same x s a (run_rule trees answer go_on read c k) (run_rule cores answer go_on read' c k) (rule_same c k)
  rule_same c (Rule.call on r k) s a =
      then_same _ _ (λ m b. run_rule trees answer go_on read c k m (Tree.cat a b)) (λ m b. run_rule cores answer go_on read' c k m (core a ⊕ b)) (rows r (on || c) s nil) (λ m b. rule_same c k m (Tree.cat a b))
  rule_same c (Rule.loop r k) s a =
      then_same _ _ (run_rule trees answer go_on read c k) (run_rule cores answer go_on read' c k) (turns_same (read r c) (read' r c) (rows r c) (suc (length s.rest)) s a) (rule_same c k)
  rule_same c (Rule.star x k) s a =
      then_same _ _ (run_rule trees answer go_on read c k) (run_rule cores answer go_on read' c k)
      (many_same (run_rule trees answer go_on read c x) (run_rule cores answer go_on read' c x) (rule_same c x) (suc (length s.rest)) s a) (rule_same c k)
  rule_same c (Rule.alt x y k) s a =
      then_same _ _ (run_rule trees answer go_on read c k) (run_rule cores answer go_on read' c k)
      (or_same _ _ (λ kind. run_rule trees answer go_on read c y s a) (λ kind. run_rule cores answer go_on read' c y s (core a)) (rule_same c x s a) (λ kind. rule_same c y s a)) (rule_same c k)
  rule_same c (Rule.commit k) s a = hard_same _ ∙ ap hard (rule_same c k s a)
  rule_same c (Rule.block x k) s a =
      found_same (natural_at 10 s.rest) _ _ (λ n v.
      sized_same (nat_lt (length (drop n s.rest)) v) v (ahead_by n s) (run_rule trees answer go_on read c x)
      (λ m b. run_rule trees answer go_on read c k m (Tree.cat (Tree.cat a (Tree.leaf (take n s.rest) end)) b))
      (run_rule cores answer go_on read' c x) (λ m b. run_rule cores answer go_on read' c k m ((core a ⊕ end) ⊕ b)) (rule_same c x) (λ m b. rule_same c k m _))
  rule_same c (Rule.part f x k) s a =
      then_same _ _ (λ m b. run_rule trees answer go_on read c k m (Tree.cat a (Tree.over (How.shaped f) b))) (λ m b. run_rule cores answer go_on read' c k m (core a ⊕ shape (How.shaped f) b)) (rule_same c x s nil) (λ m b. rule_same c k m (Tree.cat a (Tree.over (How.shaped f) b)))
  rule_same c (Rule.trial r k) s a =
      trial_same (next_is (Class.these (codes "I")) s.rest) c _ _ (λ u. run_rule trees answer go_on read c k s a) (λ u. run_rule cores answer go_on read' c k s (core a)) (rows r c s nil) (rule_same c k s a)

pub reads_cores : ReadsCores
unfolding read_from
reads_cores zero r c s a = refl
reads_cores (suc left) r c s a = soft_same _ ∙ ap soft (rule_same (read_from trees left) (read_from cores left) (reads_cores left) c (rule r) s a)
