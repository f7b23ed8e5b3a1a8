-- What is read is derived.
use Rattle.std.specs.Prelude.{◌≡◌, ℕ, zero, suc, ◌≤◌, ◌<◌, Bool, true, false, not, List, [], ◌∷◌, length, drop, ◌==◌, nat_lt, ◌||◌, codes}
use Rattle.std.proofs.Common.{refl, subst, sym, ◌∙◌, arith}
use Rattle.std.proofs.lemmas.Bool.{eqb-true, ltb-false}
use Rattle.std.proofs.lemmas.Bool.Decides.{eqb_tells}
use Rattle.demangle_grammar.specs.Rule.{Row, Rule, Leaf, Class}
use Rattle.demangle_grammar.specs.Tree.{trees, Tree, nil, How}
use Rattle.demangle_grammar.specs.Rows.{rule}
use Rattle.demangle_grammar.specs.Reading.{State, Answer, Yes, No, Deep, stepped, found, where_so, answer, go_on, next_do, or_else, ended, many, turned, turn, turns, sized, whole, is_empty, widened, trial_of, next_is, run_rule, read_from, ahead_by}
use Rattle.demangle_grammar.proofs.Derives.{Derives, narrowed, digits_of}
use Rattle.demangle_grammar.proofs.Holds.{Holds, self, weaker, holds_next, holds_or, holds_hard, holds_soft}
use Rattle.demangle_grammar.proofs.Steps.{step_then}
use Rattle.demangle_grammar.proofs.Kept.{keeps}
use Rattle.demangle_text.specs.Number.{natural_at}
use Rattle.demangle_text.specs.Kind.{Cause, Text}
use Rattle.demangle_text.specs.Found.{Found, took, none}

-- whatever goes on from m and b goes on from s and a by the rule
abbrev pub Leads : (Rule → Rule) → State → Tree → State → Tree → Type 0
Leads f s a m b = (k : Rule) (t : State) (c : Tree) → Derives k m b t c → Derives (f k) s a t c

pub many_leads : (x : Rule) (go : State → Tree → Answer Tree) → ((s : State) (a : Tree) → Holds (Derives x s a) (go s a)) → (n : ℕ) (s : State) (a : Tree) → Holds (Leads (Rule.star x) s a) (many trees answer go_on go n s a)
many_leads x go f zero s a = λ k t c d. Derives.no_more d
many_leads x go f (suc n) s a = by (go s a) (f s a) (many_leads x go f n)
  where
    by : (y : Answer Tree) → Holds (Derives x s a) y → ((m : State) (b : Tree) → Holds (Leads (Rule.star x) m b) (many trees answer go_on go n m b)) → Holds (Leads (Rule.star x) s a) (ended trees answer go_on s a (many trees answer go_on go n) y)
    by (Yes m b) h more = weaker (many trees answer go_on go n m b) (λ u v l k t c d. Derives.one_more h (l k t c d)) (more m b)
    by (No h k) p more = λ k t c d. Derives.no_more d
    by Deep p more = tt

fewer : (x y n : ℕ) → (x == y) ≡ false → x ≤ y → y < suc n → x < n
fewer x y n e l m = grind (arith, eqb_tells x y)

pub turns_lead : (r : Row) (go : State → Tree → Answer Tree) → ((s : State) (a : Tree) → Holds (Derives (rule r) s a) (go s a)) → (n : ℕ) (s : State) (a : Tree) → length s.rest < n → Holds (Leads (Rule.loop r) s a) (turns trees answer go_on go n s a)
turns_lead r go f zero s a l = absurd (omega arith)
turns_lead r go f (suc n) s a l = by (go s a) (f s a) (turns_lead r go f n)
  where
    More : Type 0
    More = (m : State) (b : Tree) → length m.rest < n → Holds (Leads (Rule.loop r) m b) (turns trees answer go_on go n m b)

    take_turn : (m : State) (b : Tree) (e : Bool) → (length m.rest == length s.rest) ≡ e → Derives (rule r) s a m b → More → Holds (Leads (Rule.loop r) s a) (turned trees answer go_on m b e (turns trees answer go_on go n))
    take_turn m b true e h more = λ k t c d. Derives.last_turn h (eqb-true _ _ e) d
    take_turn m b false e h more = weaker (turns trees answer go_on go n m b) (λ u v q k t c d. Derives.turn h (q k t c d)) (more m b (fewer _ _ n e (keeps h).shorter l))

    by : (y : Answer Tree) → Holds (Derives (rule r) s a) y → More → Holds (Leads (Rule.loop r) s a) (turn trees answer go_on s (turns trees answer go_on go n) y)
    by (Yes m b) h more = take_turn m b (length m.rest == length s.rest) refl h more
    by (No h k) p more = tt
    by Deep p more = tt

empty : (xs : List ℕ) → is_empty xs ≡ true → xs ≡ []
empty [] e = refl
empty (x ∷ xs) e = absurd (cc)

-- a block
block_derives : (x k : Rule) (s : State) (a : Tree) (f : Found ℕ) → natural_at 10 s.rest ≡ f → (go on : State → Tree → Answer Tree)
    → ((t : State) (d : Tree) → Holds (Derives x t d) (go t d))
    → (n v : ℕ) → f ≡ took n v → ((m : State) (b : Tree) → Holds (Derives k m (Tree.cat (Tree.cat a (digits_of n s)) b)) (on m b))
    → Holds (Derives (Rule.block x k) s a) (sized trees answer go_on (nat_lt (length (drop n s.rest)) v) v (ahead_by n s) go on)
block_derives x k s a f e go on h n v q i = by_size (nat_lt (length (drop n s.rest)) v) refl
  where
    Goal : Answer Tree → Type 0
    Goal = Holds (Derives (Rule.block x k) s a)

    Inner : Answer Tree → Type 0
    Inner = Holds (Derives x (narrowed v (ahead_by n s)) nil)

    checks : (m : State) (b : Tree) (z : Bool) → is_empty m.rest ≡ z → v ≤ length (drop n s.rest) → Derives x (narrowed v (ahead_by n s)) nil m b
        → Holds (Derives (Rule.block x k) s a) (where_so trees answer go_on z Text (λ u. on (widened (drop v (drop n s.rest)) m) b))
    checks m b true z l d = weaker (on (widened (drop v (drop n s.rest)) m) b) (λ t c p. Derives.block (e ∙ q) l d (empty m.rest z) p) (i (widened (drop v (drop n s.rest)) m) b)
    checks m b false z l d = tt

    wholes : (y : Answer Tree) → Holds (Derives x (narrowed v (ahead_by n s)) nil) y → v ≤ length (drop n s.rest)
        → Holds (Derives (Rule.block x k) s a) (whole trees answer go_on (drop v (drop n s.rest)) on y)
    wholes (Yes m b) d l = checks m b (is_empty m.rest) refl l d
    wholes (No b c) p l = tt
    wholes Deep p l = tt

    by_number : (w : ℕ) → v ≡ w → v ≤ length (drop n s.rest) → Holds (Derives (Rule.block x k) s a) (sized trees answer go_on false w (ahead_by n s) go on)
    by_number zero p l = tt
    by_number (suc w) p l =
        subst (λ y. Holds (Derives (Rule.block x k) s a) (whole trees answer go_on (drop y (drop n s.rest)) on (go (narrowed y (ahead_by n s)) nil))) p
        (wholes (go (narrowed v (ahead_by n s)) nil) (h (narrowed v (ahead_by n s)) nil) l)

    by_size : (z : Bool) → nat_lt (length (drop n s.rest)) v ≡ z → Holds (Derives (Rule.block x k) s a) (sized trees answer go_on z v (ahead_by n s) go on)
    by_size true p = tt
    by_size false p = by_number v refl (ltb-false _ _ p)

-- the trial
trial_holds : (P : State → Tree → Type 0) (b c : Bool) (x : Answer Tree) (go : Unit {0} → Answer Tree) → Holds P (go tt) → Holds P (trial_of trees answer go_on b c (λ u. x) go)
trial_holds P false c x go h = h
trial_holds P true false x go h = tt
trial_holds P true true (Yes t d) go h = by (not (next_is (Class.these (codes "I")) t.rest))
  where
    by : (z : Bool) → Holds P (where_so trees answer go_on z Text go)
    by true = h
    by false = tt
trial_holds P true true (No b k) go h = h
trial_holds P true true Deep go h = tt

-- goes on by the rule k
then_on : (f : Rule → Rule) (k : Rule) (s : State) (a : Tree) (x : Answer Tree) (go : State → Tree → Answer Tree)
    → Holds (Leads f s a) x → ((m : State) (b : Tree) → Holds (Derives k m b) (go m b)) → Holds (Derives (f k) s a) (next_do trees answer go_on go x)
then_on f k s a x go h rest = holds_next (Derives (f k) s a) x go h (λ m b l. weaker {P = Derives k m b} {Q = Derives (f k) s a} (go m b) (λ t d q. l k t d q) (rest m b))

pub leaf_leads : (l : Leaf) (s : State) (a : Tree) → Holds (Leads (Rule.leaf l) s a) (stepped l s a)
leaf_leads l s a = weaker {Q = Leads (Rule.leaf l) s a} (stepped l s a) (λ m b h k' t d q. Derives.leaf h q) (self (stepped l s a))

pub alt_leads : (x y : Rule) (s : State) (a : Tree) (u : Answer Tree) (v : Cause → Answer Tree) → Holds (Derives x s a) u → ((k : Cause) → Holds (Derives y s a) (v k)) → Holds (Leads (Rule.alt x y) s a) (or_else trees answer go_on v u)
alt_leads x y s a u v h i =
    holds_or (Leads (Rule.alt x y) s a) u v
    (weaker {Q = Leads (Rule.alt x y) s a} u (λ m b h k' t d q. Derives.first h q) h) (λ kind. weaker {Q = Leads (Rule.alt x y) s a} (v kind) (λ m b h k' t d q. Derives.second h q) (i kind))

module _ (read : Row → Bool → State → Tree → Answer Tree) (rows : (r : Row) (c : Bool) (s : State) (a : Tree) → Holds (Derives (rule r) s a) (read r c s a)) where
  pub derives : (c : Bool) (r : Rule) (s : State) (a : Tree) → Holds (Derives r s a) (run_rule trees answer go_on read c r s a)
  unfolding run_rule
  derives c Rule.done s a = Derives.nothing
  derives c (Rule.leaf l k) s a =
      subst (Holds (Derives (Rule.leaf l k) s a)) (sym (step_then answer go_on (run_rule trees answer go_on read c k) l s a)) (then_on (Rule.leaf l) k s a (stepped l s a) (run_rule trees answer go_on read c k) (leaf_leads l s a) (derives c k))
  derives c (Rule.call on r k) s a =
      holds_next (Derives (Rule.call on r k) s a) (read r (on || c) s nil) (λ m b. run_rule trees answer go_on read c k m (Tree.cat a b)) (rows r (on || c) s nil) (λ m b h. weaker {P = Derives k m (Tree.cat a b)} {Q = Derives (Rule.call on r k) s a} (run_rule trees answer go_on read c k m (Tree.cat a b)) (λ t d q. Derives.call h q) (derives c k m (Tree.cat a b)))
  derives c (Rule.loop r k) s a = then_on (Rule.loop r) k s a _ _ (turns_lead r (read r c) (rows r c) (suc (length s.rest)) s a (omega arith)) (derives c k)
  derives c (Rule.star x k) s a = then_on (Rule.star x) k s a _ _ (many_leads x (run_rule trees answer go_on read c x) (derives c x) (suc (length s.rest)) s a) (derives c k)
  derives c (Rule.alt x y k) s a = then_on (Rule.alt x y) k s a _ _ (alt_leads x y s a _ _ (derives c x s a) (λ kind. derives c y s a)) (derives c k)
  derives c (Rule.commit k) s a = holds_hard (Derives (Rule.commit k) s a) (run_rule trees answer go_on read c k s a) (weaker {Q = Derives (Rule.commit k) s a} _ (λ t d q. Derives.committed q) (derives c k s a))
  derives c (Rule.block x k) s a = block_found (natural_at 10 s.rest) refl (derives c x) (derives c k)
    where
      Inner : Type 0
      Inner = (m : State) (b : Tree) → Holds (Derives x m b) (run_rule trees answer go_on read c x m b)

      block_found : (f : Found ℕ) → natural_at 10 s.rest ≡ f → ((m : State) (b : Tree) → Holds (Derives x m b) (run_rule trees answer go_on read c x m b)) → ((m : State) (b : Tree) → Holds (Derives k m b) (run_rule trees answer go_on read c k m b))
          → Holds (Derives (Rule.block x k) s a) (found trees answer go_on f (λ n v. sized trees answer go_on (nat_lt (length (drop n s.rest)) v) v (ahead_by n s) (run_rule trees answer go_on read c x)
          (λ m b. run_rule trees answer go_on read c k m (Tree.cat (Tree.cat a (digits_of n s)) b))))
      block_found (none kind) e f g = tt
      block_found (took n v) e f g = block_derives x k s a (took n v) e (run_rule trees answer go_on read c x) _ f n v refl (λ m b. g m (Tree.cat (Tree.cat a (digits_of n s)) b))
  derives c (Rule.part h x k) s a =
      holds_next (Derives (Rule.part h x k) s a) (run_rule trees answer go_on read c x s nil) (λ m b. run_rule trees answer go_on read c k m (Tree.cat a (Tree.over (How.shaped h) b))) (derives c x s nil)
      (λ m b p. weaker {P = Derives k m (Tree.cat a (Tree.over (How.shaped h) b))} {Q = Derives (Rule.part h x k) s a} (run_rule trees answer go_on read c k m (Tree.cat a (Tree.over (How.shaped h) b))) (λ t d q. Derives.part p q) (derives c k m (Tree.cat a (Tree.over (How.shaped h) b))))
  derives c (Rule.trial r k) s a =
      trial_holds (Derives (Rule.trial r k) s a) (next_is (Class.these (codes "I")) s.rest) c (read r c s nil) (λ u. run_rule trees answer go_on read c k s a) (weaker {Q = Derives (Rule.trial r k) s a} _ (λ t d q. Derives.no_trial q) (derives c k s a))

pub reads : (left : ℕ) (r : Row) (c : Bool) (s : State) (a : Tree) → Holds (Derives (rule r) s a) (read_from trees left r c s a)
unfolding read_from
reads zero r c s a = tt
reads (suc left) r c s a = holds_soft _ (run_rule trees answer go_on (read_from trees left) c (rule r) s a) (derives (read_from trees left) (reads left) c (rule r) s a)
