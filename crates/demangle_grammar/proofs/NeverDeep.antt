-- With enough levels a reading is never Deep.
use Rattle.std.specs.Prelude.{◌≡◌, ◌≢◌, ℕ, zero, suc, ◌+◌, ◌*◌, ◌≤◌, ◌<◌, Bool, true, false, not, ◌&&◌, ◌||◌, List, [], ◌∷◌, length, take, drop, nat_lt, codes}
use Rattle.std.proofs.Common.{refl, subst, sym, arith, length-take, length-drop}
use Rattle.std.proofs.lemmas.Bool.{ltb-true}
use Rattle.demangle_core.specs.Table.{count}
use Rattle.demangle_core.specs.Core.{Core, N}
use Rattle.demangle_grammar.specs.Rule.{Row, Rule, Class, Leaf}
use Rattle.demangle_grammar.specs.Tree.{trees, Tree, How, nil, core, component_of}
use Rattle.demangle_grammar.specs.Rows.{rule}
use Rattle.demangle_grammar.specs.Reading.{State, Answer, Yes, No, Deep, stepped, found, where_so, prefix_entry, is_nestable, find, holds, refusal, answer, go_on, next_do, or_else, hard, soft, ended, many, turned, turn, turns, sized, whole, is_empty, widened, ahead_by, trial_of, tried, next_is, run_rule, read_from, enough}
use Rattle.demangle_grammar.specs.Laws.{Ends}
use Rattle.demangle_grammar.proofs.Derives.{Derives, narrowed}
use Rattle.demangle_grammar.proofs.Holds.{Holds, weaker}
use Rattle.demangle_grammar.proofs.Kept.{keeps}
use Rattle.demangle_grammar.proofs.Derived.{Leads, leaf_leads, alt_leads, many_leads, turns_lead, derives, reads}
use Rattle.demangle_grammar.proofs.Steps.{step_then}
use Rattle.demangle_grammar.proofs.Truth.{both_true}
use Rattle.demangle_grammar.proofs.Ranks.{rank, takes, guarded, all_agree, rank_small}
use Rattle.demangle_grammar.specs.First.{takes_row, takes_leaf}
use Rattle.demangle_grammar.proofs.Takes.{Takes, took_byte, row_takes, naturals_take}
use Rattle.demangle_text.specs.Word.{starts, missing_word}
use Rattle.demangle_text.specs.Number.{natural_at}
use Rattle.demangle_text.specs.Kind.{Cause, Text, Bad}
use Rattle.demangle_text.specs.Found.{Found, took, none}

-- the answer isn't Deep
abbrev Ended : Answer Tree → Type 0
Ended Deep = ⊥
Ended _ = Unit {0}

then_ends : (P : State → Tree → Type 0) (x : Answer Tree) (go : State → Tree → Answer Tree) → Ended x → Holds P x → ((s : State) (a : Tree) → P s a → Ended (go s a)) → Ended (next_do trees answer go_on go x)
then_ends P (Yes s a) go e h f = f s a h
then_ends P (No b k) go e h f = tt
then_ends P Deep go e h f = e

or_ends : (x : Answer Tree) (go : Cause → Answer Tree) → Ended x → ((k : Cause) → Ended (go k)) → Ended (or_else trees answer go_on go x)
or_ends (Yes s a) go e f = tt
or_ends (No true k) go e f = tt
or_ends (No false k) go e f = f k
or_ends Deep go e f = e

soft_ends : (x : Answer Tree) → Ended x → Ended (soft x)
soft_ends (Yes s a) e = tt
soft_ends (No b k) e = tt
soft_ends Deep e = e

hard_ends : (x : Answer Tree) → Ended x → Ended (hard x)
hard_ends (Yes s a) e = tt
hard_ends (No b k) e = tt
hard_ends Deep e = e

-- levels that are left for a row whose rank is n, before it took a byte (false) and after
abbrev Room : ℕ → ℕ → Bool → State → Type 0
Room left n true s = 10 * length s.rest + 10 ≤ left
Room left n false s = 10 * length s.rest + n ≤ left

stays : (left n : ℕ) (f : Bool) (s t : State) → length t.rest ≤ length s.rest → Room left n f s → Room left n f t
stays left n true s t l r = omega arith
stays left n false s t l r = omega arith

gains : (left n : ℕ) (f b : Bool) (s t : State) → length t.rest ≤ length s.rest → (b ≡ true → length t.rest < length s.rest) → Room left n f s → Room left n (f || b) t
gains left n true b s t l h r = omega arith
gains left n false true s t l h r = omega (arith, h refl)
gains left n false false s t l h r = omega arith

after_byte : (left n : ℕ) (f : Bool) (s t : State) → length t.rest < length s.rest → Room left n f s → Room left n true t
after_byte left n true s t l r = omega arith
after_byte left n false s t l r = omega arith

-- the room is enough to enter a row
enters : (left n : ℕ) (f : Bool) (s : State) (r : Row) → (f || nat_lt (rank r) n) ≡ true → Room left n f s → 10 * length s.rest + rank r < left
enters left n true s r e m = omega (arith, rank_small r)
enters left n false s r e m = omega (arith, ltb-true (rank r) n e)

so_ends : (b : Bool) (k : Cause) (go : Unit {0} → Answer Tree) → Ended (go tt) → Ended (where_so trees answer go_on b k go)
so_ends true k go e = e
so_ends false k go e = tt

step_ends : (l : Leaf) (s : State) (a : Tree) → Ended (stepped l s a)
step_ends (Leaf.word w) s a = so_ends (starts w s.rest) (missing_word w s.rest) (λ u. Yes (ahead_by (length w) s) (Tree.cat a (Tree.leaf w Core.end))) tt
step_ends (Leaf.eat x) s a = by (find x s.at s.rest)
  where
    by : (f : Found Core) → Ended (found trees answer go_on f (λ n v. Yes (ahead_by n s) (Tree.cat a (Tree.leaf (take n s.rest) v))))
    by (took n v) = tt
    by (none k) = tt
step_ends (Leaf.check c) s a = so_ends (holds c s.rest (core a)) (refusal c) (λ u. Yes s a) tt
step_ends (Leaf.make m) s a = tt
step_ends (Leaf.mark m) s a = tt
step_ends Leaf.refer s a = let k = component_of (core a) in so_ends (nat_lt k (count N s.entries)) Bad (λ u. Yes s (Tree.over (How.refers k) a)) tt
step_ends Leaf.take_over s a = let x = prefix_entry (core a) s.entries in so_ends (is_nestable x) Text (λ u. Yes s (Tree.over (How.taken x) a)) tt
step_ends Leaf.no_prefix s a = tt
step_ends Leaf.mark_first s a = tt

-- ---- a whole rule
or_left : (b : Bool) → b ≡ true → (b || false) ≡ true
or_left true e = refl
or_left false e = e

-- goes on with the room that is left
then_room : (f : Rule → Rule) (s : State) (a : Tree) (x : Answer Tree) (go : State → Tree → Answer Tree) → Ended x → Holds (Leads f s a) x
    → ((m : State) (b : Tree) → length m.rest ≤ length s.rest → (takes (f Rule.done) ≡ true → length m.rest < length s.rest) → Ended (go m b))
    → Ended (next_do trees answer go_on go x)
then_room f s a x go e h i =
    then_ends (Leads f s a) x go e h (λ m b l. let d : Derives (f Rule.done) s a m b = l Rule.done m b Derives.nothing in i m b (keeps d).shorter (took_byte d))

many_ends : (P : State → Type 0) (go : State → Tree → Answer Tree) → ((m : State) (b : Tree) → P m → Ended (go m b)) → ((m : State) (b : Tree) → P m → Holds (λ t d. P t) (go m b)) → (n : ℕ) (s : State) (a : Tree) → P s → Ended (many trees answer go_on go n s a)
many_ends P go f g zero s a p = tt
many_ends P go f g (suc n) s a p = by (go s a) (f s a p) (g s a p) (many_ends P go f g n)
  where
    by : (y : Answer Tree) → Ended y → Holds (λ t d. P t) y → ((m : State) (b : Tree) → P m → Ended (many trees answer go_on go n m b)) → Ended (ended trees answer go_on s a (many trees answer go_on go n) y)
    by (Yes m b) e h more = more m b h
    by (No b k) e h more = tt
    by Deep e h more = e

turns_end : (P : State → Type 0) (go : State → Tree → Answer Tree) → ((m : State) (b : Tree) → P m → Ended (go m b)) → ((m : State) (b : Tree) → P m → Holds (λ t d. P t) (go m b)) → (n : ℕ) (s : State) (a : Tree) → P s → Ended (turns trees answer go_on go n s a)
turns_end P go f g zero s a p = tt
turns_end P go f g (suc n) s a p = by (go s a) (f s a p) (g s a p) (turns_end P go f g n)
  where
    turn_by : (m : State) (b : Tree) (z : Bool) → Ended (turns trees answer go_on go n m b) → Ended (turned trees answer go_on m b z (turns trees answer go_on go n))
    turn_by m b true e = tt
    turn_by m b false e = e

    by : (y : Answer Tree) → Ended y → Holds (λ t d. P t) y → ((m : State) (b : Tree) → P m → Ended (turns trees answer go_on go n m b)) → Ended (turn trees answer go_on s (turns trees answer go_on go n) y)
    by (Yes m b) e h more = turn_by m b _ (more m b h)
    by (No b k) e h more = tt
    by Deep e h more = e

-- what comes after a block has less left
whole_ends : (s : State) (bs : List ℕ) (on : State → Tree → Answer Tree) → length bs < length s.rest → ((m : State) (b : Tree) → length m.rest < length s.rest → Ended (on m b)) → (x : Answer Tree) → Ended x → Ended (whole trees answer go_on bs on x)
whole_ends s bs on l h (Yes m t) e = so_ends (is_empty m.rest) Text (λ u. on (widened bs m) t) (h (widened bs m) t l)
whole_ends s bs on l h (No b k) e = tt
whole_ends s bs on l h Deep e = e

block_ends : (go : State → Tree → Answer Tree) (on : ℕ → State → Tree → Answer Tree) (s : State) (f : Found ℕ) → Takes s.rest f → ((m : State) (b : Tree) → length m.rest < length s.rest → Ended (go m b))
    → ((n : ℕ) (m : State) (b : Tree) → length m.rest < length s.rest → Ended (on n m b))
    → Ended (found trees answer go_on f (λ n v. sized trees answer go_on (nat_lt (length (drop n s.rest)) v) v (ahead_by n s) go (on n)))
block_ends go on s (none k) t h i = tt
block_ends go on s (took n v) t h i = by (nat_lt (length (drop n s.rest)) v) v
  where
    by : (z : Bool) (w : ℕ) → Ended (sized trees answer go_on z w (ahead_by n s) go (on n))
    by true w = tt
    by false zero = tt
    by false (suc w) =
        whole_ends s (drop (suc w) (drop n s.rest)) (on n) (omega (arith, t, length-drop (suc w) (drop n s.rest))) (i n) _
        (h (narrowed (suc w) (ahead_by n s)) nil (omega (arith, t, length-take (suc w) (drop n s.rest))))

tried_ends : (go : Unit {0} → Answer Tree) → Ended (go tt) → (x : Answer Tree) → Ended x → Ended (tried trees answer go_on go x)
tried_ends go h (Yes t d) e = so_ends (not (next_is (Class.these (codes "I")) t.rest)) Text go h
tried_ends go h (No b k) e = h
tried_ends go h Deep e = e

trial_ends : (b c : Bool) (x : Answer Tree) (go : Unit {0} → Answer Tree) → Ended x → Ended (go tt) → Ended (trial_of trees answer go_on b c (λ u. x) go)
trial_ends false c x go e h = h
trial_ends true false x go e h = tt
trial_ends true true x go e h = tried_ends go h x e

module _ (left : ℕ) (read : Row → Bool → State → Tree → Answer Tree) (derived : (r : Row) (c : Bool) (s : State) (a : Tree) → Holds (Derives (rule r) s a) (read r c s a))
    (rows : (r : Row) (c : Bool) (s : State) (a : Tree) → 10 * length s.rest + rank r < left → Ended (read r c s a)) where
  rule_ends : (c : Bool) (r : Rule) (n : ℕ) (f : Bool) → guarded n f r ≡ true → (s : State) (a : Tree) → Room left n f s → Ended (run_rule trees answer go_on read c r s a)
  unfolding run_rule
  rule_ends c Rule.done n f g s a m = tt
  rule_ends c (Rule.leaf l k) n f g s a m =
      subst Ended (sym (step_then answer go_on (run_rule trees answer go_on read c k) l s a))
      (then_room (Rule.leaf l) s a (stepped l s a) (run_rule trees answer go_on read c k) (step_ends l s a) (leaf_leads l s a)
      (λ t b x y. rule_ends c k n (f || takes_leaf l) g t b (gains left n f (takes_leaf l) s t x (λ e. y (or_left _ e)) m)))
  rule_ends c (Rule.call on r k) n f g s a m =
      let gs = both_true _ _ g in
      then_ends (Derives (rule r) s nil) (read r (on || c) s nil) _ (rows r (on || c) s nil (enters left n f s r gs.0 m)) (derived r (on || c) s nil)
      (λ t b d. rule_ends c k n (f || takes_row r) gs.1 t (Tree.cat a b) (gains left n f (takes_row r) s t (keeps d).shorter (λ e. took_byte d (row_takes r e)) m))
  rule_ends c (Rule.loop r k) n f g s a m =
      let gs = both_true _ _ g in
      then_room (Rule.loop r) s a _ _
      (turns_end (Room left n f) (read r c) (λ t b x. rows r c t b (enters left n f t r gs.0 x)) (λ t b x. weaker _ (λ u d y. stays left n f t u (keeps y).shorter x) (derived r c t b)) (suc (length s.rest)) s a m)
      (turns_lead r (read r c) (derived r c) (suc (length s.rest)) s a (omega arith))
      (λ t b x y. rule_ends c k n f gs.1 t b (stays left n f s t x m))
  rule_ends c (Rule.star x k) n f g s a m =
      let gs = both_true _ _ g in
      then_room (Rule.star x) s a _ _
      (many_ends (Room left n f) (run_rule trees answer go_on read c x) (λ t b y. rule_ends c x n f gs.0 t b y) (λ t b y. weaker _ (λ u d z. stays left n f t u (keeps z).shorter y) (derives read derived c x t b)) (suc (length s.rest)) s a m)
      (many_leads x (run_rule trees answer go_on read c x) (derives read derived c x) (suc (length s.rest)) s a)
      (λ t b y z. rule_ends c k n f gs.1 t b (stays left n f s t y m))
  rule_ends c (Rule.alt x y k) n f g s a m =
      let gs = both_true _ _ g in
      let hs = both_true _ _ gs.1 in
      then_room (Rule.alt x y) s a _ _
      (or_ends _ _ (rule_ends c x n f gs.0 s a m) (λ kind. rule_ends c y n f hs.0 s a m))
      (alt_leads x y s a _ _ (derives read derived c x s a) (λ kind. derives read derived c y s a))
      (λ t b u v. rule_ends c k n (f || (takes x && takes y)) hs.1 t b (gains left n f (takes x && takes y) s t u (λ e. v (or_left _ e)) m))
  rule_ends c (Rule.commit k) n f g s a m = hard_ends _ (rule_ends c k n f g s a m)
  rule_ends c (Rule.block x k) n f g s a m =
      let gs = both_true _ _ g in
      block_ends (run_rule trees answer go_on read c x) (λ i t b. run_rule trees answer go_on read c k t (Tree.cat (Tree.cat a (Tree.leaf (take i s.rest) Core.end)) b)) s (natural_at 10 s.rest) (naturals_take 10 s.rest)
      (λ t b l. rule_ends c x n true gs.0 t b (after_byte left n f s t l m)) (λ i t b l. rule_ends c k n true gs.1 t _ (after_byte left n f s t l m))
  rule_ends c (Rule.part h x k) n f g s a m =
      let gs = both_true _ _ g in
      then_ends (Derives x s nil) (run_rule trees answer go_on read c x s nil) _ (rule_ends c x n f gs.0 s nil m) (derives read derived c x s nil)
      (λ t b d. rule_ends c k n (f || takes x) gs.1 t (Tree.cat a (Tree.over (How.shaped h) b)) (gains left n f (takes x) s t (keeps d).shorter (took_byte d) m))
  rule_ends c (Rule.trial r k) n f g s a m =
      let gs = both_true _ _ g in
      trial_ends (next_is (Class.these (codes "I")) s.rest) c (read r c s nil) (λ u. run_rule trees answer go_on read c k s a) (rows r c s nil (enters left n f s r gs.0 m)) (rule_ends c k n f gs.1 s a m)

-- ---- a row
row_ends : (left : ℕ) (r : Row) (c : Bool) (s : State) (a : Tree) → 10 * length s.rest + rank r < left → Ended (read_from trees left r c s a)
unfolding read_from
row_ends zero r c s a l = absurd (omega arith)
row_ends (suc left) r c s a l =
    soft_ends _ (rule_ends left (read_from trees left) (reads left) (row_ends left) c (rule r) (rank r) false (both_true _ _ (all_agree r)).0 s a (omega (arith, l)))

pub enough_is : (bs : List ℕ) → enough bs ≡ 10 * length bs + 10
enough_is [] = refl
enough_is (b ∷ bs) = omega (arith, enough_is bs)

not_deep : (x : Answer Tree) → Ended x → x ≢ Deep
not_deep x e p = subst Ended p e

pub all_ends : Ends
all_ends r c s = not_deep _ (row_ends (enough s.rest) r c s nil (omega (arith, enough_is s.rest, rank_small r)))
