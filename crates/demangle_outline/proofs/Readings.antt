-- Two readings side by side stay so.
use Rattle.std.specs.Prelude.{◌≡◌, ℕ, zero, suc, Bool, true, false, not, ◌&&◌, ◌||◌, List, length, drop, ◌==◌, nat_lt, codes}
use Rattle.std.proofs.Common.{refl}
use Rattle.demangle_core.specs.Core.{Core, end, ◌⊕◌, Tag, Which, N, U}
use Rattle.demangle_core.specs.Table.{Entry, count}
use Rattle.demangle_text.specs.Kind.{Cause, Text, Bad, End}
use Rattle.demangle_text.specs.Found.{Found, took, none}
use Rattle.demangle_text.specs.Word.{starts, missing_word}
use Rattle.demangle_text.specs.Number.{natural_at}
use Rattle.demangle_grammar.specs.Rule.{Class, Row, Make, Leaf, Rule}
use Rattle.demangle_grammar.specs.Tree.{cores, How, shape, template_entry, reference}
use Rattle.demangle_grammar.specs.Rows.{rule}
use Rattle.demangle_grammar.specs.Reading.{State, Answer, Yes, No, Deep, find, refusal, marks, step, where_so, found, next_do, or_else, ended, many, turned, turn, turns, whole, sized, tried, trial_of, run_rule, read_from, answer, go_on, hard, soft, kept, prefix_entry, is_empty, next_is, ahead_by}
use Rattle.demangle_grammar.proofs.Truth.{both_true, either}
use Rattle.demangle_outline.proofs.Alike.{Heads, Alike, Blind, heads, two_nodes, heads_behind, behind, component_same, holds_same, nestable_same, reshaped_alike, template_alike, reference_alike, IsSelf, find_self, taken_node}
use Rattle.demangle_outline.proofs.Worlds.{begins_so, Free, Calm, free_by, Near, ahead_near, front_near, wider_near, calm_behind, kept_near, both_new, both_free, counts_free, prefix_same}

-- ---- what is checked of a rule
-- y: the parts so far are known by their first fields alone, as behind a nested name; z: so may they be at the end;
-- f: an `S` was read before.
abbrev pub is_nested : Row → Bool
is_nested Row.nested_name = true
is_nested _ = false

abbrev pub names : Leaf → Bool
names (Leaf.make (Make.one Tag.NameNested)) = true
names _ = false

abbrev pub may : Bool → Leaf → Bool
may f Leaf.refer = f
may f _ = true

abbrev pub passes : Bool → Leaf → Bool
passes f (Leaf.word w) = f || begins_so w
passes f _ = f

abbrev pub takes_over : Leaf → Bool
takes_over Leaf.take_over = true
takes_over _ = false

abbrev pub okay : Bool → Bool → Bool → Rule → Bool
okay y z f Rule.done = not y || z
okay true z f (Rule.leaf l k) = names l && okay false z f k
okay false z f (Rule.leaf l k) = may f l && okay (takes_over l) z (passes f l) k
okay y z f (Rule.call on r k) = not y && okay (is_nested r) z f k
okay y z f (Rule.loop r k) = not y && (not (is_nested r) && okay false z f k)
okay y z f (Rule.star x k) = not y && (okay false false f x && okay false z f k)
okay y z f (Rule.alt x v k) = not y && (okay false false f x && (okay false false f v && okay false z f k))
okay y z f (Rule.commit k) = okay y z f k
okay y z f (Rule.block x k) = not y && (okay false false f x && okay false z f k)
okay y z f (Rule.part h x k) = not y && (okay false false f x && okay false z f k)
okay y z f (Rule.trial r k) = not y && okay false z f k

all_okay : (r : Row) → okay false (is_nested r) false (rule r) ≡ true
unfolding rule
all_okay Row.nested_name = refl
all_okay _ = refl

no : {A : Type 0} → false ≡ true → A
no e = absurd (cc)

module _ (t u : List Entry) where
  abbrev pub Of : Bool → Core → Core → Type 0
  Of true = Heads t u
  Of false = Alike t u

  of_alike : (z : Bool) (y : Bool) → (not y || z) ≡ true → (a b : Core) → Of y a b → Of z a b
  of_alike true true e a b h = h
  of_alike false true e a b h = no e
  of_alike true false e a b h = heads t u h
  of_alike false false e a b h = h

  behind_of : (y : Bool) {a b : Core} (c d : Core) → Alike t u a b → Of y c d → Of y (a ⊕ c) (b ⊕ d)
  behind_of true c d x h = heads_behind t u c d x h
  behind_of false c d x h = behind t u c d x h

  pub data Meets (Q : Core → Core → Type 0) : Answer Core → Answer Core → Type 0 where
    yes : {s r : State} {a b : Core} → Near t u s r → Q a b → Meets Q (Yes s a) (Yes r b)
    no_both : (h : Bool) (k : Cause) → Meets Q (No h k) (No h k)
    deep : Meets Q Deep Deep

  abbrev pub Goes : (P Q : Core → Core → Type 0) → (State → Core → Answer Core) → Type 0
  Goes P Q go = (s r : State) (a b : Core) → Near t u s r → P a b → Meets Q (go s a) (go r b)

  -- ---- leaves
  so_meets : (Q : Core → Core → Type 0) (x y : Bool) (k : Cause) (go to : Unit {0} → Answer Core) → x ≡ y → Meets Q (go tt) (to tt) → Meets Q (where_so cores answer go_on x k go) (where_so cores answer go_on y k to)
  so_meets Q true true k go to e h = h
  so_meets Q false false k go to e h = Meets.no_both false k
  so_meets Q true false k go to e h = absurd (cc)
  so_meets Q false true k go to e h = absurd (cc)

  name_meets : (Q : Core → Core → Type 0) (go : State → Core → Answer Core) → Goes (Alike t u) Q go → (l : Leaf) → names l ≡ true → (s r : State) (a b : Core) → Near t u s r → Heads t u a b
      → Meets Q (step cores answer go_on l s a go) (step cores answer go_on l r b go)
  name_meets Q go g (Leaf.make (Make.one Tag.NameNested)) e s r a b n h = g s r _ _ n (Alike.blind Blind.a_name h Alike.nil)
  name_meets Q go g _ e s r a b n h = no e

  word_meets : (Q : Core → Core → Type 0) (go : State → Core → Answer Core) (w : List ℕ) (f : Bool) → (f ≡ true → Free t u) → (((f || begins_so w) ≡ true → Free t u) → Goes (Alike t u) Q go)
      → (s r : State) (a b : Core) → Near t u s r → Alike t u a b → Meets Q (step cores answer go_on (Leaf.word w) s a go) (step cores answer go_on (Leaf.word w) r b go)
  word_meets Q go w f p g s r a b (Near.near i bs e d c h) x = by (starts w bs) refl
    where
      by : (z : Bool) → starts w bs ≡ z → Meets Q (where_so cores answer go_on z (missing_word w bs) (λ v. go (ahead_by (length w) s) (a ⊕ end))) (where_so cores answer go_on z (missing_word w bs) (λ v. go (ahead_by (length w) r) (b ⊕ end)))
      by true q = g (λ o. either f (begins_so w) o p (λ m. free_by t u w bs q m c)) _ _ _ _ (ahead_near t u (length w) (Near.near i bs e d c h)) (behind t u end end x Alike.nil)
      by false q = Meets.no_both false (missing_word w bs)

  found_meets : (Q : Core → Core → Type 0) (go : State → Core → Answer Core) → Goes (Alike t u) Q go → (x : Found Core) → IsSelf t u x → (s r : State) (a b : Core) → Near t u s r → Alike t u a b
      → Meets Q (found cores answer go_on x (λ n v. go (ahead_by n s) (a ⊕ v))) (found cores answer go_on x (λ n v. go (ahead_by n r) (b ⊕ v)))
  found_meets Q go g (took n v) i s r a b m h = g _ _ _ _ (ahead_near t u n m) (behind t u v v h i)
  found_meets Q go g (none k) i s r a b m h = Meets.no_both false k

  mark_meets : (Q : Core → Core → Type 0) (go : State → Core → Answer Core) → Goes (Alike t u) Q go → (w : Which) → (s r : State) (a b : Core) → Near t u s r → Alike t u a b
      → Meets Q (go (kept s (record { which = w; tree = a })) (reference w (count w s.entries))) (go (kept r (record { which = w; tree = b })) (reference w (count w r.entries)))
  mark_meets Q go g w s r a b n h = g _ _ _ _ (kept_near t u w a b (nestable_same t u h) n) (reference_alike t u w _ _ (both_new t u w n))

  leaf_meets : (Q : Core → Core → Type 0) (go : State → Core → Answer Core) (l : Leaf) (f : Bool) → may f l ≡ true → (f ≡ true → Free t u) → ((passes f l ≡ true → Free t u) → Goes (Of (takes_over l)) Q go)
      → (s r : State) (a b : Core) → Near t u s r → Alike t u a b → Meets Q (step cores answer go_on l s a go) (step cores answer go_on l r b go)
  leaf_meets Q go (Leaf.word w) f o p g s r a b n h = word_meets Q go w f p g s r a b n h
  leaf_meets Q go (Leaf.eat x) f o p g s r a b (Near.near i bs e d c m) h = found_meets Q go (g p) (find x i bs) (find_self t u x i bs) s r a b (Near.near i bs e d c m) h
  leaf_meets Q go (Leaf.check c) f o p g s r a b (Near.near i bs e d z m) h =
      so_meets Q _ _ (refusal c) _ _ (holds_same t u c bs h) (g p _ _ _ _ (Near.near i bs e d z m) h)
  leaf_meets Q go (Leaf.make x) f o p g s r a b n h = g p _ _ _ _ n (reshaped_alike t u x h)
  leaf_meets Q go (Leaf.mark x) f o p g s r a b (Near.near i bs e d z m) h = mark_meets Q go (g p) (marks x bs) s r a b (Near.near i bs e d z m) h
  leaf_meets Q go Leaf.refer f o p g s r a b n h =
      let q = component_same t u h in
      so_meets Q _ _ Bad _ _ ((λ i. nat_lt (q i) (counts_free t u (p o) N n i)))
      (g p _ _ _ _ n (reference_alike t u N _ _ (both_free t u N _ _ (p o) q)))
  leaf_meets Q go Leaf.take_over f o p g s r a b n h =
      so_meets Q _ _ Text _ _ (prefix_same t u n h) (g p _ _ _ _ n (two_nodes t u _ _ (taken_node (prefix_entry a s.entries) a) (taken_node (prefix_entry b r.entries) b)))
  leaf_meets Q go Leaf.no_prefix f o p g s r a b (Near.near i bs e d z m) h = Meets.no_both false _
  leaf_meets Q go Leaf.mark_first f o p g s r a b n h =
      g p _ _ _ _ (kept_near t u U (template_entry a) (template_entry b) refl n) (template_alike t u _ _ (both_new t u U n) h)

  -- ---- one after another
  then_meets : (P Q : Core → Core → Type 0) (go : State → Core → Answer Core) → Goes P Q go → {x y : Answer Core} → Meets P x y → Meets Q (next_do cores answer go_on go x) (next_do cores answer go_on go y)
  then_meets P Q go g (Meets.yes n h) = g _ _ _ _ n h
  then_meets P Q go g (Meets.no_both h k) = Meets.no_both h k
  then_meets P Q go g Meets.deep = Meets.deep

  -- behind parts that differ
  next_meets : (P Q : Core → Core → Type 0) (go to : State → Core → Answer Core) → ((s r : State) (a b : Core) → Near t u s r → P a b → Meets Q (go s a) (to r b)) → {x y : Answer Core} → Meets P x y
      → Meets Q (next_do cores answer go_on go x) (next_do cores answer go_on to y)
  next_meets P Q go to g (Meets.yes n h) = g _ _ _ _ n h
  next_meets P Q go to g (Meets.no_both h k) = Meets.no_both h k
  next_meets P Q go to g Meets.deep = Meets.deep

  or_meets : (Q : Core → Core → Type 0) (go to : Cause → Answer Core) → ((k : Cause) → Meets Q (go k) (to k)) → {x y : Answer Core} → Meets Q x y → Meets Q (or_else cores answer go_on go x) (or_else cores answer go_on to y)
  or_meets Q go to g (Meets.yes n h) = Meets.yes n h
  or_meets Q go to g (Meets.no_both true k) = Meets.no_both true k
  or_meets Q go to g (Meets.no_both false k) = g k
  or_meets Q go to g Meets.deep = Meets.deep

  hard_meets : (Q : Core → Core → Type 0) {x y : Answer Core} → Meets Q x y → Meets Q (hard x) (hard y)
  hard_meets Q (Meets.yes n h) = Meets.yes n h
  hard_meets Q (Meets.no_both h k) = Meets.no_both true k
  hard_meets Q Meets.deep = Meets.deep

  soft_meets : (Q : Core → Core → Type 0) {x y : Answer Core} → Meets Q x y → Meets Q (soft x) (soft y)
  soft_meets Q (Meets.yes n h) = Meets.yes n h
  soft_meets Q (Meets.no_both h k) = Meets.no_both false k
  soft_meets Q Meets.deep = Meets.deep

  -- ---- repetitions
  ended_meets : (P : Core → Core → Type 0) (go : State → Core → Answer Core) → Goes P P go → (s r : State) (a b : Core) → Near t u s r → P a b → {x y : Answer Core} → Meets P x y
      → Meets P (ended cores answer go_on s a go x) (ended cores answer go_on r b go y)
  ended_meets P go g s r a b n h (Meets.yes m i) = g _ _ _ _ m i
  ended_meets P go g s r a b n h (Meets.no_both i k) = Meets.yes n h
  ended_meets P go g s r a b n h Meets.deep = Meets.deep

  many_meets : (P : Core → Core → Type 0) (go : State → Core → Answer Core) → Goes P P go → (n : ℕ) → Goes P P (many cores answer go_on go n)
  many_meets P go g zero s r a b m h = Meets.yes m h
  many_meets P go g (suc n) s r a b m h = ended_meets P (many cores answer go_on go n) (many_meets P go g n) s r a b m h (g s r a b m h)

  turned_meets : (P : Core → Core → Type 0) (go : State → Core → Answer Core) → Goes P P go → (z : Bool) (s r : State) (a b : Core) → Near t u s r → P a b
      → Meets P (turned cores answer go_on s a z go) (turned cores answer go_on r b z go)
  turned_meets P go g true s r a b n h = Meets.yes n h
  turned_meets P go g false s r a b n h = g s r a b n h

  turn_meets : (P : Core → Core → Type 0) (go : State → Core → Answer Core) → Goes P P go → {s r : State} → Near t u s r → {x y : Answer Core} → Meets P x y
      → Meets P (turn cores answer go_on s go x) (turn cores answer go_on r go y)
  turn_meets P go g (Near.near i bs e d c m) (Meets.yes (Near.near j cs x y z o) h) = turned_meets P go g (length cs == length bs) _ _ _ _ (Near.near j cs x y z o) h
  turn_meets P go g n (Meets.no_both h k) = Meets.no_both h k
  turn_meets P go g n Meets.deep = Meets.deep

  turns_meet : (P : Core → Core → Type 0) (go : State → Core → Answer Core) → Goes P P go → (n : ℕ) → Goes P P (turns cores answer go_on go n)
  turns_meet P go g zero s r a b m h = Meets.yes m h
  turns_meet P go g (suc n) s r a b m h = turn_meets P (turns cores answer go_on go n) (turns_meet P go g n) m (g s r a b m h)

  -- ---- just so many bytes
  whole_meets : (P Q : Core → Core → Type 0) (bs : List ℕ) → Calm t u bs → (go to : State → Core → Answer Core) → ((s r : State) (a b : Core) → Near t u s r → P a b → Meets Q (go s a) (to r b)) → {x y : Answer Core} → Meets P x y
      → Meets Q (whole cores answer go_on bs go x) (whole cores answer go_on bs to y)
  whole_meets P Q bs c go to g (Meets.yes (Near.near i cs e d z m) h) = so_meets Q (is_empty cs) (is_empty cs) Text _ _ refl (g _ _ _ _ (wider_near t u bs c (Near.near i cs e d z m)) h)
  whole_meets P Q bs c go to g (Meets.no_both h k) = Meets.no_both false k
  whole_meets P Q bs c go to g Meets.deep = Meets.deep

  sized_meets : (P Q : Core → Core → Type 0) (go on to : State → Core → Answer Core) → Goes (Alike t u) P go → ((s r : State) (a b : Core) → Near t u s r → P a b → Meets Q (on s a) (to r b)) → (z : Bool) (v : ℕ) {s r : State} → Near t u s r
      → Meets Q (sized cores answer go_on z v s go on) (sized cores answer go_on z v r go to)
  sized_meets P Q go on to g h true v n = Meets.no_both false End
  sized_meets P Q go on to g h false zero n = Meets.no_both false Text
  sized_meets P Q go on to g h false (suc v) (Near.near i bs e d c m) =
      whole_meets P Q (drop (suc v) bs) (calm_behind t u (suc v) (Near.near i bs e d c m)) on to h (g _ _ end end (front_near t u (suc v) (Near.near i bs e d c m)) Alike.nil)

  block_meets : (P Q : Core → Core → Type 0) (go : State → Core → Answer Core) (on to : ℕ → State → Core → Answer Core) → Goes (Alike t u) P go → ((n : ℕ) (s r : State) (a b : Core) → Near t u s r → P a b → Meets Q (on n s a) (to n r b))
      → (x : Found ℕ) {s r : State} → Near t u s r
      → Meets Q (found cores answer go_on x (λ n v. sized cores answer go_on (nat_lt (length (drop n s.rest)) v) v (ahead_by n s) go (on n)))
      (found cores answer go_on x (λ n v. sized cores answer go_on (nat_lt (length (drop n r.rest)) v) v (ahead_by n r) go (to n)))
  block_meets P Q go on to g h (took n v) (Near.near i bs e d c m) = sized_meets P Q go (on n) (to n) g (h n) (nat_lt (length (drop n bs)) v) v (ahead_near t u n (Near.near i bs e d c m))
  block_meets P Q go on to g h (none k) n = Meets.no_both false k

  -- ---- the trial
  tried_meets : (P Q : Core → Core → Type 0) (go to : Unit {0} → Answer Core) → Meets Q (go tt) (to tt) → {x y : Answer Core} → Meets P x y → Meets Q (tried cores answer go_on go x) (tried cores answer go_on to y)
  tried_meets P Q go to g (Meets.yes (Near.near i bs e d c m) h) = so_meets Q _ _ Text go to refl g
  tried_meets P Q go to g (Meets.no_both h k) = g
  tried_meets P Q go to g Meets.deep = Meets.deep

  trial_meets : (P Q : Core → Core → Type 0) (z c : Bool) (go to : Unit {0} → Answer Core) → Meets Q (go tt) (to tt) → {x y : Answer Core} → Meets P x y
      → Meets Q (trial_of cores answer go_on z c (λ v. x) go) (trial_of cores answer go_on z c (λ v. y) to)
  trial_meets P Q false c go to g h = g
  trial_meets P Q true false go to g h = Meets.no_both false Text
  trial_meets P Q true true go to g h = tried_meets P Q go to g h

  -- ---- rules
  module _ (read : Row → Bool → State → Core → Answer Core) (rows : (r : Row) (c : Bool) → Goes (Alike t u) (Of (is_nested r)) (read r c)) where
    rule_meets : (c : Bool) (x : Rule) (y z f : Bool) → okay y z f x ≡ true → (f ≡ true → Free t u) → Goes (Of y) (Of z) (run_rule cores answer go_on read c x)
    unfolding run_rule
    rule_meets c Rule.done y z f o p s r a b n h = Meets.yes n (of_alike z y o a b h)
    rule_meets c (Rule.leaf l k) true z f o p s r a b n h =
        let os = both_true _ _ o in
        name_meets (Of z) (run_rule cores answer go_on read c k) (rule_meets c k false z f os.1 p) l os.0 s r a b n h
    rule_meets c (Rule.leaf l k) false z f o p s r a b n h =
        let os = both_true _ _ o in
        leaf_meets (Of z) (run_rule cores answer go_on read c k) l f os.0 p (λ q. rule_meets c k (takes_over l) z (passes f l) os.1 q) s r a b n h
    rule_meets c (Rule.call on w k) false z f o p s r a b n h =
        next_meets (Of (is_nested w)) (Of z) _ _ (λ m v d e i j. rule_meets c k (is_nested w) z f o p m v (a ⊕ d) (b ⊕ e) i (behind_of (is_nested w) d e h j)) (rows w (on || c) s r end end n Alike.nil)
    rule_meets c (Rule.loop w k) false z f o p s r a b (Near.near i bs e d q m) h =
        let os = both_true _ _ o in
        then_meets (Alike t u) (Of z) (run_rule cores answer go_on read c k) (rule_meets c k false z f os.1 p)
        (turns_meet (Alike t u) (read w c) (plain w os.0 c) (suc (length bs)) s r a b (Near.near i bs e d q m) h)
      where
        as_alike : (v : Bool) → not v ≡ true → (x y : Core) → Of v x y → Alike t u x y
        as_alike false l x y j = j
        as_alike true l x y j = no l

        plain_by : (v : Row) → not (is_nested v) ≡ true → {x y : Answer Core} → Meets (Of (is_nested v)) x y → Meets (Alike t u) x y
        plain_by v l (Meets.yes j g) = Meets.yes j (as_alike (is_nested v) l _ _ g)
        plain_by v l (Meets.no_both g j) = Meets.no_both g j
        plain_by v l Meets.deep = Meets.deep

        plain : (v : Row) → not (is_nested v) ≡ true → (x : Bool) → Goes (Alike t u) (Alike t u) (read v x)
        plain v l x s' r' a' b' n' h' = plain_by v l (rows v x s' r' a' b' n' h')
    rule_meets c (Rule.star x k) false z f o p s r a b (Near.near i bs e d q m) h =
        let os = both_true _ _ o in
        then_meets (Alike t u) (Of z) (run_rule cores answer go_on read c k) (rule_meets c k false z f os.1 p)
        (many_meets (Alike t u) (run_rule cores answer go_on read c x) (rule_meets c x false false f os.0 p) (suc (length bs)) s r a b (Near.near i bs e d q m) h)
    rule_meets c (Rule.alt x v k) false z f o p s r a b n h =
        let os = both_true _ _ o in
        let ps = both_true _ _ os.1 in
        then_meets (Alike t u) (Of z) (run_rule cores answer go_on read c k) (rule_meets c k false z f ps.1 p)
        (or_meets (Alike t u) (λ cause. run_rule cores answer go_on read c v s a) (λ cause. run_rule cores answer go_on read c v r b)
        (λ cause. rule_meets c v false false f ps.0 p s r a b n h) (rule_meets c x false false f os.0 p s r a b n h))
    rule_meets c (Rule.commit k) y z f o p s r a b n h = hard_meets (Of z) (rule_meets c k y z f o p s r a b n h)
    rule_meets c (Rule.block x k) false z f o p s r a b (Near.near i bs e d q m) h =
        let os = both_true _ _ o in
        block_meets (Alike t u) (Of z) (run_rule cores answer go_on read c x) _ _ (rule_meets c x false false f os.0 p)
        (λ l v w g j k' n'. rule_meets c k false z f os.1 p v w ((a ⊕ end) ⊕ g) ((b ⊕ end) ⊕ j) k' (behind t u g j (behind t u end end h Alike.nil) n')) (natural_at 10 bs) (Near.near i bs e d q m)
    rule_meets c (Rule.part x v k) false z f o p s r a b n h =
        let os = both_true _ _ o in
        next_meets (Alike t u) (Of z) _ _
        (λ l w d e i j. rule_meets c k false z f os.1 p l w (a ⊕ shape (How.shaped x) d) (b ⊕ shape (How.shaped x) e) i (behind t u _ _ h (reshaped_alike t u x j)))
        (rule_meets c v false false f os.0 p s r end end n Alike.nil)
    rule_meets c (Rule.trial w k) false z f o p s r a b (Near.near i bs e d q m) h =
        trial_meets (Of (is_nested w)) (Of z) (next_is (Class.these (codes "I")) bs) c _ _ (rule_meets c k false z f o p _ _ a b (Near.near i bs e d q m) h) (rows w c _ _ end end (Near.near i bs e d q m) Alike.nil)
    rule_meets c _ true z f o p s r a b n h = no o

  pub row_meets : (levels : ℕ) (r : Row) (c : Bool) → Goes (Alike t u) (Of (is_nested r)) (read_from cores levels r c)
  unfolding read_from
  row_meets zero r c s m a b n h = Meets.deep
  row_meets (suc levels) r c s m a b n h =
      soft_meets (Of (is_nested r)) (rule_meets (read_from cores levels) (row_meets levels) c (rule r) false (is_nested r) false (all_okay r) (λ e. no e) s m a b n h)
