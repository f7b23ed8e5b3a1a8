-- A name's reading never stops for a back reference that isn't there: where one is met, it is read otherwise.
use Rattle.std.specs.Prelude.{◌≡◌, ℕ, zero, suc, ◌-◌, ◌^◌, Bool, true, false, cond, not, ◌&&◌, ◌||◌, List, [], ◌∷◌}
use Rattle.std.specs.Prelude.{length, nat_eq, nat_lt, pos, codes, Option, Some, None}
use Rattle.std.proofs.Common.{refl, sym, subst, ◌∙◌, true≢false}
use Rattle.demangle_text.specs.Kind.{Cause, End, Text, Bad, Over, Kind, Unread, Other, kind}
use Rattle.demangle_text.specs.declared.error.Error.{Error}
use Rattle.demangle_text.specs.declared.error.Error.TheVariants as error
use Rattle.demangle_text.specs.Found.{Found, took, none, mapped, behind}
use Rattle.demangle_text.specs.Word.{starts, missing_word}
use Rattle.demangle_text.specs.Bytes.{is_digit, span}
use Rattle.demangle_text.specs.Characters.{identifier_len}
use Rattle.demangle_text.specs.Number.{run_of, leads_with_zero, value_of, bounded, natural_of, natural_at, number_at}
use Rattle.demangle_text.specs.Number.{signed_at, negative}
use Rattle.demangle_vocab.specs.WordTable.{begins, no_word, word_in, word_or}
use Rattle.demangle_core.specs.Core.{Core, end, ◌⊕◌, N}
use Rattle.demangle_core.specs.Table.{count, empty_table}
use Rattle.demangle_grammar.specs.Rule.{Class, Row, Eat, Cond, Leaf, Rule}
use Rattle.demangle_grammar.specs.Rows.{rule}
use Rattle.demangle_grammar.specs.Tree.{How, cores, shape, component_of}
use Rattle.demangle_grammar.specs.Reading.{State, Answer, Yes, No, run_found, run_at, find, is_in, next_is, is_empty}
use Rattle.demangle_grammar.specs.Reading.{holds, refusal, is_nestable, prefix_entry, where_so, found, step, next_do}
use Rattle.demangle_grammar.specs.Reading.{or_else, ended, many, turned, turn, turns, whole, widened, sized, tried}
use Rattle.demangle_grammar.specs.Reading.{trial_of, run_rule, answer, go_on, hard, soft, read_from, numbered, worded}
use Rattle.demangle_grammar.specs.Reading.{ahead_by}
use Rattle.demangle_grammar.specs.Reading as reading
use Rattle.demangle_grammar.specs.Code.{Reply, Refused, here, cread}
use Rattle.demangle_grammar.specs.Code as code
use Rattle.demangle_grammar.specs.Laws.{from}
use Rattle.demangle_grammar.specs.Seen.{replied}
use Rattle.demangle_grammar.proofs.Bridge.{reads_code}
use Rattle.demangle_grammar.proofs.Truth.{implied}
use Rattle.demangler.specs.Answer.{read_error, is_of_name}

-- ---- what is found at the front
-- the cause is another
abbrev IsOther : Cause → Type 0
IsOther Bad = ⊥
IsOther _ = Unit {0}

abbrev NoBad : {X : Type 0} → Found X → Type 0
NoBad (took n x) = Unit {0}
NoBad (none c) = IsOther c

missing_other : (w bs : List ℕ) → IsOther (missing_word w bs)
missing_other w bs = by (nat_lt (length bs) (length w))
  where
    by : (b : Bool) → IsOther (cond b End Text)
    by true = tt
    by false = tt

mapped_other : {X Y : Type 0} (f : X → Y) (x : Found X) → NoBad x → NoBad (mapped f x)
mapped_other f (took n x) h = tt
mapped_other f (none c) h = h

behind_other : {X : Type 0} (n : ℕ) (x : Found X) → NoBad x → NoBad (behind n x)
behind_other n (took m x) h = tt
behind_other n (none c) h = h

bounded_other : (base : ℕ) (ds : List ℕ) → NoBad (bounded base ds)
bounded_other base ds = by (nat_lt (value_of base 0 ds) (2 ^ 63))
  where
    by : (b : Bool) → NoBad (cond b (took (length ds) (value_of base 0 ds)) (none Over))
    by true = tt
    by false = tt

natural_of_other : (base : ℕ) (ds : List ℕ) → NoBad (natural_of base ds)
natural_of_other base [] = tt
natural_of_other base (d ∷ ds) = by (leads_with_zero (d ∷ ds))
  where
    by : (b : Bool) → NoBad (cond b (none Text) (bounded base (d ∷ ds)))
    by true = tt
    by false = bounded_other base (d ∷ ds)

natural_other : (base : ℕ) (bs : List ℕ) → NoBad (natural_at base bs)
natural_other base [] = tt
natural_other base (b ∷ bs) = natural_of_other base (run_of base (b ∷ bs))

signed_other : (base : ℕ) (bs : List ℕ) → NoBad (signed_at base bs)
signed_other base [] = tt
signed_other base (b ∷ bs) = by (nat_eq b 110)
  where
    by : (z : Bool) → NoBad (cond z (behind 1 (mapped negative (natural_at base bs)))
        (mapped pos (natural_at base (b ∷ bs))))
    by true = behind_other 1 _ (mapped_other negative _ (natural_other base bs))
    by false = mapped_other pos _ (natural_other base (b ∷ bs))

number_other : (base : ℕ) (signs : Bool) (bs : List ℕ) → NoBad (number_at base signs bs)
number_other base true bs = signed_other base bs
number_other base false bs = mapped_other pos _ (natural_other base bs)

no_word_other : (ws : List (List ℕ)) (bs : List ℕ) → IsOther (no_word ws bs)
no_word_other [] bs = tt
no_word_other (w ∷ ws) bs = by (begins bs w) (no_word_other ws bs)
  where
    by : (b : Bool) → IsOther (no_word ws bs) → IsOther (cond b End (no_word ws bs))
    by true h = tt
    by false h = h

word_other : (x : Option (ℕ × ℕ)) (c : Cause) → IsOther c → NoBad (word_or x c)
word_other (Some x) c h = tt
word_other None c h = h

run_other : (c : Class) (at : ℕ) (bs : List ℕ) → NoBad (run_at c at bs)
run_other c at [] = tt
run_other c at (b ∷ bs) = by (span (is_in c) (b ∷ bs))
  where
    by : (n : ℕ) → NoBad (run_found at n)
    by zero = tt
    by (suc n) = tt

identifier_other : (at : ℕ) (bs : List ℕ) → NoBad (reading.identifier_at at bs)
identifier_other at [] = tt
identifier_other at (b ∷ bs) = by (identifier_len (b ∷ bs))
  where
    by : (n : ℕ) → NoBad (run_found at n)
    by zero = tt
    by (suc n) = tt

byte_other : (c : Class) (bs : List ℕ) → NoBad (reading.byte_at c bs)
byte_other c [] = tt
byte_other c (b ∷ bs) = by (is_in c b)
  where
    by : (z : Bool) → NoBad (cond z (took 1 end) (none Text))
    by true = tt
    by false = tt

digit_other : (bs : List ℕ) → NoBad (reading.digit_at bs)
digit_other [] = tt
digit_other (b ∷ bs) = by (is_digit b)
  where
    by : (z : Bool) → NoBad (cond z (took 1 (numbered (pos (b - 48)))) (none Text))
    by true = tt
    by false = tt

find_other : (x : Eat) (at : ℕ) (bs : List ℕ) → NoBad (find x at bs)
find_other (Eat.run c) at bs = run_other c at bs
find_other Eat.identifier at bs = identifier_other at bs
find_other (Eat.upto b) at bs = tt
find_other (Eat.byte c) at bs = byte_other c bs
find_other Eat.digit at bs = digit_other bs
find_other (Eat.numeral base signs) at bs = mapped_other numbered _ (number_other base signs bs)
find_other (Eat.table t ws) at bs =
    mapped_other (worded t) _ (word_other (word_in 0 ws bs) _ (no_word_other ws bs))
find_other (Eat.give g) at bs = tt
find_other Eat.here at bs = tt

refusal_other : (c : Cond) → IsOther (refusal c)
refusal_other (Cond.more n) = tt
refusal_other (Cond.next c) = tt
refusal_other (Cond.not_next c) = tt
refusal_other (Cond.ahead ws) = tt
refusal_other (Cond.not_ahead ws) = tt
refusal_other (Cond.ahead_no_digit w) = tt
refusal_other Cond.never = tt
refusal_other Cond.numbered = tt
refusal_other Cond.unnumbered = tt
refusal_other Cond.member = tt
refusal_other Cond.ten_or_more = tt
refusal_other (Cond.arity n) = tt

-- ---- which rules may fail so
-- the rows that may
abbrev hands : Row → Bool
hands Row.substitution = true
hands Row.first_turn = true
hands Row.prefix_turn = true
hands Row.prefix_handle = true
hands Row.nested_name = true
hands Row.unscoped_template_name_handle = true
hands Row.unresolved_name = true
hands Row.unresolved_type_handle = true
hands _ = false

abbrev refers : Leaf → Bool
refers Leaf.refer = true
refers _ = false

-- whether a rule may fail so, or do so behind the mark
abbrev may_fail : (marked : Bool) → Rule → Bool
may_fail h Rule.done = false
may_fail h (Rule.leaf l k) = (not h && refers l) || may_fail h k
may_fail h (Rule.call on r k) = (not h && hands r) || may_fail h k
may_fail h (Rule.loop r k) = (not h && hands r) || may_fail h k
may_fail h (Rule.star x k) = may_fail h k
may_fail h (Rule.alt x y k) = (may_fail true x || may_fail h y) || may_fail h k
may_fail h (Rule.commit k) = may_fail false k
may_fail h (Rule.block x k) = (not h && may_fail false x) || may_fail h k
may_fail h (Rule.part m x k) = may_fail h x || may_fail h k
may_fail h (Rule.trial r k) = may_fail h k

-- Where it fails so, the first says so; where it does behind the mark, the second does too.
abbrev Fails : (may marked : Bool) → Answer Core → Type 0
Fails m h (No true Bad) = (m ≡ true) × (h ≡ true)
Fails m h (No false Bad) = m ≡ true
Fails m h _ = Unit {0}

-- ---- two of them
or_left : (a b : Bool) → a ≡ true → (a || b) ≡ true
or_left true b e = refl
or_left false b e = absurd (true≢false (sym e))

or_right : (a b : Bool) → b ≡ true → (a || b) ≡ true
or_right true b e = refl
or_right false b e = e

weaker : (m h n i : Bool) → (m ≡ true → n ≡ true) → (h ≡ true → i ≡ true) → (x : Answer Core) → Fails m h x →
    Fails n i x
weaker m h n i f g (Yes s a) p = tt
weaker m h n i f g (No true End) p = tt
weaker m h n i f g (No true Text) p = tt
weaker m h n i f g (No true Over) p = tt
weaker m h n i f g (No true Bad) p = (f p.0, g p.1)
weaker m h n i f g (No false End) p = tt
weaker m h n i f g (No false Text) p = tt
weaker m h n i f g (No false Over) p = tt
weaker m h n i f g (No false Bad) p = f p
weaker m h n i f g reading.Deep p = tt

first_of_two : (m h n i : Bool) (x : Answer Core) → Fails m h x → Fails (m || n) (h || i) x
first_of_two m h n i x p = weaker m h (m || n) (h || i) (or_left m n) (or_left h i) x p

second_of_two : (m h n i : Bool) (x : Answer Core) → Fails n i x → Fails (m || n) (h || i) x
second_of_two m h n i x p = weaker n i (m || n) (h || i) (or_right m n) (or_right h i) x p

-- another cause
other_fails : (m h b : Bool) (c : Cause) → IsOther c → Fails m h (No b c)
other_fails m h true End p = tt
other_fails m h true Text p = tt
other_fails m h true Over p = tt
other_fails m h true Bad p = absurd p
other_fails m h false End p = tt
other_fails m h false Text p = tt
other_fails m h false Over p = tt
other_fails m h false Bad p = absurd p

-- ---- answers one after the other
next_fails : (m h n i : Bool) (x : Answer Core) (go : State → Core → Answer Core) → Fails m h x →
    ((s : State) (a : Core) → Fails n i (go s a)) → Fails (m || n) (h || i) (next_do cores answer go_on go x)
next_fails m h n i (Yes s a) go p f = second_of_two m h n i _ (f s a)
next_fails m h n i (No b k) go p f = first_of_two m h n i (No b k) p
next_fails m h n i reading.Deep go p f = tt

or_fails : (m h n i : Bool) (x : Answer Core) (go : Cause → Answer Core) → Fails m h x →
    ((k : Cause) → Fails n i (go k)) → Fails (h || n) (h || i) (or_else cores answer go_on go x)
or_fails m h n i (Yes s a) go p f = tt
or_fails m h n i (No true End) go p f = tt
or_fails m h n i (No true Text) go p f = tt
or_fails m h n i (No true Over) go p f = tt
or_fails m h n i (No true Bad) go p f = (or_left h n p.1, or_left h i p.1)
or_fails m h n i (No false k) go p f = second_of_two h h n i _ (f k)
or_fails m h n i reading.Deep go p f = tt

where_fails : (m h b : Bool) (k : Cause) (go : Unit {0} → Answer Core) → IsOther k → Fails m h (go tt) →
    Fails m h (where_so cores answer go_on b k go)
where_fails m h true k go o p = p
where_fails m h false k go o p = other_fails m h false k o

found_fails : {A : Type 0} (m h : Bool) (x : Found A) (go : ℕ → A → Answer Core) → NoBad x →
    ((n : ℕ) (a : A) → Fails m h (go n a)) → Fails m h (found cores answer go_on x go)
found_fails m h (took n a) go o f = f n a
found_fails m h (none c) go o f = other_fails m h false c o

hard_fails : (m h : Bool) (x : Answer Core) → Fails m h x → Fails m m (hard x)
hard_fails m h (Yes s a) p = tt
hard_fails m h (No true End) p = tt
hard_fails m h (No true Text) p = tt
hard_fails m h (No true Over) p = tt
hard_fails m h (No true Bad) p = (p.0, p.0)
hard_fails m h (No false End) p = tt
hard_fails m h (No false Text) p = tt
hard_fails m h (No false Over) p = tt
hard_fails m h (No false Bad) p = (p, p)
hard_fails m h reading.Deep p = tt

soft_fails : (m h i : Bool) (x : Answer Core) → Fails m h x → Fails m i (soft x)
soft_fails m h i (Yes s a) p = tt
soft_fails m h i (No true End) p = tt
soft_fails m h i (No true Text) p = tt
soft_fails m h i (No true Over) p = tt
soft_fails m h i (No true Bad) p = p.0
soft_fails m h i (No false End) p = tt
soft_fails m h i (No false Text) p = tt
soft_fails m h i (No false Over) p = tt
soft_fails m h i (No false Bad) p = p
soft_fails m h i reading.Deep p = tt

-- ---- repetitions
many_fails : (go : State → Core → Answer Core) (n : ℕ) (s : State) (a : Core) →
    Fails false false (many cores answer go_on go n s a)
many_fails go zero s a = tt
many_fails go (suc n) s a = by (go s a) (many_fails go n)
  where
    by : (x : Answer Core) → ((t : State) (b : Core) → Fails false false (many cores answer go_on go n t b)) →
        Fails false false (ended cores answer go_on s a (many cores answer go_on go n) x)
    by (Yes t b) f = f t b
    by (No h k) f = tt
    by reading.Deep f = tt

turns_fail : (m h : Bool) (go : State → Core → Answer Core) → ((s : State) (a : Core) → Fails m h (go s a)) →
    (n : ℕ) (s : State) (a : Core) → Fails m h (turns cores answer go_on go n s a)
turns_fail m h go f zero s a = tt
turns_fail m h go f (suc n) s a = by (go s a) (f s a) (turns_fail m h go f n)
  where
    turned_by : (t : State) (b : Core) (z : Bool) → Fails m h (turns cores answer go_on go n t b) →
        Fails m h (turned cores answer go_on t b z (turns cores answer go_on go n))
    turned_by t b true p = tt
    turned_by t b false p = p

    by : (x : Answer Core) → Fails m h x →
        ((t : State) (b : Core) → Fails m h (turns cores answer go_on go n t b)) →
        Fails m h (turn cores answer go_on s (turns cores answer go_on go n) x)
    by (Yes t b) p g = turned_by t b _ (g t b)
    by (No b k) p g = p
    by reading.Deep p g = tt

-- ---- just so many bytes
whole_fails : (m h n i : Bool) (bs : List ℕ) (on : State → Core → Answer Core) (x : Answer Core) → Fails m h x →
    ((s : State) (a : Core) → Fails n i (on s a)) → Fails (m || n) i (whole cores answer go_on bs on x)
whole_fails m h n i bs on (Yes s t) p f =
    where_fails (m || n) i (is_empty s.rest) Text (λ u. on (widened bs s) t) tt
    (weaker n i (m || n) i (or_right m n) (λ e. e) _ (f (widened bs s) t))
whole_fails m h n i bs on (No true End) p f = tt
whole_fails m h n i bs on (No true Text) p f = tt
whole_fails m h n i bs on (No true Over) p f = tt
whole_fails m h n i bs on (No true Bad) p f = or_left m n p.0
whole_fails m h n i bs on (No false End) p f = tt
whole_fails m h n i bs on (No false Text) p f = tt
whole_fails m h n i bs on (No false Over) p f = tt
whole_fails m h n i bs on (No false Bad) p f = or_left m n p
whole_fails m h n i bs on reading.Deep p f = tt

sized_fails : (m h n i z : Bool) (v : ℕ) (s : State) (go on : State → Core → Answer Core) →
    ((t : State) (a : Core) → Fails m h (go t a)) → ((t : State) (a : Core) → Fails n i (on t a)) →
    Fails (m || n) i (sized cores answer go_on z v s go on)
sized_fails m h n i true v s go on f g = tt
sized_fails m h n i false zero s go on f g = tt
sized_fails m h n i false (suc v) s go on f g = whole_fails m h n i _ on _ (f _ _) g

-- ---- the trial
tried_fails : (m h : Bool) (go : Unit {0} → Answer Core) → Fails m h (go tt) → (x : Answer Core) →
    Fails m h (tried cores answer go_on go x)
tried_fails m h go p (Yes t b) = where_fails m h _ Text go tt p
tried_fails m h go p (No b k) = p
tried_fails m h go p reading.Deep = tt

trial_fails : (m h b c : Bool) (read go : Unit {0} → Answer Core) → Fails m h (go tt) →
    Fails m h (trial_of cores answer go_on b c read go)
trial_fails m h false c read go p = p
trial_fails m h true false read go p = tt
trial_fails m h true true read go p = tried_fails m h go p (read tt)

-- ---- a leaf
step_fails : (m h : Bool) (l : Leaf) (s : State) (a : Core) (go : State → Core → Answer Core) →
    ((t : State) (b : Core) → Fails m h (go t b)) → Fails (refers l || m) h (step cores answer go_on l s a go)
step_fails m h (Leaf.word w) s a go f = where_fails m h (starts w s.rest) _ _ (missing_other w s.rest) (f _ _)
step_fails m h (Leaf.eat x) s a go f = found_fails m h (find x s.at s.rest) _ (find_other x s.at s.rest) (λ n v. f _ _)
step_fails m h (Leaf.check c) s a go f = where_fails m h (holds c s.rest a) _ _ (refusal_other c) (f s a)
step_fails m h (Leaf.make x) s a go f = f _ _
step_fails m h (Leaf.mark x) s a go f = f _ _
step_fails m h Leaf.refer s a go f = by (nat_lt (component_of a) (count N s.entries))
  where
    by : (b : Bool) →
        Fails true h (where_so cores answer go_on b Bad (λ u. go s (shape (How.refers (component_of a)) a)))
    by true = weaker m h true h (λ e. refl) (λ e. e) _ (f _ _)
    by false = refl
step_fails m h Leaf.take_over s a go f = where_fails m h (is_nestable (prefix_entry a s.entries)) Text _ tt (f _ _)
step_fails m h Leaf.no_prefix s a go f = by (next_is (Class.these (codes "E")) s.rest || is_empty s.rest)
  where
    by : (b : Bool) → Fails m h (No false (cond b End Text))
    by true = tt
    by false = tt
step_fails m h Leaf.mark_first s a go f = f _ _

-- ---- rules
module _ (read : Row → Bool → State → Core → Answer Core)
    (rows : (r : Row) (c : Bool) (s : State) (a : Core) → Fails (hands r) false (read r c s a)) where
  rule_fails : (c : Bool) (r : Rule) (s : State) (a : Core) →
      Fails (may_fail false r) (may_fail true r) (run_rule cores answer go_on read c r s a)
  unfolding run_rule
  rule_fails c Rule.done s a = tt
  rule_fails c (Rule.leaf l k) s a = step_fails (may_fail false k) (may_fail true k) l s a _ (rule_fails c k)
  rule_fails c (Rule.call on r k) s a =
      next_fails (hands r) false (may_fail false k) (may_fail true k) _ _ (rows r (on || c) s end)
      (λ m b. rule_fails c k m (a ⊕ b))
  rule_fails c (Rule.loop r k) s a =
      next_fails (hands r) false (may_fail false k) (may_fail true k) _ _
      (turns_fail (hands r) false (read r c) (rows r c) (suc (length s.rest)) s a) (rule_fails c k)
  rule_fails c (Rule.star x k) s a =
      next_fails false false (may_fail false k) (may_fail true k) _ _
      (many_fails (run_rule cores answer go_on read c x) (suc (length s.rest)) s a) (rule_fails c k)
  rule_fails c (Rule.alt x y k) s a =
      next_fails (may_fail true x || may_fail false y) (may_fail true x || may_fail true y) (may_fail false k)
      (may_fail true k) _ _
      (or_fails (may_fail false x) (may_fail true x) (may_fail false y) (may_fail true y) _ _ (rule_fails c x s a)
      (λ cause. rule_fails c y s a))
      (rule_fails c k)
  rule_fails c (Rule.commit k) s a = hard_fails (may_fail false k) (may_fail true k) _ (rule_fails c k s a)
  rule_fails c (Rule.block x k) s a =
      found_fails (may_fail false x || may_fail false k) (may_fail true k) (natural_at 10 s.rest) _
      (natural_other 10 s.rest)
      (λ n v. sized_fails (may_fail false x) (may_fail true x) (may_fail false k) (may_fail true k) _ v _ _ _
      (rule_fails c x) (λ t b. rule_fails c k t _))
  rule_fails c (Rule.part h x k) s a =
      next_fails (may_fail false x) (may_fail true x) (may_fail false k) (may_fail true k) _ _
      (rule_fails c x s end) (λ m b. rule_fails c k m _)
  rule_fails c (Rule.trial r k) s a =
      trial_fails (may_fail false k) (may_fail true k) (next_is (Class.these (codes "I")) s.rest) c
      (λ u. read r c s end) (λ u. run_rule cores answer go_on read c k s a) (rule_fails c k s a)

-- ---- rows
abbrev agrees : Row → Bool
agrees r = not (may_fail false (rule r)) || hands r

all_agree : (r : Row) → agrees r ≡ true
unfolding rule
all_agree Row.number = refl
all_agree _ = refl

row_fails : (left : ℕ) (r : Row) (c : Bool) (s : State) (a : Core) →
    Fails (hands r) false (read_from cores left r c s a)
unfolding read_from
row_fails zero r c s a = tt
row_fails (suc left) r c s a =
    weaker (may_fail false (rule r)) false (hands r) false
    (implied (may_fail false (rule r)) (hands r) (all_agree r)) (λ e. e) _
    (soft_fails (may_fail false (rule r)) (may_fail true (rule r)) false _
    (rule_fails (read_from cores left) (row_fails left) c (rule r) s a))

-- ---- names
-- the kinds of which a name's reading is refused
abbrev pub may_stop : Kind → Bool
may_stop (Unread Bad) = false
may_stop Other = false
may_stop _ = true

-- a reply that is refused is so for such a kind
abbrev StopsSo : Reply → Type 0
StopsSo (code.Found x h) = Unit {0}
StopsSo (Refused k) = may_stop k ≡ true

replied_stops : (x : Answer Core) → Fails false false x → StopsSo (replied x)
replied_stops (Yes s a) p = tt
replied_stops (No h End) p = refl
replied_stops (No h Text) p = refl
replied_stops (No h Over) p = refl
replied_stops (No true Bad) p = absurd (true≢false (sym p.0))
replied_stops (No false Bad) p = absurd (true≢false (sym p))
replied_stops reading.Deep p = refl

pub name_stops : (left : ℕ) (c : Bool) (bytes : List ℕ) (k : Kind) →
    cread left Row.mangled_name c (here (record { index = 0; left = bytes }) empty_table) [] ≡ Refused k →
    may_stop k ≡ true
unfolding empty_table
name_stops left c bytes k e =
    subst StopsSo (reads_code left Row.mangled_name c (from bytes) [] ∙ e)
    (replied_stops _ (row_fails left Row.mangled_name c (from bytes) end))

-- ---- errors
-- the error of such a kind is one of a name's, and is the one that the kind says
pub error_stops : (e : Error) → may_stop (kind e) ≡ true → (is_of_name e ≡ true) × (read_error (kind e) ≡ e)
error_stops error.UnexpectedEnd s = (refl, refl)
error_stops error.UnexpectedText s = (refl, refl)
error_stops error.Overflow s = (refl, refl)
error_stops error.TooMuchRecursion s = (refl, refl)
error_stops error.BadBackReference s = absurd (true≢false (sym s))
error_stops error.BadTemplateArgReference s = absurd (true≢false (sym s))
error_stops error.ForwardTemplateArgReference s = absurd (true≢false (sym s))
error_stops error.BadFunctionArgReference s = absurd (true≢false (sym s))
error_stops error.BadLeafNameReference s = absurd (true≢false (sym s))
error_stops error.OutOfMemory s = absurd (true≢false (sym s))
