-- The ordered reading of rows.
use Rattle.std.specs.Prelude.{ℕ, zero, suc, ◌+◌, ◌-◌, Bool, true, false, cond, not, ◌&&◌, ◌||◌, List, [], ◌∷◌, ◌++◌}
use Rattle.std.specs.Prelude.{length, take, drop, nat_lt, nat_le, ◌==◌, ℤ, pos, codes, max, Option, Some, None}
use Rattle.demangle_core.specs.Core.{Core, end, node, place, number, flag, chosen, ref, mark, Tag, Which, N, U}
use Rattle.demangle_core.specs.Table.{Entry, count, entry_at}
use Rattle.demangle_text.specs.Kind.{Cause, End, Text, Bad}
use Rattle.demangle_text.specs.Found.{Found, took, none, mapped}
use Rattle.demangle_text.specs.Bytes.{is_digit, is_capital, is_small, span}
use Rattle.demangle_text.specs.Characters.{identifier_len}
use Rattle.demangle_text.specs.Word.{starts, missing_word}
use Rattle.demangle_text.specs.Number.{number_at, natural_at}
use Rattle.demangle_vocab.specs.WordTable.{table_at, more_at}
use Rattle.demangle_vocab.specs.Operators.{operators}
use Rattle.demangle_grammar.specs.Rule.{Class, Row, Eat, Cond, Given, Mark, Leaf, Rule}
use Rattle.demangle_grammar.specs.Tree.{Tree, How, nil, component_of, template_entry, Parts, trees}
use Rattle.demangle_grammar.specs.Rows.{rule}

-- where a reading is: the index, the bytes that are left, the components so far
pub record State : Type 0 where
  pub at : ℕ
  pub rest : List ℕ
  pub entries : List Entry

-- `No` tells whether the failure came after the mark; `Deep` ends the whole reading: no level is left.
pub data Answer (X : Type 0) : Type 0 where
  Yes : State → X → Answer X
  No : (hard : Bool) → Cause → Answer X
  Deep : Answer X

-- ---- classes of bytes
abbrev pub is_one_of : List ℕ → ℕ → Bool
is_one_of [] x = false
is_one_of (b ∷ bs) x = (b == x) || is_one_of bs x

abbrev pub is_in : Class → ℕ → Bool
is_in Class.any x = true
is_in Class.digits x = is_digit x
is_in Class.clone x = is_digit x || (is_capital x || (is_small x || is_one_of (codes "$_") x))
is_in Class.resource x = not (x == 36)
is_in (Class.these bs) x = is_one_of bs x

-- ---- what is read with no other row
abbrev pub run_found : ℕ → ℕ → Found Core
run_found at zero = none Text
run_found at (suc n) = took (suc n) (place at (at + suc n) end)

abbrev pub run_at : Class → ℕ → List ℕ → Found Core
run_at c at [] = none End
run_at c at bs = run_found at (span (is_in c) bs)

abbrev pub identifier_at : ℕ → List ℕ → Found Core
identifier_at at [] = none End
identifier_at at bs = run_found at (identifier_len bs)

abbrev pub byte_at : Class → List ℕ → Found Core
byte_at c [] = none End
byte_at c (b ∷ bs) = cond (is_in c b) (took 1 end) (none Text)

abbrev pub digit_at : List ℕ → Found Core
digit_at [] = none End
digit_at (b ∷ bs) = cond (is_digit b) (took 1 (number (pos (b - 48)) end)) (none Text)

abbrev pub numbered : ℤ → Core
numbered v = number v end

abbrev pub worded : ℕ → ℕ → Core
worded t k = chosen t k end

-- fixed fields
abbrev pub given : Given → Core
given Given.set = flag true end
given Given.unset = flag false end
given Given.missing = node Tag.Absent end end
given Given.nought = number (pos 0) end
given Given.empty = node Tag.Several end end

abbrev pub numeral_at : ℕ → Bool → List ℕ → Found Core
numeral_at base signs bs = mapped numbered (number_at base signs bs)

abbrev pub find : Eat → ℕ → List ℕ → Found Core
find (Eat.run c) at bs = run_at c at bs
find Eat.identifier at bs = identifier_at at bs
find (Eat.upto b) at bs = let n = span (λ x. not (x == b)) bs in took n (place at (at + n) end)
find (Eat.byte c) at bs = byte_at c bs
find Eat.digit at bs = digit_at bs
find (Eat.numeral base signs) at bs = numeral_at base signs bs
find (Eat.table t ws) at bs = mapped (worded t) (table_at ws bs)
find (Eat.give g) at bs = took 0 (given g)
find Eat.here at bs = took 0 (mark at end)

-- ---- conditions
abbrev pub next_is : Class → List ℕ → Bool
next_is c [] = false
next_is c (b ∷ bs) = is_in c b

abbrev pub any_starts : List (List ℕ) → List ℕ → Bool
any_starts [] bs = false
any_starts (w ∷ ws) bs = starts w bs || any_starts ws bs

abbrev pub no_digit : List ℕ → Bool
no_digit [] = false
no_digit (b ∷ bs) = not (is_digit b)

abbrev pub is_numbered : Core → Bool
is_numbered (node Tag.WellKnown c n) = true
is_numbered (node Tag.BackReference c n) = true
is_numbered _ = false

abbrev pub is_plain : Tag → Bool
is_plain Tag.UnqualifiedNameSource = true
is_plain Tag.UnqualifiedNameLocalSourceName = true
is_plain _ = false

abbrev pub is_member : Core → Bool
is_member (node t c end) = is_plain t
is_member (node t c n) = is_member n
is_member _ = false

abbrev pub is_ten_or_more : Core → Bool
is_ten_or_more (number (pos k) n) = nat_le 10 k
is_ten_or_more _ = false

-- how many operands an operator takes: a word as the table says, a literal operator one, a vendor's as its digit says
abbrev pub arity_in : Core → ℕ
arity_in (node Tag.OperatorNameSimple (chosen t k n) m) = more_at 0 operators k
arity_in (node Tag.OperatorNameLiteral c m) = 1
arity_in (node Tag.OperatorNameVendorExtension (number (pos k) n) m) = k
arity_in (chosen t k n) = more_at 0 operators k
arity_in _ = 0

abbrev pub holds : Cond → List ℕ → Core → Bool
holds (Cond.next c) bs x = next_is c bs
holds (Cond.not_next c) bs x = not (next_is c bs)
holds (Cond.ahead ws) bs x = any_starts ws bs
holds (Cond.not_ahead ws) bs x = not (any_starts ws bs)
holds (Cond.ahead_no_digit w) bs x = starts w bs && no_digit (drop (length w) bs)
holds (Cond.more n) bs x = nat_le n (length bs)
holds Cond.never bs x = false
holds Cond.numbered bs x = is_numbered x
holds Cond.unnumbered bs x = not (is_numbered x)
holds Cond.member bs x = is_member x
holds Cond.ten_or_more bs x = is_ten_or_more x
holds (Cond.arity n) bs x = arity_in x == n

-- the kind of a condition that fails
abbrev pub refusal : Cond → Cause
refusal (Cond.more n) = End
refusal _ = Text

-- ---- a step: a leaf of a rule
abbrev pub is_empty : List ℕ → Bool
is_empty [] = true
is_empty (b ∷ bs) = false

abbrev pub marks : Mark → List ℕ → Which
marks Mark.numbered' bs = N
marks Mark.unnumbered' bs = U
marks Mark.by_end bs = cond (next_is (Class.these (codes "E")) bs) U N

abbrev pub kept : State → Entry → State
kept s x = record { at = s.at; rest = s.rest; entries = s.entries ++ x ∷ [] }

abbrev pub or_end : Option Core → Core
or_end None = end
or_end (Some c) = c

-- the component that the last field, a handle of a prefix, refers to
abbrev pub last_component : Core → Option (Which × ℕ)
last_component (node t (ref w k n) end) = Some (w, k)
last_component (node t c end) = None
last_component (node t c n) = last_component n
last_component (chosen t k n) = last_component n
last_component _ = None

-- its tree, or none
abbrev pub entry_of : Option (Which × ℕ) → List Entry → Core
entry_of None es = end
entry_of (Some x) es = or_end (entry_at x.0 x.1 es)

abbrev pub prefix_entry : Core → List Entry → Core
prefix_entry c es = entry_of (last_component c) es

-- whether a nested name can take over an entry: a prefix that ends with a name or with template arguments
abbrev pub is_nestable : Core → Bool
is_nestable (node Tag.SubstitutablePrefix (node Tag.PrefixUnqualified c n) m) = true
is_nestable (node Tag.SubstitutablePrefix (node Tag.PrefixNested (node t p name) n) m) = true
is_nestable (node Tag.SubstitutablePrefix (node Tag.PrefixTemplate c n) m) = true
is_nestable _ = false

-- so many bytes on
abbrev pub ahead_by : ℕ → State → State
ahead_by n s = record { at = s.at + length (take n s.rest); rest = drop n s.rest; entries = s.entries }

-- ---- answers one after the other
abbrev pub hard : {X : Type 0} → Answer X → Answer X
hard (No h k) = No true k
hard x = x

abbrev pub soft : {X : Type 0} → Answer X → Answer X
soft (No h k) = No false k
soft x = x

-- just so many bytes, and a rest of them is a failure
abbrev pub widened : List ℕ → State → State
widened bs s = record { at = s.at; rest = bs; entries = s.entries }

-- A reader answers in M: with the answer alone, or with how deep it went beside it.
module _ {X M : Type 0} (p : Parts X) (ret : Answer X → M) (bind : M → (Answer X → M) → M) where
  -- goes on where a test holds
  abbrev pub where_so : Bool → Cause → (Unit {0} → M) → M
  where_so true cause go = go tt
  where_so false cause go = ret (No false cause)

  -- goes on behind what was found
  abbrev pub found : {A : Type 0} → Found A → (ℕ → A → M) → M
  found (took n x) go = go n x
  found (none cause) go = ret (No false cause)

  abbrev pub step : Leaf → State → X → (State → X → M) → M
  step (Leaf.word w) s a go =
      where_so (starts w s.rest) (missing_word w s.rest) (λ u. go (ahead_by (length w) s) (p.cat a (p.leaf w end)))
  step (Leaf.eat x) s a go =
      found (find x s.at s.rest) (λ n fields. go (ahead_by n s) (p.cat a (p.leaf (take n s.rest) fields)))
  step (Leaf.check c) s a go = where_so (holds c s.rest (p.core_of a)) (refusal c) (λ u. go s a)
  step (Leaf.make m) s a go = go s (p.over (How.shaped m) a)
  step (Leaf.mark m) s a go =
      let w = marks m s.rest in
      go (kept s (record { which = w; tree = p.core_of a })) (p.over (How.made w (count w s.entries)) a)
  step Leaf.refer s a go =
      let k = component_of (p.core_of a) in
      where_so (nat_lt k (count N s.entries)) Bad (λ u. go s (p.over (How.refers k) a))
  step Leaf.take_over s a go =
      let x = prefix_entry (p.core_of a) s.entries in
      where_so (is_nestable x) Text (λ u. go s (p.over (How.taken x) a))
  step Leaf.no_prefix s a go =
      ret (No false (cond (next_is (Class.these (codes "E")) s.rest || is_empty s.rest) End Text))
  step Leaf.mark_first s a go =
      go (kept s (record { which = U; tree = template_entry (p.core_of a) }))
      (p.over (How.made_first (count U s.entries)) a)

  -- goes on from a Yes
  abbrev pub next_do : (State → X → M) → Answer X → M
  next_do go (Yes s a) = go s a
  next_do go x = ret x

  -- another way after a failure that came before `!`
  abbrev pub or_else : (Cause → M) → Answer X → M
  or_else go (No false k) = go k
  or_else go x = ret x

  -- a repetition ends at its first failure; n is more than the bytes that are left
  abbrev pub ended : State → X → (State → X → M) → Answer X → M
  ended s a go (Yes t b) = go t b
  ended s a go (No h k) = ret (Yes s a)
  ended s a go Deep = ret Deep

  abbrev pub many : (State → X → M) → ℕ → State → X → M
  many go zero s a = ret (Yes s a)
  many go (suc n) s a = bind (go s a) (ended s a (many go n))

  -- turns end with the one that takes no byte
  abbrev pub turned : State → X → Bool → (State → X → M) → M
  turned t b true go = ret (Yes t b)
  turned t b false go = go t b

  abbrev pub turn : State → (State → X → M) → Answer X → M
  turn s go (Yes t b) = turned t b (length t.rest == length s.rest) go
  turn s go x = ret x

  abbrev pub turns : (State → X → M) → ℕ → State → X → M
  turns go zero s a = ret (Yes s a)
  turns go (suc n) s a = bind (go s a) (turn s (turns go n))

  -- just so many bytes, and a rest of them is a failure
  abbrev pub whole : List ℕ → (State → X → M) → Answer X → M
  whole bs go (Yes s t) = where_so (is_empty s.rest) Text (λ u. go (widened bs s) t)
  whole bs go (No h k) = ret (No false k)
  whole bs go Deep = ret Deep

  abbrev pub sized : Bool → ℕ → State → (State → X → M) → (State → X → M) → M
  sized true v s go on = ret (No false End)
  sized false zero s go on = ret (No false Text)
  sized false v s go on =
      bind (go (record { at = s.at; rest = take v s.rest; entries = s.entries }) (p.leaf [] end))
      (whole (drop v s.rest) on)

  -- the trial: what it read is given back
  abbrev pub tried : (Unit {0} → M) → Answer X → M
  tried go (Yes t b) = where_so (not (next_is (Class.these (codes "I")) t.rest)) Text go
  tried go (No h k) = go tt
  tried go Deep = ret Deep

  -- only where `I` follows is there a trial, and only under the conversion flag
  abbrev pub trial_of : Bool → Bool → (Unit {0} → M) → (Unit {0} → M) → M
  trial_of false c read go = go tt
  trial_of true false read go = ret (No false Text)
  trial_of true true read go = bind (read tt) (tried go)

  -- the reader: c is the conversion flag, and a is what was read before
  unfoldable pub run_rule : (Row → Bool → State → X → M) → Bool → Rule → State → X → M
  run_rule read c Rule.done s a = ret (Yes s a)
  run_rule read c (Rule.leaf l k) s a = step l s a (run_rule read c k)
  run_rule read c (Rule.call on r k) s a =
      bind (read r (on || c) s (p.leaf [] end)) (next_do (λ m b. run_rule read c k m (p.cat a b)))
  run_rule read c (Rule.loop r k) s a = bind (turns (read r c) (suc (length s.rest)) s a) (next_do (run_rule read c k))
  run_rule read c (Rule.star x k) s a =
      bind (many (run_rule read c x) (suc (length s.rest)) s a) (next_do (run_rule read c k))
  run_rule read c (Rule.alt x y k) s a =
      bind (bind (run_rule read c x s a) (or_else (λ cause. run_rule read c y s a))) (next_do (run_rule read c k))
  run_rule read c (Rule.commit k) s a = bind (run_rule read c k s a) (λ x. ret (hard x))
  run_rule read c (Rule.block x k) s a =
      found (natural_at 10 s.rest) (λ n v.
      sized (nat_lt (length (drop n s.rest)) v) v (ahead_by n s) (run_rule read c x)
      (λ m b. run_rule read c k m (p.cat (p.cat a (p.leaf (take n s.rest) end)) b)))
  run_rule read c (Rule.part h x k) s a =
      bind (run_rule read c x s (p.leaf [] end))
      (next_do (λ m b. run_rule read c k m (p.cat a (p.over (How.shaped h) b))))
  run_rule read c (Rule.trial r k) s a =
      trial_of (next_is (Class.these (codes "I")) s.rest) c (λ u. read r c s (p.leaf [] end))
      (λ u. run_rule read c k s a)

-- ---- the answer alone
abbrev pub answer : {X : Type 0} → Answer X → Answer X
answer x = x

abbrev pub go_on : {X : Type 0} → Answer X → (Answer X → Answer X) → Answer X
go_on x go = go x

-- reads a row with so many levels left, behind the parts that it goes on from
unfoldable pub read_from : {X : Type 0} → Parts X → ℕ → Row → Bool → State → X → Answer X
read_from p zero r c s a = Deep
read_from p (suc left) r c s a = soft (run_rule p answer go_on (read_from p left) c (rule r) s a)

-- a leaf alone
abbrev pub stepped : Leaf → State → Tree → Answer Tree
stepped l s a = step trees answer go_on l s a (λ m b. Yes m b)

-- ---- the answer, and how many levels were entered, one in another
pub record Measured : Type 0 where
  pub answer : Answer Tree
  pub levels : ℕ

abbrev pub flat : Answer Tree → Measured
flat x = record { answer = x; levels = 0 }

abbrev pub deeper : Measured → Measured → Measured
deeper x y = record { answer = y.answer; levels = max x.levels y.levels }

abbrev pub after : Measured → (Answer Tree → Measured) → Measured
after x go = deeper x (go x.answer)

abbrev pub entered : Measured → Measured
entered x = record { answer = soft x.answer; levels = suc x.levels }

unfoldable pub measure_from : ℕ → Row → Bool → State → Tree → Measured
measure_from zero r c s a = record { answer = Deep; levels = 1 }
measure_from (suc left) r c s a = entered (run_rule trees flat after (measure_from left) c (rule r) s a)

-- ---- with no limit: more levels than a reading can enter
abbrev pub enough : List ℕ → ℕ
enough [] = 10
enough (b ∷ bs) = 10 + enough bs

abbrev pub read_all : Row → Bool → State → Answer Tree
read_all r c s = read_from trees (enough s.rest) r c s nil

abbrev pub levels_of : Row → Bool → State → ℕ
levels_of r c s = (measure_from (enough s.rest) r c s nil).levels
