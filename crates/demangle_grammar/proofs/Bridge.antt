-- The program's reading is the reading of cores.
use Rattle.std.specs.Prelude.{◌≡◌, ℕ, zero, suc, ◌+◌, ◌-◌, ◌≤◌, Bool, true, false, cond, not, ◌||◌, List, [], ◌∷◌, ◌++◌, length, take, drop, nat_lt, nat_eq, ◌==◌, codes, if◌then◌else◌, pos, Ok, Err, ℤ}
use Rattle.std.proofs.Common.{refl, ap, sym, subst, ◌∙◌, arith, rules}
use Rattle.std.proofs.lemmas.List.{length-take-le}
use Rattle.demangle_core.specs.Table.{added, count, size}
use Rattle.demangle_core.specs.Core.{Core, end, node, place, number, flag, chosen, ref, mark, ◌⊕◌, Which, N, U}
use Rattle.demangle_text.specs.Kind.{Cause, Kind, Unread, End, Text, Bad}
use Rattle.demangle_text.specs.Kind as kind
use Rattle.demangle_text.specs.Spot.{Spot, skip}
use Rattle.demangle_text.specs.Found.{Found, took, none, mapped, and_rest}
use Rattle.demangle_text.specs.Bytes.{span, is_digit}
use Rattle.demangle_text.specs.Characters.{identifier_len}
use Rattle.demangle_text.proofs.Runs.{run_inside}
use Rattle.demangle_text.specs.Word.{starts, missing_word, word_at}
use Rattle.demangle_text.specs.Number.{natural_at, number_at, natural_from, number_from}
use Rattle.demangle_vocab.specs.WordTable.{table_at, word_read, table_from}
use Rattle.demangle_grammar.specs.Rule.{Class, Row, Eat, Leaf, Rule}
use Rattle.demangle_grammar.specs.Tree.{cores, How, shape, component_of, template_entry, taken_of, reference}
use Rattle.demangle_grammar.specs.Rows.{rule}
use Rattle.demangle_grammar.specs.Reading.{State, Answer, Yes, No, Deep, find, numbered, worded, given, holds, refusal, marks, step, where_so, found, next_do, or_else, ended, many, turned, turn, turns, whole, sized, tried, trial_of, run_rule, read_from, answer, go_on, hard, soft, kept, prefix_entry, is_nestable, is_empty, next_is, ahead_by, widened, is_in, run_found}
use Rattle.demangle_grammar.specs.Code.{joined, joined_to, Here, at, Reply, Out, close, committed, from_row, read_spot, read_leaf, read_core, and_then, and_again, eat_at, taken_over, eaten, cstep, all_of, Go, starred, turns_of, inside, trial_at, flag_of, choice, go_after, crun, cread}
use Rattle.demangle_grammar.specs.Code as code
use Rattle.demangle_grammar.specs.Seen.{seen, replied}
use Rattle.demangle_grammar.specs.Laws.{ReadsCode}
use Rattle.demangle_grammar.proofs.CodeParts.{starred_is, after_is, choice_is, or_optional, part_or_list, trial_is}
use Rattle.demangle_grammar.proofs.Numbers.{NaturalAt, natural_fits, NumberAt, number_fits, WordAt, word_fits, starts_so}

-- ---- rows of fields
pub plus_end : (a : Core) → a ⊕ end ≡ a
plus_end end = refl
plus_end (node t c n) = ap (λ x. node t c x) (plus_end n)
plus_end (place i j n) = ap (λ x. place i j x) (plus_end n)
plus_end (number v n) = ap (λ x. number v x) (plus_end n)
plus_end (flag b n) = ap (λ x. flag b x) (plus_end n)
plus_end (chosen t k n) = ap (λ x. chosen t k x) (plus_end n)
plus_end (ref w k n) = ap (λ x. ref w k x) (plus_end n)
plus_end (mark i n) = ap (λ x. mark i x) (plus_end n)

plus_assoc : (a b c : Core) → (a ⊕ b) ⊕ c ≡ a ⊕ (b ⊕ c)
plus_assoc end b c = refl
plus_assoc (node t x n) b c = ap (λ y. node t x y) (plus_assoc n b c)
plus_assoc (place i j n) b c = ap (λ y. place i j y) (plus_assoc n b c)
plus_assoc (number v n) b c = ap (λ y. number v y) (plus_assoc n b c)
plus_assoc (flag z n) b c = ap (λ y. flag z y) (plus_assoc n b c)
plus_assoc (chosen t k n) b c = ap (λ y. chosen t k y) (plus_assoc n b c)
plus_assoc (ref w k n) b c = ap (λ y. ref w k y) (plus_assoc n b c)
plus_assoc (mark i n) b c = ap (λ y. mark i y) (plus_assoc n b c)

snoc_to : (a : Core) (bs : List Core) (t : Core) → joined_to a (bs ++ t ∷ []) ≡ joined_to a bs ⊕ t
snoc_to a [] t = refl
snoc_to a (b ∷ bs) t = ap (λ x. a ⊕ x) (snoc_to b bs t) ∙ sym (plus_assoc a (joined_to b bs) t)

snoc : (acc : List Core) (t : Core) → joined (acc ++ t ∷ []) ≡ joined acc ⊕ t
snoc [] t = refl
snoc (a ∷ bs) t = snoc_to a bs t

-- ---- what is seen of an answer
data SeesRow : Answer Core → Reply → Type 0 where
  found' : (s : State) (t : Core) → SeesRow (Yes s t) (code.Found t (seen s))
  refused : (k : Cause) → SeesRow (No false k) (code.Refused (Unread k))
  deep' : SeesRow Deep (code.Refused kind.Deep)

data Sees : Answer Core → Out → Type 0 where
  yes : (s : State) (acc : List Core) → Sees (Yes s (joined acc)) (code.Yes (seen s) acc)
  no : (h : Bool) (k : Cause) → Sees (No h k) (code.No h (Unread k))
  deep : Sees Deep (code.No true kind.Deep)

abbrev Same : (State → Core → Answer Core) → (Here → List Core → Out) → Type 0
Same go go' = (s : State) (acc : List Core) → Sees (go s (joined acc)) (go' (seen s) acc)

-- behind one more part
abbrev Next : (State → Core → Answer Core) → (Here → Core → Out) → Type 0
Next go go' = (s : State) (t : Core) → Sees (go s t) (go' (seen s) t)

same_at : (go : State → Core → Answer Core) (go' : Here → List Core → Out) → Same go go' → (s : State) (x : Core) (acc : List Core) (m : Here) → joined acc ≡ x → seen s ≡ m → Sees (go s x) (go' m acc)
same_at go go' h s x acc m e p = subst (λ y. Sees (go s y) (go' m acc)) e (subst (λ y. Sees (go s (joined acc)) (go' y acc)) p (h s acc))

where_sees : (b : Bool) (k : Cause) (go : Unit {0} → Answer Core) (o : Out) → Sees (go tt) o → Sees (where_so cores answer go_on b k go) (if b then o else code.No false (Unread k))
where_sees true k go o h = h
where_sees false k go o h = Sees.no false k

-- ---- leaves
-- so many bytes are there
abbrev Within : {A : Type 0} → List ℕ → Found A → Type 0
Within bs (took n v) = length (take n bs) ≡ n
Within bs (none c) = Unit {0}

pub span_within : (f : ℕ → Bool) (bs : List ℕ) → span f bs ≤ length bs
span_within f [] = omega arith
span_within f (b ∷ bs) = by (f b) (span_within f bs)
  where
    by : (z : Bool) → span f bs ≤ length bs → (if z then suc (span f bs) else 0) ≤ length (b ∷ bs)
    by true h = omega (arith, h)
    by false h = omega arith

test_within : (z : Bool) (bs : List ℕ) (n : ℕ) (f : Core) → length (take n bs) ≡ n → Within bs (cond z (took n f) (none Text))
test_within true bs n f e = e
test_within false bs n f e = tt

run_within : (i n : ℕ) (bs : List ℕ) → length (take n bs) ≡ n → Within bs (run_found i n)
run_within i zero bs e = tt
run_within i (suc n) bs e = e

natural_within : (base : ℕ) (bs : List ℕ) → Within bs (natural_at base bs)
natural_within base bs = by (natural_at base bs) (natural_fits base bs)
  where
    by : (r : Found ℕ) → NaturalAt base bs r → Within bs r
    by (took n v) h = h.0
    by (none c) h = tt

number_within : (base : ℕ) (signs : Bool) (bs : List ℕ) → Within bs (number_at base signs bs)
number_within base signs bs = by (number_at base signs bs) (number_fits base signs bs)
  where
    by : (r : Found ℤ) → NumberAt base signs bs r → Within bs r
    by (took n v) h = h.0
    by (none c) h = tt

word_within : (ws : List (List ℕ)) (bs : List ℕ) → Within bs (table_at ws bs)
word_within ws bs = by (table_at ws bs) (word_fits ws bs)
  where
    by : (r : Found ℕ) → WordAt ws bs r → Within bs r
    by (took n k) h = h.0
    by (none c) h = tt

run_at_within : (c : Class) (i : ℕ) (bs : List ℕ) → Within bs (find (Eat.run c) i bs)
run_at_within c i [] = tt
run_at_within c i (b ∷ bs) = run_within i (span (is_in c) (b ∷ bs)) (b ∷ bs) (length-take-le (span (is_in c) (b ∷ bs)) (b ∷ bs) (span_within (is_in c) (b ∷ bs)))

identifier_within : (i : ℕ) (bs : List ℕ) → Within bs (find Eat.identifier i bs)
identifier_within i [] = tt
identifier_within i (b ∷ bs) = run_within i (identifier_len (b ∷ bs)) (b ∷ bs) (length-take-le (identifier_len (b ∷ bs)) (b ∷ bs) (run_inside (b ∷ bs)))

byte_within : (c : Class) (i : ℕ) (bs : List ℕ) → Within bs (find (Eat.byte c) i bs)
byte_within c i [] = tt
byte_within c i (b ∷ bs) = test_within (is_in c b) (b ∷ bs) 1 end refl

digit_within : (i : ℕ) (bs : List ℕ) → Within bs (find Eat.digit i bs)
digit_within i [] = tt
digit_within i (b ∷ bs) = test_within (is_digit b) (b ∷ bs) 1 (number (pos (b - 48)) end) refl

moved : (n : ℕ) (s : State) → length (take n s.rest) ≡ n → seen (ahead_by n s) ≡ at (seen s) (skip n (seen s).spot)
moved n s e = ap (λ m. let h : Here = record { spot = record { index = s.at + m; left = drop n s.rest }; table = s.entries } in h) e

found_sees : (s : State) (acc : List Core) (go : State → Core → Answer Core) (go' : Here → List Core → Out) → Same go go' → (f : Found Core) → Within s.rest f
    → Sees (found cores answer go_on f (λ n v. go (ahead_by n s) (joined acc ⊕ v))) (read_leaf (and_rest f (seen s).spot) (λ c p. go' (at (seen s) p) (acc ++ c ∷ [])))
found_sees s acc go go' h (took n v) e = same_at go go' h (ahead_by n s) (joined acc ⊕ v) (acc ++ v ∷ []) _ (snoc acc v) (moved n s e)
found_sees s acc go go' h (none k) e = Sees.no false k

mapped_sees : {A : Type 0} (g : A → Core) (s : State) (acc : List Core) (go : State → Core → Answer Core) (go' : Here → List Core → Out) → Same go go' → (f : Found A) → Within s.rest f
    → Sees (found cores answer go_on (mapped g f) (λ n v. go (ahead_by n s) (joined acc ⊕ v))) (read_leaf (and_rest f (seen s).spot) (λ x p. go' (at (seen s) p) (acc ++ g x ∷ [])))
mapped_sees g s acc go go' h (took n v) e = same_at go go' h (ahead_by n s) (joined acc ⊕ g v) (acc ++ g v ∷ []) _ (snoc acc (g v)) (moved n s e)
mapped_sees g s acc go go' h (none k) e = Sees.no false k

natural_sees : (s : State) (acc : List Core) (go : State → Core → Answer Core) (go' : Here → List Core → Out) → Same go go' → (f : Found ℕ) → Within s.rest f
    → Sees (found cores answer go_on (mapped numbered (mapped pos f)) (λ n v. go (ahead_by n s) (joined acc ⊕ v))) (read_leaf (and_rest f (seen s).spot) (λ x p. go' (at (seen s) p) (acc ++ number (pos x) end ∷ [])))
natural_sees s acc go go' h (took n v) e = same_at go go' h (ahead_by n s) (joined acc ⊕ number (pos v) end) (acc ++ number (pos v) end ∷ []) _ (snoc acc (number (pos v) end)) (moved n s e)
natural_sees s acc go go' h (none k) e = Sees.no false k

nothing_taken : (s : State) → seen (ahead_by 0 s) ≡ seen s
nothing_taken s = ap (λ m. let h : Here = record { spot = record { index = m; left = s.rest }; table = s.entries } in h) (let e : s.at + 0 ≡ s.at = omega arith in e)

eat_sees : (x : Eat) (s : State) (acc : List Core) (go : State → Core → Answer Core) (go' : Here → List Core → Out) → Same go go'
    → Sees (found cores answer go_on (find x s.at s.rest) (λ n v. go (ahead_by n s) (joined acc ⊕ v))) (eaten x (seen s) acc go')
unfolding eat_at number_from natural_from table_from word_read
eat_sees (Eat.give g) s acc go go' h = same_at go go' h (ahead_by 0 s) (joined acc ⊕ given g) (acc ++ given g ∷ []) (seen s) (snoc acc (given g)) (nothing_taken s)
eat_sees Eat.here s acc go go' h = same_at go go' h (ahead_by 0 s) (joined acc ⊕ mark s.at end) (acc ++ mark s.at end ∷ []) (seen s) (snoc acc (mark s.at end)) (nothing_taken s)
eat_sees (Eat.run c) s acc go go' h = found_sees s acc go go' h (find (Eat.run c) s.at s.rest) (run_at_within c s.at s.rest)
eat_sees Eat.identifier s acc go go' h = found_sees s acc go go' h (find Eat.identifier s.at s.rest) (identifier_within s.at s.rest)
eat_sees (Eat.upto b) s acc go go' h = found_sees s acc go go' h (find (Eat.upto b) s.at s.rest) (length-take-le (span (λ x. not (x == b)) s.rest) s.rest (span_within (λ x. not (x == b)) s.rest))
eat_sees (Eat.byte c) s acc go go' h = found_sees s acc go go' h (find (Eat.byte c) s.at s.rest) (byte_within c s.at s.rest)
eat_sees Eat.digit s acc go go' h = found_sees s acc go go' h (find Eat.digit s.at s.rest) (digit_within s.at s.rest)
eat_sees (Eat.numeral base true) s acc go go' h = mapped_sees numbered s acc go go' h (number_at base true s.rest) (number_within base true s.rest)
eat_sees (Eat.numeral base false) s acc go go' h = natural_sees s acc go go' h (natural_at base s.rest) (natural_within base s.rest)
eat_sees (Eat.table t ws) s acc go go' h = mapped_sees (worded t) s acc go go' h (table_at ws s.rest) (word_within ws s.rest)

word_sees : (w : List ℕ) (s : State) (acc : List Core) (go : State → Core → Answer Core) (go' : Here → List Core → Out) → Same go go' → (b : Bool) → starts w s.rest ≡ b → (k : Cause)
    → Sees (where_so cores answer go_on b k (λ u. go (ahead_by (length w) s) (joined acc ⊕ end))) (read_spot (if b then Ok (skip (length w) (seen s).spot) else Err (Unread k)) (λ p. go' (at (seen s) p) acc))
word_sees w s acc go go' h true e k = same_at go go' h (ahead_by (length w) s) (joined acc ⊕ end) acc _ (sym (plus_end (joined acc))) (moved (length w) s (ap length (starts_so w s.rest e)))
word_sees w s acc go go' h false e k = Sees.no false k

mark_sees : (w : Which) (s : State) (a x : Core) (acc' : List Core) (go : State → Core → Answer Core) (go' : Here → List Core → Out) → Same go go' → joined acc' ≡ x
    → Sees (go (kept s (record { which = w; tree = a })) x) (go' (record { spot = (seen s).spot; table = added w a s.entries }) acc')
unfolding added
mark_sees w s a x acc' go go' h e = same_at go go' h (kept s (record { which = w; tree = a })) x acc' _ e refl

take_sees : (x a : Core) (s : State) (go : State → Core → Answer Core) (go' : Here → List Core → Out) → Same go go' → (b : Bool)
    → Sees (where_so cores answer go_on b Text (λ u. go s (taken_of x a))) (read_core (if b then Ok (taken_of x a) else Err (Unread Text)) (λ c. go' (seen s) (c ∷ [])))
take_sees x a s go go' h true = h s (taken_of x a ∷ [])
take_sees x a s go go' h false = Sees.no false Text

kind_sees : (b : Bool) → Sees (No false (cond b End Text)) (code.No false (if b then Unread End else Unread Text))
kind_sees true = Sees.no false End
kind_sees false = Sees.no false Text

step_sees : (l : Leaf) (s : State) (acc : List Core) (go : State → Core → Answer Core) (go' : Here → List Core → Out) → Same go go' → Sees (step cores answer go_on l s (joined acc) go) (cstep l (seen s) acc go')
unfolding word_at taken_over size
step_sees (Leaf.word w) s acc go go' h = word_sees w s acc go go' h (starts w s.rest) refl (missing_word w s.rest)
step_sees (Leaf.eat x) s acc go go' h = eat_sees x s acc go go' h
step_sees (Leaf.check c) s acc go go' h = where_sees (holds c s.rest (joined acc)) (refusal c) (λ u. go s (joined acc)) (go' (seen s) acc) (h s acc)
step_sees (Leaf.make m) s acc go go' h = h s (shape (How.shaped m) (joined acc) ∷ [])
step_sees (Leaf.mark m) s acc go go' h =
    mark_sees (marks m s.rest) s (joined acc) (reference (marks m s.rest) (count (marks m s.rest) s.entries)) (reference (marks m s.rest) (size (marks m s.rest) s.entries) ∷ []) go go' h refl
step_sees Leaf.refer s acc go go' h =
    where_sees (nat_lt (component_of (joined acc)) (count N s.entries)) Bad (λ u. go s (reference N (component_of (joined acc)))) (go' (seen s) (reference N (component_of (joined acc)) ∷ [])) (h s (reference N (component_of (joined acc)) ∷ []))
step_sees Leaf.take_over s acc go go' h = take_sees (prefix_entry (joined acc) s.entries) (joined acc) s go go' h (is_nestable (prefix_entry (joined acc) s.entries))
step_sees Leaf.no_prefix s acc go go' h = kind_sees (next_is (Class.these (codes "E")) s.rest || is_empty s.rest)
step_sees Leaf.mark_first s acc go go' h =
    mark_sees U s (template_entry (joined acc)) (shape (How.made_first (count U s.entries)) (joined acc)) (shape (How.made_first (size U s.entries)) (joined acc) ∷ []) go go' h refl

-- ---- one after another
then_sees : {x : Answer Core} {y : Out} → (go : State → Core → Answer Core) (go' : Here → List Core → Out) → Sees x y → Same go go' → Sees (next_do cores answer go_on go x) (and_then y go')
then_sees go go' (Sees.yes s acc) h = h s acc
then_sees go go' (Sees.no b k) h = Sees.no b k
then_sees go go' Sees.deep h = Sees.deep

row_sees : {x : Answer Core} {y : Reply} → (go : State → Core → Answer Core) (go' : Here → Core → Out) → SeesRow x y → Next go go' → Sees (next_do cores answer go_on go x) (from_row y go')
row_sees go go' (SeesRow.found' s t) h = h s t
row_sees go go' (SeesRow.refused k) h = Sees.no false k
row_sees go go' SeesRow.deep' h = Sees.deep

or_sees : {x : Answer Core} {y : Out} → (go : Cause → Answer Core) (go' : Unit {0} → Out) → Sees x y → ((k : Cause) → Sees (go k) (go' tt)) → Sees (or_else cores answer go_on go x) (code.or_else y go')
or_sees go go' (Sees.yes s acc) h = Sees.yes s acc
or_sees go go' (Sees.no true k) h = Sees.no true k
or_sees go go' (Sees.no false k) h = h k
or_sees go go' Sees.deep h = Sees.deep

hard_sees : {x : Answer Core} {y : Out} → Sees x y → Sees (hard x) (committed y)
hard_sees (Sees.yes s acc) = Sees.yes s acc
hard_sees (Sees.no b k) = Sees.no true k
hard_sees Sees.deep = Sees.deep

soft_sees : {x : Answer Core} {y : Out} → Sees x y → SeesRow (soft x) (close y)
soft_sees (Sees.yes s acc) = SeesRow.found' s (joined acc)
soft_sees (Sees.no b k) = SeesRow.refused k
soft_sees Sees.deep = SeesRow.deep'

-- ---- repetitions
ended_sees : {x : Answer Core} {y : Out} → (s : State) (acc : List Core) (go : State → Core → Answer Core) (go' : Here → List Core → Out) → Sees x y → Same go go' → Sees (ended cores answer go_on s (joined acc) go x) (and_again y go' (code.Yes (seen s) acc))
ended_sees s acc go go' (Sees.yes t b) h = h t b
ended_sees s acc go go' (Sees.no b k) h = Sees.yes s acc
ended_sees s acc go go' Sees.deep h = Sees.deep

many_sees : (go : State → Core → Answer Core) (go' : Here → List Core → Out) → Same go go' → (n : ℕ) → Same (many cores answer go_on go n) (code.many go' n)
unfolding code.many
many_sees go go' h zero s acc = Sees.yes s acc
many_sees go go' h (suc n) s acc = ended_sees s acc (many cores answer go_on go n) (code.many go' n) (h s acc) (many_sees go go' h n)

abbrev SameRow : (State → Core → Answer Core) → (Here → List Core → Reply) → Type 0
SameRow go go' = (s : State) (acc : List Core) → SeesRow (go s (joined acc)) (go' (seen s) acc)

turned_sees : (t : State) (x : Core) (b : Bool) (go : State → Core → Answer Core) (go' : Here → List Core → Reply) → SameRow go go' → SeesRow (turned cores answer go_on t x b go) (code.turned (seen t) x b go')
turned_sees t x true go go' h = SeesRow.found' t x
turned_sees t x false go go' h = h t (x ∷ [])

turn_sees : {x : Answer Core} {y : Reply} → (s : State) (go : State → Core → Answer Core) (go' : Here → List Core → Reply) → SeesRow x y → SameRow go go' → SeesRow (turn cores answer go_on s go x) (code.turn (seen s) y go')
turn_sees s go go' (SeesRow.found' t x) h = turned_sees t x (length t.rest == length s.rest) go go' h
turn_sees s go go' (SeesRow.refused k) h = SeesRow.refused k
turn_sees s go go' SeesRow.deep' h = SeesRow.deep'

turns_sees : (go : State → Core → Answer Core) (go' : Here → List Core → Reply) → SameRow go go' → (n : ℕ) → SameRow (turns cores answer go_on go n) (code.turns go' n)
unfolding code.turns
turns_sees go go' h zero s acc = SeesRow.found' s (joined acc)
turns_sees go go' h (suc n) s acc = turn_sees s (turns cores answer go_on go n) (code.turns go' n) (h s acc) (turns_sees go go' h n)

-- ---- just so many bytes
whole_sees : {x : Answer Core} {y : Out} → (p : Spot) (go : State → Core → Answer Core) (go' : Here → Core → Out) → Sees x y → Next go go' → Sees (whole cores answer go_on p.left go x) (code.whole p y go')
whole_sees p go go' (Sees.yes s acc) h = where_sees (is_empty s.rest) Text (λ u. go (widened p.left s) (joined acc)) (go' (seen (widened p.left s)) (joined acc)) (h (widened p.left s) (joined acc))
whole_sees p go go' (Sees.no b k) h = Sees.no false k
whole_sees p go go' Sees.deep h = Sees.deep

below_zero : (n : ℕ) → false ≡ nat_lt n 0
below_zero n = search rules

not_zero : (v : ℕ) → false ≡ nat_eq (suc v) 0
not_zero v = search rules

sized_at : (v n : ℕ) (s : State) (go on : State → Core → Answer Core) (go' : Here → List Core → Out) (on' : Here → Core → Out) → Same go go' → Next on on'
    → Sees (sized cores answer go_on (nat_lt (length (drop n s.rest)) v) v (ahead_by n s) go on) (inside v (record { index = s.at + length (take n s.rest); left = drop n s.rest }) (seen s) go' on')
sized_at zero n s go on go' on' h i = subst (λ b. Sees (sized cores answer go_on b 0 (ahead_by n s) go on) (code.No false (Unread Text))) (below_zero (length (drop n s.rest))) (Sees.no false Text)
sized_at (suc v) n s go on go' on' h i =
    subst (λ z. Sees (sized cores answer go_on (nat_lt (length (drop n s.rest)) (suc v)) (suc v) (ahead_by n s) go on)
    (if z then code.No false (Unread Text) else (if nat_lt (length (drop n s.rest)) (suc v) then code.No false (Unread End) else code.whole (skip (suc v) p) (go' (at (seen s) (record { index = p.index; left = take (suc v) p.left })) []) on'))) (not_zero v)
    (by (nat_lt (length (drop n s.rest)) (suc v)))
  where
    p : Spot
    p = record { index = s.at + length (take n s.rest); left = drop n s.rest }

    by : (b : Bool) → Sees (sized cores answer go_on b (suc v) (ahead_by n s) go on)
        (if b then code.No false (Unread End) else code.whole (skip (suc v) p) (go' (at (seen s) (record { index = p.index; left = take (suc v) p.left })) []) on')
    by true = Sees.no false End
    by false = whole_sees (skip (suc v) p) on on' (h (record { at = p.index; rest = take (suc v) p.left; entries = s.entries }) []) i

block_sees : (f : Found ℕ) (s : State) (go : State → Core → Answer Core) (on : ℕ → State → Core → Answer Core) (go' : Here → List Core → Out) (on' : Here → Core → Out) → Within s.rest f → Same go go' → ((n : ℕ) → Next (on n) on')
    → Sees (found cores answer go_on f (λ n v. sized cores answer go_on (nat_lt (length (drop n s.rest)) v) v (ahead_by n s) go (on n))) (read_leaf (and_rest f (seen s).spot) (λ v p. inside v p (seen s) go' on'))
block_sees (took n v) s go on go' on' e h i =
    subst (λ m. Sees (sized cores answer go_on (nat_lt (length (drop n s.rest)) v) v (ahead_by n s) go (on n)) (inside v (record { index = s.at + m; left = drop n s.rest }) (seen s) go' on')) e
    (sized_at v n s go (on n) go' on' h (i n))
block_sees (none k) s go on go' on' e h i = Sees.no false k

-- ---- the trial
tried_sees : {x : Answer Core} {y : Reply} → (go : Unit {0} → Answer Core) (go' : Unit {0} → Out) → Sees (go tt) (go' tt) → SeesRow x y → Sees (tried cores answer go_on go x) (code.tried y go')
tried_sees go go' h (SeesRow.found' t x) = by (next_is (Class.these (codes "I")) t.rest)
  where
    by : (b : Bool) → Sees (where_so cores answer go_on (not b) Text go) (if b then code.No false (Unread Text) else go' tt)
    by true = Sees.no false Text
    by false = h
tried_sees go go' h (SeesRow.refused k) = h
tried_sees go go' h SeesRow.deep' = Sees.deep

trial_sees : {x : Answer Core} {y : Reply} → (b c : Bool) (go : Unit {0} → Answer Core) (go' : Unit {0} → Out) → SeesRow x y → Sees (go tt) (go' tt) → Sees (trial_of cores answer go_on b c (λ u. x) go) (trial_at b c y go')
trial_sees false c go go' e h = h
trial_sees true false go go' e h = Sees.no false Text
trial_sees true true go go' e h = tried_sees go go' h e

-- ---- rules
next_sees : (acc : List Core) (go : State → Core → Answer Core) (go' : Here → List Core → Out) → Same go go' → Next (λ m t. go m (joined acc ⊕ t)) (λ m t. go' m (acc ++ t ∷ []))
next_sees acc go go' h m t = same_at go go' h m (joined acc ⊕ t) (acc ++ t ∷ []) (seen m) (snoc acc t) refl

behind_sees : (acc : List Core) (go : State → Core → Answer Core) (go' : Here → List Core → Out) → Same go go' → Next (λ m t. go m ((joined acc ⊕ end) ⊕ t)) (λ m t. go' m (acc ++ t ∷ []))
behind_sees acc go go' h m t = same_at go go' h m ((joined acc ⊕ end) ⊕ t) (acc ++ t ∷ []) (seen m) (snoc acc t ∙ ap (λ x. x ⊕ t) (sym (plus_end (joined acc)))) refl

module _ (read : Row → Bool → State → Core → Answer Core) (go : Go) (rows : (r : Row) (c : Bool) → SameRow (read r c) (go r c)) where
  rule_sees : (c : Bool) (r : Rule) → Same (run_rule cores answer go_on read c r) (λ s acc. crun go c r s acc)
  unfolding run_rule natural_from turns_of all_of
  rule_sees c Rule.done s acc = Sees.yes s acc
  rule_sees c (Rule.leaf l k) s acc = step_sees l s acc (run_rule cores answer go_on read c k) (λ m b. crun go c k m b) (rule_sees c k)
  rule_sees c (Rule.call on r k) s acc =
      row_sees (λ m b. run_rule cores answer go_on read c k m (joined acc ⊕ b)) (λ m t. crun go c k m (acc ++ t ∷ [])) (rows r (on || c) s [])
      (next_sees acc (run_rule cores answer go_on read c k) (λ m b. crun go c k m b) (rule_sees c k))
  rule_sees c (Rule.loop r k) s acc =
      row_sees (run_rule cores answer go_on read c k) (λ m t. crun go c k m (t ∷ [])) (turns_sees (read r c) (go r c) (rows r c) (suc (length s.rest)) s acc) (λ m t. rule_sees c k m (t ∷ []))
  rule_sees c (Rule.star x k) s acc =
      subst (Sees (next_do cores answer go_on (run_rule cores answer go_on read c k) (many cores answer go_on (run_rule cores answer go_on read c x) (suc (length s.rest)) s (joined acc))))
      (ap (λ o. and_then o (λ m b. crun go c k m b)) (starred_is go c x (seen s) acc) ∙ after_is go c k _)
      (then_sees (run_rule cores answer go_on read c k) (λ m b. crun go c k m b)
      (many_sees (run_rule cores answer go_on read c x) (λ m b. crun go c x m b) (rule_sees c x) (suc (length s.rest)) s acc) (rule_sees c k))
  rule_sees c (Rule.alt x y k) s acc =
      subst (Sees (next_do cores answer go_on (run_rule cores answer go_on read c k) (or_else cores answer go_on (λ Kind. run_rule cores answer go_on read c y s (joined acc)) (run_rule cores answer go_on read c x s (joined acc)))))
      (or_optional go c x y (seen s) acc (λ m b. crun go c k m b) _
      (ap (λ o. and_then o (λ m b. crun go c k m b)) (choice_is go c x y (seen s) acc) ∙ after_is go c k _))
      (then_sees (run_rule cores answer go_on read c k) (λ m b. crun go c k m b)
      (or_sees (λ Kind. run_rule cores answer go_on read c y s (joined acc)) (λ u. crun go c y (seen s) acc) (rule_sees c x s acc) (λ Kind. rule_sees c y s acc)) (rule_sees c k))
  rule_sees c (Rule.commit k) s acc = hard_sees (rule_sees c k s acc)
  rule_sees c (Rule.block x k) s acc =
      block_sees (natural_at 10 s.rest) s (run_rule cores answer go_on read c x) (λ n m b. run_rule cores answer go_on read c k m ((joined acc ⊕ end) ⊕ b)) (λ m b. crun go c x m b) (λ m b. crun go c k m (acc ++ b ∷ []))
      (natural_within 10 s.rest) (rule_sees c x) (λ n. behind_sees acc (run_rule cores answer go_on read c k) (λ m b. crun go c k m b) (rule_sees c k))
  rule_sees c (Rule.part h x k) s acc =
      subst (Sees (next_do cores answer go_on (λ m b. run_rule cores answer go_on read c k m (joined acc ⊕ shape (How.shaped h) b)) (run_rule cores answer go_on read c x s end)))
      (part_or_list go c h x (seen s) acc (λ m b. crun go c k m b))
      (then_sees (λ m b. run_rule cores answer go_on read c k m (joined acc ⊕ shape (How.shaped h) b)) (λ m b. crun go c k m (acc ++ shape (How.shaped h) (joined b) ∷ [])) (rule_sees c x s [])
      (λ m b. next_sees acc (run_rule cores answer go_on read c k) (λ m b. crun go c k m b) (rule_sees c k) m (shape (How.shaped h) (joined b))))
  rule_sees c (Rule.trial r k) s acc =
      subst (Sees (trial_of cores answer go_on (next_is (Class.these (codes "I")) s.rest) c (λ u. read r c s end) (λ u. run_rule cores answer go_on read c k s (joined acc))))
      (trial_is go c r (seen s) (crun go c k (seen s) acc))
      (trial_sees (next_is (Class.these (codes "I")) s.rest) c (λ u. run_rule cores answer go_on read c k s (joined acc)) (λ u. crun go c k (seen s) acc) (rows r c s []) (rule_sees c k s acc))

row_read : (left : ℕ) (r : Row) (c : Bool) → SameRow (read_from cores left r c) (cread left r c)
unfolding read_from cread
row_read zero r c s acc = SeesRow.deep'
row_read (suc left) r c s acc = soft_sees (rule_sees (read_from cores left) (cread left) (row_read left) c (rule r) s acc)

same_reply : {x : Answer Core} {y : Reply} → SeesRow x y → replied x ≡ y
same_reply (SeesRow.found' s t) = refl
same_reply (SeesRow.refused k) = refl
same_reply SeesRow.deep' = refl

pub reads_code : ReadsCode
reads_code left r c s acc = same_reply (row_read left r c s acc)
