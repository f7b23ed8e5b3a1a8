-- The reading as the program does it: of cores, with the parts so far in a list, and with the kind `Deep` for what ends
-- all reading.
use Rattle.std.specs.Prelude.{ℕ, zero, suc, Bool, true, false, List, [], ◌∷◌, ◌++◌, length, take, nat_lt, nat_eq, ◌==◌}
use Rattle.std.specs.Prelude.{◌||◌, if◌then◌else◌, pos, codes, Result, Ok, Err, Option, Some, None}
use Rattle.demangle_core.specs.Core.{Core, Tag, end, node, number, flag, chosen, mark, ◌⊕◌, Which, N, U}
use Rattle.demangle_text.specs.Kind.{Kind, End, Text, Bad, Unread, Deep, ends}
use Rattle.demangle_text.specs.Spot.{Spot, skip}
use Rattle.demangle_text.specs.Found.{and_rest}
use Rattle.demangle_text.specs.Word.{starts, word_at}
use Rattle.demangle_text.specs.Number.{number_from, natural_from}
use Rattle.demangle_core.specs.Table.{Table, added, size}
use Rattle.demangle_grammar.specs.Rule.{Given, Make, Class, Row, Eat, Leaf, Rule}
use Rattle.demangle_grammar.specs.Tree.{How, shape, component_of, template_entry, taken_of, reference}
use Rattle.demangle_grammar.specs.Rows.{rule}
use Rattle.demangle_vocab.specs.WordTable.{table_from}
use Rattle.demangle_grammar.specs.Reading.{find, holds, refusal, marks, given, next_is, is_empty, prefix_entry}
use Rattle.demangle_grammar.specs.Reading.{is_nestable}

-- ---- the parts so far
abbrev pub joined_to : Core → List Core → Core
joined_to a [] = a
joined_to a (b ∷ bs) = a ⊕ joined_to b bs

abbrev pub joined : List Core → Core
joined [] = end
joined (a ∷ bs) = joined_to a bs

-- ---- where a reading is, and what it answers
pub record Here : Type 0 where
  pub spot : Spot
  pub table : Table

abbrev pub here : Spot → Table → Here
here p e = record { spot = p; table = e }

abbrev pub at : Here → Spot → Here
at s p = record { spot = p; table = s.table }

-- of a row
pub data Reply : Type 0 where
  Found : Core → Here → Reply
  Refused : Kind → Reply

-- of a rule: the parts, or a failure, and whether it came after the mark
pub data Out : Type 0 where
  Yes : Here → List Core → Out
  No : Bool → Kind → Out

abbrev pub close : Out → Reply
close (Yes s acc) = Found (joined acc) s
close (No h k) = Refused k

abbrev pub committed : Out → Out
committed (Yes s acc) = Yes s acc
committed (No h k) = No true k

-- a failure that ends all reading is one after the mark
abbrev pub from_row : Reply → (Here → Core → Out) → Out
from_row (Found t s) f = f s t
from_row (Refused k) f = No (ends k) k

abbrev pub read_spot : Result Spot Kind → (Spot → Out) → Out
read_spot (Ok p) f = f p
read_spot (Err k) f = No false k

abbrev pub read_leaf : {X : Type 0} → Result (X × Spot) Kind → (X → Spot → Out) → Out
read_leaf (Ok x) f = f x.0 x.1
read_leaf (Err k) f = No false k

abbrev pub read_core : Result Core Kind → (Core → Out) → Out
read_core (Ok x) f = f x
read_core (Err k) f = No false k

abbrev pub or_else : Out → (Unit {0} → Out) → Out
or_else (Yes s acc) f = Yes s acc
or_else (No true k) f = No true k
or_else (No false k) f = f tt

abbrev pub and_then : Out → (Here → List Core → Out) → Out
and_then (Yes s acc) f = f s acc
and_then (No h k) f = No h k

-- o, unless the failure ends all reading
abbrev pub unless_ends : Bool → Kind → (Unit {0} → Out) → Out
unless_ends true k o = No true k
unless_ends false k o = o tt

-- ---- leaves
-- what is found at the front, and the rest
unfoldable pub eat_at : Eat → Spot → Result (Core × Spot) Kind
eat_at x p = and_rest (find x p.index p.left) p

abbrev pub taken_from : Core → Core → Result Core Kind
taken_from x a = if is_nestable x then Ok (taken_of x a) else Err (Unread Text)

unfoldable pub taken_over : Core → Table → Result Core Kind
taken_over a e = taken_from (prefix_entry a e) a

abbrev pub marked : Which → Core → Here → (Here → List Core → Out) → Out
marked w a s f = f (record { spot = s.spot; table = added w a s.table }) (reference w (size w s.table) ∷ [])

abbrev pub referred : ℕ → Here → (Here → List Core → Out) → Out
referred k s f = if nat_lt k (size N s.table) then f s (reference N k ∷ []) else No false (Unread Bad)

abbrev pub eaten : Eat → Here → List Core → (Here → List Core → Out) → Out
eaten (Eat.give g) s acc f = f s (acc ++ given g ∷ [])
eaten Eat.here s acc f = f s (acc ++ mark s.spot.index end ∷ [])
eaten (Eat.numeral base true) s acc f =
    read_leaf (number_from base true s.spot) (λ v p. f (at s p) (acc ++ number v end ∷ []))
eaten (Eat.numeral base false) s acc f =
    read_leaf (natural_from base s.spot) (λ v p. f (at s p) (acc ++ number (pos v) end ∷ []))
eaten (Eat.table t ws) s acc f = read_leaf (table_from ws s.spot) (λ k p. f (at s p) (acc ++ chosen t k end ∷ []))
eaten x s acc f = read_leaf (eat_at x s.spot) (λ c p. f (at s p) (acc ++ c ∷ []))

abbrev pub cstep : Leaf → Here → List Core → (Here → List Core → Out) → Out
cstep (Leaf.word w) s acc f = read_spot (word_at w s.spot) (λ p. f (at s p) acc)
cstep (Leaf.eat x) s acc f = eaten x s acc f
cstep (Leaf.check c) s acc f = if holds c s.spot.left (joined acc) then f s acc else No false (Unread (refusal c))
cstep (Leaf.make m) s acc f = f s (shape (How.shaped m) (joined acc) ∷ [])
cstep (Leaf.mark m) s acc f = marked (marks m s.spot.left) (joined acc) s f
cstep Leaf.refer s acc f = referred (component_of (joined acc)) s f
cstep Leaf.take_over s acc f = read_core (taken_over (joined acc) s.table) (λ c. f s (c ∷ []))
cstep Leaf.no_prefix s acc f =
    No false (if next_is (Class.these (codes "E")) s.spot.left || is_empty s.spot.left then Unread End else Unread Text)
cstep Leaf.mark_first s acc f =
    f (record { spot = s.spot; table = added U (template_entry (joined acc)) s.table })
    (shape (How.made_first (size U s.table)) (joined acc) ∷ [])

-- ---- repetitions
abbrev pub and_again : Out → (Here → List Core → Out) → Out → Out
and_again (Yes s acc) f o = f s acc
and_again (No h k) f o = unless_ends (ends k) k (λ u. o)

unfoldable pub many : (Here → List Core → Out) → ℕ → Here → List Core → Out
many f zero s acc = Yes s acc
many f (suc n) s acc = and_again (f s acc) (many f n) (Yes s acc)

unfoldable pub all_of : (Here → List Core → Out) → Here → List Core → Out
all_of f s acc = many f (suc (length s.spot.left)) s acc

abbrev pub Go : Type 0
Go = Row → Bool → Here → List Core → Reply

abbrev pub one_row : Go → Bool → Row → Here → List Core → Out
one_row go c r s acc = from_row (go r c s []) (λ m t. Yes m (acc ++ t ∷ []))

-- a row as often as it can be read
unfoldable pub rows_of : Go → Bool → Row → Here → List Core → Out
rows_of go c r s acc = all_of (one_row go c r) s acc

abbrev pub starred : Go → Bool → Rule → (Here → List Core → Out) → Here → List Core → Out
starred go c (Rule.call false r Rule.done) f s acc = rows_of go c r s acc
starred go c _ f s acc = all_of f s acc

-- turns end with the one that takes no byte
abbrev pub turned : Here → Core → Bool → (Here → List Core → Reply) → Reply
turned s t true f = Found t s
turned s t false f = f s (t ∷ [])

abbrev pub turn : Here → Reply → (Here → List Core → Reply) → Reply
turn s (Found t m) f = turned m t (length m.spot.left == length s.spot.left) f
turn s (Refused k) f = Refused k

unfoldable pub turns : (Here → List Core → Reply) → ℕ → Here → List Core → Reply
turns f zero s acc = Found (joined acc) s
turns f (suc n) s acc = turn s (f s acc) (turns f n)

unfoldable pub turns_of : Go → Bool → Row → Here → List Core → Reply
turns_of go c r s acc = turns (go r c) (suc (length s.spot.left)) s acc

-- ---- a rule over just n bytes
abbrev pub whole : Spot → Out → (Here → Core → Out) → Out
whole p (Yes m b) f =
    if is_empty m.spot.left then f (at m (record { index = m.spot.index; left = p.left })) (joined b)
    else No false (Unread Text)
whole p (No h k) f = No (ends k) k

abbrev pub inside : ℕ → Spot → Here → (Here → List Core → Out) → (Here → Core → Out) → Out
inside n p s f on =
    if nat_eq n 0 then No false (Unread Text) else
    (if nat_lt (length p.left) n then No false (Unread End) else
    whole (skip n p) (f (at s (record { index = p.index; left = take n p.left })) []) on)

-- ---- the trial
abbrev pub tried : Reply → (Unit {0} → Out) → Out
tried (Found t m) f = if next_is (Class.these (codes "I")) m.spot.left then No false (Unread Text) else f tt
tried (Refused k) f = unless_ends (ends k) k f

abbrev pub trial_at : Bool → Bool → Reply → (Unit {0} → Out) → Out
trial_at false c x f = f tt
trial_at true false x f = No false (Unread Text)
trial_at true true x f = tried x f

-- ---- parts that are read by one word each
-- a row that may be missing
unfoldable pub optional_at : Go → Bool → Row → Here → Out
optional_at go c r s =
    or_else (from_row (go r c s []) (λ m t. Yes m (node Tag.Present t end ∷ [])))
    (λ u. Yes s (node Tag.Absent end end ∷ []))

-- a row as often as it can be read, behind those that were read: all as one part
unfoldable pub rows_at : Go → Bool → Row → Here → List Core → Out
rows_at go c r s acc = and_then (rows_of go c r s acc) (λ m b. Yes m (node Tag.Several (joined b) end ∷ []))

-- the same with none before
unfoldable pub all_at : Go → Bool → Row → Here → Out
all_at go c r s = rows_at go c r s []

-- a row, and then one as often as it can be read
unfoldable pub some_at : Go → Bool → Row → Row → Here → Out
some_at go c r q s = from_row (go r c s []) (λ m t. rows_at go c q m (t ∷ []))

-- the trial: no part, where what stands here may be read alone
unfoldable pub trial_part : Go → Bool → Row → Here → Out
trial_part go c r s = trial_at (next_is (Class.these (codes "I")) s.spot.left) c (go r c s []) (λ u. Yes s [])

-- ---- what is computed of the rule before it is read
-- an optional word with its flag
abbrev pub flag_of : Rule → Rule → Option (List ℕ)
flag_of
    (Rule.leaf (Leaf.word w) (Rule.leaf (Leaf.eat (Eat.give Given.set)) Rule.done))
    (Rule.leaf (Leaf.eat (Eat.give Given.unset)) Rule.done) = Some w
flag_of _ _ = None

abbrev pub taken_if : Bool → ℕ → Spot → Bool × Spot
taken_if true n p = (true, skip n p)
taken_if false n p = (false, p)

unfoldable pub taken_word : List ℕ → Spot → Bool × Spot
taken_word w p = taken_if (starts w p.left) (length w) p

abbrev pub choice : Option (List ℕ) → Here → List Core → (Unit {0} → Out) → Out
choice None s acc f = f tt
choice (Some w) s acc f = Yes (at s (taken_word w s.spot).1) (acc ++ flag (taken_word w s.spot).0 end ∷ [])

-- nothing comes behind
abbrev pub go_after : Rule → Out → (Here → List Core → Out) → Out
go_after Rule.done o f = o
go_after _ o f = and_then o f

-- an optional row
abbrev pub optional_row : Rule → Rule → Option Row
optional_row
    (Rule.part (Make.one Tag.Present) (Rule.call false r Rule.done) Rule.done)
    (Rule.leaf (Leaf.eat (Eat.give Given.missing)) Rule.done) = Some r
optional_row _ _ = None

abbrev pub unless_optional : Go → Bool → Option Row → Here → List Core → (Here → List Core → Out)
    → (Unit {0} → Out) → Out
unless_optional go c (Some r) s acc f o = and_then (optional_at go c r s) (λ m b. f m (acc ++ b))
unless_optional go c None s acc f o = o tt

-- a list of rows
pub data Listing : Type 0 where
  all : Row → Listing
  some : Row → Row → Listing
  other : Listing

abbrev pub listing : Make → Rule → Listing
listing (Make.one Tag.Several) (Rule.star (Rule.call false r Rule.done) Rule.done) = Listing.all r
listing (Make.one Tag.Several) (Rule.call false r (Rule.star (Rule.call false q Rule.done) Rule.done)) =
    Listing.some r q
listing _ _ = Listing.other

abbrev pub unless_list : Go → Bool → Listing → Here → List Core → (Here → List Core → Out) → (Unit {0} → Out) → Out
unless_list go c (Listing.all r) s acc f o = and_then (all_at go c r s) (λ m b. f m (acc ++ b))
unless_list go c (Listing.some r q) s acc f o = and_then (some_at go c r q s) (λ m b. f m (acc ++ b))
unless_list go c Listing.other s acc f o = o tt

-- ---- the reader
abbrev pub crun : Go → Bool → Rule → Here → List Core → Out
crun go c Rule.done s acc = Yes s acc
crun go c (Rule.leaf l k) s acc = cstep l s acc (λ m b. crun go c k m b)
crun go c (Rule.call on r k) s acc = from_row (go r (on || c) s []) (λ m t. crun go c k m (acc ++ t ∷ []))
crun go c (Rule.loop r k) s acc = from_row (turns_of go c r s acc) (λ m t. crun go c k m (t ∷ []))
crun go c (Rule.star x k) s acc = go_after k (starred go c x (λ m b. crun go c x m b) s acc) (λ m b. crun go c k m b)
crun go c (Rule.alt x y k) s acc =
    unless_optional go c (optional_row x y) s acc (λ m b. crun go c k m b) (λ u.
    go_after k (choice (flag_of x y) s acc (λ u. or_else (crun go c x s acc) (λ u. crun go c y s acc)))
    (λ m b. crun go c k m b))
crun go c (Rule.commit k) s acc = committed (crun go c k s acc)
crun go c (Rule.block x k) s acc =
    read_leaf (natural_from 10 s.spot)
    (λ v p. inside v p s (λ m b. crun go c x m b) (λ m b. crun go c k m (acc ++ b ∷ [])))
crun go c (Rule.part h x k) s acc =
    unless_list go c (listing h x) s acc (λ m b. crun go c k m b) (λ u.
    and_then (crun go c x s []) (λ m b. crun go c k m (acc ++ shape (How.shaped h) (joined b) ∷ [])))
crun go c (Rule.trial r k) s acc = and_then (trial_part go c r s) (λ m b. crun go c k s acc)

-- with so many levels left, and the conversion flag
unfoldable pub cread : ℕ → Row → Bool → Here → List Core → Reply
cread zero r c s acc = Refused Deep
cread (suc f) r c s acc = close (crun (cread f) c (rule r) s acc)
