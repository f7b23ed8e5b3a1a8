-- What one word reads is what its parts read one after the other.
use Rattle.std.specs.Prelude.{ℕ, Bool, true, false, List, [], ◌∷◌, ◌++◌, length, codes, if◌then◌else◌, Ok, Err}
use Rattle.std.proofs.Common.{◌≡◌, refl}
use Rattle.demangle_core.specs.Core.{Core, Tag, node, end, flag}
use Rattle.demangle_text.specs.Kind.{Unread, Text, ends}
use Rattle.demangle_text.specs.Spot.{skip}
use Rattle.demangle_text.specs.Word.{starts, missing_word, word_at}
use Rattle.demangle_grammar.specs.Rule.{Row, Rule, Leaf, Eat, Given, Make, Class}
use Rattle.demangle_grammar.specs.Tree.{How, shape}
use Rattle.demangle_grammar.specs.Reading.{next_is}
use Rattle.demangle_grammar.specs.Code.{joined, Go, Here, at, Reply, Found, Refused, Out, Yes, No, or_else, and_then}
use Rattle.demangle_grammar.specs.Code.{from_row, read_spot, unless_ends, tried, trial_at, all_of, rows_of, starred}
use Rattle.demangle_grammar.specs.Code.{optional_at, rows_at, all_at, some_at, trial_part, flag_of, taken_if, taken_word}
use Rattle.demangle_grammar.specs.Code.{choice, go_after, optional_row, unless_optional, listing, unless_list, crun}

abbrev On : Type 0
On = Here → List Core → Out

-- ---- a repetition of a row
pub starred_is : (go : Go) (c : Bool) (x : Rule) (s : Here) (acc : List Core)
    → all_of (λ m b. crun go c x m b) s acc ≡ starred go c x (λ m b. crun go c x m b) s acc
unfolding rows_of
starred_is go c (Rule.call false r Rule.done) s acc = refl
starred_is go c _ s acc = refl

-- ---- nothing behind is no difference
pub and_yes : (o : Out) → and_then o (λ m b. Yes m b) ≡ o
and_yes (Yes s acc) = refl
and_yes (No h k) = refl

pub after_is : (go : Go) (c : Bool) (k : Rule) (o : Out)
    → and_then o (λ m b. crun go c k m b) ≡ go_after k o (λ m b. crun go c k m b)
after_is go c Rule.done o = and_yes o
after_is go c _ o = refl

-- ---- an optional word
taken_is : (w : List ℕ) (s : Here) (acc : List Core)
    → or_else (read_spot (word_at w s.spot) (λ p. Yes (at s p) (acc ++ flag true end ∷ [])))
    (λ u. Yes s (acc ++ flag false end ∷ []))
    ≡ Yes (at s (taken_word w s.spot).1) (acc ++ flag (taken_word w s.spot).0 end ∷ [])
unfolding word_at taken_word
taken_is w s acc = by (starts w s.spot.left)
  where
    by : (b : Bool)
        → or_else
        (read_spot (if b then Ok (skip (length w) s.spot) else Err (Unread (missing_word w s.spot.left)))
        (λ p. Yes (at s p) (acc ++ flag true end ∷ [])))
        (λ u. Yes s (acc ++ flag false end ∷ []))
        ≡ Yes (at s (taken_if b (length w) s.spot).1) (acc ++ flag (taken_if b (length w) s.spot).0 end ∷ [])
    by true = refl
    by false = refl

pub choice_is : (go : Go) (c : Bool) (x y : Rule) (s : Here) (acc : List Core)
    → or_else (crun go c x s acc) (λ u. crun go c y s acc)
    ≡ choice (flag_of x y) s acc (λ u. or_else (crun go c x s acc) (λ u. crun go c y s acc))
choice_is go c
    (Rule.leaf (Leaf.word w) (Rule.leaf (Leaf.eat (Eat.give Given.set)) Rule.done))
    (Rule.leaf (Leaf.eat (Eat.give Given.unset)) Rule.done) s acc = taken_is w s acc
choice_is go c _ _ s acc = refl

-- ---- an optional row
-- read apart, and then in the part's place
abbrev present_or_absent : Reply → Here → List Core → On → Out
present_or_absent a s acc f =
    and_then
    (or_else
    (and_then (from_row a (λ m t. Yes m (t ∷ []))) (λ m b. Yes m (acc ++ node Tag.Present (joined b) end ∷ [])))
    (λ u. Yes s (acc ++ node Tag.Absent end end ∷ [])))
    f

abbrev present_or_not : Reply → Here → List Core → On → Out
present_or_not a s acc f =
    and_then
    (or_else (from_row a (λ m t. Yes m (node Tag.Present t end ∷ []))) (λ u. Yes s (node Tag.Absent end end ∷ [])))
    (λ m b. f m (acc ++ b))

present_is : (a : Reply) (s : Here) (acc : List Core) (f : On)
    → present_or_absent a s acc f ≡ present_or_not a s acc f
present_is (Found t m) s acc f = refl
present_is (Refused k) s acc f = by (ends k)
  where
    by : (z : Bool)
        → and_then
        (or_else (and_then (No z k) (λ m b. Yes m (acc ++ node Tag.Present (joined b) end ∷ [])))
        (λ u. Yes s (acc ++ node Tag.Absent end end ∷ [])))
        f
        ≡ and_then (or_else (No z k) (λ u. Yes s (node Tag.Absent end end ∷ []))) (λ m b. f m (acc ++ b))
    by true = refl
    by false = refl

optional_is : (go : Go) (c : Bool) (r : Row) (s : Here) (acc : List Core) (f : On)
    → present_or_absent (go r c s []) s acc f ≡ and_then (optional_at go c r s) (λ m b. f m (acc ++ b))
unfolding optional_at
optional_is go c r s acc f = present_is (go r c s []) s acc f

-- any form o of two alternatives and what follows them, in which an optional row is one word
pub or_optional : (go : Go) (c : Bool) (x y : Rule) (s : Here) (acc : List Core) (f : On) (o : Out)
    → and_then (or_else (crun go c x s acc) (λ u. crun go c y s acc)) f ≡ o
    → and_then (or_else (crun go c x s acc) (λ u. crun go c y s acc)) f
    ≡ unless_optional go c (optional_row x y) s acc f (λ u. o)
or_optional go c
    (Rule.part (Make.one Tag.Present) (Rule.call false r Rule.done) Rule.done)
    (Rule.leaf (Leaf.eat (Eat.give Given.missing)) Rule.done) s acc f o h = optional_is go c r s acc f
or_optional go c _ _ s acc f o h = h

-- ---- a list of rows
abbrev several : Out → List Core → On → Out
several o acc f = and_then o (λ m b. f m (acc ++ node Tag.Several (joined b) end ∷ []))

several_is : (o : Out) (acc : List Core) (f : On)
    → several o acc f
    ≡ and_then (and_then o (λ m b. Yes m (node Tag.Several (joined b) end ∷ []))) (λ m b. f m (acc ++ b))
several_is (Yes s b) acc f = refl
several_is (No h k) acc f = refl

all_is : (go : Go) (c : Bool) (r : Row) (s : Here) (acc : List Core) (f : On)
    → several (rows_of go c r s []) acc f ≡ and_then (all_at go c r s) (λ m b. f m (acc ++ b))
unfolding all_at rows_at
all_is go c r s acc f = several_is (rows_of go c r s []) acc f

some_is : (go : Go) (c : Bool) (r q : Row) (s : Here) (acc : List Core) (f : On)
    → several (from_row (go r c s []) (λ m t. rows_of go c q m (t ∷ []))) acc f
    ≡ and_then (some_at go c r q s) (λ m b. f m (acc ++ b))
unfolding some_at rows_at
some_is go c r q s acc f = by (go r c s [])
  where
    by : (a : Reply)
        → several (from_row a (λ m t. rows_of go c q m (t ∷ []))) acc f
        ≡ and_then
        (from_row a
        (λ m t. and_then (rows_of go c q m (t ∷ [])) (λ m b. Yes m (node Tag.Several (joined b) end ∷ []))))
        (λ m b. f m (acc ++ b))
    by (Found t m) = several_is (rows_of go c q m (t ∷ [])) acc f
    by (Refused k) = refl

-- a part and what follows it, in which a list of rows is one word
pub part_or_list : (go : Go) (c : Bool) (h : Make) (x : Rule) (s : Here) (acc : List Core) (f : On)
    → and_then (crun go c x s []) (λ m b. f m (acc ++ shape (How.shaped h) (joined b) ∷ []))
    ≡ unless_list go c (listing h x) s acc f
    (λ u. and_then (crun go c x s []) (λ m b. f m (acc ++ shape (How.shaped h) (joined b) ∷ [])))
part_or_list go c (Make.one Tag.Several) (Rule.star (Rule.call false r Rule.done) Rule.done) s acc f =
    all_is go c r s acc f
part_or_list go c (Make.one Tag.Several) (Rule.call false r (Rule.star (Rule.call false q Rule.done) Rule.done))
    s acc f = some_is go c r q s acc f
part_or_list go c _ _ s acc f = refl

-- ---- the trial
tried_is : (a : Reply) (s : Here) (o : Out) → tried a (λ u. o) ≡ and_then (tried a (λ u. Yes s [])) (λ m b. o)
tried_is (Found t m) s o = by (next_is (Class.these (codes "I")) m.spot.left)
  where
    by : (z : Bool)
        → (if z then No false (Unread Text) else o)
        ≡ and_then (if z then No false (Unread Text) else Yes s []) (λ m b. o)
    by true = refl
    by false = refl
tried_is (Refused k) s o = by (ends k)
  where
    by : (z : Bool) → unless_ends z k (λ u. o) ≡ and_then (unless_ends z k (λ u. Yes s [])) (λ m b. o)
    by true = refl
    by false = refl

trial_by : (z on : Bool) (a : Reply) (s : Here) (o : Out)
    → trial_at z on a (λ u. o) ≡ and_then (trial_at z on a (λ u. Yes s [])) (λ m b. o)
trial_by false on a s o = refl
trial_by true false a s o = refl
trial_by true true a s o = tried_is a s o

pub trial_is : (go : Go) (c : Bool) (r : Row) (s : Here) (o : Out)
    → trial_at (next_is (Class.these (codes "I")) s.spot.left) c (go r c s []) (λ u. o)
    ≡ and_then (trial_part go c r s) (λ m b. o)
unfolding trial_part
trial_is go c r s o = trial_by (next_is (Class.these (codes "I")) s.spot.left) c (go r c s []) s o
