-- With which bytes a row can begin, and how deep it goes where the next byte is another. Both are computed from the
-- rows.
use Rattle.std.specs.Prelude.{◌≡◌, ℕ, zero, suc, max, Bool, true, false, ◌&&◌, ◌||◌, not, List, [], ◌∷◌, ◌==◌}
use Rattle.demangle_grammar.specs.Rule.{Row, Rule, Leaf, Eat, Cond}
use Rattle.demangle_grammar.specs.Rows.{rule}
use Rattle.demangle_grammar.specs.Reading.{is_in}
use Rattle.demangle_text.specs.Bytes.{is_digit}
use Rattle.demangle_text.specs.Characters.{begins_char}
use Rattle.demangle_text.specs.Number.{is_digit_in}

-- ---- what can't be empty
abbrev pub no_empty : List (List ℕ) → Bool
no_empty [] = true
no_empty ([] ∷ ws) = false
no_empty ((b ∷ w) ∷ ws) = no_empty ws

abbrev pub takes_leaf : Leaf → Bool
takes_leaf (Leaf.word (b ∷ w)) = true
takes_leaf (Leaf.eat (Eat.run c)) = true
takes_leaf (Leaf.eat Eat.identifier) = true
takes_leaf (Leaf.eat (Eat.byte c)) = true
takes_leaf (Leaf.eat Eat.digit) = true
takes_leaf (Leaf.eat (Eat.numeral base signs)) = true
takes_leaf (Leaf.eat (Eat.table t ws)) = no_empty ws
takes_leaf (Leaf.check Cond.never) = true
takes_leaf Leaf.no_prefix = true
takes_leaf _ = false

module _ (row : Row → Bool) where
  abbrev pub takes_by : Rule → Bool
  takes_by Rule.done = false
  takes_by (Rule.leaf l k) = takes_leaf l || takes_by k
  takes_by (Rule.call on r k) = row r || takes_by k
  takes_by (Rule.loop r k) = takes_by k
  takes_by (Rule.star x k) = takes_by k
  takes_by (Rule.alt x y k) = (takes_by x && takes_by y) || takes_by k
  takes_by (Rule.commit k) = takes_by k
  takes_by (Rule.block x k) = true
  takes_by (Rule.part m x k) = takes_by x || takes_by k
  takes_by (Rule.trial r k) = takes_by k

-- so many rows deep
unfoldable pub takes_in : ℕ → Row → Bool
takes_in zero r = false
takes_in (suc n) r = takes_by (takes_in n) (rule r)

-- each Yes of the row takes a byte
abbrev pub takes_row : Row → Bool
takes_row r = takes_in 10 r

-- ---- first
abbrev pub heads : List (List ℕ) → ℕ → Bool
heads [] b = false
heads ([] ∷ ws) b = true
heads ((c ∷ w) ∷ ws) b = (c == b) || heads ws b

abbrev pub begins_leaf : Leaf → ℕ → Bool
begins_leaf (Leaf.word (c ∷ w)) b = c == b
begins_leaf (Leaf.eat (Eat.run c)) b = is_in c b
begins_leaf (Leaf.eat Eat.identifier) b = begins_char b
begins_leaf (Leaf.eat (Eat.byte c)) b = is_in c b
begins_leaf (Leaf.eat Eat.digit) b = is_digit b
begins_leaf (Leaf.eat (Eat.numeral base true)) b = (b == 110) || is_digit_in base b
begins_leaf (Leaf.eat (Eat.numeral base false)) b = is_digit_in base b
begins_leaf (Leaf.eat (Eat.table t ws)) b = heads ws b
begins_leaf (Leaf.check (Cond.next c)) b = is_in c b
begins_leaf (Leaf.check (Cond.ahead ws)) b = heads ws b
begins_leaf (Leaf.check (Cond.ahead_no_digit (c ∷ w))) b = c == b
begins_leaf _ b = false

-- a leaf that fails where the next byte isn't one with which it begins
abbrev pub stops : Leaf → Bool
stops (Leaf.check (Cond.next c)) = true
stops (Leaf.check (Cond.ahead ws)) = no_empty ws
stops (Leaf.check (Cond.ahead_no_digit (c ∷ w))) = true
stops l = takes_leaf l

-- b, unless the item before can't be empty
abbrev pub unless : Bool → Bool → Bool
unless stopped b = not stopped && b

module _ (takes : Row → Bool) (row : Row → ℕ → Bool) (b : ℕ) where
  abbrev pub begins_by : Rule → Bool
  begins_by Rule.done = false
  begins_by (Rule.leaf l k) = begins_leaf l b || unless (stops l) (begins_by k)
  begins_by (Rule.call on r k) = row r b || unless (takes r) (begins_by k)
  begins_by (Rule.loop r k) = row r b || begins_by k
  begins_by (Rule.star x k) = begins_by x || begins_by k
  begins_by (Rule.alt x y k) =
      (begins_by x || begins_by y) || unless (takes_by takes x && takes_by takes y) (begins_by k)
  begins_by (Rule.commit k) = begins_by k
  begins_by (Rule.block x k) = is_digit_in 10 b
  begins_by (Rule.part m x k) = begins_by x || unless (takes_by takes x) (begins_by k)
  begins_by (Rule.trial r k) = begins_by k

unfoldable pub first_in : ℕ → Row → ℕ → Bool
first_in zero r b = false
first_in (suc n) r b = begins_by takes_row (first_in n) b (rule r)

abbrev pub first : Row → ℕ → Bool
first r b = first_in 10 r b

-- ---- idle
abbrev pub zero_if : Bool → ℕ → ℕ
zero_if true n = 0
zero_if false n = n

module _ (takes : Row → Bool) (row : Row → ℕ) where
  abbrev pub idle_by : Rule → ℕ
  idle_by Rule.done = 0
  idle_by (Rule.leaf l k) = zero_if (stops l) (idle_by k)
  idle_by (Rule.call on r k) = max (row r) (zero_if (takes r) (idle_by k))
  idle_by (Rule.loop r k) = max (row r) (idle_by k)
  idle_by (Rule.star x k) = max (idle_by x) (idle_by k)
  idle_by (Rule.alt x y k) =
      max (max (idle_by x) (idle_by y)) (zero_if (takes_by takes x && takes_by takes y) (idle_by k))
  idle_by (Rule.commit k) = idle_by k
  idle_by (Rule.block x k) = 0
  idle_by (Rule.part m x k) = max (idle_by x) (zero_if (takes_by takes x) (idle_by k))
  idle_by (Rule.trial r k) = idle_by k

unfoldable pub idle_in : ℕ → Row → ℕ
idle_in zero r = 0
idle_in (suc n) r = suc (idle_by takes_row (idle_in n) (rule r))

-- how many levels below its caller the row goes where the next byte isn't in `first`
abbrev pub idle : Row → ℕ
idle r = idle_in 10 r

-- nothing is left, or the next byte isn't one of these
abbrev pub Misses : (ℕ → Bool) → List ℕ → Type 0
Misses f [] = Unit {0}
Misses f (b ∷ bs) = f b ≡ false
