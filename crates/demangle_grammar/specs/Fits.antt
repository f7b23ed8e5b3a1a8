-- The grammar as a check on a finished tree: it reads nothing, knows no order of alternatives, no level and no trial.
use Rattle.std.specs.Prelude.{◌≡◌, ℕ, zero, suc, ◌+◌, ◌-◌, ◌^◌, ◌<◌, ◌⊎◌, Bool, true, false, not, List, [], ◌∷◌, ◌++◌}
use Rattle.std.specs.Prelude.{length, take, drop, ◌==◌, ℤ, pos, neg_ℤ}
use Rattle.demangle_core.specs.Table.{count}
use Rattle.demangle_core.specs.Core.{Core, end, place, number, chosen, mark, N, U}
use Rattle.demangle_grammar.specs.Rule.{Row, Make, Eat, Leaf, Rule}
use Rattle.demangle_grammar.specs.Tree.{Tree, How, nil, core, spell, components, component_of}
use Rattle.demangle_grammar.specs.Rows.{rule}
use Rattle.demangle_grammar.specs.Reading.{State, is_in, holds, marks, prefix_entry, is_nestable, given}
use Rattle.demangle_text.specs.Bytes.{is_digit}
use Rattle.demangle_text.specs.Characters.{AreIdentifierChars}
use Rattle.demangle_text.specs.Number.{is_digit_in, leads_with_zero, value_of}

abbrev pub AllOf : (ℕ → Bool) → List ℕ → Type 0
AllOf f [] = Unit {0}
AllOf f (b ∷ bs) = (f b ≡ true) × AllOf f bs

abbrev pub IsSome : List ℕ → Type 0
IsSome [] = ⊥
IsSome (b ∷ bs) = Unit {0}

-- a run of digits that is a number: not empty, no zero before others, below 2^63
pub record IsNumber (base : ℕ) (ds : List ℕ) (v : ℕ) : Type 0 where
  pub some : IsSome ds
  pub digits : AllOf (is_digit_in base) ds
  pub shortest : leads_with_zero ds ≡ false
  pub value : v ≡ value_of base 0 ds
  pub bounded : v < 2 ^ 63

-- with or without a sign
abbrev pub IsNumeral : (base : ℕ) → (signs : Bool) → List ℕ → ℤ → Type 0
IsNumeral base true bs z =
    ((v : ℕ) × IsNumber base bs v × (z ≡ pos v))
    ⊎ ((ds : List ℕ) × (v : ℕ) × (bs ≡ 110 ∷ ds) × IsNumber base ds v × (z ≡ neg_ℤ (pos v)))
IsNumeral base false bs z = (v : ℕ) × IsNumber base bs v × (z ≡ pos v)

abbrev pub IsWordAt : ℕ → List (List ℕ) → List ℕ → Type 0
IsWordAt k [] bs = ⊥
IsWordAt zero (w ∷ ws) bs = bs ≡ w
IsWordAt (suc k) (w ∷ ws) bs = IsWordAt k ws bs

-- these bytes, from that index, are one of these, with these fields
abbrev pub IsOne : Eat → ℕ → List ℕ → Core → Type 0
IsOne (Eat.run c) at bs f = IsSome bs × AllOf (is_in c) bs × (f ≡ place at (at + length bs) end)
IsOne Eat.identifier at bs f = IsSome bs × AreIdentifierChars bs × (f ≡ place at (at + length bs) end)
IsOne (Eat.upto b) at bs f = AllOf (λ x. not (x == b)) bs × (f ≡ place at (at + length bs) end)
IsOne (Eat.byte c) at bs f = (b : ℕ) × (is_in c b ≡ true) × (bs ≡ b ∷ []) × (f ≡ end)
IsOne Eat.digit at bs f = (b : ℕ) × (is_digit b ≡ true) × (bs ≡ b ∷ []) × (f ≡ number (pos (b - 48)) end)
IsOne (Eat.numeral base signs) at bs f = (v : ℤ) × IsNumeral base signs bs v × (f ≡ number v end)
IsOne (Eat.table t ws) at bs f = (k : ℕ) × IsWordAt k ws bs × (f ≡ chosen t k end)
IsOne (Eat.give g) at bs f = (bs ≡ []) × (f ≡ given g)
IsOne Eat.here at bs f = (bs ≡ []) × (f ≡ mark at end)

-- a leaf of a rule, where s is what is left behind the parts a: the parts become b
abbrev pub Stands : Leaf → State → Tree → Tree → Type 0
Stands (Leaf.word w) s a b = b ≡ Tree.cat a (Tree.leaf w end)
Stands (Leaf.eat x) s a b = (bs : List ℕ) × (f : Core) × IsOne x s.at bs f × (b ≡ Tree.cat a (Tree.leaf bs f))
Stands (Leaf.check c) s a b = (holds c s.rest (core a) ≡ true) × (b ≡ a)
Stands (Leaf.make m) s a b = b ≡ Tree.over (How.shaped m) a
Stands (Leaf.mark m) s a b = b ≡ Tree.over (How.made (marks m s.rest) (count (marks m s.rest) s.entries)) a
Stands Leaf.refer s a b =
    (component_of (core a) < count N s.entries) × (b ≡ Tree.over (How.refers (component_of (core a))) a)
Stands Leaf.take_over s a b =
    (is_nestable (prefix_entry (core a) s.entries) ≡ true)
    × (b ≡ Tree.over (How.taken (prefix_entry (core a) s.entries)) a)
Stands Leaf.no_prefix s a b = ⊥
Stands Leaf.mark_first s a b = b ≡ Tree.over (How.made_first (count U s.entries)) a

-- what is left behind the tree a, which stands where s is: computed from the tree alone
abbrev pub past : State → Tree → State
past s a =
    record { at = s.at + length (spell a); rest = drop (length (spell a)) s.rest; entries = s.entries ++ components a }

-- the next n bytes alone
abbrev pub only : ℕ → State → State
only n s = record { at = s.at; rest = take n s.rest; entries = s.entries }

-- Behind the parts a, which stand where s is, the rule makes them c.
pub data Fits : State → Rule → Tree → Tree → Type 0 where
  nothing : {s : State} {a : Tree} → Fits s Rule.done a a
  leaf : {l : Leaf} {k : Rule} {s : State} {a b c : Tree} → Stands l (past s a) a b → Fits s k b c
      → Fits s (Rule.leaf l k) a c
  call : {on : Bool} {r : Row} {k : Rule} {s : State} {a b c : Tree} → Fits (past s a) (rule r) nil b
      → Fits s k (Tree.cat a b) c → Fits s (Rule.call on r k) a c
  last_turn : {r : Row} {k : Rule} {s : State} {a b c : Tree} → Fits s (rule r) a b
      → length (spell b) ≡ length (spell a) → Fits s k b c → Fits s (Rule.loop r k) a c
  turn : {r : Row} {k : Rule} {s : State} {a b c : Tree} → Fits s (rule r) a b → Fits s (Rule.loop r k) b c
      → Fits s (Rule.loop r k) a c
  no_more : {x k : Rule} {s : State} {a c : Tree} → Fits s k a c → Fits s (Rule.star x k) a c
  one_more : {x k : Rule} {s : State} {a b c : Tree} → Fits s x a b → Fits s (Rule.star x k) b c
      → Fits s (Rule.star x k) a c
  first : {x y k : Rule} {s : State} {a b c : Tree} → Fits s x a b → Fits s k b c → Fits s (Rule.alt x y k) a c
  second : {x y k : Rule} {s : State} {a b c : Tree} → Fits s y a b → Fits s k b c → Fits s (Rule.alt x y k) a c
  committed : {k : Rule} {s : State} {a c : Tree} → Fits s k a c → Fits s (Rule.commit k) a c
  block : {x k : Rule} {s : State} {a b c : Tree} {ds : List ℕ} {v : ℕ}
      → IsNumber 10 ds v
      → Fits (only v (past s (Tree.cat a (Tree.leaf ds end)))) x nil b
      → length (spell b) ≡ v
      → Fits s k (Tree.cat (Tree.cat a (Tree.leaf ds end)) b) c
      → Fits s (Rule.block x k) a c
  part : {h : Make} {x k : Rule} {s : State} {a b c : Tree} → Fits (past s a) x nil b
      → Fits s k (Tree.cat a (Tree.over (How.shaped h) b)) c → Fits s (Rule.part h x k) a c
  no_trial : {r : Row} {k : Rule} {s : State} {a c : Tree} → Fits s k a c → Fits s (Rule.trial r k) a c
