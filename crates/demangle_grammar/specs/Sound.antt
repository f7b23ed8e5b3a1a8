-- Sound nodes and tables: what printing asks of a node, its table and the input.
use Rattle.std.specs.Prelude.{◌⊎◌, ◌≡◌, ℕ, ◌≤◌, ◌+◌, ◌-◌, ◌==◌, Bool, true, false, not}
use Rattle.std.specs.Prelude.{List, [], ◌∷◌, ◌++◌, length, take, drop, codes}
use Rattle.demangle_core.specs.Core.{Core, Tag, end, node, place, number, flag, chosen, ref, mark, Which, N, U}
use Rattle.demangle_core.specs.Table.{Entry, Table}
use Rattle.demangle_text.specs.Characters.{AreIdentifierChars}
use Rattle.demangle_grammar.specs.Rule.{Class}
use Rattle.demangle_grammar.specs.Reading.{is_in}
use Rattle.demangle_core.specs.Sound.{RefersTo, ReferBack}
use Rattle.demangle_grammar.specs.Fits.{AllOf, IsSome}

-- the bytes from one index up to another
abbrev pub bytes_of : List ℕ → (start stop : ℕ) → List ℕ
bytes_of input i j = take (j - i) (drop i input)

-- these bytes stand in the input from that index on
abbrev pub StandsAt : List ℕ → ℕ → List ℕ → Type 0
StandsAt input i bs = (i + length bs ≤ length input) × (bytes_of input i (i + length bs) ≡ bs)

-- a part of a resource's name: some bytes that are no `$`, and then nothing, or `$` and one of `S`, `_`, `$`
abbrev pub IsResource : List ℕ → Type 0
IsResource bs = (front : List ℕ) × (tail : List ℕ) × (bs ≡ front ++ tail)
    × IsSome front × AllOf (is_in Class.resource) front
    × ((tail ≡ []) ⊎ ((tail ≡ codes "$S") ⊎ ((tail ≡ codes "$_") ⊎ (tail ≡ codes "$$"))))

-- The bytes of a place are those that the row of its node reads; no other node has a place.
abbrev pub AreOf : Tag → List ℕ → Type 0
AreOf Tag.Identifier bs = IsSome bs × AreIdentifierChars bs
AreOf Tag.CloneTypeIdentifier bs = IsSome bs × AllOf (is_in Class.clone) bs
AreOf Tag.ResourceName bs = IsResource bs
AreOf Tag.ExprPrimaryLiteral bs = AllOf (λ b. not (b == 69)) bs
AreOf _ bs = ⊥

-- each place in the fields of a node lies in the input, and holds such bytes
abbrev pub HasPlaces : List ℕ → Tag → Core → Type 0
HasPlaces input t end = Unit {0}
HasPlaces input t (node u c n) = HasPlaces input u c × HasPlaces input t n
HasPlaces input t (place i j n) = ((i ≤ j) × (j ≤ length input) × AreOf t (bytes_of input i j)) × HasPlaces input t n
HasPlaces input t (number v n) = HasPlaces input t n
HasPlaces input t (flag b n) = HasPlaces input t n
HasPlaces input t (chosen k w n) = HasPlaces input t n
HasPlaces input t (ref w k n) = HasPlaces input t n
HasPlaces input t (mark i n) = HasPlaces input t n

-- a row of one field at least
abbrev pub IsSomeRow : Core → Type 0
IsSomeRow end = ⊥
IsSomeRow _ = Unit {0}

-- what is asked of the fields of a node: a function type has one type at least, that of its result
abbrev pub HasResult : Tag → Core → Type 0
HasResult Tag.BareFunctionType (node t types n) = IsSomeRow types
HasResult Tag.BareFunctionType _ = ⊥
HasResult _ c = Unit {0}

abbrev pub HasResults : Core → Type 0
HasResults end = Unit {0}
HasResults (node t c n) = (HasResult t c × HasResults c) × HasResults n
HasResults (place i j n) = HasResults n
HasResults (number v n) = HasResults n
HasResults (flag b n) = HasResults n
HasResults (chosen k w n) = HasResults n
HasResults (ref w k n) = HasResults n
HasResults (mark i n) = HasResults n

-- the kinds of components
abbrev pub is_substitutable : Tag → Bool
is_substitutable Tag.SubstitutableUnscopedTemplateName = true
is_substitutable Tag.SubstitutableTypeNode = true
is_substitutable Tag.SubstitutableTemplateTemplateParam = true
is_substitutable Tag.SubstitutableUnresolvedType = true
is_substitutable Tag.SubstitutablePrefix = true
is_substitutable Tag.SubstitutableExpression = true
is_substitutable _ = false

-- the handle of a component in each list
abbrev pub handle_of : Which → Tag
handle_of N = Tag.BackReference
handle_of U = Tag.NonSubstitution

-- Each reference stands alone in the handle of its list, and no node of a component's kind stands in the tree.
abbrev pub HasHandles : Core → Type 0
HasHandles end = Unit {0}
HasHandles (node t (ref w k m) n) = (t ≡ handle_of w) × (m ≡ end) × HasHandles n
HasHandles (node t c n) = (is_substitutable t ≡ false) × HasHandles c × HasHandles n
HasHandles (place i j n) = HasHandles n
HasHandles (number v n) = HasHandles n
HasHandles (flag b n) = HasHandles n
HasHandles (chosen t k n) = HasHandles n
HasHandles (ref w k n) = ⊥
HasHandles (mark i n) = HasHandles n

-- an entry is one node of a component's kind, which holds such a tree
abbrev pub IsComponent : Core → Type 0
IsComponent (node t c end) = (is_substitutable t ≡ true) × HasHandles c
IsComponent _ = ⊥

-- of each entry
abbrev pub EachEntry : (Core → Type 0) → List Entry → Type 0
EachEntry P [] = Unit {0}
EachEntry P (x ∷ xs) = P x.tree × EachEntry P xs

-- A table is sound for an input where each entry is one node of a component's kind and refers to earlier entries
-- alone, each place in it lies in the input and holds bytes that its row reads, and each function type has a result.
pub record IsSoundTable (input : List ℕ) (table : Table) : Type 0 where
  pub components : EachEntry IsComponent table
  pub refer_back : ReferBack [] table
  pub places : EachEntry (HasPlaces input Tag.Several) table
  pub results : EachEntry HasResults table

-- A node and a table are sound for an input where the table is, and the same holds of the node, whose references
-- stand in their handles and are to entries that are there.
pub record IsSoundFor (input : List ℕ) (table : Table) (tree : Core) : Type 0 where
  pub entries : IsSoundTable input table
  pub handles : HasHandles tree
  pub refers : RefersTo table tree
  pub places : HasPlaces input Tag.Several tree
  pub results : HasResults tree
