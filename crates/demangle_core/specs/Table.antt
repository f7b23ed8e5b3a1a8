-- The substitution table: its entries in the order of insertion.
use Rattle.std.specs.Prelude.{ℕ, zero, suc, Bool, true, false, List, [], ◌∷◌, ◌++◌, map, Option, Some, None, slice_get}
use Rattle.std.specs.Prelude.{◌&&◌}
use Rattle.std.specs.Cmp.Lexicographic.{pointwise}
use Rattle.demangle_core.specs.Core.{Core, Tag, node, ref, Which, N, U, same, same_which}

-- A component: its list, and its tree.
pub record Entry : Type 0 where
  pub which : Which
  pub tree : Core

abbrev pub Table : Type 0
Table = List Entry

abbrev pub count_if : Bool → ℕ → ℕ
count_if true n = suc n
count_if false n = n

-- How many entries a list has.
abbrev pub count : Which → List Entry → ℕ
count w [] = 0
count w (e ∷ es) = count_if (same_which w e.which) (count w es)

abbrev pub more_if : Bool → Core → List Core → List Core
more_if true x xs = x ∷ xs
more_if false x xs = xs

-- The trees of a list, in order.
abbrev pub listed : Which → List Entry → List Core
listed w [] = []
listed w (e ∷ es) = more_if (same_which w e.which) e.tree (listed w es)

-- An entry of a list that is to keep `a` more of the numbered components and `b` more of the others.
abbrev pub kept_of : Which → Entry → ℕ → ℕ → (ℕ → ℕ → List Entry) → List Entry
kept_of N e zero b rest = rest zero b
kept_of N e (suc a) b rest = e ∷ rest a b
kept_of U e a zero rest = rest a zero
kept_of U e a (suc b) rest = e ∷ rest a b

-- The first `a` of the numbered components, and the first `b` of the others.
abbrev pub first_of : ℕ → ℕ → List Entry → List Entry
first_of a b [] = []
first_of a b (e ∷ es) = kept_of e.which e a b (λ c d. first_of c d es)

-- ---- the words that contracts use
unfoldable pub empty_table : Table
empty_table = []

unfoldable pub added : Which → Core → Table → Table
added w x t = t ++ record { which = w; tree = x } ∷ []

unfoldable pub size : Which → Table → ℕ
size w t = count w t

unfoldable pub sizes : Table → ℕ × ℕ
sizes t = (count N t, count U t)

-- Both lists cut to these lengths.
unfoldable pub cut : ℕ × ℕ → Table → Table
cut n t = first_of n.0 n.1 t

-- The tree at a position of a list.
unfoldable pub entry_at : Which → ℕ → Table → Option Core
entry_at w k t = slice_get (listed w t) k

-- Equality: of the trees of both lists, and not of the order between the lists.
unfoldable pub same_tables : Table → Table → Bool
same_tables t u = pointwise same (listed N t) (listed N u) && pointwise same (listed U t) (listed U u)

-- Numbered components alone.
unfoldable pub numbered : List Core → Table
numbered xs = map (λ x. record { which = N; tree = x }) xs

abbrev pub type_of : Option Core → Option Core
type_of (Some (node Tag.SubstitutableTypeNode t n)) = Some t
type_of _ = None

-- The type that a handle refers to.
abbrev pub type_behind : Core → Table → Option Core
type_behind (node Tag.BackReference (ref N k n) m) t = type_of (entry_at N k t)
type_behind _ t = None
