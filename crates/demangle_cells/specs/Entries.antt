-- The indexes of the components of each of the two lists.
use Rattle.std.specs.Prelude.{ℕ, Bool, true, false, List, [], ◌∷◌}
use Rattle.demangle_cells.specs.declared.entry.Entry as made

-- the indexes of the numbered components, or of the others
abbrev pub more_if : Bool → ℕ → List ℕ → List ℕ
more_if true k ks = k ∷ ks
more_if false k ks = ks

abbrev pub same_kind : Bool → Bool → Bool
same_kind true b = b
same_kind false true = false
same_kind false false = true

abbrev pub ids_of : Bool → List made.Entry → List ℕ
ids_of b [] = []
ids_of b (e ∷ es) = more_if (same_kind b e.numbered) e.id (ids_of b es)
