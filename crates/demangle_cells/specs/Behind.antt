-- Cells whose parts stand before them.
use Rattle.std.specs.Prelude.{ℕ, ◌+◌, Bool, true, ◌&&◌, ◌||◌, List, [], ◌∷◌, length, nat_lt, nat_le}
use Rattle.demangle_cells.specs.Fixed.{first_cell, first_reference}
use Rattle.demangle_cells.specs.Cells.{span}
use Rattle.demangle_cells.specs.declared.plain.Plain.{Plain}
use Rattle.demangle_cells.specs.declared.plain.Plain.TheVariants as of_plain

-- the index of a cell before the index n, or of a constant
abbrev pub is_known : ℕ → ℕ → Bool
is_known n k = nat_lt k n || nat_le first_reference k

-- the index of one of so many cells
abbrev pub is_kept : ℕ → ℕ → Bool
is_kept n k = nat_le first_cell k && nat_lt k (first_cell + n)

abbrev pub all_known : ℕ → List ℕ → Bool
all_known n [] = true
all_known n (k ∷ ks) = is_known n k && all_known n ks

abbrev pub is_behind : ℕ → List ℕ → Plain → Bool
is_behind n list (of_plain.One t a) = is_known n a
is_behind n list (of_plain.Two t a b) = is_known n a && is_known n b
is_behind n list (of_plain.Three t a b c) = is_known n a && (is_known n b && is_known n c)
is_behind n list (of_plain.Many t start count) =
    nat_le (start + count) (length list) && all_known n (span list start count)
is_behind n list (of_plain.Arguments at members) = is_known n members
is_behind n list _ = true

abbrev pub all_behind : ℕ → List ℕ → List Plain → Bool
all_behind n list [] = true
all_behind n list (c ∷ cs) = is_behind n list c && all_behind (n + 1) list cs
