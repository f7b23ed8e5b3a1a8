-- That there is an F that says what each index stands for: cells whose parts stand before them have one model.
use Rattle.std.specs.Prelude.{ℕ, ◌-◌, List, [], ◌∷◌, ◌++◌, nat_lt, if◌then◌else◌}
use Rattle.std.proofs.Common.{get_or}
use Rattle.demangle_core.specs.Core.{Core, end}
use Rattle.demangle_cells.specs.Fixed.{fixed, first_cell, first_reference}
use Rattle.demangle_cells.specs.Cells.{plain_tree}
use Rattle.demangle_cells.specs.Stored.{View}
use Rattle.demangle_cells.specs.declared.plain.Plain.{Plain}

-- what an index stands for, where the values of the first cells are given
abbrev pub valued : List Core → ℕ → Core
valued vs k =
    if nat_lt k first_cell then fixed k else
    if nat_lt k first_reference then get_or vs (k - first_cell) end else fixed k

abbrev pub values : List Core → List ℕ → List Plain → List Core
values vs list [] = vs
values vs list (c ∷ cs) = values (vs ++ plain_tree (valued vs) list c ∷ []) list cs

-- the trees of an arena
unfoldable pub model : View → ℕ → Core
model v = valued (values [] v.list v.cells)
