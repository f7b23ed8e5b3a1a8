-- A new component: the reference to it, and the components behind it. The list of indexes is that of some arena on the
-- way: the component's cell is none of a list.
use Rattle.std.specs.Prelude.{◌≡◌, ℕ, List, Result, Ok, Err}
use Rattle.demangle_text.specs.declared.error.Error.{Error}
use Rattle.demangle_text.specs.declared.error.Error.TheVariants.{OutOfMemory}
use Rattle.demangle_core.specs.Core.{Core, Which}
use Rattle.demangle_core.specs.Table.{added, size}
use Rattle.demangle_grammar.specs.Tree.{reference}
use Rattle.demangle_cells.specs.View.{View, Holds, table}

abbrev pub Adds : Which → ((ℕ → Core) → List ℕ → Core) → Result ℕ Error → (old new : View) → Type 0
Adds which component (Ok r) old new = (list : List ℕ) × ((F : ℕ → Core) → Holds F new
    → (F r ≡ reference which (size which (table F old)))
    × (table F new ≡ added which (component F list) (table F old)))
Adds which component (Err e) old new = e ≡ OutOfMemory
