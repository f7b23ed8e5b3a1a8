-- Components that are added to those of an arena, whatever says what its indexes stand for.
use Rattle.std.specs.Prelude.{◌≡◌, ℕ, ◌++◌}
use Rattle.demangle_core.specs.Core.{Core}
use Rattle.demangle_core.specs.Table.{Table}
use Rattle.demangle_cells.specs.View.{View, Holds, table}

-- behind the old ones
pub record Adds (old new : View) (more : Table) : Type 0 where
  pub holds : (F : ℕ → Core) → Holds F new → Holds F old
  pub table : (F : ℕ → Core) → Holds F new → table F new ≡ table F old ++ more

-- The components are these.
abbrev pub HasTable : View → Table → Type 0
HasTable v whole = (F : ℕ → Core) → Holds F v → table F v ≡ whole

-- They are these, once some more are added.
abbrev pub Lacks : View → (more whole : Table) → Type 0
Lacks v more whole = (F : ℕ → Core) → Holds F v → table F v ++ more ≡ whole
