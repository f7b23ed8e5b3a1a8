-- A part that may be missing.
use Rattle.std.specs.Prelude.{◌≡◌, ℕ, true, false, Ok, Err}
use Rattle.demangle_text.specs.Kind.{kind, ends}
use Rattle.demangle_text.specs.declared.error.Error.TheVariants.{OutOfMemory}
use Rattle.demangle_core.specs.Core.{Core, Tag, node, end}
use Rattle.demangle_cells.specs.View.{View, Holds}
use Rattle.demangle_cells.specs.Reads.{Answer}

-- what was read, or nothing in its place
abbrev pub MayMiss : Answer → (at : ℕ) → Answer → View → Type 0
MayMiss (Ok x) at (Ok y) new = (y.end ≡ x.end) × ((F : ℕ → Core) → Holds F new → F y.id ≡ node Tag.Present (F x.id) end)
MayMiss (Ok x) at (Err e) new = e ≡ OutOfMemory
MayMiss (Err e) at (Ok y) new =
    (ends (kind e) ≡ false) × (y.end ≡ at) × ((F : ℕ → Core) → Holds F new → F y.id ≡ node Tag.Absent end end)
MayMiss (Err e) at (Err d) new = (e ≡ d) × (ends (kind d) ≡ true)
