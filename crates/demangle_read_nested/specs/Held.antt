-- Answers behind which the components are cut back.
use Rattle.std.specs.Prelude.{◌≡◌, Result, Ok, Err}
use Rattle.demangle_text.specs.declared.error.Error.{Error}
use Rattle.demangle_cells.specs.View.{View, IsCut}
use Rattle.demangle_cells.specs.declared.entry.Mark as mark

-- the answer, and for a failure the components cut back to the mark
abbrev pub Restores : {X : Type 0} → Result X Error → mark.Mark → Result X Error → (old new : View) → Type 0
Restores answer m (Ok x) old new = (answer ≡ Ok x) × (new ≡ old)
Restores answer m (Err e) old new = (answer ≡ Err e) × IsCut m old new
