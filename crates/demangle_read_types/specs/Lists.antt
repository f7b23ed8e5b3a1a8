-- Lists of rows, behind rows of the list that were read before: those are given by the indexes of their trees.
use Rattle.std.specs.Prelude.{◌≡◌, ◌⊎◌, ◌<◌, ℕ, Bool, true, false, List, [], ◌∷◌, ◌++◌, map, Result, Ok, Err, Option}
use Rattle.std.specs.Prelude.{Some, None}
use Rattle.demangle_text.specs.Kind.{kind, ends}
use Rattle.demangle_text.specs.declared.error.Error.{Error}
use Rattle.demangle_text.specs.declared.error.Error.TheVariants.{OutOfMemory}
use Rattle.demangle_core.specs.Core.{Core, Tag, node, end}
use Rattle.demangle_grammar.specs.Rule.{Row}
use Rattle.demangle_grammar.specs.Code.{here, Here, Out, Yes, No, rows_at, cread}
use Rattle.demangle_cells.specs.Cells.{row}
use Rattle.demangle_cells.specs.View.{View, Holds, KeepsTrees, IsCut, table, since}
use Rattle.demangle_cells.specs.Reads.{Answer, spot_at}
use Rattle.demangle_cells.specs.declared.text.Text.{Text}
use Rattle.demangle_cells.specs.declared.entry.Mark as mark

-- as many of the row as can be read
unfoldable pub list_at : ℕ → Row → Bool → (ℕ → Core) → List ℕ → Here → Out
list_at f r c F is s = rows_at (cread f) c r s (map F is)

-- ---- the rest of a list: where it ended; the indexes of its trees wait
abbrev pub AnswersRest : (ℕ → Core) → Text → Result ℕ Error → (old new : View) → List ℕ → Out → Type 0
AnswersRest F text (Ok stop) old new is out =
    out ≡ Yes (here (spot_at text stop) (table F new)) (node Tag.Several (row F (is ++ since old new)) end ∷ [])
AnswersRest F text (Err e) old new is out =
    (e ≡ OutOfMemory) ⊎ ((out ≡ No (ends (kind e)) (kind e)) × (table F new ≡ table F old))

abbrev pub ReadsRest : Row → (levels : ℕ) → Bool → Text → (at : ℕ) → Result ℕ Error → (old new : View) → Type 0
ReadsRest r levels conversion text at result old new = (F : ℕ → Core) → Holds F new → (is : List ℕ)
    → AnswersRest F text result old new is (list_at levels r conversion F is (here (spot_at text at) (table F old)))

-- the list has come so far, with what waits since then
abbrev pub Reaches : Row → (levels : ℕ) → Bool → Text → (at stop : ℕ) → (old new : View) → Type 0
Reaches r levels conversion text at stop old new = (F : ℕ → Core) → Holds F new → (is : List ℕ)
    → list_at levels r conversion F (is ++ since old new) (here (spot_at text stop) (table F new))
    ≡ list_at levels r conversion F is (here (spot_at text at) (table F old))

-- ---- one row more of a list: where the list goes on, or that it ends here
abbrev pub Lengthens : Answer → (at : ℕ) → mark.Mark → Result (Option ℕ) Error → (old new : View) → Type 0
Lengthens (Ok x) at mark (Ok (Some stop)) old new =
    (x.end ≡ stop) × (at < stop) × KeepsTrees old new × (new.waiting ≡ old.waiting ++ x.id ∷ [])
Lengthens (Ok x) at mark (Ok None) old new = true ≡ false
Lengthens (Ok x) at mark (Err e) old new = (e ≡ OutOfMemory) × KeepsTrees old new × (new.waiting ≡ old.waiting)
Lengthens (Err e) at mark (Ok (Some stop)) old new = true ≡ false
Lengthens (Err e) at mark (Ok None) old new = (ends (kind e) ≡ false) × (new ≡ old)
Lengthens (Err e) at mark (Err d) old new = (d ≡ e) × (ends (kind e) ≡ true) × IsCut mark old new
