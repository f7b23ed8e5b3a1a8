-- A part that is read with no row: its tree, and where the text goes on.
use Rattle.std.specs.Prelude.{◌≡◌, ◌⊎◌, ℕ, Result, Ok, Err}
use Rattle.demangle_text.specs.Kind.{Kind, kind}
use Rattle.demangle_text.specs.Spot.{Spot}
use Rattle.demangle_text.specs.declared.error.Error.{Error}
use Rattle.demangle_text.specs.declared.error.Error.TheVariants.{OutOfMemory}
use Rattle.demangle_core.specs.Core.{Core}
use Rattle.demangle_grammar.specs.Code.{close, here}
use Rattle.demangle_forms.specs.MangledForms.{block_behind}
use Rattle.demangle_cells.specs.View.{View, Holds, table}
use Rattle.demangle_cells.specs.Reads.{Answer, Answers, spot_at}
use Rattle.demangle_cells.specs.declared.text.Text.{Text}
use Rattle.demangle_cells.specs.declared.text.Part as part

abbrev pub GivesTree : (ℕ → Core) → Text → Answer → Result (Core × Spot) Kind → Type 0
GivesTree F text (Ok x) read = read ≡ Ok (F x.id, spot_at text x.end)
GivesTree F text (Err e) read = (e ≡ OutOfMemory) ⊎ (read ≡ Err (kind e))

abbrev pub GivesPart : Text → (at : ℕ) → Answer → View → (Spot → Result (Core × Spot) Kind) → Type 0
GivesPart text at result new read = (F : ℕ → Core) → Holds F new → GivesTree F text result (read (spot_at text at))

-- what stands behind the encoding of a block's function
abbrev pub ReadsBlock : Text → part.Part → Answer → (old new : View) → Type 0
ReadsBlock text encoding result old new =
    (F : ℕ → Core) → Holds F new
    → Answers F text result old new
    (close (block_behind (F encoding.id) (here (spot_at text encoding.end) (table F old))))
