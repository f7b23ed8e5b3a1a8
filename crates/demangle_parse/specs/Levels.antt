-- How many levels a reading needs.
use Rattle.std.specs.Prelude.{◌≡◌, ◌≢◌, ◌⊎◌, ◌<◌, ◌≤◌, ℕ, suc, Bool, true, false, []}
use Rattle.demangle_text.specs.Kind as kind
use Rattle.demangle_core.specs.Table.{Table}
use Rattle.demangle_grammar.specs.Rule.{Row}
use Rattle.demangle_grammar.specs.Code.{Reply, Refused, here, cread}
use Rattle.demangle_cells.specs.Reads.{spot_at}
use Rattle.demangle_cells.specs.declared.text.Text.{Text}

-- a row at a place of the text, with these components and so many levels
abbrev pub read_at : Row → Bool → Text → (at : ℕ) → Table → (levels : ℕ) → Reply
read_at row conv text at whole levels = cread levels row conv (here (spot_at text at) whole) []

abbrev pub IsDeep : Reply → Type 0
IsDeep r = r ≡ Refused kind.Deep

-- whether more levels are needed
abbrev pub Tells : Bool → Reply → Type 0
Tells true r = IsDeep r
Tells false r = r ≢ Refused kind.Deep

-- `high` levels are enough, or all that there are; and `low` are too few, unless no more than `few` are asked for.
pub record Brackets (few most low high : ℕ) (reads : ℕ → Reply) : Type 0 where
  pub within : high ≤ most
  pub order : low ≤ high
  pub enough : (high ≡ most) ⊎ (reads high ≢ Refused kind.Deep)
  pub below : (high ≤ few) ⊎ ((low < high) × IsDeep (reads low))

-- So many levels are enough, or all that there are; and one less is too few, unless they are no more than `few`.
pub record Needs (few most levels : ℕ) (reads : ℕ → Reply) : Type 0 where
  pub within : levels ≤ most
  pub enough : (levels ≡ most) ⊎ (reads levels ≢ Refused kind.Deep)
  pub needed : (less : ℕ) → levels ≡ suc less → (levels ≤ few) ⊎ IsDeep (reads less)
