-- Rows that are a place alone, whatever the components are.
use Rattle.std.specs.Prelude.{◌≡◌, ℕ, Bool, [], Result, Ok, Err}
use Rattle.demangle_text.specs.Kind.{kind}
use Rattle.demangle_text.specs.declared.error.Error.{Error}
use Rattle.demangle_core.specs.Core.{Core, Tag, node, place, end}
use Rattle.demangle_core.specs.Table.{Table}
use Rattle.demangle_grammar.specs.Rule.{Row}
use Rattle.demangle_grammar.specs.Code.{here, Found, Refused, cread}
use Rattle.demangle_cells.specs.Reads.{spot_at}
use Rattle.demangle_cells.specs.declared.text.Text.{Text}
use Rattle.demangle_read_rows.specs.declared.names.Place as at

abbrev pub identifier_tree : at.Place → Core
identifier_tree p = node Tag.Identifier (place p.start p.stop end) end

abbrev pub source_name_tree : at.Place → Core
source_name_tree p = node Tag.SourceName (identifier_tree p) end

-- the row is the place, and the text goes on behind it
abbrev pub ReadsPlace : Row → (at.Place → Core) → (levels : ℕ) → Bool → Text → (from : ℕ) → Result at.Place Error
    → Type 0
ReadsPlace row tree levels conversion text from (Ok x) = (table : Table)
    → cread levels row conversion (here (spot_at text from) table) []
    ≡ Found (tree x) (here (spot_at text x.stop) table)
ReadsPlace row tree levels conversion text from (Err e) = (table : Table)
    → cread levels row conversion (here (spot_at text from) table) [] ≡ Refused (kind e)

abbrev pub resource_tree : ℕ → ℕ → Core
resource_tree start stop = node Tag.ResourceName (place start stop end) end

-- the same by its end alone
abbrev pub EndsPlace : Row → (ℕ → Core) → (levels : ℕ) → Bool → Text → (from : ℕ) → Result ℕ Error → Type 0
EndsPlace row tree levels conversion text from (Ok x) = (table : Table)
    → cread levels row conversion (here (spot_at text from) table) [] ≡ Found (tree x) (here (spot_at text x) table)
EndsPlace row tree levels conversion text from (Err e) = (table : Table)
    → cread levels row conversion (here (spot_at text from) table) [] ≡ Refused (kind e)
