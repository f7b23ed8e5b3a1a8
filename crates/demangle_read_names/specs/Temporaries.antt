-- The number of a temporary.
use Rattle.std.specs.Prelude.{◌≡◌, ℕ, Bool, pos, [], Result, Ok, Err}
use Rattle.demangle_text.specs.Kind.{kind}
use Rattle.demangle_text.specs.declared.error.Error.{Error}
use Rattle.demangle_core.specs.Core.{Core, Tag, node, number, end}
use Rattle.demangle_core.specs.Table.{Table}
use Rattle.demangle_grammar.specs.Rule.{Row}
use Rattle.demangle_grammar.specs.Code.{here, Found, Refused, cread}
use Rattle.demangle_cells.specs.Reads.{spot_at}
use Rattle.demangle_cells.specs.declared.text.Text.{Text}

-- the number alone, whatever the components are
abbrev pub ReadsNumber : Text → (at levels : ℕ) → Bool → Result (ℕ × ℕ) Error → Type 0
ReadsNumber text at levels conversion (Ok x) = (table : Table)
    → cread levels Row.seq_id conversion (here (spot_at text at) table) []
    ≡ Found (node Tag.SeqId (number (pos x.0) end) end) (here (spot_at text x.1) table)
ReadsNumber text at levels conversion (Err e) = (table : Table)
    → cread levels Row.seq_id conversion (here (spot_at text at) table) [] ≡ Refused (kind e)
