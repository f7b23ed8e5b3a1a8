-- The number of a component alone, whatever the components are.
use Rattle.std.specs.Prelude.{◌≡◌, ℕ, Bool, [], pos, Result, Ok, Err}
use Rattle.demangle_text.specs.Kind.{kind}
use Rattle.demangle_text.specs.declared.error.Error.{Error}
use Rattle.demangle_core.specs.Core.{Tag, node, number, end}
use Rattle.demangle_core.specs.Table.{Table}
use Rattle.demangle_grammar.specs.Rule.{Row}
use Rattle.demangle_grammar.specs.Code.{here, Found, Refused, cread}
use Rattle.demangle_cells.specs.Reads.{spot_at}
use Rattle.demangle_cells.specs.declared.text.Text.{Text}

abbrev pub ReadsSeq : (levels : ℕ) → Bool → Text → (at : ℕ) → Result (ℕ × ℕ) Error → Type 0
ReadsSeq levels conversion text at (Ok x) = (table : Table)
    → cread levels Row.seq_id conversion (here (spot_at text at) table) []
    ≡ Found (node Tag.SeqId (number (pos x.0) end) end) (here (spot_at text x.1) table)
ReadsSeq levels conversion text at (Err e) = (table : Table)
    → cread levels Row.seq_id conversion (here (spot_at text at) table) [] ≡ Refused (kind e)
