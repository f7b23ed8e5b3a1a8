-- Data members behind a prefix.
use Rattle.std.specs.Prelude.{◌≡◌, ◌⊎◌, ℕ, true, false, Result, Ok, Err}
use Rattle.demangle_text.specs.declared.error.Error.{Error}
use Rattle.demangle_text.specs.declared.error.Error.TheVariants.{OutOfMemory, UnexpectedText}
use Rattle.demangle_core.specs.Core.{Core, Tag, node, end, ◌⊕◌}
use Rattle.demangle_grammar.specs.Tree.{data_member_of}
use Rattle.demangle_grammar.specs.Reading.{is_member}
use Rattle.demangle_cells.specs.View.{View, Holds}
use Rattle.demangle_read_nested.specs.Shapes.{is_node}

-- the name of a data member, of this source name, which is a node
abbrev pub MakesDataMember : (source : ℕ) → Result ℕ Error → View → Type 0
MakesDataMember source (Ok i) v = (F : ℕ → Core) → Holds F v
    → (is_node (F source) ≡ true) × (F i ≡ node Tag.DataMemberPrefix (F source) end)
MakesDataMember source (Err e) v = e ≡ OutOfMemory

-- the name of the data member whose name is the last part; or that this is no plain name
abbrev pub MakesMember : (prefix name : ℕ) → Result ℕ Error → View → Type 0
MakesMember prefix name (Ok i) v = (F : ℕ → Core) → Holds F v
    → (is_member (F prefix ⊕ F name) ≡ true)
    × (data_member_of (F prefix ⊕ F name) ≡ node Tag.PrefixDataMember (F prefix ⊕ F i) end)
MakesMember prefix name (Err e) v =
    (e ≡ OutOfMemory)
    ⊎ ((e ≡ UnexpectedText) × ((F : ℕ → Core) → Holds F v → is_member (F prefix ⊕ F name) ≡ false))
