-- With what the prefix of a nested name ends.
use Rattle.std.specs.Prelude.{◌≡◌, ℕ, true, false, Result, Ok, Err}
use Rattle.demangle_text.specs.declared.error.Error.{Error}
use Rattle.demangle_text.specs.declared.error.Error.TheVariants.{OutOfMemory}
use Rattle.demangle_core.specs.Core.{Core, Tag, node, end}
use Rattle.demangle_grammar.specs.Tree.{nested_template, nested_unqualified, taken_of}
use Rattle.demangle_grammar.specs.Reading.{is_nestable, prefix_entry}
use Rattle.demangle_cells.specs.View.{View, Holds, table}
use Rattle.demangle_read_nested.specs.Shapes.{is_node}
use Rattle.demangle_read_nested.specs.declared.taken.Taken.{Taken}
use Rattle.demangle_read_nested.specs.declared.taken.Taken.TheVariants as of_taken

-- what an entry that ends with it gives to these parts
abbrev pub Takes : (ℕ → Core) → Taken → Core → Type 0
Takes F (of_taken.Name name) entry =
    (is_nestable entry ≡ true)
    × ((parts : Core) → taken_of entry parts ≡ nested_unqualified (node Tag.Absent end end) (F name) parts)
Takes F (of_taken.Scoped scope name) entry =
    (is_nestable entry ≡ true)
    × ((parts : Core) → taken_of entry parts ≡ nested_unqualified (node Tag.Present (F scope) end) (F name) parts)
Takes F of_taken.Template entry =
    (is_nestable entry ≡ true) × ((parts : Core) → taken_of entry parts ≡ nested_template parts)
Takes F of_taken.Nothing entry = is_nestable entry ≡ false

-- with what an entry ends
abbrev pub EndsAs : ((ℕ → Core) → Core) → Result Taken Error → View → Type 0
EndsAs entry (Ok x) v = (F : ℕ → Core) → Holds F v → Takes F x (entry F)
EndsAs entry (Err e) v = e ≡ OutOfMemory

-- with what a prefix ends, which is a node
abbrev pub IsLast : (prefix : ℕ) → Result Taken Error → View → Type 0
IsLast prefix (Ok x) v =
    (F : ℕ → Core) → Holds F v
    → (is_node (F prefix) ≡ true) × Takes F x (prefix_entry (F prefix) (table F v))
IsLast prefix (Err e) v = e ≡ OutOfMemory
