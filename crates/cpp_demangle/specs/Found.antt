-- What the readers of a whole name answer.
use Rattle.std.specs.Prelude.{◌≡◌, ℕ, List}
use Rattle.demangle_text.specs.Kind.{kind}
use Rattle.demangle_text.specs.declared.error.Error.{Error}
use Rattle.demangle_text.specs.declared.error.Error.TheVariants.{OutOfMemory}
use Rattle.demangle_nodes.specs.TreeNodes.{tree_of_mangled_name}
use Rattle.demangle_table.specs.TableOf.{table_of}
use Rattle.demangle_grammar.specs.Code.{Reply, Found, Refused, here}
use Rattle.cpp_demangle.specs.declared.kept.KeptName.{KeptName}

-- the name's tree and its components, with so much left behind it
abbrev pub IsFound : Reply → List ℕ → KeptName → Type 0
IsFound reply left name =
    (end : ℕ)
    × (reply
    ≡ Found (tree_of_mangled_name name.parsed)
    (here (record { index = end; left = left }) (table_of name.substitutions)))

-- why there is none
abbrev pub IsMissing : Reply → Error → Type 0
IsMissing reply OutOfMemory = Unit {0}
IsMissing reply e = reply ≡ Refused (kind e)
