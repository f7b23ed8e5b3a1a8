-- What a `Symbol` holds.
use Rattle.demangle_nodes.specs.TreeNodes.{tree_of_mangled_name}
use Rattle.demangle_table.specs.TableOf.{table_of}
use Rattle.cpp_demangle.specs.declared.raw.RawBytes.{Ghosts}
use Rattle.cpp_demangle.specs.declared.symbol.Symbol.{Symbol}
use Rattle.demangler.specs.Contents.{Contents, contents}

abbrev pub contents_of : {T : Type 0} {R : Ghosts T} → Symbol T R → Contents
contents_of {T} {R} s = contents (R.bytes s.raw) (table_of s.name.substitutions) (tree_of_mangled_name s.name.parsed)
