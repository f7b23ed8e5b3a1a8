use Rattle.std.proofs.Common.{rules}
use Rattle.demangle_nodes.specs.TreeNodes.{tree_of_mangled_name}
use Rattle.demangle_table.specs.TableOf.{table_of}
use Rattle.demangler.specs.Contents.{contents}
use Rattle.cpp_demangle.specs.SymbolOf.{contents_of}
use Rattle.cpp_demangle.proofs.Symbols.{copies_equal}
use Rattle.cpp_demangle.proofs.symbol.«Symbol+Vec+u8».try_clone.Goals as goal

pub returns-clause-equal : goal.returns-clause-equal
returns-clause-equal c =
    copies_equal
    (contents c.in_ok-raw.raw.items (table_of c.in_ok-name.name.substitutions)
    (tree_of_mangled_name c.in_ok-name.name.parsed))
    (contents_of c.args.self.now) (search rules)
