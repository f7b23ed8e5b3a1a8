use Rattle.demangle_nodes.specs.TreeNodes.{tree_of_mangled_name}
use Rattle.demangle_table.specs.TableOf.{table_of}
use Rattle.demangler.specs.Contents.{contents}
use Rattle.cpp_demangle.specs.SymbolOf.{contents_of}
use Rattle.cpp_demangle.proofs.Symbols.{copies_equal}
use Rattle.cpp_demangle.proofs.symbol.«Symbol+ref+slice+u8».try_clone.Goals as goal

pub returns-clause-equal : goal.returns-clause-equal
returns-clause-equal c =
    let copy = c.in_ok-name.ensures in
    copies_equal
    (contents c.args.self.now.raw.now (table_of c.in_ok-name.name.substitutions)
    (tree_of_mangled_name c.in_ok-name.name.parsed))
    (contents_of c.args.self.now) (λ i. contents c.args.self.now.raw.now (copy.1 i) (copy.0 i))
