use Rattle.demangle_nodes.specs.TreeNodes.{tree_of_mangled_name}
use Rattle.demangle_table.specs.TableOf.{table_of}
use Rattle.cpp_demangle.proofs.KeptNames.{copy_kept}
use Rattle.cpp_demangle.proofs.kept.KeptName.copied.Goals as goal

pub returns : goal.returns
returns c =
    copy_kept c.of.result c.in_ok-arena.arena c.mangled_name_to.new.arena c.in_ok-root.root
    (tree_of_mangled_name c.args.self.now.parsed) (table_of c.args.self.now.substitutions) c.in_ok-arena.ensures
    c.mangled_name_to.ensures.grown c.mangled_name_to.ensures.table c.in_ok-root.ensures.made c.of.ensures
