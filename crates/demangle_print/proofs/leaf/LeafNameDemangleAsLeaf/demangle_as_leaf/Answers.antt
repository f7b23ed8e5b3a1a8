use Rattle.demangle_print.proofs.Begun.{demangled_leaf}
use Rattle.demangle_print.proofs.leaf.LeafNameDemangleAsLeaf.demangle_as_leaf.Goals as goal

pub returns : goal.returns
returns g c = demangled_leaf c.begin-printer.ensures c.leaf_name.ensures c.answer.ensures
