use Rattle.demangle_meets.proofs.Acts.{meets_done, meets_text}
use Rattle.demangle_print.proofs.Begun.{demangled_leaf}
use Rattle.demangle_print.proofs.leaf.WellKnownComponentDemangleAsLeaf.demangle_as_leaf.Goals as goal

pub returns : goal.returns
returns g c =
    demangled_leaf c.begin-printer.ensures (meets_text (rw c.component_leaf.ensures at c.text.ensures) meets_done)
    c.answer.ensures
