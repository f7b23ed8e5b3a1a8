use Rattle.demangle_print.proofs.Begun.{demangled}
use Rattle.demangle_print.proofs.expressions.UnresolvedTypeDemangle.demangle.Goals as goal

pub returns : goal.returns
returns g c = demangled c.begin-printer.ensures c.unresolved_type.ensures c.answer.ensures
