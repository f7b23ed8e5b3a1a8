use Rattle.demangle_print.proofs.Begun.{demangled}
use Rattle.demangle_print.proofs.unqualified.OperatorNameDemangle.demangle.Goals as goal

pub returns : goal.returns
returns g c = demangled c.begin-printer.ensures c.operator_name.ensures c.answer.ensures
