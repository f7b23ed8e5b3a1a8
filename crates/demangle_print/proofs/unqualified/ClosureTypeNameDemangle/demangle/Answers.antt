use Rattle.demangle_print.proofs.Begun.{demangled}
use Rattle.demangle_print.proofs.unqualified.ClosureTypeNameDemangle.demangle.Goals as goal

pub returns : goal.returns
returns g c = demangled c.begin-printer.ensures c.closure_type_name.ensures c.answer.ensures
