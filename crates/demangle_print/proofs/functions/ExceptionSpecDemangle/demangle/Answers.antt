use Rattle.demangle_print.proofs.Begun.{demangled}
use Rattle.demangle_print.proofs.functions.ExceptionSpecDemangle.demangle.Goals as goal

pub returns : goal.returns
returns g c = demangled c.begin-printer.ensures c.exception_spec.ensures c.answer.ensures
