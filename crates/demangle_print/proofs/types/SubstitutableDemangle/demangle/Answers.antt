use Rattle.demangle_print.proofs.Begun.{demangled}
use Rattle.demangle_print.proofs.types.SubstitutableDemangle.demangle.Goals as goal

pub returns : goal.returns
returns g c = demangled c.begin-printer.ensures c.substitutable.ensures c.answer.ensures
