use Rattle.demangle_print.proofs.Begun.{demangled}
use Rattle.demangle_print.proofs.names.NameDemangle.demangle.Goals as goal

pub returns : goal.returns
returns g c = demangled c.begin-printer.ensures c.name.ensures c.answer.ensures
