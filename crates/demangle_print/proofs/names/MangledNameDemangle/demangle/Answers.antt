use Rattle.demangle_print.proofs.Begun.{demangled}
use Rattle.demangle_print.proofs.names.MangledNameDemangle.demangle.Goals as goal

pub returns : goal.returns
returns g c = demangled c.begin-printer.ensures c.mangled_name.ensures c.answer.ensures
