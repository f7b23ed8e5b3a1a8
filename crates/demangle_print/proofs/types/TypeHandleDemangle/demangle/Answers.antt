use Rattle.demangle_print.proofs.Begun.{demangled}
use Rattle.demangle_print.proofs.types.TypeHandleDemangle.demangle.Goals as goal

pub returns : goal.returns
returns g c = demangled c.begin-printer.ensures c.type_handle.ensures c.answer.ensures
