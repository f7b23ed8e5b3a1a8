use Rattle.demangle_print.proofs.Begun.{demangled}
use Rattle.demangle_print.proofs.types.DecltypeDemangle.demangle.Goals as goal

pub returns : goal.returns
returns g c = demangled c.begin-printer.ensures c.decltype.ensures c.answer.ensures
