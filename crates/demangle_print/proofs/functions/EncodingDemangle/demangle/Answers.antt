use Rattle.demangle_print.proofs.Begun.{demangled}
use Rattle.demangle_print.proofs.functions.EncodingDemangle.demangle.Goals as goal

pub returns : goal.returns
returns g c = demangled c.begin-printer.ensures c.encoding.ensures c.answer.ensures
