use Rattle.demangle_print.proofs.Begun.{demangled}
use Rattle.demangle_print.proofs.functions.FunctionTypeDemangle.demangle.Goals as goal

pub returns : goal.returns
returns g c = demangled c.begin-printer.ensures c.function_type.ensures c.answer.ensures
