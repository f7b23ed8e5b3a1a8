use Rattle.demangle_print.proofs.Begun.{demangled}
use Rattle.demangle_print.proofs.arguments.FunctionParamDemangle.demangle.Goals as goal

pub returns : goal.returns
returns g c = demangled c.begin-printer.ensures (c.function_param.ensures _) c.answer.ensures
