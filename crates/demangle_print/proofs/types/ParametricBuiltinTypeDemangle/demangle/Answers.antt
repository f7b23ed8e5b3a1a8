use Rattle.demangle_print.proofs.Begun.{demangled}
use Rattle.demangle_print.proofs.types.ParametricBuiltinTypeDemangle.demangle.Goals as goal

pub returns : goal.returns
returns g c = demangled c.begin-printer.ensures c.parametric_builtin_type.ensures c.answer.ensures
