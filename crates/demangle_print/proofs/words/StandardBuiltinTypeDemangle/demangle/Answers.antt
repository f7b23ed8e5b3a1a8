use Rattle.demangle_print.proofs.Begun.{demangled}
use Rattle.demangle_print.proofs.words.StandardBuiltinTypeDemangle.demangle.Goals as goal

pub returns : goal.returns
returns g c = demangled c.begin-printer.ensures (c.standard_builtin_type.ensures _) c.answer.ensures
