use Rattle.demangle_print.proofs.Begun.{demangled}
use Rattle.demangle_print.proofs.words.SimpleOperatorNameDemangle.demangle.Goals as goal

pub returns : goal.returns
returns g c = demangled c.begin-printer.ensures (c.simple_operator_name.ensures _) c.answer.ensures
