use Rattle.demangle_print.proofs.Begun.{demangled}
use Rattle.demangle_print.proofs.unqualified.UnnamedTypeNameDemangle.demangle.Goals as goal

pub returns : goal.returns
returns g c = demangled c.begin-printer.ensures (c.unnamed_type_name.ensures _) c.answer.ensures
