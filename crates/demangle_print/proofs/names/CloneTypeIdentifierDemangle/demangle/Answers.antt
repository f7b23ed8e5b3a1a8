use Rattle.demangle_print.proofs.Begun.{demangled}
use Rattle.demangle_print.proofs.names.CloneTypeIdentifierDemangle.demangle.Goals as goal

pub returns : goal.returns
returns g c = demangled c.begin-printer.ensures (c.clone_type_identifier.ensures _) c.answer.ensures
