use Rattle.demangle_print.proofs.Begun.{demangled}
use Rattle.demangle_print.proofs.unqualified.IdentifierDemangle.demangle.Goals as goal

pub returns : goal.returns
returns g c = demangled c.begin-printer.ensures (c.identifier.ensures _) c.answer.ensures
