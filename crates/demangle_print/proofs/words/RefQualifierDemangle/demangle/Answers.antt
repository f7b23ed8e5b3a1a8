use Rattle.demangle_print.proofs.Begun.{demangled}
use Rattle.demangle_print.proofs.words.RefQualifierDemangle.demangle.Goals as goal

pub returns : goal.returns
returns g c = demangled c.begin-printer.ensures (c.ref_qualifier.ensures _) c.answer.ensures
