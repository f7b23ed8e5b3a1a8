use Rattle.demangle_print.proofs.Begun.{demangled}
use Rattle.demangle_print.proofs.types.CvQualifiersDemangle.demangle.Goals as goal

pub returns : goal.returns
returns g c = demangled c.begin-printer.ensures (c.cv_qualifiers.ensures _) c.answer.ensures
