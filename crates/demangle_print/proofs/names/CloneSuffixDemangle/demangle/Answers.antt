use Rattle.demangle_print.proofs.Begun.{demangled}
use Rattle.demangle_print.proofs.names.CloneSuffixDemangle.demangle.Goals as goal

pub returns : goal.returns
returns g c = demangled c.begin-printer.ensures (c.clone_suffix.ensures _) c.answer.ensures
