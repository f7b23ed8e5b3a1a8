use Rattle.demangle_print.proofs.Begun.{demangled}
use Rattle.demangle_print.proofs.special_names.ResourceNameDemangle.demangle.Goals as goal

pub returns : goal.returns
returns g c = demangled c.begin-printer.ensures (c.resource_name.ensures _) c.answer.ensures
