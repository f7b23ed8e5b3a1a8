use Rattle.demangle_print.proofs.Begun.{demangled}
use Rattle.demangle_print.proofs.special_names.SpecialNameDemangle.demangle.Goals as goal

pub returns : goal.returns
returns g c = demangled c.begin-printer.ensures c.special_name.ensures c.answer.ensures
