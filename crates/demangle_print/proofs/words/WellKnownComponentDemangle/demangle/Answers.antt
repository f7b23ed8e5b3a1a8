use Rattle.demangle_print.proofs.Begun.{demangled}
use Rattle.demangle_print.proofs.words.WellKnownComponentDemangle.demangle.Goals as goal

pub returns : goal.returns
returns g c = demangled c.begin-printer.ensures (c.well_known_component.ensures _) c.answer.ensures
