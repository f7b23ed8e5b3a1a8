use Rattle.demangle_print.proofs.Begun.{demangled}
use Rattle.demangle_print.proofs.special_names.CallOffsetDemangle.demangle.Goals as goal

pub returns : goal.returns
returns g c = demangled c.begin-printer.ensures (c.call_offset.ensures _) c.answer.ensures
