use Rattle.demangle_print.proofs.Begun.{demangled}
use Rattle.demangle_print.proofs.expressions.SimpleIdDemangle.demangle.Goals as goal

pub returns : goal.returns
returns g c = demangled c.begin-printer.ensures c.simple_id.ensures c.answer.ensures
