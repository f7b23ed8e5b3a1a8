use Rattle.demangle_print.proofs.Begun.{demangled}
use Rattle.demangle_print.proofs.expressions.UnresolvedQualifierLevelDemangle.demangle.Goals as goal

pub returns : goal.returns
returns g c = demangled c.begin-printer.ensures c.unresolved_qualifier_level.ensures c.answer.ensures
