use Rattle.demangle_print.proofs.Begun.{demangled}
use Rattle.demangle_print.proofs.expressions.ExpressionDemangle.demangle.Goals as goal

pub returns : goal.returns
returns g c = demangled c.begin-printer.ensures c.expression.ensures c.answer.ensures
