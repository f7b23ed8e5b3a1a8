use Rattle.demangle_print.proofs.Begun.{demangled}
use Rattle.demangle_print.proofs.expressions.ExprPrimaryDemangle.demangle.Goals as goal

pub returns : goal.returns
returns g c = demangled c.begin-printer.ensures c.expr_primary.ensures c.answer.ensures
