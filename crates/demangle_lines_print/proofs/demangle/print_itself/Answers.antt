use Rattle.std.proofs.Common.{ap}
use Rattle.demangle_lines.specs.ScopeOf.{lent_scope}
use Rattle.demangle_lines_print.proofs.Begun.{answered_alone}
use Rattle.demangle_lines_print.proofs.demangle.print_itself.Goals as goal

pub returns : goal.returns
returns g c =
    answered_alone (ap (lent_scope g.T.InnerNode.tree) c.no_scope.ensures) c.begin-depth.ensures c.print_line.ensures
    c.answer.ensures
