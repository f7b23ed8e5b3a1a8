use Rattle.demangle_lines_print.proofs.Begun.{demangled}
use Rattle.demangle_lines_print.proofs.demangle.print_tree.Goals as goal

pub returns : goal.returns
returns g c = demangled c.begin-depth.ensures c.print_shown.ensures c.answer.ensures
