use Rattle.demangle_lines_print.proofs.Begun.{demangled_inner}
use Rattle.demangle_lines_print.proofs.demangle.print_inner.Goals as goal

pub returns : goal.returns
returns g c = demangled_inner c.begin-depth.ensures c.print_behind.ensures c.answer.ensures
