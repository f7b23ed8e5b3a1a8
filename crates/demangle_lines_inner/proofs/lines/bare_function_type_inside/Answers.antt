use Rattle.demangle_printing.specs.Lines.{inside_steps}
use Rattle.demangle_meets.proofs.Acts.{meets_call, meets_done}
use Rattle.demangle_lines_inner.proofs.lines.bare_function_type_inside.Goals as goal

pub returns : goal.returns
unfolding inside_steps
returns g c = record { meets = meets_call c.parameters_behind.ensures meets_done }
