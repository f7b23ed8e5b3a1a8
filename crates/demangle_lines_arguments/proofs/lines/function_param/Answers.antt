use Rattle.demangle_printing.specs.Lines.{line_steps}
use Rattle.demangle_meets.proofs.Acts.{meets_done}
use Rattle.demangle_meets.proofs.Lines.{meets_rest}
use Rattle.demangle_lines_arguments.proofs.lines.function_param.Goals as goal

pub returns : goal.returns
unfolding line_steps
returns g c = record { meets = meets_rest (c.choice_2.ensures.rest _) meets_done }
