use Rattle.demangle_printing.specs.Print.{body}
use Rattle.demangle_printing.specs.Lines.{line_steps}
use Rattle.demangle_meets.proofs.Acts.{meets_done}
use Rattle.demangle_meets.proofs.Parts.{meets_part}
use Rattle.demangle_print_primaries.proofs.arguments.template_template_param_steps.Goals as goal

pub returns : goal.returns
unfolding body line_steps
returns g c = record { meets = meets_part c.template_param.ensures meets_done }
