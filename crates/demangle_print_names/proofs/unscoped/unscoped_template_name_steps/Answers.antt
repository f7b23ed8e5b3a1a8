use Rattle.demangle_printing.specs.Lines.{line_steps}
use Rattle.demangle_printing.specs.Print.{body}
use Rattle.demangle_meets.proofs.Acts.{meets_done}
use Rattle.demangle_meets.proofs.Parts.{meets_part}
use Rattle.demangle_print_names.proofs.unscoped.unscoped_template_name_steps.Goals as goal

pub returns : goal.returns
unfolding body line_steps
returns g c = record { meets = meets_part c.unscoped_name.ensures meets_done }
