use Rattle.demangle_printing.specs.Lines.{line_steps}
use Rattle.demangle_lines_names.proofs.lines.clone_type_identifier.Goals as goal

pub returns : goal.returns
unfolding line_steps
returns g c = record { meets = c.suffix.ensures }
