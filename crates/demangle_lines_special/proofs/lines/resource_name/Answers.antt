use Rattle.demangle_printing.specs.Lines.{line_steps}
use Rattle.demangle_meets.proofs.Acts.{meets_block, meets_done}
use Rattle.demangle_lines_special.proofs.lines.resource_name.Goals as goal

pub returns : goal.returns
unfolding line_steps
returns g c = record { meets = meets_block c.resource.ensures meets_done }
