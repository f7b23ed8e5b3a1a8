use Rattle.demangle_printing.specs.Lines.{line_steps}
use Rattle.demangle_meets.proofs.Acts.{meets_block, meets_done}
use Rattle.demangle_meets.proofs.Lines.{meets_rest}
use Rattle.demangle_lines_names.proofs.lines.operator_name_simple.Goals as goal

pub returns : goal.returns
unfolding line_steps
returns g c = record { meets = meets_rest (c.choice_14.ensures.rest _) (meets_block c.name_part.ensures meets_done) }
