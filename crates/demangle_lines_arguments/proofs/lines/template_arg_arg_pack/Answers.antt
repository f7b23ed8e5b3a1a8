use Rattle.demangle_printing.specs.Lines.{line_steps}
use Rattle.demangle_meets.proofs.Acts.{meets_block, meets_done, meets_set}
use Rattle.demangle_lines_arguments.proofs.lines.template_arg_arg_pack.Goals as goal

pub returns : goal.returns
unfolding line_steps
returns g c = record { meets = meets_set c.turn.ensures (meets_block c.list.ensures meets_done) }
