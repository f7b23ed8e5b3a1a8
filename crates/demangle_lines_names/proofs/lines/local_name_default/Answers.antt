use Rattle.demangle_printing.specs.Lines.{line_steps}
use Rattle.demangle_meets.proofs.Acts.{meets_block, meets_done}
use Rattle.demangle_lines.proofs.Doing.{meets_params}
use Rattle.demangle_lines_names.proofs.lines.local_name_default.Goals as goal

pub returns : goal.returns
unfolding line_steps
returns g c = record {
  meets = meets_params c.is_on-before.ensures c.turn.ensures (meets_block c.name_part.ensures
      meets_done) c.turn-2.ensures meets_done;
}
