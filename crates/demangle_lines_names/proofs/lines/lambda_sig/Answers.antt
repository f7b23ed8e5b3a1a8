use Rattle.demangle_printing.specs.Lines.{line_steps}
use Rattle.demangle_meets.proofs.Acts.{meets_block, meets_done, meets_set}
use Rattle.demangle_lines_names.proofs.lines.lambda_sig.Goals as goal

pub returns : goal.returns
unfolding line_steps
returns g c = record {
  meets = meets_set c.turn.ensures (meets_block c.list.ensures (meets_set c.turn-2.ensures
      meets_done));
}
