use Rattle.demangle_printing.specs.Lines.{line_steps}
use Rattle.demangle_meets.proofs.Acts.{meets_block, meets_done}
use Rattle.demangle_meets.proofs.Around.{meets_fence}
use Rattle.demangle_lines_functions.proofs.lines.encoding_data.Goals as goal

pub returns : goal.returns
unfolding line_steps
returns g c = record {
  meets = meets_fence c.fence-items.ensures (meets_block c.part.ensures meets_done)
      c.unfence.ensures meets_done;
}
