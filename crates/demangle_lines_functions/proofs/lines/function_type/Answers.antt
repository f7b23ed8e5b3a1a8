use Rattle.demangle_printing.specs.Lines.{line_steps}
use Rattle.demangle_meets.proofs.Acts.{meets_block, meets_done}
use Rattle.demangle_meets.proofs.Around.{meets_held}
use Rattle.demangle_meets.proofs.Lines.{meets_rest}
use Rattle.demangle_lines_functions.proofs.lines.function_type.Goals as goal

pub returns : goal.returns
unfolding line_steps
returns g c = record {
  meets = meets_held c.hold.ensures (meets_block c.part.ensures meets_done) c.close.ensures
      (meets_block (meets_rest (c.choice_3.ensures.rest _) meets_done) meets_done);
}
