use Rattle.demangle_printing.specs.Lines.{inside_steps}
use Rattle.demangle_meets.proofs.Acts.{meets_block, meets_done}
use Rattle.demangle_meets.proofs.Lines.{meets_rest}
use Rattle.demangle_lines_inner.proofs.lines.function_type_inside.Goals as goal

pub returns : goal.returns
unfolding inside_steps
returns g c = record {
  meets = meets_block (meets_rest (c.choice_1.ensures.rest _) meets_done) (meets_block
      (meets_rest (c.choice_2.ensures.rest _) meets_done) meets_done);
}
