use Rattle.demangle_printing.specs.Lines.{line_steps}
use Rattle.demangle_meets.proofs.Acts.{meets_done}
use Rattle.demangle_meets.proofs.Lines.{meets_rest}
use Rattle.demangle_lines_types.proofs.lines.cv_qualifiers.Goals as goal

pub returns : goal.returns
unfolding line_steps
returns g c = record {
  meets = meets_rest (c.choice_1.ensures.rest _) (meets_rest (c.choice_2.ensures.rest _)
      (meets_rest (c.choice_3.ensures.rest _) meets_done));
}
