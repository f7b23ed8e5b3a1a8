use Rattle.demangle_printing.specs.Lines.{line_steps}
use Rattle.demangle_meets.proofs.Acts.{meets_block, meets_done, meets_text}
use Rattle.demangle_lines_expressions.proofs.lines.expression_conversion_one.Goals as goal

pub returns : goal.returns
unfolding line_steps
returns g c = record {
  meets = meets_text c.text.ensures (meets_block c.part.ensures (meets_text c.text-2.ensures
      (meets_block c.part-2.ensures (meets_text c.text-3.ensures meets_done))));
}
