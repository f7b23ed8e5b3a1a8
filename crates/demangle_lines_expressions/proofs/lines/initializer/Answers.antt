use Rattle.demangle_printing.specs.Lines.{line_steps}
use Rattle.demangle_meets.proofs.Acts.{meets_block, meets_done, meets_text}
use Rattle.demangle_lines_expressions.proofs.lines.initializer.Goals as goal

pub returns : goal.returns
unfolding line_steps
returns g c = record {
  meets = meets_text c.text.ensures (meets_block c.list.ensures (meets_text c.text-2.ensures
      meets_done));
}
