use Rattle.demangle_printing.specs.Lines.{line_steps}
use Rattle.demangle_meets.proofs.Acts.{meets_block, meets_done}
use Rattle.demangle_meets.proofs.Lines.{meets_rest}
use Rattle.demangle_lines_names.proofs.lines.mangled_name_encoding.Goals as goal

pub returns : goal.returns
unfolding line_steps
returns g c = record {
  meets = meets_block c.name_part.ensures (meets_block (meets_rest (c.choice_1.ensures.rest _)
      meets_done) meets_done);
}
