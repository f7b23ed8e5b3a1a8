use Rattle.demangle_printing.specs.Lines.{line_steps}
use Rattle.demangle_meets.proofs.Acts.{meets_block, meets_done, meets_text}
use Rattle.demangle_lines_names.proofs.lines.closure_type_name.Goals as goal

pub returns : goal.returns
unfolding line_steps
returns g c = record {
  meets = meets_text c.text.ensures (meets_block c.name_part.ensures (meets_text c.text-2.ensures
      (meets_text c.inner_ordinal.ensures (meets_text c.text-3.ensures meets_done))));
}
