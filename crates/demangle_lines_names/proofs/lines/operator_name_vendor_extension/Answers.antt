use Rattle.demangle_printing.specs.Lines.{line_steps}
use Rattle.demangle_meets.proofs.Acts.{meets_block, meets_done, meets_text}
use Rattle.demangle_lines_names.proofs.lines.operator_name_vendor_extension.Goals as goal

pub returns : goal.returns
unfolding line_steps
returns g c = record {
  meets = meets_block c.name_part.ensures (meets_text c.text.ensures (meets_block
      c.spelled.ensures meets_done));
}
