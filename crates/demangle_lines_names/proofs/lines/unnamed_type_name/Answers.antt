use Rattle.demangle_printing.specs.Lines.{line_steps}
use Rattle.demangle_meets.proofs.Acts.{meets_done, meets_text}
use Rattle.demangle_lines_names.proofs.lines.unnamed_type_name.Goals as goal

pub returns : goal.returns
unfolding line_steps
returns g c = record {
  meets = meets_text c.text.ensures (meets_text c.inner_ordinal.ensures (meets_text
      c.text-2.ensures meets_done));
}
