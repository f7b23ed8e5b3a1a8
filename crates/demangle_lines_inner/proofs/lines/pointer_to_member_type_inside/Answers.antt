use Rattle.demangle_printing.specs.Lines.{inside_steps}
use Rattle.demangle_meets.proofs.Acts.{meets_block, meets_done, meets_text}
use Rattle.demangle_meets.proofs.Lines.{meets_rest}
use Rattle.demangle_lines_inner.proofs.lines.pointer_to_member_type_inside.Goals as goal

pub returns : goal.returns
unfolding inside_steps
returns g c = record {
  meets = meets_rest (c.choice_3.ensures.rest _) (meets_block c.part.ensures (meets_text
      c.text.ensures meets_done));
}
