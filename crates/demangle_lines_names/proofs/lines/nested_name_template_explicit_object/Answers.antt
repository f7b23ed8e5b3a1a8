use Rattle.demangle_printing.specs.Lines.{line_steps}
use Rattle.demangle_meets.proofs.Acts.{meets_block, meets_done, meets_set}
use Rattle.demangle_meets.proofs.Around.{meets_fence}
use Rattle.demangle_meets.proofs.Lines.{meets_rest}
use Rattle.demangle_lines_names.proofs.lines.nested_name_template_explicit_object.Goals as goal

pub returns : goal.returns
unfolding line_steps
returns g c = record {
  meets = meets_block (meets_set c.turn.ensures (meets_fence c.fence-items.ensures (meets_block
      c.name_part.ensures meets_done) c.unfence.ensures (meets_set c.turn-2.ensures meets_done))) (meets_set
      c.turn-3.ensures (meets_rest (c.taken.ensures.rest _) meets_done));
}
