use Rattle.demangle_printing.specs.Lines.{line_steps}
use Rattle.demangle_meets.proofs.Acts.{meets_block, meets_done}
use Rattle.demangle_meets.proofs.Around.{meets_fence}
use Rattle.demangle_meets.proofs.Events.{meets_event}
use Rattle.demangle_meets.proofs.Lines.{meets_rest}
use Rattle.demangle_lines_names.proofs.lines.nested_name_unqualified.Goals as goal

pub returns : goal.returns
unfolding line_steps
returns g c = record {
  meets = meets_block (meets_fence c.fence-items.ensures (meets_event c.begin_node-told.ensures
      (meets_rest (c.choice_2.ensures.rest _) (meets_block c.name_part.ensures meets_done)) c.end_node.ensures
      meets_done) c.unfence.ensures meets_done) (meets_rest (c.taken.ensures.rest _) (meets_block (meets_rest
      (c.choice_3.ensures.rest _) (meets_rest (c.choice_4.ensures.rest _) meets_done)) meets_done));
}
