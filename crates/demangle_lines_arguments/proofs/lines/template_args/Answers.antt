use Rattle.demangle_printing.specs.Lines.{line_steps}
use Rattle.demangle_meets.proofs.Acts.{meets_block, meets_done, meets_text}
use Rattle.demangle_meets.proofs.Around.{meets_fence}
use Rattle.demangle_meets.proofs.Events.{meets_event}
use Rattle.demangle_meets.proofs.Lines.{meets_rest}
use Rattle.demangle_lines_arguments.proofs.lines.template_args.Goals as goal

pub returns : goal.returns
unfolding line_steps
returns g c = record {
  meets = meets_fence c.fence-items.ensures (meets_rest (c.choice_3.ensures.rest _) (meets_text
      c.text.ensures (meets_event c.begin_node-told.ensures (meets_block (meets_block c.members.ensures (meets_rest
      (c.choice_4.ensures.rest _) meets_done)) meets_done) c.end_node.ensures (meets_text c.text-2.ensures
      meets_done)))) c.unfence.ensures meets_done;
}
