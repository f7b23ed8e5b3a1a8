use Rattle.demangle_printing.specs.Lines.{line_steps}
use Rattle.demangle_meets.proofs.Acts.{meets_done}
use Rattle.demangle_meets.proofs.Events.{meets_event}
use Rattle.demangle_meets.proofs.Lines.{meets_rest}
use Rattle.demangle_lines_arguments.proofs.lines.template_param.Goals as goal

pub returns : goal.returns
unfolding line_steps
returns g c = record {
  meets = meets_event c.begin_node-told.ensures (meets_rest (c.choice_1.ensures.rest _)
      meets_done) c.end_node.ensures meets_done;
}
