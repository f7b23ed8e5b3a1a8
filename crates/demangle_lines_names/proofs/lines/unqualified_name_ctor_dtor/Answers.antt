use Rattle.demangle_printing.specs.Lines.{line_steps}
use Rattle.demangle_meets.proofs.Acts.{meets_block, meets_done}
use Rattle.demangle_meets.proofs.Events.{meets_event}
use Rattle.demangle_lines_names.proofs.lines.unqualified_name_ctor_dtor.Goals as goal

pub returns : goal.returns
unfolding line_steps
returns g c = record {
  meets = meets_event c.begin_node-told.ensures (meets_block c.name_part.ensures (meets_block
      c.name_part-2.ensures meets_done)) c.end_node.ensures meets_done;
}
