use Rattle.demangle_printing.specs.Lines.{line_steps}
use Rattle.demangle_meets.proofs.Acts.{meets_block, meets_done}
use Rattle.demangle_meets.proofs.Around.{meets_held}
use Rattle.demangle_lines_types.proofs.lines.type_node_qualified.Goals as goal

pub returns : goal.returns
unfolding line_steps
returns g c = record {
  meets = meets_held c.hold.ensures (meets_block c.part.ensures meets_done) c.close.ensures
      meets_done;
}
