use Rattle.demangle_printing.specs.Lines.{inside_steps}
use Rattle.demangle_meets.proofs.Acts.{meets_done, meets_text}
use Rattle.demangle_lines_inner.proofs.lines.type_node_pointer_to_inside.Goals as goal

pub returns : goal.returns
unfolding inside_steps
returns g c = record { meets = meets_text c.text.ensures meets_done }
