use Rattle.demangle_printing.specs.Lines.{inside_steps}
use Rattle.demangle_meets.proofs.Acts.{meets_done}
use Rattle.demangle_meets.proofs.Lines.{meets_rest}
use Rattle.demangle_lines_inner.proofs.lines.type_node_lvalue_ref_inside.Goals as goal

pub returns : goal.returns
unfolding inside_steps
returns g c = record { meets = meets_rest (c.joined.ensures _) meets_done }
