use Rattle.demangle_printing.specs.Lines.{line_steps}
use Rattle.demangle_meets.proofs.Acts.{meets_block, meets_done}
use Rattle.demangle_meets.proofs.Lines.{meets_rest}
use Rattle.demangle_lines_types.proofs.lines.type_node_pack_expansion.Goals as goal

pub returns : goal.returns
unfolding line_steps
returns g c = record { meets = meets_block c.part.ensures (meets_rest (c.choice_4.ensures.rest _) meets_done) }
