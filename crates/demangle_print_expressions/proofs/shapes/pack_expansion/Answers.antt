use Rattle.demangle_meets.proofs.Acts.{meets_block, meets_done, meets_text}
use Rattle.demangle_print_expressions.proofs.shapes.pack_expansion.Goals as goal

pub returns : goal.returns
returns g c = meets_block c.operand.ensures (meets_text c.text.ensures meets_done)
