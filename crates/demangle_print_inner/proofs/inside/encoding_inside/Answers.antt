use Rattle.demangle_nodes.specs.TreeNodes.{parts_of_encoding, tree_of_encoding}
use Rattle.demangle_printing.specs.Print.{body}
use Rattle.demangle_printing.specs.Lines.{inside_steps}
use Rattle.demangle_meets.proofs.Acts.{meets_done}
use Rattle.demangle_meets.proofs.Parts.{inside_at}
use Rattle.demangle_print_inner.proofs.inside.encoding_inside.Goals as goal

pub returns-in-Function : goal.returns-in-Function
returns-in-Function g c = c.function_inside.ensures

pub returns-in-Data : goal.returns-in-Data
unfolding body inside_steps parts_of_encoding
returns-in-Data g c = inside_at tree_of_encoding c.in-Data.is (record { meets = meets_done })

pub returns-in-Special : goal.returns-in-Special
unfolding body inside_steps parts_of_encoding
returns-in-Special g c = inside_at tree_of_encoding c.in-Special.is (record { meets = meets_done })
