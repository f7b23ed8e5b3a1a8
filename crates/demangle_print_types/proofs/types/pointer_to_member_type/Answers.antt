use Rattle.std.proofs.Common.{refl}
use Rattle.demangle_printing.specs.Print.{body}
use Rattle.demangle_printing.specs.Lines.{line_steps}
use Rattle.demangle_meets.proofs.Parts.{prints_deep, prints_node}
use Rattle.demangle_print_types.proofs.types.pointer_to_member_type.Goals as goal

pub returns-in_default : goal.returns-in_default
returns-in_default g c = prints_deep refl c.in_default.ensures

pub returns : goal.returns
unfolding body line_steps
returns g c = prints_node refl c.in-Some.ensures.0 c.around.ensures
