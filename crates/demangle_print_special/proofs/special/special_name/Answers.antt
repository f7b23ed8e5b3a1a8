use Rattle.demangle_meets.proofs.Parts.{prints_deep, prints_line}
use Rattle.demangle_print_special.proofs.Itself.{special_is_itself}
use Rattle.demangle_print_special.proofs.special.special_name.Goals as goal

pub returns-in_default : goal.returns-in_default
returns-in_default g c = prints_deep (special_is_itself _ c.args.node.now) c.in_default.ensures

pub returns : goal.returns
returns g c = prints_line (special_is_itself _ c.args.node.now) c.in-Some.ensures.0 c.special_name_steps.ensures
