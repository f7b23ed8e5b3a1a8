use Rattle.demangle_meets.proofs.Parts.{prints_deep, prints_line}
use Rattle.demangle_print_unqualified.proofs.Itself.{prefix_is_itself}
use Rattle.demangle_print_names.proofs.prefixes.prefix.Goals as goal

pub returns-in_default : goal.returns-in_default
returns-in_default g c = prints_deep (prefix_is_itself _ c.args.node.now) c.in_default.ensures

pub returns : goal.returns
returns g c = prints_line (prefix_is_itself _ c.args.node.now) c.in-Some.ensures.0 c.prefix_steps.ensures
