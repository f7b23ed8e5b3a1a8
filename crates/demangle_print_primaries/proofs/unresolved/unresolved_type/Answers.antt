use Rattle.demangle_meets.proofs.Parts.{prints_deep, prints_line}
use Rattle.demangle_print_primaries.proofs.Itself.{unresolved_is_itself}
use Rattle.demangle_print_primaries.proofs.unresolved.unresolved_type.Goals as goal

pub returns-in_default : goal.returns-in_default
returns-in_default g c = prints_deep (unresolved_is_itself _ _) c.in_default.ensures

pub returns : goal.returns
returns g c = prints_line (unresolved_is_itself _ _) c.in-Some.ensures.0 c.unresolved_type_steps.ensures
