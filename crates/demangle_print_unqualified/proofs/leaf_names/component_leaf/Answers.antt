use Rattle.std.proofs.Common.{ap}
use Rattle.demangle_printing.specs.Texts.{or_empty}
use Rattle.demangle_print_unqualified.proofs.leaf_names.component_leaf.Goals as goal

pub returns-in_default : goal.returns-in_default
returns-in_default c = ap or_empty c.leaf_text.ensures
