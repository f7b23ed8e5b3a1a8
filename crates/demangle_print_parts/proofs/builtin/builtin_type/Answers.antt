use Rattle.std.proofs.Common.{refl}
use Rattle.demangle_leaf_nodes.specs.TreeLeaves.{tree_of_builtin_type}
use Rattle.demangle_printing.specs.Print.{body}
use Rattle.demangle_printing.specs.Lines.{line_steps}
use Rattle.demangle_meets.proofs.Acts.{meets_done}
use Rattle.demangle_meets.proofs.Parts.{meets_part, prints_at, prints_deep, prints_node}
use Rattle.demangle_print_parts.proofs.Itself.{builtin_is_itself}
use Rattle.demangle_print_parts.proofs.builtin.builtin_type.Goals as goal

pub returns-in_default : goal.returns-in_default
returns-in_default g c = prints_deep (builtin_is_itself _ c.args.node.now) c.in_default.ensures

pub returns-in-Standard : goal.returns-in-Standard
unfolding body line_steps
returns-in-Standard g c =
    prints_at tree_of_builtin_type c.in-Standard.is
    (prints_node refl c.in-Some.ensures.0 (meets_part (c.standard_builtin_type.ensures _) meets_done))

pub returns-in-Parametric : goal.returns-in-Parametric
unfolding body line_steps
returns-in-Parametric g c =
    prints_at tree_of_builtin_type c.in-Parametric.is
    (prints_node refl c.in-Some.ensures.0 (meets_part c.parametric_builtin_type.ensures meets_done))

pub returns-in-Extension : goal.returns-in-Extension
unfolding body line_steps
returns-in-Extension g c =
    prints_at tree_of_builtin_type c.in-Extension.is
    (prints_node refl c.in-Some.ensures.0 (meets_part (c.source_name.ensures _) meets_done))
