use Rattle.std.proofs.Common.{refl}
use Rattle.demangle_leaf_nodes.specs.TreeLeaves.{tree_of_unscoped_name}
use Rattle.demangle_printing.specs.Lines.{line_steps}
use Rattle.demangle_printing.specs.Print.{body}
use Rattle.demangle_meets.proofs.Acts.{meets_done, meets_text}
use Rattle.demangle_meets.proofs.Parts.{meets_part, prints_at, prints_deep, prints_node}
use Rattle.demangle_print_unqualified.proofs.Itself.{unscoped_is_itself}
use Rattle.demangle_print_names.proofs.unscoped.unscoped_name.Goals as goal

pub returns-in_default : goal.returns-in_default
returns-in_default g c = prints_deep (unscoped_is_itself _ c.args.node.now) c.in_default.ensures

pub returns-in-Unqualified : goal.returns-in-Unqualified
unfolding body line_steps
returns-in-Unqualified g c =
    prints_at tree_of_unscoped_name c.in-Unqualified.is
    (prints_node refl c.in-Some.ensures.0 (meets_part c.unqualified_name.ensures meets_done))

pub returns-in-Std : goal.returns-in-Std
unfolding body line_steps
returns-in-Std g c =
    prints_at tree_of_unscoped_name c.in-Std.is (prints_node refl c.in-Some.ensures.0
    (meets_text c.text.ensures (meets_part c.unqualified_name-in-Std.ensures meets_done)))
