use Rattle.std.proofs.Common.{refl}
use Rattle.demangle_nodes.specs.TreeNodes.{parts_of_destructor_name, tag_of_destructor_name}
use Rattle.demangle_nodes.proofs.Parts.{destructor_name_name, destructor_name_unresolved}
use Rattle.demangle_printing.specs.Print.{body}
use Rattle.demangle_printing.specs.Lines.{line_steps}
use Rattle.demangle_meets.proofs.Acts.{meets_done, meets_text}
use Rattle.demangle_meets.proofs.Parts.{meets_part, prints_deep, prints_node, prints_parts}
use Rattle.demangle_print_primaries.proofs.Itself.{destructor_name_is_itself}
use Rattle.demangle_print_primaries.proofs.unresolved.destructor_name.Goals as goal

pub returns-in_default : goal.returns-in_default
returns-in_default g c = prints_deep (destructor_name_is_itself _ c.args.node.now) c.in_default.ensures

pub returns-in-Unresolved : goal.returns-in-Unresolved
unfolding body line_steps
returns-in-Unresolved g c =
    prints_parts tag_of_destructor_name parts_of_destructor_name c.in-Unresolved.is (destructor_name_unresolved _)
    (prints_node refl c.in-Some.ensures.0 (meets_text c.text.ensures (meets_part c.unresolved_type_handle.ensures
    meets_done)))

pub returns-in-Name : goal.returns-in-Name
unfolding body line_steps
returns-in-Name g c =
    prints_parts tag_of_destructor_name parts_of_destructor_name c.in-Name.is (destructor_name_name _) (prints_node
    refl c.in-Some.ensures.0 (meets_text c.text.ensures (meets_part c.simple_id.ensures meets_done)))
