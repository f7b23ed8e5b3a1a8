use Rattle.std.proofs.Common.{refl}
use Rattle.demangle_nodes.specs.TreeNodes.{parts_of_base_unresolved_name, tag_of_base_unresolved_name}
use Rattle.demangle_nodes.proofs.Parts.{base_unresolved_name_destructor, base_unresolved_name_name}
use Rattle.demangle_nodes.proofs.Parts.{base_unresolved_name_operator}
use Rattle.demangle_printing.specs.Print.{body}
use Rattle.demangle_printing.specs.Lines.{line_steps}
use Rattle.demangle_meets.proofs.Acts.{meets_done}
use Rattle.demangle_meets.proofs.Parts.{meets_part, prints_deep, prints_node, prints_parts}
use Rattle.demangle_print_primaries.proofs.Itself.{base_name_is_itself}
use Rattle.demangle_print_primaries.proofs.unresolved.base_unresolved_name.Goals as goal

pub returns-in_default : goal.returns-in_default
returns-in_default g c = prints_deep (base_name_is_itself _ c.args.node.now) c.in_default.ensures

pub returns-in-Name : goal.returns-in-Name
unfolding body line_steps
returns-in-Name g c =
    prints_parts tag_of_base_unresolved_name parts_of_base_unresolved_name c.in-Name.is (base_unresolved_name_name
    _) (prints_node refl c.in-Some.ensures.0 (meets_part c.simple_id.ensures meets_done))

pub returns-in-Operator : goal.returns-in-Operator
unfolding body line_steps
returns-in-Operator g c =
    prints_parts tag_of_base_unresolved_name parts_of_base_unresolved_name c.in-Operator.is
    (base_unresolved_name_operator _ _) (prints_node refl c.in-Some.ensures.0 (meets_part c.operator_name.ensures
    (meets_part c.optional_template_args.ensures meets_done)))

pub returns-in-Destructor : goal.returns-in-Destructor
unfolding body line_steps
returns-in-Destructor g c =
    prints_parts tag_of_base_unresolved_name parts_of_base_unresolved_name c.in-Destructor.is
    (base_unresolved_name_destructor _) (prints_node refl c.in-Some.ensures.0 (meets_part c.destructor_name.ensures
    meets_done))
