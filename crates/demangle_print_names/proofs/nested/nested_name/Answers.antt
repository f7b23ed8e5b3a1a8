use Rattle.std.proofs.Common.{refl}
use Rattle.demangle_leaf_nodes.specs.TreeLeaves.{tree_of_nested_name}
use Rattle.demangle_printing.specs.Lines.{line_steps}
use Rattle.demangle_printing.specs.Print.{body}
use Rattle.demangle_meets.proofs.Acts.{meets_block}
use Rattle.demangle_meets.proofs.Parts.{prints_at, prints_deep, prints_node}
use Rattle.demangle_print_unqualified.proofs.Itself.{nested_is_itself}
use Rattle.demangle_print_names.proofs.nested.nested_name.Goals as goal

pub returns-in_default : goal.returns-in_default
returns-in_default g c = prints_deep (nested_is_itself _ c.args.node.now) c.in_default.ensures

pub returns-in-Unqualified : goal.returns-in-Unqualified
unfolding body line_steps
returns-in-Unqualified g c =
    prints_at tree_of_nested_name c.in-Unqualified.is (prints_node refl c.in-Some.ensures.0
    (meets_block c.prefix_and_name.ensures c.behind_member.ensures))

pub returns-in-Template : goal.returns-in-Template
unfolding body line_steps
returns-in-Template g c =
    prints_at tree_of_nested_name c.in-Template.is (prints_node refl c.in-Some.ensures.0
    (meets_block c.template_path.ensures c.behind_member-in-Template.ensures))

pub returns-in-UnqualifiedExplicitObject : goal.returns-in-UnqualifiedExplicitObject
unfolding body line_steps
returns-in-UnqualifiedExplicitObject g c =
    prints_at tree_of_nested_name c.in-UnqualifiedExplicitObject.is (prints_node refl c.in-Some.ensures.0
    (meets_block c.prefix_and_name-in-UnqualifiedExplicitObject.ensures c.behind_object.ensures))

pub returns-in-TemplateExplicitObject : goal.returns-in-TemplateExplicitObject
unfolding body line_steps
returns-in-TemplateExplicitObject g c =
    prints_at tree_of_nested_name c.in-TemplateExplicitObject.is (prints_node refl c.in-Some.ensures.0
    (meets_block c.template_path-in-TemplateExplicitObject.ensures
    c.behind_object-in-TemplateExplicitObject.ensures))
