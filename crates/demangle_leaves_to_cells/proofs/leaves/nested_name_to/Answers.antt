use Rattle.std.proofs.Common.{ap, sym}
use Rattle.demangle_leaf_nodes.specs.TreeLeaves.{tree_of_nested_name}
use Rattle.demangle_leaves_to_cells.proofs.Puts.{none_waits, told}
use Rattle.demangle_leaves_to_cells.proofs.leaves.nested_name_to.Goals as goal

pub returns-in-Unqualified : goal.returns-in-Unqualified
returns-in-Unqualified c = told _ _ _ _ _ (sym (ap tree_of_nested_name c.in-Unqualified.is)) (c.gather.ensures _ _
    c.waiting-from.ensures (c.wait-until_fourth.ensures _ _ _ _ (c.wait-until_third.ensures _ _ _ _
    (c.wait-until_second.ensures _ _ _ _ (c.wait-until_first.ensures _ _ _ _ (none_waits _)
    c.cv_qualifiers_to-first.ensures) c.optional_ref_qualifier_to-second.ensures)
    c.optional_prefix_handle_to-third.ensures) c.unqualified_name_to-fourth.ensures))

pub returns-in-Template : goal.returns-in-Template
returns-in-Template c = told _ _ _ _ _ (sym (ap tree_of_nested_name c.in-Template.is)) (c.three.ensures _ _ _ _ _ _
    c.cv_qualifiers_to-first-in-Template.ensures c.optional_ref_qualifier_to-second-in-Template.ensures
    c.prefix_handle_to-third.ensures)

pub returns-in-UnqualifiedExplicitObject : goal.returns-in-UnqualifiedExplicitObject
returns-in-UnqualifiedExplicitObject c = told _ _ _ _ _ (sym (ap tree_of_nested_name c.in-UnqualifiedExplicitObject.is))
    (c.three-in-UnqualifiedExplicitObject.ensures _ _ _ _ _ _ c.optional_prefix_handle_to-first.ensures
    c.unqualified_name_to-second.ensures c.explicit_object_parameter_to-third.ensures)

pub returns-in-TemplateExplicitObject : goal.returns-in-TemplateExplicitObject
returns-in-TemplateExplicitObject c = told _ _ _ _ _ (sym (ap tree_of_nested_name c.in-TemplateExplicitObject.is))
    (c.two.ensures _ _ _ _ c.prefix_handle_to-first.ensures c.explicit_object_parameter_to-second.ensures)
