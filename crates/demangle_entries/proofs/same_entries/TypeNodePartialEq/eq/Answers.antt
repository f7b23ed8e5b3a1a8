use Rattle.std.proofs.Common.{refl, ◌∙◌}
use Rattle.demangle_leaf_nodes.proofs.Same.{option_of_trees}
use Rattle.demangle_nodes.specs.TreeNodes.{tree_of_template_args}
use Rattle.demangle_nodes.proofs.Equal.{last_leaf, and_then_leaf, differs_leaf}
use Rattle.demangle_entries.specs.TreeEntries.{tag_of_type_node, parts_of_type_node}
use Rattle.demangle_entries.proofs.Trees.{same_tree}
use Rattle.demangle_entries.proofs.same_entries.TypeNodePartialEq.eq.Goals as goal

pub returns-in-Function-other : goal.returns-in-Function-other
returns-in-Function-other c =
    same_tree tag_of_type_node parts_of_type_node c.in-Function.is c.in-Function-other.is refl refl refl
    (last_leaf c.eq.ensures)

pub returns-in-ClassEnum-other : goal.returns-in-ClassEnum-other
returns-in-ClassEnum-other c =
    same_tree tag_of_type_node parts_of_type_node c.in-ClassEnum.is c.in-ClassEnum-other.is refl refl refl
    (last_leaf c.eq-in-ClassEnum-other.ensures)

pub returns-in-Array-other : goal.returns-in-Array-other
returns-in-Array-other c =
    same_tree tag_of_type_node parts_of_type_node c.in-Array.is c.in-Array-other.is refl refl refl
    (last_leaf c.eq-in-Array-other.ensures)

pub returns-in-Vector-other : goal.returns-in-Vector-other
returns-in-Vector-other c =
    same_tree tag_of_type_node parts_of_type_node c.in-Vector.is c.in-Vector-other.is refl refl refl
    (last_leaf c.eq-in-Vector-other.ensures)

pub returns-in-PointerToMember-other : goal.returns-in-PointerToMember-other
returns-in-PointerToMember-other c =
    same_tree tag_of_type_node parts_of_type_node c.in-PointerToMember.is c.in-PointerToMember-other.is refl refl refl
    (last_leaf c.eq-in-PointerToMember-other.ensures)

pub returns-in-TemplateParam-other : goal.returns-in-TemplateParam-other
returns-in-TemplateParam-other c =
    same_tree tag_of_type_node parts_of_type_node c.in-TemplateParam.is c.in-TemplateParam-other.is refl refl refl
    (last_leaf c.eq-in-TemplateParam-other.ensures)

pub returns-then-eq : goal.returns-then-eq
returns-then-eq c =
    same_tree tag_of_type_node parts_of_type_node c.in-TemplateTemplate.is c.in-TemplateTemplate-other.is refl refl refl
    (and_then_leaf c.if-eq.ensures (last_leaf c.eq-then-eq.ensures))

pub returns-else-eq : goal.returns-else-eq
returns-else-eq c =
    same_tree tag_of_type_node parts_of_type_node c.in-TemplateTemplate.is c.in-TemplateTemplate-other.is refl refl refl
    (differs_leaf c.if-eq.false c.if-eq.ensures)

pub returns-in-Decltype-other : goal.returns-in-Decltype-other
returns-in-Decltype-other c =
    same_tree tag_of_type_node parts_of_type_node c.in-Decltype.is c.in-Decltype-other.is refl refl refl
    (last_leaf c.eq-in-Decltype-other.ensures)

pub returns-then-eq-2 : goal.returns-then-eq-2
returns-then-eq-2 c =
    same_tree tag_of_type_node parts_of_type_node c.in-Qualified.is c.in-Qualified-other.is refl refl refl
    (and_then_leaf c.if-eq-2.ensures (last_leaf c.eq-then-eq-2.ensures))

pub returns-else-eq-2 : goal.returns-else-eq-2
returns-else-eq-2 c =
    same_tree tag_of_type_node parts_of_type_node c.in-Qualified.is c.in-Qualified-other.is refl refl refl
    (differs_leaf c.if-eq-2.false c.if-eq-2.ensures)

pub returns-then-eq-4 : goal.returns-then-eq-4
returns-then-eq-4 c =
    same_tree tag_of_type_node parts_of_type_node c.in-VendorExtension.is c.in-VendorExtension-other.is refl refl refl
    (and_then_leaf c.if-eq-3.ensures (and_then_leaf (c.if-eq-4.ensures
    ∙ option_of_trees tree_of_template_args c.in-VendorExtension.b c.in-VendorExtension-other.other_b)
    (last_leaf c.eq-then-eq-4.ensures)))

pub returns-else-eq-4 : goal.returns-else-eq-4
returns-else-eq-4 c =
    same_tree tag_of_type_node parts_of_type_node c.in-VendorExtension.is c.in-VendorExtension-other.is refl refl refl
    (and_then_leaf c.if-eq-3.ensures (differs_leaf c.if-eq-4.false
    (c.if-eq-4.ensures
    ∙ option_of_trees tree_of_template_args c.in-VendorExtension.b c.in-VendorExtension-other.other_b)))

pub returns-else-eq-3 : goal.returns-else-eq-3
returns-else-eq-3 c =
    same_tree tag_of_type_node parts_of_type_node c.in-VendorExtension.is c.in-VendorExtension-other.is refl refl refl
    (differs_leaf c.if-eq-3.false c.if-eq-3.ensures)

pub returns-in-PointerTo-other : goal.returns-in-PointerTo-other
returns-in-PointerTo-other c =
    same_tree tag_of_type_node parts_of_type_node c.in-PointerTo.is c.in-PointerTo-other.is refl refl refl
    (last_leaf c.eq-in-PointerTo-other.ensures)

pub returns-in-LvalueRef-other : goal.returns-in-LvalueRef-other
returns-in-LvalueRef-other c =
    same_tree tag_of_type_node parts_of_type_node c.in-LvalueRef.is c.in-LvalueRef-other.is refl refl refl
    (last_leaf c.eq-in-LvalueRef-other.ensures)

pub returns-in-RvalueRef-other : goal.returns-in-RvalueRef-other
returns-in-RvalueRef-other c =
    same_tree tag_of_type_node parts_of_type_node c.in-RvalueRef.is c.in-RvalueRef-other.is refl refl refl
    (last_leaf c.eq-in-RvalueRef-other.ensures)

pub returns-in-Complex-other : goal.returns-in-Complex-other
returns-in-Complex-other c =
    same_tree tag_of_type_node parts_of_type_node c.in-Complex.is c.in-Complex-other.is refl refl refl
    (last_leaf c.eq-in-Complex-other.ensures)

pub returns-in-Imaginary-other : goal.returns-in-Imaginary-other
returns-in-Imaginary-other c =
    same_tree tag_of_type_node parts_of_type_node c.in-Imaginary.is c.in-Imaginary-other.is refl refl refl
    (last_leaf c.eq-in-Imaginary-other.ensures)

pub returns-in-PackExpansion-other : goal.returns-in-PackExpansion-other
returns-in-PackExpansion-other c =
    same_tree tag_of_type_node parts_of_type_node c.in-PackExpansion.is c.in-PackExpansion-other.is refl refl refl
    (last_leaf c.eq-in-PackExpansion-other.ensures)
