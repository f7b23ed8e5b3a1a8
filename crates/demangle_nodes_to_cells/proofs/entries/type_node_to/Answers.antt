use Rattle.std.proofs.Common.{ap, sym}
use Rattle.demangle_entries.specs.TreeEntries.{tree_of_type_node}
use Rattle.demangle_leaves_to_cells.proofs.Puts.{told}
use Rattle.demangle_nodes_to_cells.proofs.entries.type_node_to.Goals as goal

pub returns-in-Function : goal.returns-in-Function
returns-in-Function c = told _ _ _ _ _ (sym (ap tree_of_type_node c.in-Function.is)) (c.one.ensures _ _
    c.function_type_to-first.ensures)

pub returns-in-ClassEnum : goal.returns-in-ClassEnum
returns-in-ClassEnum c = told _ _ _ _ _ (sym (ap tree_of_type_node c.in-ClassEnum.is)) (c.one-in-ClassEnum.ensures _ _
    c.class_enum_type_to-first.ensures)

pub returns-in-Array : goal.returns-in-Array
returns-in-Array c = told _ _ _ _ _ (sym (ap tree_of_type_node c.in-Array.is)) (c.one-in-Array.ensures _ _
    c.array_type_to-first.ensures)

pub returns-in-Vector : goal.returns-in-Vector
returns-in-Vector c = told _ _ _ _ _ (sym (ap tree_of_type_node c.in-Vector.is)) (c.one-in-Vector.ensures _ _
    c.vector_type_to-first.ensures)

pub returns-in-PointerToMember : goal.returns-in-PointerToMember
returns-in-PointerToMember c = told _ _ _ _ _ (sym (ap tree_of_type_node c.in-PointerToMember.is))
    (c.one-in-PointerToMember.ensures _ _ c.pointer_to_member_type_to-first.ensures)

pub returns-in-TemplateParam : goal.returns-in-TemplateParam
returns-in-TemplateParam c = told _ _ _ _ _ (sym (ap tree_of_type_node c.in-TemplateParam.is))
    (c.one-in-TemplateParam.ensures _ _ c.template_param_to-first.ensures)

pub returns-in-TemplateTemplate : goal.returns-in-TemplateTemplate
returns-in-TemplateTemplate c = told _ _ _ _ _ (sym (ap tree_of_type_node c.in-TemplateTemplate.is)) (c.two.ensures _ _
    _ _ c.template_template_param_handle_to-first.ensures c.template_args_to-second.ensures)

pub returns-in-Decltype : goal.returns-in-Decltype
returns-in-Decltype c = told _ _ _ _ _ (sym (ap tree_of_type_node c.in-Decltype.is)) (c.one-in-Decltype.ensures _ _
    c.decltype_to-first.ensures)

pub returns-in-Qualified : goal.returns-in-Qualified
returns-in-Qualified c = told _ _ _ _ _ (sym (ap tree_of_type_node c.in-Qualified.is)) (c.two-in-Qualified.ensures _ _ _
    _ c.cv_qualifiers_to-first.ensures c.type_handle_to-second.ensures)

pub returns-in-VendorExtension : goal.returns-in-VendorExtension
returns-in-VendorExtension c = told _ _ _ _ _ (sym (ap tree_of_type_node c.in-VendorExtension.is)) (c.three.ensures _ _
    _ _ _ _ c.source_name_to-first.ensures c.optional_template_args_to-second.ensures c.type_handle_to-third.ensures)

pub returns-in-PointerTo : goal.returns-in-PointerTo
returns-in-PointerTo c = told _ _ _ _ _ (sym (ap tree_of_type_node c.in-PointerTo.is)) (c.one-in-PointerTo.ensures _ _
    c.type_handle_to-first.ensures)

pub returns-in-LvalueRef : goal.returns-in-LvalueRef
returns-in-LvalueRef c = told _ _ _ _ _ (sym (ap tree_of_type_node c.in-LvalueRef.is)) (c.one-in-LvalueRef.ensures _ _
    c.type_handle_to-first-in-LvalueRef.ensures)

pub returns-in-RvalueRef : goal.returns-in-RvalueRef
returns-in-RvalueRef c = told _ _ _ _ _ (sym (ap tree_of_type_node c.in-RvalueRef.is)) (c.one-in-RvalueRef.ensures _ _
    c.type_handle_to-first-in-RvalueRef.ensures)

pub returns-in-Complex : goal.returns-in-Complex
returns-in-Complex c = told _ _ _ _ _ (sym (ap tree_of_type_node c.in-Complex.is)) (c.one-in-Complex.ensures _ _
    c.type_handle_to-first-in-Complex.ensures)

pub returns-in-Imaginary : goal.returns-in-Imaginary
returns-in-Imaginary c = told _ _ _ _ _ (sym (ap tree_of_type_node c.in-Imaginary.is)) (c.one-in-Imaginary.ensures _ _
    c.type_handle_to-first-in-Imaginary.ensures)

pub returns-in-PackExpansion : goal.returns-in-PackExpansion
returns-in-PackExpansion c = told _ _ _ _ _ (sym (ap tree_of_type_node c.in-PackExpansion.is))
    (c.one-in-PackExpansion.ensures _ _ c.type_handle_to-first-in-PackExpansion.ensures)
