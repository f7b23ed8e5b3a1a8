use Rattle.std.proofs.Common.{ap, sym}
use Rattle.demangle_leaf_nodes.specs.TreeLeaves.{tree_of_operator_name}
use Rattle.demangle_leaves_to_cells.proofs.Puts.{told}
use Rattle.demangle_leaves_to_cells.proofs.leaves.operator_name_to.Goals as goal

pub returns-in-Simple : goal.returns-in-Simple
returns-in-Simple c = told _ _ _ _ _ (sym (ap tree_of_operator_name c.in-Simple.is)) (c.one.ensures _ _
    c.simple_operator_name_to-first.ensures)

pub returns-in-Cast : goal.returns-in-Cast
returns-in-Cast c = told _ _ _ _ _ (sym (ap tree_of_operator_name c.in-Cast.is)) (c.one-in-Cast.ensures _ _
    c.type_handle_to-first.ensures)

pub returns-in-Conversion : goal.returns-in-Conversion
returns-in-Conversion c = told _ _ _ _ _ (sym (ap tree_of_operator_name c.in-Conversion.is))
    (c.one-in-Conversion.ensures _ _ c.type_handle_to-first-in-Conversion.ensures)

pub returns-in-Literal : goal.returns-in-Literal
returns-in-Literal c = told _ _ _ _ _ (sym (ap tree_of_operator_name c.in-Literal.is)) (c.one-in-Literal.ensures _ _
    c.source_name_to-first.ensures)

pub returns-in-VendorExtension : goal.returns-in-VendorExtension
returns-in-VendorExtension c = told _ _ _ _ _ (sym (ap tree_of_operator_name c.in-VendorExtension.is)) (c.two.ensures _
    _ _ _ c.number_to-first.ensures c.source_name_to-second.ensures)
