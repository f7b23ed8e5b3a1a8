use Rattle.std.proofs.Common.{ap, sym}
use Rattle.demangle_entries.specs.TreeEntries.{tree_of_array_type}
use Rattle.demangle_leaves_to_cells.proofs.Puts.{told}
use Rattle.demangle_nodes.specs.TreeNodes.{tree_of_expression}
use Rattle.demangle_nodes_to_cells.proofs.entries.array_type_to.Goals as goal

pub returns-in-DimensionNumber : goal.returns-in-DimensionNumber
returns-in-DimensionNumber c = told _ _ _ _ _ (sym (ap tree_of_array_type c.in-DimensionNumber.is)) (c.two.ensures _ _ _
    _ c.number_to-first.ensures c.type_handle_to-second.ensures)

pub returns-in-DimensionExpression : goal.returns-in-DimensionExpression
returns-in-DimensionExpression c = told _ _ _ _ _ (sym (ap tree_of_array_type c.in-DimensionExpression.is))
    (c.two-in-DimensionExpression.ensures _ _ _ _ (told _ _ _ _ _ (ap tree_of_expression c.deref.ensures)
    c.expression_to-first.ensures) c.type_handle_to-second-in-DimensionExpression.ensures)

pub returns-in-NoDimension : goal.returns-in-NoDimension
returns-in-NoDimension c = told _ _ _ _ _ (sym (ap tree_of_array_type c.in-NoDimension.is)) (c.one.ensures _ _
    c.type_handle_to-first.ensures)
