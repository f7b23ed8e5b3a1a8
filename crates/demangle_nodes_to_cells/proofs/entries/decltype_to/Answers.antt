use Rattle.std.proofs.Common.{ap, sym}
use Rattle.demangle_entries.specs.TreeEntries.{tree_of_decltype}
use Rattle.demangle_leaves_to_cells.proofs.Puts.{told}
use Rattle.demangle_nodes.specs.TreeNodes.{tree_of_expression}
use Rattle.demangle_nodes_to_cells.proofs.entries.decltype_to.Goals as goal

pub returns-in-IdExpression : goal.returns-in-IdExpression
returns-in-IdExpression c = told _ _ _ _ _ (sym (ap tree_of_decltype c.in-IdExpression.is)) (c.one.ensures _ _ (told _ _
    _ _ _ (ap tree_of_expression c.deref.ensures) c.expression_to-first.ensures))

pub returns-in-Expression : goal.returns-in-Expression
returns-in-Expression c = told _ _ _ _ _ (sym (ap tree_of_decltype c.in-Expression.is)) (c.one-in-Expression.ensures _ _
    (told _ _ _ _ _ (ap tree_of_expression c.deref-in-Expression.ensures) c.expression_to-first-in-Expression.ensures))
