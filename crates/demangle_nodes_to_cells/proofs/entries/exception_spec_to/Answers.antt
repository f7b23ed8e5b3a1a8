use Rattle.std.proofs.Common.{ap, sym}
use Rattle.demangle_entries.specs.TreeEntries.{tree_of_exception_spec}
use Rattle.demangle_leaves_to_cells.proofs.Puts.{told}
use Rattle.demangle_nodes.specs.TreeNodes.{tree_of_expression}
use Rattle.demangle_nodes_to_cells.proofs.entries.exception_spec_to.Goals as goal

pub returns-in-NoExcept : goal.returns-in-NoExcept
returns-in-NoExcept c = told _ _ _ _ _ (sym (ap tree_of_exception_spec c.in-NoExcept.is)) (c.empty.ensures)

pub returns-in-Computed : goal.returns-in-Computed
returns-in-Computed c = told _ _ _ _ _ (sym (ap tree_of_exception_spec c.in-Computed.is)) (c.one.ensures _ _ (told _ _ _
    _ _ (ap tree_of_expression c.deref.ensures) c.expression_to-first.ensures))
