use Rattle.std.proofs.Common.{ap, sym}
use Rattle.demangle_entries.specs.TreeEntries.{tree_of_exception_spec}
use Rattle.demangle_leaf_nodes.specs.TreeLeaves.{tree_of_option}
use Rattle.demangle_leaves_to_cells.proofs.Puts.{told}
use Rattle.demangle_nodes_to_cells.proofs.entries.optional_exception_spec_to.Goals as goal

pub returns-in-Some : goal.returns-in-Some
returns-in-Some c = told _ _ _ _ _ (sym (ap (tree_of_option tree_of_exception_spec) c.in-Some.is)) (c.one.ensures _ _
    c.exception_spec_to-part.ensures)
