use Rattle.std.proofs.Common.{ap, sym}
use Rattle.demangle_leaf_nodes.specs.TreeLeaves.{tree_of_unscoped_name}
use Rattle.demangle_leaves_to_cells.proofs.Puts.{told}
use Rattle.demangle_leaves_to_cells.proofs.leaves.unscoped_name_to.Goals as goal

pub returns-in-Unqualified : goal.returns-in-Unqualified
returns-in-Unqualified c = told _ _ _ _ _ (sym (ap tree_of_unscoped_name c.in-Unqualified.is)) (c.one.ensures _ _
    c.unqualified_name_to-first.ensures)

pub returns-in-Std : goal.returns-in-Std
returns-in-Std c = told _ _ _ _ _ (sym (ap tree_of_unscoped_name c.in-Std.is)) (c.one-in-Std.ensures _ _
    c.unqualified_name_to-first-in-Std.ensures)
