use Rattle.std.proofs.Common.{ap, sym}
use Rattle.demangle_leaf_nodes.specs.TreeLeaves.{tree_of_builtin_type}
use Rattle.demangle_leaves_to_cells.proofs.Puts.{told}
use Rattle.demangle_leaves_to_cells.proofs.leaves.builtin_type_to.Goals as goal

pub returns-in-Standard : goal.returns-in-Standard
returns-in-Standard c = told _ _ _ _ _ (sym (ap tree_of_builtin_type c.in-Standard.is)) (c.one.ensures _ _
    c.standard_builtin_type_to-first.ensures)

pub returns-in-Parametric : goal.returns-in-Parametric
returns-in-Parametric c = told _ _ _ _ _ (sym (ap tree_of_builtin_type c.in-Parametric.is)) (c.one-in-Parametric.ensures
    _ _ c.parametric_builtin_type_to-first.ensures)

pub returns-in-Extension : goal.returns-in-Extension
returns-in-Extension c = told _ _ _ _ _ (sym (ap tree_of_builtin_type c.in-Extension.is)) (c.one-in-Extension.ensures _
    _ c.source_name_to-first.ensures)
