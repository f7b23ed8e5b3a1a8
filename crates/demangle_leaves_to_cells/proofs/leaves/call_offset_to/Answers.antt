use Rattle.std.proofs.Common.{ap, sym}
use Rattle.demangle_leaf_nodes.specs.TreeLeaves.{tree_of_call_offset}
use Rattle.demangle_leaves_to_cells.proofs.Puts.{told}
use Rattle.demangle_leaves_to_cells.proofs.leaves.call_offset_to.Goals as goal

pub returns-in-NonVirtual : goal.returns-in-NonVirtual
returns-in-NonVirtual c = told _ _ _ _ _ (sym (ap tree_of_call_offset c.in-NonVirtual.is)) (c.one.ensures _ _
    c.nv_offset_to-first.ensures)

pub returns-in-Virtual : goal.returns-in-Virtual
returns-in-Virtual c = told _ _ _ _ _ (sym (ap tree_of_call_offset c.in-Virtual.is)) (c.one-in-Virtual.ensures _ _
    c.v_offset_to-first.ensures)
