use Rattle.std.proofs.Common.{ap, sym}
use Rattle.demangle_leaf_nodes.specs.TreeLeaves.{tree_of_unresolved_type_handle}
use Rattle.demangle_leaves_to_cells.proofs.Puts.{told}
use Rattle.demangle_leaves_to_cells.proofs.leaves.unresolved_type_handle_to.Goals as goal

pub returns-in-WellKnown : goal.returns-in-WellKnown
returns-in-WellKnown c = told _ _ _ _ _ (sym (ap tree_of_unresolved_type_handle c.in-WellKnown.is)) (c.one.ensures _ _
    c.well_known_component_to-first.ensures)

pub returns-in-BackReference : goal.returns-in-BackReference
returns-in-BackReference c = told _ _ _ _ _ (sym (ap tree_of_unresolved_type_handle c.in-BackReference.is))
    (c.reference_to.ensures)
