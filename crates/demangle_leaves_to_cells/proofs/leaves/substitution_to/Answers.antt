use Rattle.std.proofs.Common.{ap, sym}
use Rattle.demangle_leaf_nodes.specs.TreeLeaves.{tree_of_substitution}
use Rattle.demangle_leaves_to_cells.proofs.Puts.{told}
use Rattle.demangle_leaves_to_cells.proofs.leaves.substitution_to.Goals as goal

pub returns-in-BackReference : goal.returns-in-BackReference
returns-in-BackReference c = told _ _ _ _ _ (sym (ap tree_of_substitution c.in-BackReference.is))
    (c.reference_to.ensures)

pub returns-in-WellKnown : goal.returns-in-WellKnown
returns-in-WellKnown c = told _ _ _ _ _ (sym (ap tree_of_substitution c.in-WellKnown.is)) (c.one.ensures _ _
    c.well_known_component_to-first.ensures)
