use Rattle.std.proofs.Common.{ap, sym}
use Rattle.demangle_leaf_nodes.specs.TreeLeaves.{tree_of_type_handle}
use Rattle.demangle_leaves_to_cells.proofs.Puts.{told}
use Rattle.demangle_leaves_to_cells.proofs.leaves.type_handle_to.Goals as goal

pub returns-in-WellKnown : goal.returns-in-WellKnown
returns-in-WellKnown c = told _ _ _ _ _ (sym (ap tree_of_type_handle c.in-WellKnown.is)) (c.one.ensures _ _
    c.well_known_component_to-first.ensures)

pub returns-in-BackReference : goal.returns-in-BackReference
returns-in-BackReference c = told _ _ _ _ _ (sym (ap tree_of_type_handle c.in-BackReference.is))
    (c.reference_to.ensures)

pub returns-in-Builtin : goal.returns-in-Builtin
returns-in-Builtin c = told _ _ _ _ _ (sym (ap tree_of_type_handle c.in-Builtin.is)) (c.one-in-Builtin.ensures _ _
    c.builtin_type_to-first.ensures)

pub returns-in-QualifiedBuiltin : goal.returns-in-QualifiedBuiltin
returns-in-QualifiedBuiltin c = told _ _ _ _ _ (sym (ap tree_of_type_handle c.in-QualifiedBuiltin.is))
    (c.one-in-QualifiedBuiltin.ensures _ _ c.qualified_builtin_to-first.ensures)
