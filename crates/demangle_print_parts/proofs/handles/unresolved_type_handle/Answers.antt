use Rattle.std.proofs.Common.{refl}
use Rattle.demangle_leaf_nodes.specs.TreeLeaves.{tree_of_unresolved_type_handle}
use Rattle.demangle_meets.proofs.Parts.{prints_at, prints_same}
use Rattle.demangle_print_parts.proofs.handles.unresolved_type_handle.Goals as goal

pub returns-in-WellKnown : goal.returns-in-WellKnown
returns-in-WellKnown g c =
    prints_at tree_of_unresolved_type_handle c.in-WellKnown.is (prints_same refl (c.well_known_component.ensures _))

pub returns-in-BackReference : goal.returns-in-BackReference
returns-in-BackReference g c =
    prints_at tree_of_unresolved_type_handle c.in-BackReference.is c.back_reference.ensures
