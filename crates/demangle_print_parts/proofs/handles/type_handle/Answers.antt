use Rattle.std.proofs.Common.{refl, sym}
use Rattle.demangle_leaf_nodes.specs.TreeLeaves.{tree_of_type_handle}
use Rattle.demangle_meets.proofs.Parts.{prints_at, prints_same}
use Rattle.demangle_print_parts.proofs.Itself.{builtin_is_itself}
use Rattle.demangle_print_parts.proofs.handles.type_handle.Goals as goal

pub returns-in-WellKnown : goal.returns-in-WellKnown
returns-in-WellKnown g c =
    prints_at tree_of_type_handle c.in-WellKnown.is (prints_same refl (c.well_known_component.ensures _))

pub returns-in-BackReference : goal.returns-in-BackReference
returns-in-BackReference g c =
    prints_at tree_of_type_handle c.in-BackReference.is c.back_reference.ensures

pub returns-in-Builtin : goal.returns-in-Builtin
returns-in-Builtin g c =
    prints_at tree_of_type_handle c.in-Builtin.is
    (prints_same (sym (builtin_is_itself _ c.in-Builtin.builtin)) c.builtin_type.ensures)

pub returns-in-QualifiedBuiltin : goal.returns-in-QualifiedBuiltin
returns-in-QualifiedBuiltin g c =
    prints_at tree_of_type_handle c.in-QualifiedBuiltin.is (prints_same refl c.qualified_builtin.ensures)
