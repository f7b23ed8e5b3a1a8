use Rattle.std.proofs.Common.{ap, sym}
use Rattle.demangle_entries.specs.TreeEntries.{tree_of_class_enum_type}
use Rattle.demangle_leaves_to_cells.proofs.Puts.{told}
use Rattle.demangle_nodes.specs.TreeNodes.{tree_of_name}
use Rattle.demangle_nodes_to_cells.proofs.entries.class_enum_type_to.Goals as goal

pub returns-in-Named : goal.returns-in-Named
returns-in-Named c = told _ _ _ _ _ (sym (ap tree_of_class_enum_type c.in-Named.is)) (c.one.ensures _ _ (told _ _ _ _ _
    (ap tree_of_name c.deref.ensures) c.name_to-first.ensures))

pub returns-in-ElaboratedStruct : goal.returns-in-ElaboratedStruct
returns-in-ElaboratedStruct c = told _ _ _ _ _ (sym (ap tree_of_class_enum_type c.in-ElaboratedStruct.is))
    (c.one-in-ElaboratedStruct.ensures _ _ (told _ _ _ _ _ (ap tree_of_name c.deref-in-ElaboratedStruct.ensures)
    c.name_to-first-in-ElaboratedStruct.ensures))

pub returns-in-ElaboratedUnion : goal.returns-in-ElaboratedUnion
returns-in-ElaboratedUnion c = told _ _ _ _ _ (sym (ap tree_of_class_enum_type c.in-ElaboratedUnion.is))
    (c.one-in-ElaboratedUnion.ensures _ _ (told _ _ _ _ _ (ap tree_of_name c.deref-in-ElaboratedUnion.ensures)
    c.name_to-first-in-ElaboratedUnion.ensures))

pub returns-in-ElaboratedEnum : goal.returns-in-ElaboratedEnum
returns-in-ElaboratedEnum c = told _ _ _ _ _ (sym (ap tree_of_class_enum_type c.in-ElaboratedEnum.is))
    (c.one-in-ElaboratedEnum.ensures _ _ (told _ _ _ _ _ (ap tree_of_name c.deref-in-ElaboratedEnum.ensures)
    c.name_to-first-in-ElaboratedEnum.ensures))
