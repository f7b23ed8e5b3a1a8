use Rattle.std.proofs.Common.{ap, sym}
use Rattle.demangle_leaf_nodes.specs.TreeLeaves.{tree_of_unqualified_name}
use Rattle.demangle_leaves_to_cells.proofs.Puts.{told}
use Rattle.demangle_leaves_to_cells.proofs.leaves.unqualified_name_to.Goals as goal

pub returns-in-Operator : goal.returns-in-Operator
returns-in-Operator c = told _ _ _ _ _ (sym (ap tree_of_unqualified_name c.in-Operator.is)) (c.two.ensures _ _ _ _
    c.operator_name_to-first.ensures c.abi_tags_to-second.ensures)

pub returns-in-CtorDtor : goal.returns-in-CtorDtor
returns-in-CtorDtor c = told _ _ _ _ _ (sym (ap tree_of_unqualified_name c.in-CtorDtor.is)) (c.two-in-CtorDtor.ensures _
    _ _ _ c.ctor_dtor_name_to-first.ensures c.abi_tags_to-second-in-CtorDtor.ensures)

pub returns-in-Source : goal.returns-in-Source
returns-in-Source c = told _ _ _ _ _ (sym (ap tree_of_unqualified_name c.in-Source.is)) (c.two-in-Source.ensures _ _ _ _
    c.source_name_to-first.ensures c.abi_tags_to-second-in-Source.ensures)

pub returns-in-LocalSourceName : goal.returns-in-LocalSourceName
returns-in-LocalSourceName c = told _ _ _ _ _ (sym (ap tree_of_unqualified_name c.in-LocalSourceName.is))
    (c.three.ensures _ _ _ _ _ _ c.source_name_to-first-in-LocalSourceName.ensures
    c.optional_discriminator_to-second.ensures c.abi_tags_to-third.ensures)

pub returns-in-UnnamedType : goal.returns-in-UnnamedType
returns-in-UnnamedType c = told _ _ _ _ _ (sym (ap tree_of_unqualified_name c.in-UnnamedType.is))
    (c.two-in-UnnamedType.ensures _ _ _ _ c.unnamed_type_name_to-first.ensures
    c.abi_tags_to-second-in-UnnamedType.ensures)

pub returns-in-ClosureType : goal.returns-in-ClosureType
returns-in-ClosureType c = told _ _ _ _ _ (sym (ap tree_of_unqualified_name c.in-ClosureType.is))
    (c.two-in-ClosureType.ensures _ _ _ _ c.closure_type_name_to-first.ensures
    c.abi_tags_to-second-in-ClosureType.ensures)
