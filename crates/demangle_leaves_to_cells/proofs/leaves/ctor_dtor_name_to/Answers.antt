use Rattle.std.proofs.Common.{ap, sym}
use Rattle.demangle_leaf_nodes.specs.TreeLeaves.{tree_of_ctor_dtor_name}
use Rattle.demangle_leaves_to_cells.proofs.Puts.{told}
use Rattle.demangle_leaves_to_cells.proofs.leaves.ctor_dtor_name_to.Goals as goal

pub returns-in-CompleteConstructor : goal.returns-in-CompleteConstructor
returns-in-CompleteConstructor c = told _ _ _ _ _ (sym (ap tree_of_ctor_dtor_name c.in-CompleteConstructor.is))
    (c.one.ensures _ _ c.optional_type_handle_to-first.ensures)

pub returns-in-BaseConstructor : goal.returns-in-BaseConstructor
returns-in-BaseConstructor c = told _ _ _ _ _ (sym (ap tree_of_ctor_dtor_name c.in-BaseConstructor.is))
    (c.one-in-BaseConstructor.ensures _ _ c.optional_type_handle_to-first-in-BaseConstructor.ensures)

pub returns-in-CompleteAllocatingConstructor : goal.returns-in-CompleteAllocatingConstructor
returns-in-CompleteAllocatingConstructor c = told _ _ _ _ _ (sym (ap tree_of_ctor_dtor_name
    c.in-CompleteAllocatingConstructor.is)) (c.one-in-CompleteAllocatingConstructor.ensures _ _
    c.optional_type_handle_to-first-in-CompleteAllocatingConstructor.ensures)

pub returns-in-MaybeInChargeConstructor : goal.returns-in-MaybeInChargeConstructor
returns-in-MaybeInChargeConstructor c = told _ _ _ _ _ (sym (ap tree_of_ctor_dtor_name
    c.in-MaybeInChargeConstructor.is)) (c.one-in-MaybeInChargeConstructor.ensures _ _
    c.optional_type_handle_to-first-in-MaybeInChargeConstructor.ensures)

pub returns-in-DeletingDestructor : goal.returns-in-DeletingDestructor
returns-in-DeletingDestructor c = told _ _ _ _ _ (sym (ap tree_of_ctor_dtor_name c.in-DeletingDestructor.is))
    (c.empty.ensures)

pub returns-in-CompleteDestructor : goal.returns-in-CompleteDestructor
returns-in-CompleteDestructor c = told _ _ _ _ _ (sym (ap tree_of_ctor_dtor_name c.in-CompleteDestructor.is))
    (c.empty-in-CompleteDestructor.ensures)

pub returns-in-BaseDestructor : goal.returns-in-BaseDestructor
returns-in-BaseDestructor c = told _ _ _ _ _ (sym (ap tree_of_ctor_dtor_name c.in-BaseDestructor.is))
    (c.empty-in-BaseDestructor.ensures)

pub returns-in-MaybeInChargeDestructor : goal.returns-in-MaybeInChargeDestructor
returns-in-MaybeInChargeDestructor c = told _ _ _ _ _ (sym (ap tree_of_ctor_dtor_name c.in-MaybeInChargeDestructor.is))
    (c.empty-in-MaybeInChargeDestructor.ensures)
