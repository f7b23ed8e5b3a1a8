use Rattle.std.proofs.Common.{None, refl}
use Rattle.demangle_leaf_nodes.specs.TreeLeaves.{tree_of_ctor_dtor_name}
use Rattle.demangle_printing.specs.Lines.{line_steps}
use Rattle.demangle_printing.specs.Print.{body}
use Rattle.demangle_meets.proofs.Parts.{prints_at, prints_deep, prints_node}
use Rattle.demangle_print_unqualified.proofs.Itself.{ctor_dtor_is_itself}
use Rattle.demangle_print_unqualified.proofs.leaf_names.ctor_dtor_name.Goals as goal

pub returns-in_default : goal.returns-in_default
returns-in_default g c = prints_deep (ctor_dtor_is_itself _ c.args.node.now) c.in_default.ensures

pub returns-in-CompleteConstructor : goal.returns-in-CompleteConstructor
unfolding body line_steps
returns-in-CompleteConstructor g c =
    prints_at tree_of_ctor_dtor_name c.in-CompleteConstructor.is
    (prints_node refl c.in-Some.ensures.0 c.constructor.ensures)

pub returns-in-BaseConstructor : goal.returns-in-BaseConstructor
unfolding body line_steps
returns-in-BaseConstructor g c =
    prints_at tree_of_ctor_dtor_name c.in-BaseConstructor.is
    (prints_node refl c.in-Some.ensures.0 c.constructor-in-BaseConstructor.ensures)

pub returns-in-CompleteAllocatingConstructor : goal.returns-in-CompleteAllocatingConstructor
unfolding body line_steps
returns-in-CompleteAllocatingConstructor g c =
    prints_at tree_of_ctor_dtor_name c.in-CompleteAllocatingConstructor.is
    (prints_node refl c.in-Some.ensures.0 c.constructor-in-CompleteAllocatingConstructor.ensures)

pub returns-in-MaybeInChargeConstructor : goal.returns-in-MaybeInChargeConstructor
unfolding body line_steps
returns-in-MaybeInChargeConstructor g c =
    prints_at tree_of_ctor_dtor_name c.in-MaybeInChargeConstructor.is
    (prints_node refl c.in-Some.ensures.0 c.constructor-in-MaybeInChargeConstructor.ensures)

pub returns-in-DeletingDestructor : goal.returns-in-DeletingDestructor
unfolding body line_steps
returns-in-DeletingDestructor g c =
    prints_at tree_of_ctor_dtor_name c.in-DeletingDestructor.is (prints_node refl c.in-Some.ensures.0
    (c.destructor.ensures None))

pub returns-in-CompleteDestructor : goal.returns-in-CompleteDestructor
unfolding body line_steps
returns-in-CompleteDestructor g c =
    prints_at tree_of_ctor_dtor_name c.in-CompleteDestructor.is (prints_node refl c.in-Some.ensures.0
    (c.destructor-in-CompleteDestructor.ensures None))

pub returns-in-BaseDestructor : goal.returns-in-BaseDestructor
unfolding body line_steps
returns-in-BaseDestructor g c =
    prints_at tree_of_ctor_dtor_name c.in-BaseDestructor.is (prints_node refl c.in-Some.ensures.0
    (c.destructor-in-BaseDestructor.ensures None))

pub returns-in-MaybeInChargeDestructor : goal.returns-in-MaybeInChargeDestructor
unfolding body line_steps
returns-in-MaybeInChargeDestructor g c =
    prints_at tree_of_ctor_dtor_name c.in-MaybeInChargeDestructor.is (prints_node refl c.in-Some.ensures.0
    (c.destructor-in-MaybeInChargeDestructor.ensures None))
