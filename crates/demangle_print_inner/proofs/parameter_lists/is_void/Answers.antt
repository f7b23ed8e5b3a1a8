use Rattle.std.proofs.Common.{◌∙◌, arith}
use Rattle.demangle_vocab.specs.declared.component.WellKnownComponent.TheVariants as of_component
use Rattle.demangle_leaf_nodes.specs.declared.leaves.TypeHandle.TheVariants as of_handle
use Rattle.demangle_print_inner.proofs.Voids.{no_void_alone, void_alone}
use Rattle.demangle_print_inner.proofs.parameter_lists.is_void.Goals as goal

pub returns-in-len1 : goal.returns-in-len1
returns-in-len1 g c =
    c.is_void_type.ensures
    ∙ void_alone (g.B.Below.at c.args.below).refers c.args.types.now (of_handle.WellKnown of_component.Std)
    (omega (arith, c.in-len1.len_at_least, c.in-len1.len_below))

pub returns-in_default : goal.returns-in_default
returns-in_default g c = no_void_alone (g.B.Below.at c.args.below).refers c.args.types.now (λ e. omega (arith, e))
