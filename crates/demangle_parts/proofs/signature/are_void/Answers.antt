use Rattle.std.proofs.Common.{◌∙◌, arith}
use Rattle.demangle_vocab.specs.declared.component.WellKnownComponent.TheVariants as of_component
use Rattle.demangle_leaf_nodes.specs.declared.leaves.TypeHandle.TheVariants as of_handle
use Rattle.demangle_parts.proofs.SignatureLaws.{no-void-alone, void-alone}
use Rattle.demangle_parts.proofs.signature.are_void.Goals as goal

pub returns-in-len1 : goal.returns-in-len1
returns-in-len1 c =
    c.is_void.ensures
    ∙ void-alone c.args.types.now (of_handle.WellKnown of_component.Std)
    (omega (arith, c.in-len1.len_at_least, c.in-len1.len_below))

pub returns-in_default : goal.returns-in_default
returns-in_default c = no-void-alone c.args.types.now (λ e. omega (arith, e))
