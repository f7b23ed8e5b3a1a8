use Rattle.std.proofs.Common.{refl, rules}
use Rattle.demangle_leaf_nodes.specs.TreeLeaves.{tree_of_parametric_builtin_type}
use Rattle.demangle_printing.specs.Print.{body}
use Rattle.demangle_printing.specs.Lines.{line_steps}
use Rattle.demangle_meets.proofs.Acts.{meets_done, meets_text}
use Rattle.demangle_meets.proofs.Lines.{meets_said}
use Rattle.demangle_meets.proofs.Parts.{meets_part, prints_at, prints_deep, prints_node}
use Rattle.demangle_print_parts.proofs.Decimals.{numbered}
use Rattle.demangle_print_parts.proofs.Itself.{parametric_is_itself}
use Rattle.demangle_print_parts.proofs.builtin.parametric_builtin_type.Goals as goal

pub returns-in_default : goal.returns-in_default
returns-in_default g c = prints_deep (parametric_is_itself _ c.args.node.now) c.in_default.ensures

pub returns-in-FloatN : goal.returns-in-FloatN
unfolding body line_steps
returns-in-FloatN g c =
    prints_at tree_of_parametric_builtin_type c.in-FloatN.is
    (prints_node refl c.in-Some.ensures.0
    (meets_text c.text.ensures (meets_said (numbered c.in-FloatN.bits (search rules) c.number.ensures)
    meets_done)))

pub returns-in-FloatNx : goal.returns-in-FloatNx
unfolding body line_steps
returns-in-FloatNx g c =
    prints_at tree_of_parametric_builtin_type c.in-FloatNx.is
    (prints_node refl c.in-Some.ensures.0
    (meets_text c.text-in-FloatNx.ensures
    (meets_said (numbered c.in-FloatNx.bits (search rules) c.number-in-FloatNx.ensures)
    (meets_text c.text-in-FloatNx-2.ensures meets_done))))

pub returns-in-SignedBitInt : goal.returns-in-SignedBitInt
unfolding body line_steps
returns-in-SignedBitInt g c =
    prints_at tree_of_parametric_builtin_type c.in-SignedBitInt.is
    (prints_node refl c.in-Some.ensures.0
    (meets_text c.text-in-SignedBitInt.ensures
    (meets_said (numbered c.in-SignedBitInt.bits (search rules) c.number-in-SignedBitInt.ensures)
    (meets_text c.text-in-SignedBitInt-2.ensures meets_done))))

pub returns-in-UnsignedBitInt : goal.returns-in-UnsignedBitInt
unfolding body line_steps
returns-in-UnsignedBitInt g c =
    prints_at tree_of_parametric_builtin_type c.in-UnsignedBitInt.is
    (prints_node refl c.in-Some.ensures.0
    (meets_text c.text-in-UnsignedBitInt.ensures
    (meets_said (numbered c.in-UnsignedBitInt.bits (search rules) c.number-in-UnsignedBitInt.ensures)
    (meets_text c.text-in-UnsignedBitInt-2.ensures meets_done))))

pub returns-in-SignedBitIntExpression : goal.returns-in-SignedBitIntExpression
unfolding body line_steps
returns-in-SignedBitIntExpression g c =
    prints_at tree_of_parametric_builtin_type c.in-SignedBitIntExpression.is
    (prints_node refl c.in-Some.ensures.0
    (meets_text c.text-in-SignedBitIntExpression.ensures (meets_part c.non_substitution.ensures
    (meets_text c.text-in-SignedBitIntExpression-2.ensures meets_done))))

pub returns-in-UnsignedBitIntExpression : goal.returns-in-UnsignedBitIntExpression
unfolding body line_steps
returns-in-UnsignedBitIntExpression g c =
    prints_at tree_of_parametric_builtin_type c.in-UnsignedBitIntExpression.is
    (prints_node refl c.in-Some.ensures.0
    (meets_text c.text-in-UnsignedBitIntExpression.ensures
    (meets_part c.non_substitution-in-UnsignedBitIntExpression.ensures
    (meets_text c.text-in-UnsignedBitIntExpression-2.ensures meets_done))))
