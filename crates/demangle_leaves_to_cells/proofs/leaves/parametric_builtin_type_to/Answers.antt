use Rattle.std.proofs.Common.{ap, sym}
use Rattle.demangle_leaf_nodes.specs.TreeLeaves.{tree_of_parametric_builtin_type}
use Rattle.demangle_leaves_to_cells.proofs.Puts.{told}
use Rattle.demangle_leaves_to_cells.proofs.leaves.parametric_builtin_type_to.Goals as goal

pub returns-in-FloatN : goal.returns-in-FloatN
returns-in-FloatN c = told _ _ _ _ _ (sym (ap tree_of_parametric_builtin_type c.in-FloatN.is)) (c.one.ensures _ _
    c.signed_to-first.ensures)

pub returns-in-FloatNx : goal.returns-in-FloatNx
returns-in-FloatNx c = told _ _ _ _ _ (sym (ap tree_of_parametric_builtin_type c.in-FloatNx.is))
    (c.one-in-FloatNx.ensures _ _ c.signed_to-first-in-FloatNx.ensures)

pub returns-in-SignedBitInt : goal.returns-in-SignedBitInt
returns-in-SignedBitInt c = told _ _ _ _ _ (sym (ap tree_of_parametric_builtin_type c.in-SignedBitInt.is))
    (c.one-in-SignedBitInt.ensures _ _ c.signed_to-first-in-SignedBitInt.ensures)

pub returns-in-UnsignedBitInt : goal.returns-in-UnsignedBitInt
returns-in-UnsignedBitInt c = told _ _ _ _ _ (sym (ap tree_of_parametric_builtin_type c.in-UnsignedBitInt.is))
    (c.one-in-UnsignedBitInt.ensures _ _ c.signed_to-first-in-UnsignedBitInt.ensures)

pub returns-in-SignedBitIntExpression : goal.returns-in-SignedBitIntExpression
returns-in-SignedBitIntExpression c = told _ _ _ _ _ (sym (ap tree_of_parametric_builtin_type
    c.in-SignedBitIntExpression.is)) (c.one-in-SignedBitIntExpression.ensures _ _ c.non_substitution_to-first.ensures)

pub returns-in-UnsignedBitIntExpression : goal.returns-in-UnsignedBitIntExpression
returns-in-UnsignedBitIntExpression c = told _ _ _ _ _ (sym (ap tree_of_parametric_builtin_type
    c.in-UnsignedBitIntExpression.is)) (c.one-in-UnsignedBitIntExpression.ensures _ _
    c.non_substitution_to-first-in-UnsignedBitIntExpression.ensures)
