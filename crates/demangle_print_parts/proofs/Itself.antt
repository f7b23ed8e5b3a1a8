-- Nodes that are printed as they are: neither optional parts nor handles nor components.
use Rattle.std.proofs.Common.{◌≡◌, Some, refl}
use Rattle.demangle_leaf_nodes.specs.declared.leaves.BuiltinType.{BuiltinType}
use Rattle.demangle_leaf_nodes.specs.declared.leaves.BuiltinType.TheVariants as of_builtin
use Rattle.demangle_leaf_nodes.specs.declared.leaves.ParametricBuiltinType.{ParametricBuiltinType}
use Rattle.demangle_leaf_nodes.specs.declared.leaves.ParametricBuiltinType.TheVariants as of_parametric
use Rattle.demangle_leaf_nodes.specs.TreeLeaves.{tree_of_builtin_type, tree_of_parametric_builtin_type}
use Rattle.demangle_entries.specs.declared.entries.Decltype.{Decltype}
use Rattle.demangle_entries.specs.declared.entries.Decltype.TheVariants as of_decltype
use Rattle.demangle_entries.specs.TreeEntries.{tree_of_decltype}
use Rattle.demangle_printing.specs.Rules.{of_part}
use Rattle.demangle_meets.specs.Place.{Refers, world_of}

pub builtin_is_itself : (r : Refers) (x : BuiltinType) →
    of_part (world_of r) (Some (tree_of_builtin_type x)) ≡ Some (tree_of_builtin_type x)
builtin_is_itself r (of_builtin.Standard a) = refl
builtin_is_itself r (of_builtin.Parametric a) = refl
builtin_is_itself r (of_builtin.Extension a) = refl

pub parametric_is_itself : (r : Refers) (x : ParametricBuiltinType) →
    of_part (world_of r) (Some (tree_of_parametric_builtin_type x)) ≡ Some (tree_of_parametric_builtin_type x)
parametric_is_itself r (of_parametric.FloatN a) = refl
parametric_is_itself r (of_parametric.FloatNx a) = refl
parametric_is_itself r (of_parametric.SignedBitInt a) = refl
parametric_is_itself r (of_parametric.UnsignedBitInt a) = refl
parametric_is_itself r (of_parametric.SignedBitIntExpression a) = refl
parametric_is_itself r (of_parametric.UnsignedBitIntExpression a) = refl

pub decltype_is_itself : (r : Refers) (x : Decltype) →
    of_part (world_of r) (Some (tree_of_decltype x)) ≡ Some (tree_of_decltype x)
decltype_is_itself r (of_decltype.IdExpression a) = refl
decltype_is_itself r (of_decltype.Expression a) = refl
