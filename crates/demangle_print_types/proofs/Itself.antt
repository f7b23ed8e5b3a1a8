-- Types that are printed as they are: neither optional parts nor handles nor components.
use Rattle.std.proofs.Common.{◌≡◌, Some, refl}
use Rattle.demangle_leaf_nodes.specs.TreeLeaves.{tree_of_option}
use Rattle.demangle_entries.specs.declared.entries.ArrayType.{ArrayType}
use Rattle.demangle_entries.specs.declared.entries.ArrayType.TheVariants as of_array
use Rattle.demangle_entries.specs.declared.entries.VectorType.{VectorType}
use Rattle.demangle_entries.specs.declared.entries.VectorType.TheVariants as of_vector
use Rattle.demangle_entries.specs.declared.entries.ClassEnumType.{ClassEnumType}
use Rattle.demangle_entries.specs.declared.entries.ClassEnumType.TheVariants as of_class
use Rattle.demangle_entries.specs.declared.entries.ExceptionSpec.{ExceptionSpec}
use Rattle.demangle_entries.specs.declared.entries.ExceptionSpec.TheVariants as of_exception
use Rattle.demangle_entries.specs.declared.entries.TypeNode.{TypeNode}
use Rattle.demangle_entries.specs.declared.entries.TypeNode.TheVariants as of_node
use Rattle.demangle_entries.specs.TreeEntries.{tree_of_array_type, tree_of_class_enum_type, tree_of_exception_spec}
use Rattle.demangle_entries.specs.TreeEntries.{tree_of_type_node, tree_of_vector_type}
use Rattle.demangle_printing.specs.Rules.{of_part}
use Rattle.demangle_meets.specs.Place.{Refers, world_of}

pub type_is_itself : (r : Refers) (x : TypeNode) →
    of_part (world_of r) (Some (tree_of_type_node x)) ≡ Some (tree_of_type_node x)
type_is_itself r (of_node.Function a) = refl
type_is_itself r _ = refl

pub class_is_itself : (r : Refers) (x : ClassEnumType) →
    of_part (world_of r) (Some (tree_of_class_enum_type x)) ≡ Some (tree_of_class_enum_type x)
class_is_itself r (of_class.Named a) = refl
class_is_itself r _ = refl

pub array_is_itself : (r : Refers) (x : ArrayType) →
    of_part (world_of r) (Some (tree_of_array_type x)) ≡ Some (tree_of_array_type x)
array_is_itself r (of_array.DimensionNumber a b) = refl
array_is_itself r _ = refl

pub vector_is_itself : (r : Refers) (x : VectorType) →
    of_part (world_of r) (Some (tree_of_vector_type x)) ≡ Some (tree_of_vector_type x)
vector_is_itself r (of_vector.DimensionNumber a b) = refl
vector_is_itself r (of_vector.DimensionExpression a b) = refl

pub exception_is_itself : (r : Refers) (x : ExceptionSpec) →
    of_part (world_of r) (Some (tree_of_exception_spec x)) ≡ Some (tree_of_exception_spec x)
exception_is_itself r of_exception.NoExcept = refl
exception_is_itself r (of_exception.Computed a) = refl

-- where it is there
pub exception_there : (r : Refers) (x : ExceptionSpec) →
    of_part (world_of r) (Some (tree_of_option tree_of_exception_spec (Some x)))
    ≡ of_part (world_of r) (Some (tree_of_exception_spec x))
exception_there r of_exception.NoExcept = refl
exception_there r (of_exception.Computed a) = refl
