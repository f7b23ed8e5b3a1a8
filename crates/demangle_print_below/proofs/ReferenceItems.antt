-- Whether an item is a reference, as the definitions see its tree.
use Rattle.std.proofs.Common.{◌≡◌, false, refl}
use Rattle.demangle_nodes.specs.declared.nodes.Encoding.{Encoding}
use Rattle.demangle_nodes.specs.declared.nodes.Encoding.TheVariants as of_encoding
use Rattle.demangle_nodes.specs.TreeNodes.{parts_of_encoding, tree_of_encoding}
use Rattle.demangle_entries.specs.declared.entries.ArrayType.{ArrayType}
use Rattle.demangle_entries.specs.declared.entries.ArrayType.TheVariants as of_array
use Rattle.demangle_entries.specs.declared.entries.VectorType.{VectorType}
use Rattle.demangle_entries.specs.declared.entries.VectorType.TheVariants as of_vector
use Rattle.demangle_entries.specs.declared.entries.TypeNode.{TypeNode}
use Rattle.demangle_entries.specs.declared.entries.TypeNode.TheVariants as of_node
use Rattle.demangle_entries.specs.TreeEntries.{tree_of_array_type, tree_of_type_node, tree_of_vector_type}
use Rattle.demangle_printing.specs.Rules.{is_lvalue, is_rvalue, tag}
use Rattle.demangle_meets.specs.Place.{Refers, world_of}
use Rattle.demangle_scope.specs.declared.inner.InnerItem.{InnerItem}
use Rattle.demangle_scope.specs.declared.inner.InnerItem.TheVariants as of_item
use Rattle.demangle_scope.specs.ItemTree.{item_tree}
use Rattle.demangle_print_below.specs.References.{is_lvalue_item, is_lvalue_node, is_rvalue_item, is_rvalue_node}

-- ---- rvalue
rvalue_of_node : (r : Refers) (x : TypeNode) → is_rvalue_node x
    ≡ is_rvalue (world_of r) (tag (world_of r) (tree_of_type_node x))
rvalue_of_node r (of_node.Function a) = refl
rvalue_of_node r _ = refl

rvalue_of_encoding : (r : Refers) (x : Encoding) → false
    ≡ is_rvalue (world_of r) (tag (world_of r) (tree_of_encoding x))
unfolding parts_of_encoding
rvalue_of_encoding r (of_encoding.Function a b) = refl
rvalue_of_encoding r _ = refl

rvalue_of_array : (r : Refers) (x : ArrayType) → false
    ≡ is_rvalue (world_of r) (tag (world_of r) (tree_of_array_type x))
rvalue_of_array r (of_array.DimensionNumber a b) = refl
rvalue_of_array r _ = refl

rvalue_of_vector : (r : Refers) (x : VectorType) → false
    ≡ is_rvalue (world_of r) (tag (world_of r) (tree_of_vector_type x))
rvalue_of_vector r (of_vector.DimensionNumber a b) = refl
rvalue_of_vector r (of_vector.DimensionExpression a b) = refl

pub rvalue_is : (r : Refers) (i : InnerItem) → is_rvalue_item i
    ≡ is_rvalue (world_of r) (tag (world_of r) (item_tree i))
rvalue_is r (of_item.Encoding x) = rvalue_of_encoding r x.now
rvalue_is r (of_item.Node x) = rvalue_of_node r x.now
rvalue_is r (of_item.Function x) = refl
rvalue_is r (of_item.Bare x) = refl
rvalue_is r (of_item.Array x) = rvalue_of_array r x.now
rvalue_is r (of_item.Vector x) = rvalue_of_vector r x.now
rvalue_is r (of_item.Member x) = refl
rvalue_is r (of_item.Qualifiers x) = refl

-- ---- lvalue
lvalue_of_node : (r : Refers) (x : TypeNode) → is_lvalue_node x
    ≡ is_lvalue (world_of r) (tag (world_of r) (tree_of_type_node x))
lvalue_of_node r (of_node.Function a) = refl
lvalue_of_node r _ = refl

lvalue_of_encoding : (r : Refers) (x : Encoding) → false
    ≡ is_lvalue (world_of r) (tag (world_of r) (tree_of_encoding x))
unfolding parts_of_encoding
lvalue_of_encoding r (of_encoding.Function a b) = refl
lvalue_of_encoding r _ = refl

lvalue_of_array : (r : Refers) (x : ArrayType) → false
    ≡ is_lvalue (world_of r) (tag (world_of r) (tree_of_array_type x))
lvalue_of_array r (of_array.DimensionNumber a b) = refl
lvalue_of_array r _ = refl

lvalue_of_vector : (r : Refers) (x : VectorType) → false
    ≡ is_lvalue (world_of r) (tag (world_of r) (tree_of_vector_type x))
lvalue_of_vector r (of_vector.DimensionNumber a b) = refl
lvalue_of_vector r (of_vector.DimensionExpression a b) = refl

pub lvalue_is : (r : Refers) (i : InnerItem) → is_lvalue_item i
    ≡ is_lvalue (world_of r) (tag (world_of r) (item_tree i))
lvalue_is r (of_item.Encoding x) = lvalue_of_encoding r x.now
lvalue_is r (of_item.Node x) = lvalue_of_node r x.now
lvalue_is r (of_item.Function x) = refl
lvalue_is r (of_item.Bare x) = refl
lvalue_is r (of_item.Array x) = lvalue_of_array r x.now
lvalue_is r (of_item.Vector x) = lvalue_of_vector r x.now
lvalue_is r (of_item.Member x) = refl
lvalue_is r (of_item.Qualifiers x) = refl
