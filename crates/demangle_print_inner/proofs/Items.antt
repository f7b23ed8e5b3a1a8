-- What of an item the definitions look at is its variant.
use Rattle.std.proofs.Common.{◌≡◌, false, refl}
use Rattle.demangle_nodes.specs.declared.nodes.Encoding.{Encoding}
use Rattle.demangle_nodes.specs.declared.nodes.Encoding.TheVariants as of_encoding
use Rattle.demangle_nodes.specs.TreeNodes.{parts_of_encoding, tree_of_encoding}
use Rattle.demangle_entries.specs.declared.entries.ArrayType.{ArrayType}
use Rattle.demangle_entries.specs.declared.entries.ArrayType.TheVariants as of_array
use Rattle.demangle_entries.specs.declared.entries.VectorType.{VectorType}
use Rattle.demangle_entries.specs.declared.entries.VectorType.TheVariants as of_vector
use Rattle.demangle_entries.specs.declared.entries.TypeNode.{TypeNode}
use Rattle.demangle_entries.specs.declared.entries.TypeNode.TheVariants as of_node
use Rattle.demangle_entries.specs.TreeEntries.{tree_of_array_type, tree_of_type_node, tree_of_vector_type}
use Rattle.demangle_printing.specs.Rules.{tag}
use Rattle.demangle_printing.specs.Arrays as turn
use Rattle.demangle_printing.specs.Arrays.{turn_node}
use Rattle.demangle_printing.specs.Parameters as wanted
use Rattle.demangle_printing.specs.Parameters.{is_kept, wants}
use Rattle.demangle_meets.specs.Place.{Refers, world_of}
use Rattle.demangle_scope.specs.declared.inner.InnerItem.{InnerItem}
use Rattle.demangle_scope.specs.declared.inner.InnerItem.TheVariants as of_item
use Rattle.demangle_scope.specs.ItemTree.{item_tree}
use Rattle.demangle_print_inner.specs.Kinds.{is_kept_item, item_turn, item_wants, node_turn, node_wants}

-- ---- turn
turn_of_node : (r : Refers) (x : TypeNode) → node_turn (world_of r) x
    ≡ turn_node (world_of r) (tree_of_type_node x) (tag (world_of r) (tree_of_type_node x))
turn_of_node r (of_node.Function a) = refl
turn_of_node r _ = refl

turn_of_encoding : (r : Refers) (x : Encoding) → turn.other
    ≡ turn_node (world_of r) (tree_of_encoding x) (tag (world_of r) (tree_of_encoding x))
unfolding parts_of_encoding
turn_of_encoding r (of_encoding.Function a b) = refl
turn_of_encoding r _ = refl

turn_of_array : (r : Refers) (x : ArrayType) → turn.array
    ≡ turn_node (world_of r) (tree_of_array_type x) (tag (world_of r) (tree_of_array_type x))
turn_of_array r (of_array.DimensionNumber a b) = refl
turn_of_array r _ = refl

turn_of_vector : (r : Refers) (x : VectorType) → turn.other
    ≡ turn_node (world_of r) (tree_of_vector_type x) (tag (world_of r) (tree_of_vector_type x))
turn_of_vector r (of_vector.DimensionNumber a b) = refl
turn_of_vector r (of_vector.DimensionExpression a b) = refl

pub turn_is : (r : Refers) (i : InnerItem) → item_turn (world_of r) i
    ≡ turn_node (world_of r) (item_tree i) (tag (world_of r) (item_tree i))
turn_is r (of_item.Encoding x) = turn_of_encoding r x.now
turn_is r (of_item.Node x) = turn_of_node r x.now
turn_is r (of_item.Function x) = refl
turn_is r (of_item.Bare x) = refl
turn_is r (of_item.Array x) = turn_of_array r x.now
turn_is r (of_item.Vector x) = turn_of_vector r x.now
turn_is r (of_item.Member x) = refl
turn_is r (of_item.Qualifiers x) = refl

-- ---- wants
wants_of_node : (r : Refers) (x : TypeNode) → node_wants x ≡ wants (tag (world_of r) (tree_of_type_node x))
wants_of_node r (of_node.Function a) = refl
wants_of_node r _ = refl

wants_of_encoding : (r : Refers) (x : Encoding) → wanted.none ≡ wants (tag (world_of r) (tree_of_encoding x))
unfolding parts_of_encoding
wants_of_encoding r (of_encoding.Function a b) = refl
wants_of_encoding r _ = refl

wants_of_array : (r : Refers) (x : ArrayType) → wanted.none ≡ wants (tag (world_of r) (tree_of_array_type x))
wants_of_array r (of_array.DimensionNumber a b) = refl
wants_of_array r _ = refl

wants_of_vector : (r : Refers) (x : VectorType) → wanted.none ≡ wants (tag (world_of r) (tree_of_vector_type x))
wants_of_vector r (of_vector.DimensionNumber a b) = refl
wants_of_vector r (of_vector.DimensionExpression a b) = refl

pub wants_is : (r : Refers) (i : InnerItem) → item_wants i ≡ wants (tag (world_of r) (item_tree i))
wants_is r (of_item.Encoding x) = wants_of_encoding r x.now
wants_is r (of_item.Node x) = wants_of_node r x.now
wants_is r (of_item.Function x) = refl
wants_is r (of_item.Bare x) = refl
wants_is r (of_item.Array x) = wants_of_array r x.now
wants_is r (of_item.Vector x) = wants_of_vector r x.now
wants_is r (of_item.Member x) = refl
wants_is r (of_item.Qualifiers x) = refl

-- ---- kept
kept_of_node : (r : Refers) (x : TypeNode) → false ≡ is_kept (world_of r) (tree_of_type_node x)
kept_of_node r (of_node.Function a) = refl
kept_of_node r _ = refl

kept_of_encoding : (r : Refers) (x : Encoding) → false ≡ is_kept (world_of r) (tree_of_encoding x)
unfolding parts_of_encoding
kept_of_encoding r (of_encoding.Function a b) = refl
kept_of_encoding r _ = refl

kept_of_array : (r : Refers) (x : ArrayType) → false ≡ is_kept (world_of r) (tree_of_array_type x)
kept_of_array r (of_array.DimensionNumber a b) = refl
kept_of_array r _ = refl

kept_of_vector : (r : Refers) (x : VectorType) → false ≡ is_kept (world_of r) (tree_of_vector_type x)
kept_of_vector r (of_vector.DimensionNumber a b) = refl
kept_of_vector r (of_vector.DimensionExpression a b) = refl

pub kept_is : (r : Refers) (i : InnerItem) → is_kept_item (world_of r) i ≡ is_kept (world_of r) (item_tree i)
kept_is r (of_item.Encoding x) = kept_of_encoding r x.now
kept_is r (of_item.Node x) = kept_of_node r x.now
kept_is r (of_item.Function x) = refl
kept_is r (of_item.Bare x) = refl
kept_is r (of_item.Array x) = kept_of_array r x.now
kept_is r (of_item.Vector x) = kept_of_vector r x.now
kept_is r (of_item.Member x) = refl
kept_is r (of_item.Qualifiers x) = refl
