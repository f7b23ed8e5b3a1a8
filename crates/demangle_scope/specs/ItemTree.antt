-- What contracts see of an inner item: the tree of its node, and the node where it is of some kind.
use Rattle.std.specs.Prelude.{Bool, true, false, Option, Some, None}
use Rattle.demangle_core.specs.Core.{Core}
use Rattle.demangle_leaf_nodes.specs.declared.leaves.PointerToMemberType.{PointerToMemberType}
use Rattle.demangle_leaf_nodes.specs.TreeLeaves.{tree_of_bare_function_type, tree_of_pointer_to_member_type}
use Rattle.demangle_leaf_nodes.specs.TreeLeaves.{tree_of_cv_qualifiers}
use Rattle.demangle_nodes.specs.TreeNodes.{tree_of_encoding}
use Rattle.demangle_entries.specs.declared.entries.ArrayType.{ArrayType}
use Rattle.demangle_entries.specs.declared.entries.FunctionType.{FunctionType}
use Rattle.demangle_entries.specs.declared.entries.TypeNode.{TypeNode}
use Rattle.demangle_entries.specs.declared.entries.TypeNode.TheVariants as of_node
use Rattle.demangle_entries.specs.TreeEntries.{tree_of_type_node, tree_of_function_type, tree_of_array_type}
use Rattle.demangle_entries.specs.TreeEntries.{tree_of_vector_type}
use Rattle.demangle_scope.specs.declared.inner.InnerItem.{InnerItem}
use Rattle.demangle_scope.specs.declared.inner.InnerItem.TheVariants as of_item

abbrev pub item_tree : InnerItem → Core
item_tree (of_item.Encoding x) = tree_of_encoding x.now
item_tree (of_item.Node x) = tree_of_type_node x.now
item_tree (of_item.Function x) = tree_of_function_type x.now
item_tree (of_item.Bare x) = tree_of_bare_function_type x.now
item_tree (of_item.Array x) = tree_of_array_type x.now
item_tree (of_item.Vector x) = tree_of_vector_type x.now
item_tree (of_item.Member x) = tree_of_pointer_to_member_type x.now
item_tree (of_item.Qualifiers x) = tree_of_cv_qualifiers x.now

-- ---- a type of some kind
abbrev pub function_type_of : TypeNode → Option FunctionType
function_type_of (of_node.Function x) = Some x
function_type_of _ = None

abbrev pub array_type_of : TypeNode → Option ArrayType
array_type_of (of_node.Array x) = Some x
array_type_of _ = None

abbrev pub member_type_of : TypeNode → Option PointerToMemberType
member_type_of (of_node.PointerToMember x) = Some x
member_type_of _ = None

abbrev pub is_qualified_node : TypeNode → Bool
is_qualified_node (of_node.Qualified q x) = true
is_qualified_node _ = false

-- ---- an item of some kind, also where a type holds it
abbrev pub type_in : InnerItem → Option TypeNode
type_in (of_item.Node x) = Some x.now
type_in _ = None

abbrev pub function_type_in : InnerItem → Option FunctionType
function_type_in (of_item.Node x) = function_type_of x.now
function_type_in (of_item.Function x) = Some x.now
function_type_in _ = None

abbrev pub array_type_in : InnerItem → Option ArrayType
array_type_in (of_item.Node x) = array_type_of x.now
array_type_in (of_item.Array x) = Some x.now
array_type_in _ = None

abbrev pub member_type_in : InnerItem → Option PointerToMemberType
member_type_in (of_item.Node x) = member_type_of x.now
member_type_in (of_item.Member x) = Some x.now
member_type_in _ = None

abbrev pub is_qualified_in : InnerItem → Bool
is_qualified_in (of_item.Node x) = is_qualified_node x.now
is_qualified_in _ = false
