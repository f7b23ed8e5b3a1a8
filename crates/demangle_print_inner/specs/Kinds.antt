-- What the code tells apart of items, in the words of the definitions.
use Rattle.std.specs.Prelude.{Bool, true, false, [], ◌∷◌, Some}
use Rattle.demangle_core.specs.Core.{Core}
use Rattle.demangle_vocab.specs.declared.builtin.StandardBuiltinType.{StandardBuiltinType}
use Rattle.demangle_vocab.specs.declared.builtin.StandardBuiltinType.TheVariants as of_word
use Rattle.demangle_leaf_nodes.specs.declared.leaves.BuiltinType.{BuiltinType}
use Rattle.demangle_leaf_nodes.specs.declared.leaves.BuiltinType.TheVariants as of_builtin
use Rattle.demangle_leaf_nodes.specs.TreeLeaves.{tree_of_cv_qualifiers, tree_of_type_handle}
use Rattle.demangle_entries.specs.declared.entries.TypeNode.{TypeNode}
use Rattle.demangle_entries.specs.declared.entries.TypeNode.TheVariants as of_node
use Rattle.demangle_entries.specs.declared.entries.Substitutable.{Substitutable}
use Rattle.demangle_entries.specs.declared.entries.Substitutable.TheVariants as of_component
use Rattle.demangle_printing.specs.World.{World, find, parts, see}
use Rattle.demangle_printing.specs.Rules.{is_seen_word, of_handle}
use Rattle.demangle_printing.specs.Arrays.{Turn, qualified_turn, is_array_tree}
use Rattle.demangle_printing.specs.Arrays as turn
use Rattle.demangle_printing.specs.Parameters.{Wanted, any_set}
use Rattle.demangle_printing.specs.Parameters as wanted
use Rattle.demangle_scope.specs.declared.inner.InnerItem.{InnerItem}
use Rattle.demangle_scope.specs.declared.inner.InnerItem.TheVariants as of_item
use Rattle.demangle_print_inner.specs.declared.arrays.ArrayTurn.{ArrayTurn}
use Rattle.demangle_print_inner.specs.declared.arrays.ArrayTurn.TheVariants as of_turn
use Rattle.demangle_print_inner.specs.declared.parentheses.Parentheses.{Parentheses}
use Rattle.demangle_print_inner.specs.declared.parentheses.Parentheses.TheVariants as of_parentheses

-- ---- arrays
abbrev pub turn_of : ArrayTurn → Turn
turn_of of_turn.Array = turn.array
turn_of of_turn.Elements = turn.elements
turn_of of_turn.Qualified = turn.qualified
turn_of of_turn.Other = turn.other

abbrev pub is_array_node : TypeNode → Bool
is_array_node (of_node.Array x) = true
is_array_node _ = false

abbrev pub is_array_component : Substitutable → Bool
is_array_component (of_component.TypeNode x) = is_array_node x
is_array_component _ = false

-- ---- parentheses around what stands between the result and the parameters
abbrev pub wanted_of : Parentheses → Wanted
wanted_of of_parentheses.Needless = wanted.none
wanted_of of_parentheses.Plain = wanted.some
wanted_of of_parentheses.Spaced = wanted.spaced

abbrev pub node_wants : TypeNode → Wanted
node_wants (of_node.Qualified q x) = wanted.spaced
node_wants (of_node.PointerTo x) = wanted.some
node_wants (of_node.LvalueRef x) = wanted.some
node_wants (of_node.RvalueRef x) = wanted.some
node_wants _ = wanted.none

abbrev pub item_wants : InnerItem → Wanted
item_wants (of_item.Node x) = node_wants x.now
item_wants (of_item.Member x) = wanted.spaced
item_wants _ = wanted.none

-- ---- `void`
abbrev pub is_void_word : StandardBuiltinType → Bool
is_void_word of_word.Void = true
is_void_word _ = false

abbrev pub is_void_builtin : BuiltinType → Bool
is_void_builtin (of_builtin.Standard x) = is_void_word x
is_void_builtin _ = false

module _ (w : World Core) where
  -- the one type of a list is `void` by itself
  abbrev pub is_void_tree : Core → Bool
  is_void_tree x = is_seen_word 1 0 (see w (find w (Some x) (0 ∷ 0 ∷ [])))

  abbrev pub node_turn : TypeNode → Turn
  node_turn (of_node.Qualified q x) = qualified_turn (is_array_tree w (of_handle w (Some (tree_of_type_handle x))))
  node_turn _ = turn.other

  abbrev pub item_turn : InnerItem → Turn
  item_turn (of_item.Array x) = turn.array
  item_turn (of_item.Node x) = node_turn x.now
  item_turn _ = turn.other

  -- the type of a function that has qualifiers
  abbrev pub is_kept_item : InnerItem → Bool
  is_kept_item (of_item.Function x) = any_set w (parts w (tree_of_cv_qualifiers x.now.cv_qualifiers))
  is_kept_item _ = false
