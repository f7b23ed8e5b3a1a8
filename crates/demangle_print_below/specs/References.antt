-- References among items, as the code tells them apart.
use Rattle.std.specs.Prelude.{Bool, true, false, List, [], ◌∷◌}
use Rattle.demangle_core.specs.Core.{Core}
use Rattle.demangle_entries.specs.declared.entries.TypeNode.{TypeNode}
use Rattle.demangle_entries.specs.declared.entries.TypeNode.TheVariants as of_node
use Rattle.demangle_printing.specs.World.{World}
use Rattle.demangle_printing.specs.State.{Held}
use Rattle.demangle_printing.specs.Rules.{is_rvalue, tag}
use Rattle.demangle_scope.specs.declared.inner.InnerItem.{InnerItem}
use Rattle.demangle_scope.specs.declared.inner.InnerItem.TheVariants as of_item

abbrev pub is_rvalue_node : TypeNode → Bool
is_rvalue_node (of_node.RvalueRef x) = true
is_rvalue_node _ = false

abbrev pub is_lvalue_node : TypeNode → Bool
is_lvalue_node (of_node.LvalueRef x) = true
is_lvalue_node _ = false

abbrev pub is_rvalue_item : InnerItem → Bool
is_rvalue_item (of_item.Node x) = is_rvalue_node x.now
is_rvalue_item _ = false

abbrev pub is_lvalue_item : InnerItem → Bool
is_lvalue_item (of_item.Node x) = is_lvalue_node x.now
is_lvalue_item _ = false

-- an rvalue reference is on top of the items
abbrev pub is_rvalue_top : World Core → List (Held Core) → Bool
is_rvalue_top w [] = false
is_rvalue_top w (h ∷ hs) = is_rvalue w (tag w h.item)
