-- Whether a component is an array, and what refers to it.
use Rattle.std.proofs.Common.{◌≡◌, ℕ, false, Some, None, refl, sym, ◌∙◌, ap}
use Rattle.demangle_core.specs.Core.{Core, Tag, N, end, node, ref}
use Rattle.demangle_core.specs.Table.{entry_at}
use Rattle.demangle_leaf_nodes.specs.declared.leaves.BuiltinType.{BuiltinType}
use Rattle.demangle_leaf_nodes.specs.declared.leaves.BuiltinType.TheVariants as of_builtin
use Rattle.demangle_leaf_nodes.specs.declared.leaves.TypeHandle.{TypeHandle}
use Rattle.demangle_leaf_nodes.specs.declared.leaves.TypeHandle.TheVariants as of_handle_kind
use Rattle.demangle_leaf_nodes.specs.TreeLeaves.{tree_of_builtin_type, tree_of_type_handle}
use Rattle.demangle_nodes.specs.declared.nodes.Expression.{Expression}
use Rattle.demangle_nodes.specs.declared.nodes.Expression.TheVariants as of_expression
use Rattle.demangle_nodes.specs.TreeNodes.{parts_of_expression, tree_of_expression}
use Rattle.demangle_entries.specs.declared.entries.Prefix.{Prefix}
use Rattle.demangle_entries.specs.declared.entries.Prefix.TheVariants as of_prefix
use Rattle.demangle_entries.specs.declared.entries.UnresolvedType.{UnresolvedType}
use Rattle.demangle_entries.specs.declared.entries.UnresolvedType.TheVariants as of_unresolved
use Rattle.demangle_entries.specs.declared.entries.TypeNode.{TypeNode}
use Rattle.demangle_entries.specs.declared.entries.TypeNode.TheVariants as of_node
use Rattle.demangle_entries.specs.declared.entries.Substitutable.{Substitutable}
use Rattle.demangle_entries.specs.declared.entries.Substitutable.TheVariants as of_component
use Rattle.demangle_entries.specs.TreeEntries.{tree_of_prefix, tree_of_substitutable, tree_of_type_node}
use Rattle.demangle_entries.specs.TreeEntries.{tree_of_unresolved_type}
use Rattle.demangle_printing.specs.World.{Seen}
use Rattle.demangle_printing.specs.Rules.{handle_seen, of_handle, tag}
use Rattle.demangle_printing.specs.Arrays.{is_array, is_array_tree}
use Rattle.demangle_meets.specs.Place.{Refers, world_of}
use Rattle.demangle_print_parts.proofs.Components.{component_looks, nothing_looks}
use Rattle.demangle_print_inner.specs.Kinds.{is_array_component, is_array_node}

-- the handle that refers to a component
abbrev reference : ℕ → Core
reference k = node Tag.BackReference (ref N k end) end

array_of_node : (r : Refers) (x : TypeNode) → is_array (tag (world_of r) (tree_of_type_node x)) ≡ is_array_node x
array_of_node r (of_node.Function a) = refl
array_of_node r _ = refl

no_array_of_prefix : (r : Refers) (x : Prefix) → is_array (tag (world_of r) (tree_of_prefix x)) ≡ false
no_array_of_prefix r (of_prefix.Unqualified a) = refl
no_array_of_prefix r _ = refl

no_array_of_unresolved : (r : Refers) (x : UnresolvedType) →
    is_array (tag (world_of r) (tree_of_unresolved_type x)) ≡ false
no_array_of_unresolved r (of_unresolved.Template a b) = refl
no_array_of_unresolved r (of_unresolved.Decltype a) = refl

no_array_of_expression : (r : Refers) (x : Expression) →
    is_array (tag (world_of r) (tree_of_expression x)) ≡ false
unfolding parts_of_expression
no_array_of_expression r (of_expression.Unary' _ _ _) = refl
no_array_of_expression r _ = refl

no_array_of_builtin : (r : Refers) (x : BuiltinType) → false ≡ is_array (tag (world_of r) (tree_of_builtin_type x))
no_array_of_builtin r (of_builtin.Standard a) = refl
no_array_of_builtin r _ = refl

-- what a handle holds, by what is seen of it
array_seen : (r : Refers) (x : Core) (v : Seen Core) → (world_of r).look x ≡ v →
    is_array_tree (world_of r) (of_handle (world_of r) (Some x)) ≡ is_array_tree (world_of r) (handle_seen
    (world_of r) x v)
array_seen r x v e = ap (λ z. is_array_tree (world_of r) (handle_seen (world_of r) x z)) e

array_of_component : (r : Refers) (x : Core) (s : Substitutable) →
    is_array_tree (world_of r) (handle_seen (world_of r) x ((world_of r).look (tree_of_substitutable s)))
    ≡ is_array_component s
array_of_component r x (of_component.UnscopedTemplateName a) = refl
array_of_component r x (of_component.TypeNode a) = array_of_node r a
array_of_component r x (of_component.TemplateTemplateParam a) = refl
array_of_component r x (of_component.UnresolvedType a) = no_array_of_unresolved r a
array_of_component r x (of_component.Prefix a) = no_array_of_prefix r a
array_of_component r x (of_component.Expression a) = no_array_of_expression r a.value

pub array_found : (r : Refers) (k : ℕ) (s : Substitutable) → Some (tree_of_substitutable s) ≡ entry_at N k r.table →
    is_array_component s ≡ is_array_tree (world_of r) (of_handle (world_of r) (Some (reference k)))
array_found r k s e =
    sym (array_seen r (reference k) ((world_of r).look (tree_of_substitutable s)) (component_looks r k s e)
    ∙ array_of_component r (reference k) s)

pub no_array_found : (r : Refers) (k : ℕ) → None ≡ entry_at N k r.table →
    false ≡ is_array_tree (world_of r) (of_handle (world_of r) (Some (reference k)))
no_array_found r k e = sym (array_seen r (reference k) _ (nothing_looks r k e))

-- no other handle does
pub no_array : (r : Refers) (x : TypeHandle) → ((k : ℕ) → x ≡ of_handle_kind.BackReference k → ⊥) →
    false ≡ is_array_tree (world_of r) (of_handle (world_of r) (Some (tree_of_type_handle x)))
no_array r (of_handle_kind.WellKnown a) never = refl
no_array r (of_handle_kind.BackReference k) never = absurd (never k refl)
no_array r (of_handle_kind.Builtin a) never = no_array_of_builtin r a
no_array r (of_handle_kind.QualifiedBuiltin a) never = refl
