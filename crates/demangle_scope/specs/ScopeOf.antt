-- What contracts see of a scope: the definition's scope of trees.
use Rattle.std.specs.Prelude.{ℕ, [], ◌∷◌, Option, Some, None, Result, Ok, Err, option_map}
use Rattle.std.specs.Borrow.{Bor}
use Rattle.demangle_core.specs.Core.{Core}
use Rattle.demangle_text.specs.declared.error.Error.{Error}
use Rattle.demangle_leaf_nodes.specs.TreeLeaves.{tree_of_source_name, tree_of_well_known_component}
use Rattle.demangle_leaf_nodes.specs.TreeLeaves.{tree_of_closure_type_name, tree_of_unnamed_type_name}
use Rattle.demangle_nodes.specs.declared.nodes.TemplateArg.{TemplateArg}
use Rattle.demangle_nodes.specs.declared.nodes.TemplateArgs.{TemplateArgs}
use Rattle.demangle_nodes.specs.TreeNodes.{tree_of_template_arg, tree_of_template_args}
use Rattle.demangle_printing.specs.World.{World, nth}
use Rattle.demangle_printing.specs.State.{Fault}
use Rattle.demangle_context.specs.Errors.{reference_fault}
use Rattle.demangle_printing.specs.Scope.{Scope, Entry, Mark, Meant, leaf, arguments, members}
use Rattle.demangle_scope.specs.declared.scope.ScopeItem.{ScopeItem}
use Rattle.demangle_scope.specs.declared.scope.ScopeItem.TheVariants as of_item
use Rattle.demangle_scope.specs.declared.scope.ArgScopeStack.{ArgScopeStack, ArgScopeStack', out-ArgScopeStack}
use Rattle.demangle_scope.specs.declared.scope.ArgScopeStack.{Held-ArgScopeStack-previous, None', Some'}

-- ---- entries
abbrev pub meant_of : ScopeItem → Meant Core
meant_of (of_item.SourceName x) = leaf (tree_of_source_name x.now)
meant_of (of_item.WellKnown x) = leaf (tree_of_well_known_component x.now)
meant_of (of_item.Closure x) = leaf (tree_of_closure_type_name x.now)
meant_of (of_item.Unnamed x) = leaf (tree_of_unnamed_type_name x.now)
meant_of (of_item.Args x) = arguments (tree_of_template_args x.now)

-- a list is known by its place
abbrev pub mark_of : ℕ × Bor TemplateArgs → Mark
mark_of m = record { index = m.0; list = m.1.now.1 }

abbrev pub unmarked : Meant Core → Entry Core
unmarked m = record { meant = m; mark = None }

abbrev pub entry_of : ScopeItem → Option (ℕ × Bor TemplateArgs) → Entry Core
entry_of i m = record { meant = meant_of i; mark = option_map mark_of m }

-- ---- scopes, the newest entry first
abbrev mutual
  pub stack_scope : ArgScopeStack → Scope Core
  stack_scope (ArgScopeStack' i m previous) = entry_of i m ∷ scope_behind previous

  pub scope_behind : Held-ArgScopeStack-previous → Scope Core
  scope_behind None' = []
  scope_behind (Some' p s) = stack_scope s

abbrev pub scope_of : Option ArgScopeStack → Scope Core
scope_of None = []
scope_of (Some s) = stack_scope s

abbrev pub lent_scope : Option (Bor ArgScopeStack) → Scope Core
lent_scope None = []
lent_scope (Some s) = stack_scope s.now

abbrev pub top_of : ArgScopeStack → Entry Core
top_of s = entry_of (out-ArgScopeStack s).item (out-ArgScopeStack s).in_arg

-- ---- what one entry has
abbrev pub leaf_of : {X : Type 0} → Meant X → Option X
leaf_of (leaf x) = Some x
leaf_of (arguments list) = None

module _ {X : Type 0} (w : World X) where
  abbrev pub member_of : Meant X → ℕ → Option X
  member_of (leaf x) k = None
  member_of (arguments list) k = nth k (members w list)

  -- The newest list that has so many members, of which the argument is one.
  abbrev pub list_if : Option X → X → Option X → Option X
  list_if None list others = others
  list_if (Some x) list others = Some list

  abbrev pub list_in : Meant X → ℕ → Option X → Option X
  list_in (leaf x) k others = others
  list_in (arguments list) k others = list_if (nth k (members w list)) list others

  unfoldable pub argument_list : Scope X → ℕ → Option X
  argument_list [] k = None
  argument_list (e ∷ es) k = list_in e.meant k (argument_list es k)

-- ---- answers
-- a member with its list is the member
abbrev pub member_tree : Bor TemplateArg × Bor TemplateArgs → Core
member_tree found = tree_of_template_arg found.0.now

-- An answer as the definition gives it: a tree, or a fault.
abbrev pub answered : {A : Type 0} → (A → Core) → Result A Error → Option (Result Core Fault)
answered tree (Ok x) = Some (Ok (tree x))
answered tree (Err e) = option_map Err (reference_fault e)
