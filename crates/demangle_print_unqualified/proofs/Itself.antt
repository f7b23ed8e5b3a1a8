-- Nodes that are printed as they are: neither optional parts nor handles nor components. And lines whose steps in
-- their events are printed by a function of its own.
use Rattle.std.proofs.Common.{◌≡◌, Some, refl}
use Rattle.demangle_core.specs.Core.{Core}
use Rattle.demangle_leaf_nodes.specs.declared.leaves.CtorDtorName.{CtorDtorName}
use Rattle.demangle_leaf_nodes.specs.declared.leaves.CtorDtorName.TheVariants as of_ctor_dtor
use Rattle.demangle_leaf_nodes.specs.declared.leaves.NestedName.{NestedName}
use Rattle.demangle_leaf_nodes.specs.declared.leaves.NestedName.TheVariants as of_nested
use Rattle.demangle_leaf_nodes.specs.declared.leaves.UnqualifiedName.{UnqualifiedName}
use Rattle.demangle_leaf_nodes.specs.declared.leaves.UnqualifiedName.TheVariants as of_unqualified
use Rattle.demangle_leaf_nodes.specs.declared.leaves.UnscopedName.{UnscopedName}
use Rattle.demangle_leaf_nodes.specs.declared.leaves.UnscopedName.TheVariants as of_unscoped
use Rattle.demangle_nodes.specs.declared.nodes.GlobalCtorDtor.{GlobalCtorDtor}
use Rattle.demangle_nodes.specs.declared.nodes.GlobalCtorDtor.TheVariants as of_global
use Rattle.demangle_nodes.specs.declared.nodes.LocalName.{LocalName}
use Rattle.demangle_nodes.specs.declared.nodes.LocalName.TheVariants as of_local
use Rattle.demangle_entries.specs.declared.entries.Prefix.{Prefix}
use Rattle.demangle_entries.specs.declared.entries.Prefix.TheVariants as of_prefix
use Rattle.demangle_leaf_nodes.specs.TreeLeaves.{tree_of_ctor_dtor_name, tree_of_nested_name, tree_of_unscoped_name}
use Rattle.demangle_leaf_nodes.specs.TreeLeaves.{tag_of_unqualified_name, tree_of_unqualified_name}
use Rattle.demangle_nodes.specs.TreeNodes.{parts_of_global_ctor_dtor, tree_of_global_ctor_dtor}
use Rattle.demangle_nodes.specs.TreeNodes.{parts_of_local_name, tree_of_local_name}
use Rattle.demangle_entries.specs.TreeEntries.{tag_of_prefix, tree_of_prefix}
use Rattle.demangle_printing.specs.State as kind
use Rattle.demangle_printing.specs.Scope.{Scope}
use Rattle.demangle_printing.specs.Act.{done, event, line}
use Rattle.demangle_printing.specs.Step.{Step}
use Rattle.demangle_printing.specs.Rules.{of_part}
use Rattle.demangle_printing.specs.Reader.{run}
use Rattle.demangle_printing.specs.Print.{body}
use Rattle.demangle_printing.specs.Lines.{line_steps}
use Rattle.demangle_printing.specs.Lines.Names.{in_prefix}
use Rattle.demangle_meets.specs.Place.{Refers, world_of}
use Rattle.demangle_print_unqualified.specs.Pieces.{in_event, in_fence}

pub ctor_dtor_is_itself : (r : Refers) (x : CtorDtorName) →
    of_part (world_of r) (Some (tree_of_ctor_dtor_name x)) ≡ Some (tree_of_ctor_dtor_name x)
ctor_dtor_is_itself r (of_ctor_dtor.CompleteConstructor a) = refl
ctor_dtor_is_itself r _ = refl

pub nested_is_itself : (r : Refers) (x : NestedName) →
    of_part (world_of r) (Some (tree_of_nested_name x)) ≡ Some (tree_of_nested_name x)
nested_is_itself r (of_nested.Unqualified a b c d) = refl
nested_is_itself r _ = refl

pub unqualified_is_itself : (r : Refers) (x : UnqualifiedName) →
    of_part (world_of r) (Some (tree_of_unqualified_name x)) ≡ Some (tree_of_unqualified_name x)
unqualified_is_itself r (of_unqualified.Operator a b) = refl
unqualified_is_itself r _ = refl

pub unscoped_is_itself : (r : Refers) (x : UnscopedName) →
    of_part (world_of r) (Some (tree_of_unscoped_name x)) ≡ Some (tree_of_unscoped_name x)
unscoped_is_itself r (of_unscoped.Unqualified a) = refl
unscoped_is_itself r _ = refl

pub global_is_itself : (r : Refers) (x : GlobalCtorDtor) →
    of_part (world_of r) (Some (tree_of_global_ctor_dtor x)) ≡ Some (tree_of_global_ctor_dtor x)
unfolding parts_of_global_ctor_dtor
global_is_itself r (of_global.Ctor' _ _) = refl
global_is_itself r _ = refl

pub local_is_itself : (r : Refers) (x : LocalName) →
    of_part (world_of r) (Some (tree_of_local_name x)) ≡ Some (tree_of_local_name x)
unfolding parts_of_local_name
local_is_itself r (of_local.Relative' _ _ _ _) = refl
local_is_itself r _ = refl

pub prefix_is_itself : (r : Refers) (x : Prefix) →
    of_part (world_of r) (Some (tree_of_prefix x)) ≡ Some (tree_of_prefix x)
prefix_is_itself r (of_prefix.Unqualified a) = refl
prefix_is_itself r _ = refl

-- a prefix: what it is told as, and its steps in these events
pub prefix_line : (r : Refers) (x : Prefix) (sc : Scope Core) → body (world_of r) (line (tree_of_prefix x)) sc
    ≡ run (world_of r) (Some (tree_of_prefix x)) sc
    (in_prefix (λ k. in_fence (line_steps (tag_of_prefix x))) Step.done)
unfolding body line_steps
prefix_line r (of_prefix.Unqualified a) sc = refl
prefix_line r _ sc = refl

-- a name without its scope: its steps in its events
pub unqualified_line : (r : Refers) (x : UnqualifiedName) (sc : Scope Core) →
    body (world_of r) (line (tree_of_unqualified_name x)) sc
    ≡ event kind.unqualified_name (run (world_of r) (Some (tree_of_unqualified_name x)) sc
    (in_event (line_steps (tag_of_unqualified_name x)))) done
unfolding body line_steps
unqualified_line r (of_unqualified.Operator a b) sc = refl
unqualified_line r _ sc = refl
