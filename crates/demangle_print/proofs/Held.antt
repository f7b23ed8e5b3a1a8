-- Nodes that are printed as they are, and what components hold.
use Rattle.std.proofs.Common.{◌≡◌, Some, refl}
use Rattle.demangle_nodes.specs.declared.nodes.MangledName.{MangledName}
use Rattle.demangle_nodes.specs.declared.nodes.MangledName.TheVariants as of_mangled_name
use Rattle.demangle_nodes.specs.declared.nodes.Encoding.{Encoding}
use Rattle.demangle_nodes.specs.declared.nodes.Encoding.TheVariants as of_encoding
use Rattle.demangle_nodes.specs.declared.nodes.Name.{Name}
use Rattle.demangle_nodes.specs.declared.nodes.Name.TheVariants as of_name
use Rattle.demangle_nodes.specs.TreeNodes.{parts_of_mangled_name, tree_of_mangled_name}
use Rattle.demangle_nodes.specs.TreeNodes.{parts_of_encoding, tree_of_encoding, parts_of_name, tree_of_name}
use Rattle.demangle_entries.specs.declared.entries.Substitutable.{Substitutable}
use Rattle.demangle_entries.specs.declared.entries.Substitutable.TheVariants as of_substitutable
use Rattle.demangle_entries.specs.TreeEntries.{tree_of_substitutable}
use Rattle.demangle_printing.specs.Rules.{of_part}
use Rattle.demangle_meets.specs.Place.{Refers, world_of}
use Rattle.demangle_print_types.proofs.Itself.{type_is_itself}
use Rattle.demangle_print_unqualified.proofs.Itself.{prefix_is_itself}
use Rattle.demangle_print_primaries.proofs.Itself.{expression_is_itself, unresolved_is_itself}
use Rattle.demangle_print_components.specs.Held.{held_in}

pub mangled_name_is_itself : (r : Refers) (x : MangledName) →
    of_part (world_of r) (Some (tree_of_mangled_name x)) ≡ Some (tree_of_mangled_name x)
unfolding parts_of_mangled_name
mangled_name_is_itself r (of_mangled_name.Encoding _ _) = refl
mangled_name_is_itself r (of_mangled_name.BlockInvoke _ _) = refl
mangled_name_is_itself r (of_mangled_name.TopLevelType _) = refl
mangled_name_is_itself r (of_mangled_name.GlobalCtorDtor _) = refl

pub encoding_is_itself : (r : Refers) (x : Encoding) →
    of_part (world_of r) (Some (tree_of_encoding x)) ≡ Some (tree_of_encoding x)
unfolding parts_of_encoding
encoding_is_itself r (of_encoding.Function _ _) = refl
encoding_is_itself r (of_encoding.Data _) = refl
encoding_is_itself r (of_encoding.Special' _ _) = refl

pub name_is_itself : (r : Refers) (x : Name) →
    of_part (world_of r) (Some (tree_of_name x)) ≡ Some (tree_of_name x)
unfolding parts_of_name
name_is_itself r (of_name.Nested _) = refl
name_is_itself r (of_name.Unscoped _) = refl
name_is_itself r (of_name.UnscopedTemplate' _ _ _ _) = refl
name_is_itself r (of_name.Local _) = refl

-- ---- components
pub held_part : (r : Refers) (s : Substitutable) →
    of_part (world_of r) (Some (tree_of_substitutable s)) ≡ Some (held_in s)
held_part r (of_substitutable.UnscopedTemplateName a) = refl
held_part r (of_substitutable.TypeNode a) = refl
held_part r (of_substitutable.TemplateTemplateParam a) = refl
held_part r (of_substitutable.UnresolvedType a) = refl
held_part r (of_substitutable.Prefix a) = refl
held_part r (of_substitutable.Expression a) = refl

pub held_is_itself : (r : Refers) (s : Substitutable) → of_part (world_of r) (Some (held_in s)) ≡ Some (held_in s)
held_is_itself r (of_substitutable.UnscopedTemplateName a) = refl
held_is_itself r (of_substitutable.TypeNode a) = type_is_itself r a
held_is_itself r (of_substitutable.TemplateTemplateParam a) = refl
held_is_itself r (of_substitutable.UnresolvedType a) = unresolved_is_itself r a
held_is_itself r (of_substitutable.Prefix a) = prefix_is_itself r a
held_is_itself r (of_substitutable.Expression a) = expression_is_itself r a.value
