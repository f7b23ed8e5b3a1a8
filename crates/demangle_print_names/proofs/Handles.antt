-- Names and prefixes that are optional parts. What a prefix refers to is a component, and no optional part.
use Rattle.std.proofs.Common.{◌≡◌, ℕ, Option, Some, None, option_map, refl, sym, ◌∙◌, ap}
use Rattle.std.proofs.lemmas.Option.{slice_get-map}
use Rattle.std.specs.Prelude.{slice_get}
use Rattle.demangle_core.specs.Core.{Core, Tag, Which, N, U, end, node}
use Rattle.demangle_core.specs.Table.{entry_at}
use Rattle.demangle_leaf_nodes.specs.declared.leaves.PrefixHandle.{PrefixHandle}
use Rattle.demangle_leaf_nodes.specs.declared.leaves.PrefixHandle.TheVariants as of_handle
use Rattle.demangle_leaf_nodes.specs.TreeLeaves.{tree_of_prefix_handle}
use Rattle.demangle_nodes.specs.declared.nodes.Name.{Name}
use Rattle.demangle_nodes.specs.declared.nodes.Name.TheVariants as of_name
use Rattle.demangle_nodes.specs.TreeNodes.{parts_of_name, tree_of_name}
use Rattle.demangle_components.proofs.Calls.{numbered_at, other_at}
use Rattle.demangle_entries.specs.declared.entries.Substitutable.{Substitutable}
use Rattle.demangle_entries.specs.declared.entries.Substitutable.TheVariants as of_substitutable
use Rattle.demangle_entries.specs.TreeEntries.{tag_of_substitutable, parts_of_substitutable, tree_of_substitutable}
use Rattle.demangle_table.specs.declared.table.SubstitutionTable.{SubstitutionTable}
use Rattle.demangle_table.specs.TableOf.{table_of}
use Rattle.demangle_printing.specs.Rules.{as_optional, itself, of_handle as handle_part, of_holding, of_part}
use Rattle.demangle_printing.specs.Rules.{optional_seen}
use Rattle.demangle_printing.specs.Trees.{look_component, trees_of}
use Rattle.demangle_meets.specs.Place.{Refers, world_of}

-- a name
pub optional_name : (r : Refers) (x : Name) →
    of_part (world_of r) (Some (node Tag.Present (tree_of_name x) end)) ≡ of_part (world_of r) (Some (tree_of_name x))
unfolding parts_of_name
optional_name r (of_name.Nested a) = refl
optional_name r _ = refl

-- ---- prefixes
abbrev found_in : (t : SubstitutionTable) (v : Which) (k : ℕ) → Option Substitutable
found_in t N k = slice_get t.components.numbered.items k
found_in t U k = slice_get t.components.others.items k

found_is : (t : SubstitutionTable) (v : Which) (k : ℕ) →
    entry_at v k (table_of t) ≡ option_map tree_of_substitutable (found_in t v k)
found_is t N k =
    numbered_at tree_of_substitutable t.components.numbered.items t.components.others.items
    t.components.numbered_before.items k
    ∙ slice_get-map tree_of_substitutable t.components.numbered.items k
found_is t U k =
    other_at tree_of_substitutable t.components.numbered.items t.components.others.items
    t.components.numbered_before.items k t.components.paired t.components.rising
    ∙ slice_get-map tree_of_substitutable t.components.others.items k

is_there : (s : Substitutable) → as_optional (tag_of_substitutable s) ≡ itself
is_there (of_substitutable.UnscopedTemplateName a) = refl
is_there _ = refl

no_option : (r : Refers) (x : Core) (o : Option Substitutable) →
    optional_seen (world_of r) x (look_component (option_map tree_of_substitutable o)) ≡ Some x
no_option r x None = refl
no_option r x (Some s) = ap (λ v. of_holding v x (trees_of (parts_of_substitutable s))) (is_there s)

no_option_at : (r : Refers) (t : SubstitutionTable) → table_of t ≡ r.table → (x : Core) (v : Which) (k : ℕ) →
    optional_seen (world_of r) x (look_component (entry_at v k r.table)) ≡ Some x
no_option_at r t e x v k =
    ap (λ o. optional_seen (world_of r) x (look_component o)) (ap (entry_at v k) (sym e) ∙ found_is t v k)
    ∙ no_option r x (found_in t v k)

pub optional_prefix : (r : Refers) (t : SubstitutionTable) → table_of t ≡ r.table → (x : PrefixHandle) →
    of_part (world_of r) (Some (node Tag.Present (tree_of_prefix_handle x) end))
    ≡ of_part (world_of r) (Some (tree_of_prefix_handle x))
optional_prefix r t e (of_handle.WellKnown a) = refl
optional_prefix r t e (of_handle.BackReference k) =
    ap (handle_part (world_of r))
    (sym (no_option_at r t e (tree_of_prefix_handle (of_handle.BackReference k)) N k))
optional_prefix r t e (of_handle.NonSubstitution a) =
    ap (handle_part (world_of r))
    (sym (no_option_at r t e (tree_of_prefix_handle (of_handle.NonSubstitution a)) U a.0))
