-- What a reference is printed as.
use Rattle.std.proofs.Common.{◌≡◌, ℕ, List, Some, None, refl, sym, ◌∙◌, ap}
use Rattle.demangle_core.specs.Core.{Core, Tag, Which, end, node, ref}
use Rattle.demangle_core.specs.Table.{Table, entry_at}
use Rattle.demangle_entries.specs.declared.entries.Substitutable.{Substitutable}
use Rattle.demangle_entries.specs.declared.entries.Substitutable.TheVariants as of_substitutable
use Rattle.demangle_entries.specs.TreeEntries.{tree_of_substitutable, tag_of_substitutable, parts_of_substitutable}
use Rattle.demangle_printing.specs.World.{World}
use Rattle.demangle_printing.specs.World as seen
use Rattle.demangle_printing.specs.Scope.{Scope}
use Rattle.demangle_printing.specs.Rules.{itself, its_part, as_optional, as_handle, optional_seen, handle_seen}
use Rattle.demangle_printing.specs.Rules.{of_handle, of_part}
use Rattle.demangle_printing.specs.Trees.{look_in, look_component, trees_of}
use Rattle.demangle_meets.specs.Page.{Page}
use Rattle.demangle_meets.specs.Place.{Place, world_of}
use Rattle.demangle_meets.specs.Meets.{Prints}
use Rattle.demangle_meets.proofs.Parts.{prints_alike, prints_nothing}

looks : (table : Table) (input : List ℕ) (s : Substitutable) → look_in table input (tree_of_substitutable s)
    ≡ seen.node (tag_of_substitutable s) (trees_of (parts_of_substitutable s))
looks table input (of_substitutable.UnscopedTemplateName a) = refl
looks table input (of_substitutable.TypeNode a) = refl
looks table input (of_substitutable.TemplateTemplateParam a) = refl
looks table input (of_substitutable.UnresolvedType a) = refl
looks table input (of_substitutable.Prefix a) = refl
looks table input (of_substitutable.Expression a) = refl

is_there : (s : Substitutable) → as_optional (tag_of_substitutable s) ≡ itself
is_there (of_substitutable.UnscopedTemplateName a) = refl
is_there (of_substitutable.TypeNode a) = refl
is_there (of_substitutable.TemplateTemplateParam a) = refl
is_there (of_substitutable.UnresolvedType a) = refl
is_there (of_substitutable.Prefix a) = refl
is_there (of_substitutable.Expression a) = refl

holds_part : (s : Substitutable) → as_handle (tag_of_substitutable s) ≡ its_part
holds_part (of_substitutable.UnscopedTemplateName a) = refl
holds_part (of_substitutable.TypeNode a) = refl
holds_part (of_substitutable.TemplateTemplateParam a) = refl
holds_part (of_substitutable.UnresolvedType a) = refl
holds_part (of_substitutable.Prefix a) = refl
holds_part (of_substitutable.Expression a) = refl

-- a reference to a component of either list
pub found : {p : Place} {a b : Page} {sc : Scope Core} (t : Tag) (v : Which) (k : ℕ) (s : Substitutable) →
    Some (tree_of_substitutable s) ≡ entry_at v k p.refers.table → Prints p a b (tree_of_substitutable s) sc →
    Prints p a b (node t (ref v k end) end) sc
found {p} t v k s e d =
    prints_alike (tag_of_substitutable s) (trees_of (parts_of_substitutable s))
    (sym (ap look_component e) ∙ sym (looks p.refers.table p.refers.input s))
    (looks p.refers.table p.refers.input s) (is_there s) (holds_part s) d

nothing_there : (w : World Core) (x : Core) → w.look x ≡ seen.nothing → of_part w (Some x) ≡ None
nothing_there w x e = ap (λ z. of_handle w (optional_seen w x z)) e ∙ ap (handle_seen w x) e

-- and to none
pub not_found : {p : Place} {a : Page} {sc : Scope Core} (t : Tag) (v : Which) (k : ℕ) →
    None ≡ entry_at v k p.refers.table → Prints p a a (node t (ref v k end) end) sc
not_found {p} t v k e =
    prints_nothing (nothing_there (world_of p.refers) (node t (ref v k end) end) (sym (ap look_component e)))
