-- The members of a list of template arguments, as their definition finds them in the list's tree.
use Rattle.std.proofs.Common.{◌≡◌, ℕ, zero, suc, ◌≤◌, ◌<◌, List, [], ◌∷◌, length, map, get_or, Option, Some, None}
use Rattle.std.proofs.Common.{refl, sym, ◌∙◌, ap, option_map}
use Rattle.std.proofs.lemmas.Option.{slice_get-map, slice_get_past, slice_get_read}
use Rattle.std.specs.Prelude.{slice_get, IfSome, MatchOption}
use Rattle.std.specs.Borrow.{Bor}
use Rattle.demangle_core.specs.Core.{Tag, Core, node, end, trees}
use Rattle.demangle_core.specs.Table.{Table}
use Rattle.demangle_nodes.specs.declared.nodes.TemplateArg.{TemplateArg}
use Rattle.demangle_nodes.specs.declared.nodes.TemplateArgs.{TemplateArgs}
use Rattle.demangle_nodes.specs.TreeNodes.{tree_of_template_arg, tree_of_template_args, tag_of_template_arg}
use Rattle.demangle_nodes.specs.TreeNodes.{parts_of_template_arg}
use Rattle.demangle_printing.specs.World.{nth, parts_seen}
use Rattle.demangle_printing.specs.Trees.{look_in, trees_of}
use Rattle.demangle_printing.specs.Scope.{members}
use Rattle.demangle_meets.specs.Place.{Refers, world_of}

-- the trees of a row that was made of a list
trees_of-trees : {A : Type 0} (t : A → Tag) (p : A → Core) (xs : List A) →
    trees_of (trees t p xs) ≡ map (λ x. node (t x) (p x) end) xs
trees_of-trees t p [] = refl
trees_of-trees t p (x ∷ xs) = ap (λ l. node (t x) (p x) end ∷ l) (trees_of-trees t p xs)

parts_of-trees : {A : Type 0} (table : Table) (input : List ℕ) (t : A → Tag) (p : A → Core) (xs : List A) →
    parts_seen (look_in table input (node Tag.Several (trees t p xs) end)) ≡ map (λ x. node (t x) (p x) end) xs
parts_of-trees table input t p [] = refl
parts_of-trees table input t p (x ∷ xs) = ap (λ l. node (t x) (p x) end ∷ l) (trees_of-trees t p xs)

pub members-args : (r : Refers) (args : TemplateArgs) →
    members (world_of r) (tree_of_template_args args) ≡ map tree_of_template_arg args.0.items
members-args r args = parts_of-trees r.table r.input tag_of_template_arg parts_of_template_arg args.0.items

nth-slice_get : {X : Type 0} (k : ℕ) (xs : List X) → nth k xs ≡ slice_get xs k
nth-slice_get k [] = refl
nth-slice_get zero (x ∷ xs) = refl
nth-slice_get (suc k) (x ∷ xs) = nth-slice_get k xs

-- what `get` answers
got : (k : ℕ) (o : Option (Bor TemplateArg)) (ls : List TemplateArg) (Q : Bor TemplateArg → Type 0) →
    IfSome o (λ x. x.now ≡ get_or ls k x.now) → MatchOption o (length ls ≤ k) (λ x. (k < length ls) × Q x) →
    option_map (λ x. x.now) o ≡ slice_get ls k
got k None ls Q at there = sym (slice_get_past ls k there)
got k (Some x) ls Q at there = sym (slice_get_read ls (length ls) k x.now refl there.0 at)

pub got_member : (r : Refers) (args : TemplateArgs) (k : ℕ) (o : Option (Bor TemplateArg)) (ls : List TemplateArg)
    (Q : Bor TemplateArg → Type 0) → ls ≡ args.0.items → IfSome o (λ x. x.now ≡ get_or ls k x.now) →
    MatchOption o (length ls ≤ k) (λ x. (k < length ls) × Q x) →
    option_map (λ x. tree_of_template_arg x.now) o ≡ nth k (members (world_of r) (tree_of_template_args args))
got_member r args k o ls Q same at there =
    option_map-now o
    ∙ (ap (option_map tree_of_template_arg) (got k o ls Q at there)
    ∙ (sym (slice_get-map tree_of_template_arg ls k)
    ∙ (sym (nth-slice_get k (map tree_of_template_arg ls))
    ∙ (ap (λ l. nth k (map tree_of_template_arg l)) same ∙ ap (nth k) (sym (members-args r args))))))
  where
    option_map-now : (o : Option (Bor TemplateArg)) →
        option_map (λ x. tree_of_template_arg x.now) o ≡ option_map tree_of_template_arg (option_map (λ x. x.now) o)
    option_map-now None = refl
    option_map-now (Some x) = refl
