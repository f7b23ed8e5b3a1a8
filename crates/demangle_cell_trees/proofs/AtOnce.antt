-- Trees that are told at one look.
use Rattle.std.proofs.Common.{◌≡◌, ℕ, true, nat_eq, List, [], ◌∷◌, Option, Some, None, IfSome, sym, ap, ◌∙◌, subst, arith}
use Rattle.demangle_core.specs.Core.{Core, Tag, node, end}
use Rattle.demangle_grammar.specs.Code.{joined}
use Rattle.demangle_cells.specs.View.{Holds, View, view}
use Rattle.demangle_cells.specs.declared.arena.Arena.{Arena}
use Rattle.demangle_cells.specs.declared.plain.Plain.TheVariants as of_plain
use Rattle.demangle_cells.specs.declared.tag.Tag.TheVariants as of_tag
use Rattle.demangle_lines.specs.Known.{IsPlainName, no_tags, source_name}
use Rattle.demangle_cell_trees.specs.ArenaTrees.{IsCell, tree_at}
use Rattle.demangle_cell_trees.specs.Known.{IsSourceName}
use Rattle.demangle_cell_trees.proofs.Hold.{trees_hold}

-- what a constant stands for
pub constant_is : (a : Arena) {k n : ℕ} {x : Core} → k ≡ n → ((F : ℕ → Core) (v : View) → Holds F v → F n ≡ x) →
    tree_at a k ≡ x
constant_is a e h = ap (tree_at a) e ∙ h (tree_at a) (view a) (trees_hold a)

pub is_constant : (a : Arena) (k n : ℕ) {x : Core} → ((F : ℕ → Core) (v : View) → Holds F v → F n ≡ x) →
    nat_eq k n ≡ true → tree_at a k ≡ x
is_constant a k n h e = let same : k ≡ n = grind (arith, e) in constant_is a same h

-- an unqualified name of a source name and no tags
abbrev named : Core → Core → Core
named x y = node Tag.UnqualifiedNameSource (joined (x ∷ y ∷ [])) end

pub plain_name_is : {B : Type 0} (now : B → List ℕ) (a : Arena) (input : List ℕ) (k s t : ℕ) (o : Option B) →
    IsCell a k (of_plain.Two of_tag.UnqualifiedNameSource s t) → tree_at a t ≡ no_tags →
    IfSome o (λ b. IsSourceName input (tree_at a s) (now b)) → IfSome o (λ b. IsPlainName input (tree_at a k) (now b))
plain_name_is now a input k s t None c e h = tt
plain_name_is now a input k s t (Some b) c e h =
    record {
      start = h.start;
      stop = h.stop;
      is = c.is ∙ (ap (λ x. named x (tree_at a t)) h.is ∙ ap (named (source_name h.start h.stop)) e);
      here = h.here;
    }
