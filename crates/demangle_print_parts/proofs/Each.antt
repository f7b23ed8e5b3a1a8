-- Steps for each tree of a list, one behind the other.
use Rattle.std.proofs.Common.{◌≡◌, ℕ, ℤ, ◌+◌, ◌≤◌, List, [], ◌∷◌, length, map, drop, Some, refl, ap, subst}
use Rattle.std.proofs.lemmas.List.{drop_all}
use Rattle.demangle_core.specs.Core.{Core, Tag, end, node, number, numbers, trees}
use Rattle.demangle_leaf_nodes.specs.TreeLeaves.{tree_of_signed}
use Rattle.demangle_printing.specs.Scope.{Scope}
use Rattle.demangle_printing.specs.Act.{Act}
use Rattle.demangle_printing.specs.Step.{Step}
use Rattle.demangle_printing.specs.Reader.{run}
use Rattle.demangle_printing.specs.Trees.{trees_of}
use Rattle.demangle_meets.specs.Page.{Page}
use Rattle.demangle_meets.specs.Place.{Place, world_of}
use Rattle.demangle_meets.specs.Meets.{Meets, Remains}
use Rattle.demangle_meets.proofs.Lines.{remains_all, then_block, meets_whole}
use Rattle.demangle_print_parts.specs.Pieces.{each_of}

-- the trees of a list of nodes
pub trees_are : {A : Type 0} (tag : A → Tag) (parts : A → Core) (xs : List A) →
    trees_of (trees tag parts xs) ≡ map (λ x. node (tag x) (parts x) end) xs
trees_are tag parts [] = refl
trees_are tag parts (x ∷ xs) = ap (λ ys. node (tag x) (parts x) end ∷ ys) (trees_are tag parts xs)

-- and of a list of numbers
pub numbers_are : (ns : List ℤ) → trees_of (numbers ns) ≡ map tree_of_signed ns
numbers_are [] = refl
numbers_are (n ∷ ns) = ap (λ ys. number n end ∷ ys) (numbers_are ns)

-- all of them are left; one is done; none is left
pub each_begins : {A : Type 0} {p : Place} {a : Page} (k : Step) (sc : Scope Core) (tree : A → Core) (xs : List A) →
    Remains p a a (each_of (world_of p.refers) k (map tree xs) sc) (each_of (world_of p.refers) k (map tree xs) sc)
each_begins k sc tree xs = remains_all

pub each_read : {A : Type 0} {p : Place} {a c d : Page} {f : Act Core} (k : Step) (sc : Scope Core) (tree : A → Core)
    (xs : List A) (n : ℕ) (x : A) → Remains p a c f (each_of (world_of p.refers) k (map tree (drop n xs)) sc) →
    Meets p c d (run (world_of p.refers) (Some (tree x)) sc k) → drop n xs ≡ x ∷ drop (n + 1) xs →
    Remains p a d f (each_of (world_of p.refers) k (map tree (drop (n + 1) xs)) sc)
each_read {p = p} {a = a} {c = c} {f = f} k sc tree xs n x w d h =
    then_block
    (subst (λ ys. Remains p a c f (each_of (world_of p.refers) k (map tree ys) sc)) h w) d

pub each_ends : {A : Type 0} {p : Place} {a c : Page} {f : Act Core} (k : Step) (sc : Scope Core) (tree : A → Core)
    (xs : List A) (n : ℕ) → Remains p a c f (each_of (world_of p.refers) k (map tree (drop n xs)) sc) →
    length xs ≤ n → Meets p a c f
each_ends {p = p} {a = a} {c = c} {f = f} k sc tree xs n w h =
    meets_whole (subst (λ ys. Remains p a c f (each_of (world_of p.refers) k (map tree ys) sc)) (drop_all n xs h) w)
