-- Lists as parts of a node.
use Rattle.std.proofs.Common.{◌≡◌, ℤ, [], ◌∷◌, List, map, Some, refl, ap}
use Rattle.demangle_core.specs.Core.{Core, Tag, end, node, number, numbers, trees}
use Rattle.demangle_leaf_nodes.specs.declared.leaves.BareFunctionType.{BareFunctionType}
use Rattle.demangle_leaf_nodes.specs.TreeLeaves.{parts_of_bare_function_type, parts_of_type_handle, tag_of_type_handle}
use Rattle.demangle_leaf_nodes.specs.TreeLeaves.{tree_of_signed, tree_of_type_handle}
use Rattle.demangle_printing.specs.World.{listed}
use Rattle.demangle_meets.specs.Place.{Refers, world_of}
use Rattle.demangle_print_parts.proofs.Each.{numbers_are, trees_are}

pub trees_listed : {A : Type 0} (r : Refers) (tag : A → Tag) (parts : A → Core) (xs : List A) →
    listed (world_of r) (Some (node Tag.Several (trees tag parts xs) end)) ≡ map (λ x. node (tag x) (parts x) end) xs
trees_listed r tag parts [] = refl
trees_listed r tag parts (x ∷ xs) = ap (λ ys. node (tag x) (parts x) end ∷ ys) (trees_are tag parts xs)

pub numbers_listed : (r : Refers) (ns : List ℤ) →
    listed (world_of r) (Some (node Tag.Several (numbers ns) end)) ≡ map tree_of_signed ns
numbers_listed r [] = refl
numbers_listed r (n ∷ ns) = ap (λ ys. number n end ∷ ys) (numbers_are ns)

-- the types of a function
pub types_listed : (r : Refers) (x : BareFunctionType) →
    listed (world_of r) (Some (parts_of_bare_function_type x)) ≡ map tree_of_type_handle x.0.items
types_listed r x = trees_listed r tag_of_type_handle parts_of_type_handle x.0.items
