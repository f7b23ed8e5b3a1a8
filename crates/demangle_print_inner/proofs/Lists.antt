-- All types of a function but the first as parts of its node.
use Rattle.std.proofs.Common.{◌≡◌, List, [], ◌∷◌, map, drop, Some, refl, sym, ◌∙◌, ap}
use Rattle.demangle_leaf_nodes.specs.declared.leaves.BareFunctionType.{BareFunctionType}
use Rattle.demangle_leaf_nodes.specs.TreeLeaves.{parts_of_bare_function_type, tree_of_type_handle}
use Rattle.demangle_printing.specs.World.{listed}
use Rattle.demangle_meets.specs.Place.{Refers, world_of}
use Rattle.demangle_print_parts.proofs.Listed.{types_listed}

drop-map : {A B : Type 0} (f : A → B) (xs : List A) → map f (drop 1 xs) ≡ drop 1 (map f xs)
drop-map f [] = refl
drop-map f (x ∷ xs) = refl

pub types_behind : (r : Refers) (x : BareFunctionType) → map tree_of_type_handle (drop 1 x.0.items)
    ≡ drop 1 (listed (world_of r) (Some (parts_of_bare_function_type x)))
types_behind r x = drop-map tree_of_type_handle x.0.items ∙ ap (drop 1) (sym (types_listed r x))
