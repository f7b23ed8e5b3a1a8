-- Nodes that are printed as they are: neither optional parts nor handles nor components.
use Rattle.std.proofs.Common.{◌≡◌, Some, refl}
use Rattle.demangle_leaf_nodes.specs.declared.leaves.CallOffset.{CallOffset}
use Rattle.demangle_leaf_nodes.specs.declared.leaves.CallOffset.TheVariants as of_offset
use Rattle.demangle_leaf_nodes.specs.TreeLeaves.{tree_of_call_offset}
use Rattle.demangle_nodes.specs.declared.nodes.SpecialName.{SpecialName}
use Rattle.demangle_nodes.specs.declared.nodes.SpecialName.TheVariants as of_special
use Rattle.demangle_nodes.specs.TreeNodes.{parts_of_special_name, tree_of_special_name}
use Rattle.demangle_printing.specs.Rules.{of_part}
use Rattle.demangle_meets.specs.Place.{Refers, world_of}

pub offset_is_itself : (r : Refers) (x : CallOffset) →
    of_part (world_of r) (Some (tree_of_call_offset x)) ≡ Some (tree_of_call_offset x)
offset_is_itself r (of_offset.NonVirtual a) = refl
offset_is_itself r _ = refl

pub special_is_itself : (r : Refers) (x : SpecialName) →
    of_part (world_of r) (Some (tree_of_special_name x)) ≡ Some (tree_of_special_name x)
unfolding parts_of_special_name
special_is_itself r (of_special.VirtualTable a) = refl
special_is_itself r _ = refl
