use Rattle.std.proofs.Common.{◌≡◌, take}
use Rattle.demangle_core.specs.Core.{trees}
use Rattle.demangle_leaf_nodes.specs.TreeLeaves.{tag_of_clone_suffix, parts_of_clone_suffix}
use Rattle.demangle_leaf_nodes.proofs.copies.clone_suffixes.Given as goal

abbrev pub invariant-loop-item : goal.invariant-loop-item
invariant-loop-item l = trees tag_of_clone_suffix parts_of_clone_suffix l.copy.items ≡ trees tag_of_clone_suffix parts_of_clone_suffix (take l.item-index l.items)
