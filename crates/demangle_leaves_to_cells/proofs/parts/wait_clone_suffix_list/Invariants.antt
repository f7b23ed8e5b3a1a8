use Rattle.std.proofs.Common.{Ok, take}
use Rattle.demangle_cells.specs.View.{view}
use Rattle.demangle_core.specs.Core.{trees}
use Rattle.demangle_leaf_nodes.specs.TreeLeaves.{parts_of_clone_suffix, tag_of_clone_suffix}
use Rattle.demangle_leaves_to_cells.specs.Put.{Waits}
use Rattle.demangle_leaves_to_cells.proofs.parts.wait_clone_suffix_list.Given as goal

abbrev pub invariant-loop-node : goal.invariant-loop-node
invariant-loop-node l = Waits (view l.fn.arena) (view l.arena) (Ok tt) (trees tag_of_clone_suffix parts_of_clone_suffix
    (take l.node-index l.nodes))
