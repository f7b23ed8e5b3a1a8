use Rattle.std.proofs.Common.{ap}
use Rattle.demangle_core.specs.Core.{Tag, end, node, trees}
use Rattle.demangle_leaf_nodes.specs.TreeLeaves.{parts_of_abi_tag, tag_of_abi_tag}
use Rattle.demangle_leaves_to_cells.proofs.Puts.{told}
use Rattle.demangle_leaves_to_cells.proofs.leaves.abi_tags_to.Goals as goal

pub returns : goal.returns
returns c = c.one.ensures _ _ (told _ _ _ _ _ (ap (λ l. node Tag.Several (trees tag_of_abi_tag parts_of_abi_tag l) end)
    c.deref.ensures.value) c.abi_tag_list_to-first.ensures)
