use Rattle.std.proofs.Common.{ap}
use Rattle.demangle_core.specs.Core.{Tag, end, node, trees}
use Rattle.demangle_leaf_nodes.specs.TreeLeaves.{parts_of_type_handle, tag_of_type_handle}
use Rattle.demangle_leaves_to_cells.proofs.Puts.{told}
use Rattle.demangle_leaves_to_cells.proofs.leaves.bare_function_type_to.Goals as goal

pub returns : goal.returns
returns c = c.one.ensures _ _ (told _ _ _ _ _ (ap (λ l. node Tag.Several (trees tag_of_type_handle parts_of_type_handle
    l) end) c.deref.ensures.value) c.type_handle_list_to-first.ensures)
