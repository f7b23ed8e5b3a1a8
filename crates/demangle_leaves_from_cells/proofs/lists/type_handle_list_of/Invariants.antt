-- What was made is the front of the row.
use Rattle.std.proofs.Common.{take, ℕ, ◌≡◌}
use Rattle.demangle_core.specs.Core.{Core, trees}
use Rattle.demangle_leaf_nodes.specs.TreeLeaves.{parts_of_type_handle, tag_of_type_handle}
use Rattle.demangle_cells.specs.Cells.{row}
use Rattle.demangle_cells.specs.View.{Holds, view}
use Rattle.demangle_leaves_from_cells.proofs.lists.type_handle_list_of.Given as goal

abbrev pub invariant-loop-id : goal.invariant-loop-id
invariant-loop-id l = (F : ℕ → Core) → Holds F (view l.arena)
    → row F (take l.id-index l.ids) ≡ trees tag_of_type_handle parts_of_type_handle l.list.items
