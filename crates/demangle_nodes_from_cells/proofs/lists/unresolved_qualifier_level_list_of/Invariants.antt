-- What was made is the front of the row.
use Rattle.std.proofs.Common.{take, ℕ, ◌≡◌}
use Rattle.demangle_core.specs.Core.{Core, trees}
use Rattle.demangle_nodes.specs.TreeNodes.{parts_of_unresolved_qualifier_level, tag_of_unresolved_qualifier_level}
use Rattle.demangle_cells.specs.Cells.{row}
use Rattle.demangle_cells.specs.View.{Holds, view}
use Rattle.demangle_nodes_from_cells.proofs.lists.unresolved_qualifier_level_list_of.Given as goal

abbrev pub invariant-loop-id : goal.invariant-loop-id
invariant-loop-id g l = (F : ℕ → Core) → Holds F (view l.arena)
    → row F (take l.id-index l.ids)
    ≡ trees tag_of_unresolved_qualifier_level parts_of_unresolved_qualifier_level l.list.items
