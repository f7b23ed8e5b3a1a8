-- What was made is the front of the row.
use Rattle.std.proofs.Common.{take, ℕ, ◌≡◌}
use Rattle.demangle_core.specs.Core.{Core, numbers}
use Rattle.demangle_cells.specs.Cells.{row}
use Rattle.demangle_cells.specs.View.{Holds, view}
use Rattle.demangle_leaves_from_cells.proofs.lists.number_list_of.Given as goal

abbrev pub invariant-loop-id : goal.invariant-loop-id
invariant-loop-id l = (F : ℕ → Core) → Holds F (view l.arena)
    → row F (take l.id-index l.ids) ≡ numbers l.list.items
