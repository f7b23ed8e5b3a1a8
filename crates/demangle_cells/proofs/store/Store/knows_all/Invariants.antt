use Rattle.std.proofs.Common.{◌≡◌, ◌+◌, length}
use Rattle.demangle_cells.specs.Fixed.{first_cell}
use Rattle.demangle_cells.specs.Behind.{all_known}
use Rattle.demangle_cells.specs.Held.{held}
use Rattle.demangle_cells.proofs.store.Store.knows_all.Given as goal

abbrev pub invariant-loop-rest : goal.invariant-loop-rest
invariant-loop-rest l =
    all_known (first_cell + length (held l.self.cells)) l.rest
    ≡ all_known (first_cell + length (held l.self.cells)) l.fn.ids

abbrev pub decreases-loop-rest : goal.decreases-loop-rest
decreases-loop-rest l = length l.rest
