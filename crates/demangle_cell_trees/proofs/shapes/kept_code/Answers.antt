use Rattle.std.proofs.Common.{◌≡◌, List, ℕ}
use Rattle.demangle_core.specs.Table.{Table}
use Rattle.demangle_printing.specs.Trees.{look_in}
use Rattle.demangle_lines.specs.Shapes.{shape_in}
use Rattle.demangle_cell_trees.specs.ArenaTrees.{node_at}
use Rattle.demangle_cell_trees.specs.Codes.{quick_of, quick_shape}
use Rattle.demangle_cell_trees.proofs.Numbers.{quick_at, quick_is}
use Rattle.demangle_cell_trees.proofs.shapes.kept_code.Goals as goal

pub returns-in-Some : goal.returns-in-Some
returns-in-Some c =
    quick_at (λ s. (t : Table) (input : List ℕ)
    → s ≡ shape_in (look_in t input (node_at c.args.arena.now c.args.at))) (quick_shape c.quick_code.result)
    (quick_of c.in-Some.cell) c.quick_code.ensures
    (quick_is c.args.arena.now c.args.at c.in-Some.cell c.in-Some.ensures)
