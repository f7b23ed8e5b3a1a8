use Rattle.std.proofs.Common.{◌∙◌, sym}
use Rattle.demangle_cells.specs.View.{view}
use Rattle.demangle_printing.specs.World.{nth}
use Rattle.demangle_cell_trees.specs.ArenaTrees.{table_of}
use Rattle.demangle_cell_trees.specs.Own.{row_of}
use Rattle.demangle_cell_trees.proofs.Looks.{part_is, no_reference}
use Rattle.demangle_cell_trees.proofs.Numbers.{part_coded}
use Rattle.demangle_cell_trees.proofs.parts.part_other.Goals as goal

pub returns-in_default : goal.returns-in_default
returns-in_default c =
    λ input. part_coded c.args.arena.now c.args.subs.now
    (nth c.args.number (row_of (view c.args.arena.now).list c.cell_of-cell.result)) c.index_in.result c.index_in.ensures
    ∙ sym (part_is c.args.arena.now c.args.at c.cell_of-cell.result c.cell_of-cell.ensures
    (no_reference c.cell_of-cell.result c.in_default.not-Reference c.in_default.not-Other)
    (table_of c.args.subs.now) input c.args.number)
