use Rattle.std.proofs.Common.{◌∙◌, sym}
use Rattle.demangle_cells.specs.View.{view}
use Rattle.demangle_printing.specs.World.{nth}
use Rattle.demangle_cell_trees.specs.Own.{row_of}
use Rattle.demangle_cell_trees.proofs.Looks.{part_is}
use Rattle.demangle_cell_trees.proofs.Numbers.{part_coded}
use Rattle.demangle_cell_trees.proofs.parts.kept_part.Goals as goal

pub returns-else-is_reference : goal.returns-else-is_reference
returns-else-is_reference c =
    λ h table input. part_coded c.args.arena.now c.args.arena.now
    (nth c.args.number (row_of (view c.args.arena.now).list c.in-Some.cell)) c.index_in.result c.index_in.ensures
    ∙ sym (part_is c.args.arena.now c.args.at c.in-Some.cell c.in-Some.ensures
    (sym c.is_reference.ensures ∙ c.if-is_reference.false) table input c.args.number)
