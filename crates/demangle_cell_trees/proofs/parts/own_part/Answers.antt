use Rattle.std.proofs.Common.{◌∙◌, sym, ap}
use Rattle.demangle_cells.specs.View.{view}
use Rattle.demangle_printing.specs.World.{nth}
use Rattle.demangle_cell_trees.specs.Own.{parts_in, row_of}
use Rattle.demangle_cell_trees.proofs.Looks.{nth_is}
use Rattle.demangle_cell_trees.proofs.Numbers.{part_coded}
use Rattle.demangle_cell_trees.proofs.parts.own_part.Goals as goal

pub returns-then-not-is_reference : goal.returns-then-not-is_reference
returns-then-not-is_reference c =
    part_coded c.args.arena.now c.args.arena.now
    (nth c.args.number (row_of (view c.args.arena.now).list c.args.cell)) c.index_in.result c.index_in.ensures
    ∙ (sym (nth_is c.args.arena.now c.args.cell (sym c.is_reference.ensures ∙ c.if-not-is_reference.true)
    c.args.number)
    ∙ ap (λ x. nth c.args.number (parts_in x)) (sym c.requires.is))
