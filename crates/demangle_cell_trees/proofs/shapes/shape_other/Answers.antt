use Rattle.std.proofs.Common.{◌∙◌, sym}
use Rattle.demangle_cells.specs.View.{view}
use Rattle.demangle_cell_trees.specs.ArenaTrees.{table_of, tree_at}
use Rattle.demangle_cell_trees.proofs.Looks.{shape_is, no_reference}
use Rattle.demangle_cell_trees.proofs.shapes.shape_other.Goals as goal

pub returns-in_default : goal.returns-in_default
returns-in_default c =
    λ input. c.own_code.ensures (tree_at c.args.arena.now) (view c.args.arena.now).list
    ∙ sym (shape_is c.args.arena.now c.args.at c.cell_of-cell.result c.cell_of-cell.ensures
    (no_reference c.cell_of-cell.result c.in_default.not-Reference c.in_default.not-Other)
    (table_of c.args.subs.now) input)
