use Rattle.std.proofs.Common.{◌∙◌, sym}
use Rattle.demangle_cell_trees.specs.ArenaTrees.{table_of}
use Rattle.demangle_cell_trees.proofs.Looks.{count_is, no_reference}
use Rattle.demangle_cell_trees.proofs.counts.count_other.Goals as goal

pub returns-in_default : goal.returns-in_default
returns-in_default c =
    λ input. c.count_in.ensures
    ∙ sym (count_is c.args.arena.now c.args.at c.cell_of-cell.result c.cell_of-cell.ensures
    (no_reference c.cell_of-cell.result c.in_default.not-Reference c.in_default.not-Other)
    (table_of c.args.subs.now) input)
