use Rattle.std.proofs.Common.{◌∙◌, sym}
use Rattle.demangle_cell_trees.proofs.Looks.{began_is}
use Rattle.demangle_cell_trees.proofs.values.began_of.Goals as goal

pub returns : goal.returns
returns c =
    c.began_in.ensures ∙ sym (began_is c.args.node.arena.now c.args.node.at c.cell_of.result c.cell_of.ensures)
