use Rattle.std.proofs.Common.{◌∙◌, sym}
use Rattle.demangle_cell_trees.proofs.Looks.{count_is}
use Rattle.demangle_cell_trees.proofs.counts.kept_count.Goals as goal

pub returns-else-is_reference : goal.returns-else-is_reference
returns-else-is_reference c =
    λ h table input. c.count_in.ensures
    ∙ sym (count_is c.args.arena.now c.args.at c.in-Some.cell c.in-Some.ensures
    (sym c.is_reference.ensures ∙ c.if-is_reference.false) table input)
