use Rattle.std.proofs.Common.{◌∙◌, ap, sym}
use Rattle.demangle_cell_trees.specs.Held.{is_plain}
use Rattle.demangle_cell_trees.specs.Own.{tag_number}
use Rattle.demangle_cell_trees.proofs.Printed.{is_itself}
use Rattle.demangle_cell_trees.proofs.held.cell_printed.Goals as goal

pub returns-then-is_plain-clause-itself : goal.returns-then-is_plain-clause-itself
returns-then-is_plain-clause-itself c =
    λ b table input. is_itself c.args.arena.now c.args.at c.args.cell c.requires
    (sym (c.is_plain.ensures ∙ ap is_plain (c.row_number.ensures ∙ ap tag_number c.row_tag.ensures))
    ∙ c.if-is_plain.true) table input

pub returns-in-One-clause-itself : goal.returns-in-One-clause-itself
returns-in-One-clause-itself c = λ b table input. absurd (c.part_printed.ensures.other b)
