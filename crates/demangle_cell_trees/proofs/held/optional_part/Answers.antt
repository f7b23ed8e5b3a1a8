use Rattle.std.proofs.Common.{◌∙◌, ap, sym}
use Rattle.demangle_cell_trees.specs.Held.{is_plain}
use Rattle.demangle_cell_trees.specs.Own.{tag_number}
use Rattle.demangle_cell_trees.proofs.Printed.{is_handled}
use Rattle.demangle_cell_trees.proofs.held.optional_part.Goals as goal

pub returns-then-is_plain-clause-part : goal.returns-then-is_plain-clause-part
returns-then-is_plain-clause-part c =
    λ b table input. is_handled c.args.arena.now c.args.part c.in-Some.cell b c.in-Some.ensures
    (sym (c.is_plain.ensures ∙ ap is_plain (c.row_number.ensures ∙ ap tag_number c.row_tag.ensures))
    ∙ c.if-is_plain.true) table input
