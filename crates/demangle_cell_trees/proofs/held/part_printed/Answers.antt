use Rattle.std.proofs.Common.{◌∙◌, ap, sym, nat_eq}
use Rattle.demangle_cell_trees.specs.Held.{is_holder}
use Rattle.demangle_cell_trees.proofs.Printed.{is_held, is_optional}
use Rattle.demangle_cell_trees.proofs.held.part_printed.Goals as goal

pub returns-then-is_holder-clause-part : goal.returns-then-is_holder-clause-part
returns-then-is_holder-clause-part c =
    λ b table input. is_held c.args.arena.now c.args.at c.args.tag c.args.part c.requires table input b
    (sym (c.is_holder.ensures ∙ ap is_holder c.number_of_tag-number.ensures) ∙ c.if-is_holder.true)

pub returns-then-number-eq0-clause-part : goal.returns-then-number-eq0-clause-part
returns-then-number-eq0-clause-part c =
    λ b table input. c.optional_part.ensures.part b table input
    ∙ is_optional c.args.arena.now c.args.at c.args.tag c.args.part c.requires table input
    (ap (λ n. nat_eq n 0) (sym c.number_of_tag-number.ensures ∙ c.if-number-eq0.true))
