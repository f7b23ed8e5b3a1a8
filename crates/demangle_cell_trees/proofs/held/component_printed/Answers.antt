use Rattle.std.proofs.Common.{◌∙◌, ap, sym}
use Rattle.demangle_cells.specs.declared.plain.Plain.TheVariants as of_plain
use Rattle.demangle_cell_trees.specs.ArenaTrees.{IsCell}
use Rattle.demangle_cell_trees.specs.Held.{is_holder}
use Rattle.demangle_cell_trees.proofs.Printed.{component_is_handled, component_is_held}
use Rattle.demangle_cell_trees.proofs.held.component_printed.Goals as goal

pub returns-then-is_holder-clause-part : goal.returns-then-is_holder-clause-part
returns-then-is_holder-clause-part c =
    let e : IsCell c.args.subs.now c.in-Some.id (of_plain.One c.in-Some-One.tag c.in-Some-One.part) =
    rw c.in-Some-One.field-0-is at c.in-Some-One.ensures in
    rw c.in-Some.is (λ b table input x l. component_is_held c.args.subs.now c.in-Some.id c.in-Some-One.tag
    c.in-Some-One.part e b (sym (c.is_holder.ensures ∙ ap is_holder c.number_of_tag.ensures) ∙ c.if-is_holder.true)
    table input x l)

pub returns-then-is_holder-clause-handle : goal.returns-then-is_holder-clause-handle
returns-then-is_holder-clause-handle c =
    let e : IsCell c.args.subs.now c.in-Some.id (of_plain.One c.in-Some-One.tag c.in-Some-One.part) =
    rw c.in-Some-One.field-0-is at c.in-Some-One.ensures in
    rw c.in-Some.is (λ b table input x l. component_is_handled c.args.subs.now c.in-Some.id c.in-Some-One.tag
    c.in-Some-One.part e b (sym (c.is_holder.ensures ∙ ap is_holder c.number_of_tag.ensures) ∙ c.if-is_holder.true)
    table input x l)
