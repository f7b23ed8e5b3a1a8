use Rattle.std.proofs.Common.{◌∙◌, sym}
use Rattle.demangle_cell_trees.proofs.Looks.{component_length}
use Rattle.demangle_cell_trees.proofs.counts.component_count.Goals as goal

pub returns-else-is_reference : goal.returns-else-is_reference
returns-else-is_reference c =
    rw c.in-Some.is (c.count_in.ensures
    ∙ sym (component_length c.args.subs.now c.in-Some.id c.cell_at-cell.result c.cell_at-cell.ensures
    (sym c.is_reference.ensures ∙ c.if-is_reference.false)))
