use Rattle.std.proofs.Common.{◌∙◌, sym, ap}
use Rattle.demangle_core.specs.Core.{Core}
use Rattle.demangle_cells.specs.View.{view}
use Rattle.demangle_printing.specs.World.{nth}
use Rattle.demangle_cell_trees.specs.ArenaTrees.{tree_at}
use Rattle.demangle_cell_trees.specs.Own.{parts_in, row_of}
use Rattle.demangle_cell_trees.specs.Steps.{if_holds, part_says}
use Rattle.demangle_cell_trees.proofs.Steps.{tagged}
use Rattle.demangle_cell_trees.proofs.Ways.{own_part, tag_is}
use Rattle.demangle_cell_trees.proofs.lookups.arguments_step.Goals as goal

pub returns-then-holds_it : goal.returns-then-holds_it
returns-then-holds_it c =
    let x : Core = tree_at c.args.arena.now c.args.id in
    let h = sym c.row_tag.ensures ∙ c.in-Some.is in
    c.part_step.ensures (nth 0 (row_of (view c.args.arena.now).list c.cell_at-cell.result)) c.index_in.ensures
    ∙ (ap (part_says c.args.sought)
    (own_part c.args.sought c.args.arena.now c.args.id c.cell_at-cell.result c.in-Some.tag c.cell_at-cell.ensures h 0)
    ∙ sym (tagged c.args.sought x c.in-Some.tag
    (tag_is c.args.sought c.args.arena.now c.args.id c.cell_at-cell.result c.in-Some.tag c.cell_at-cell.ensures h)
    ∙ ap (λ b. if_holds b (part_says c.args.sought (nth 0 (parts_in x))))
    (sym c.holds_it.ensures ∙ c.if-holds_it.true)))

pub returns-else-holds_it : goal.returns-else-holds_it
returns-else-holds_it c =
    let x : Core = tree_at c.args.arena.now c.args.id in
    let h = sym c.row_tag.ensures ∙ c.in-Some.is in
    sym (tagged c.args.sought x c.in-Some.tag
    (tag_is c.args.sought c.args.arena.now c.args.id c.cell_at-cell.result c.in-Some.tag c.cell_at-cell.ensures h)
    ∙ ap (λ b. if_holds b (part_says c.args.sought (nth 0 (parts_in x))))
    (sym c.holds_it.ensures ∙ c.if-holds_it.false))
