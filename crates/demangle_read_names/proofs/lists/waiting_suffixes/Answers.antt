use Rattle.std.proofs.Common.{◌∙◌}
use Rattle.demangle_grammar.specs.Rule.{Row}
use Rattle.demangle_cells.proofs.Waits.{gathered_table}
use Rattle.demangle_read_rows.proofs.RowLists.{list_begins, list_ends, list_fails, list_goes_on, suffixes_take}
use Rattle.demangle_read_names.proofs.lists.waiting_suffixes.Goals as goal

pub loop-suffix-init : goal.loop-suffix-init
loop-suffix-init c = list_begins c.args.depth.levels Row.clone_suffix c.args.depth.conversion c.args.text c.args.at _

pub loop-suffix-preserved : goal.loop-suffix-preserved
loop-suffix-preserved c =
    let a = c.clone_suffix-answer in
    let w = c.in_ok-wait-in-Ok-Ok.ensures in
    list_goes_on c.args.depth.levels Row.clone_suffix c.args.depth.conversion c.args.text c.args.at _ c.loop-suffix.end _ _
    c.loop-suffix.invariant a.ensures.grown a.ensures.table _ a.result c.in-Ok-Ok.suffix suffixes_take a.ensures.reads
    (rw c.in-Ok-Ok.field-0-is at c.in-Ok-Ok.ensures) w.kept w.waits

pub returns-in_err-wait-in-Ok-Ok-clause-table : goal.returns-in_err-wait-in-Ok-Ok-clause-table
returns-in_err-wait-in-Ok-Ok-clause-table c F =
    gathered_table F _ _ c.in_err-wait-in-Ok-Ok.ensures.kept
    ∙ (c.clone_suffix-answer.ensures.table F ∙ c.loop-suffix.invariant.same F)

pub returns-in-Ok-Err-clause-reads : goal.returns-in-Ok-Err-clause-reads
returns-in-Ok-Err-clause-reads c =
    let a = c.clone_suffix-answer in
    list_ends c.args.depth.levels Row.clone_suffix c.args.depth.conversion c.args.text c.args.at _ c.loop-suffix.end _ _
    c.loop-suffix.invariant a.ensures.grown a.ensures.table a.result _ a.ensures.reads
    (rw c.in-Ok-Err.field-0-is at c.in-Ok-Err.ensures)

pub returns-in-Err-clause-reads : goal.returns-in-Err-clause-reads
returns-in-Err-clause-reads c =
    let a = c.clone_suffix-answer in
    list_fails c.args.depth.levels Row.clone_suffix c.args.depth.conversion c.args.text c.args.at _ c.loop-suffix.end _ _
    c.loop-suffix.invariant a.ensures.grown a.ensures.table a.result _ a.ensures.reads c.in-Err.ensures
