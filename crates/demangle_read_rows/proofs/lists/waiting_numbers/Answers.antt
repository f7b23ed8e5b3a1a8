use Rattle.std.proofs.Common.{◌∙◌, ap, w64}
use Rattle.std.proofs.lemmas.Int.{to_z_pos}
use Rattle.demangle_core.specs.Core.{end, number}
use Rattle.demangle_cells.proofs.Waits.{gathered_table}
use Rattle.demangle_read_rows.proofs.DottedNumbers.{numbers_end, numbers_more}
use Rattle.demangle_read_rows.proofs.lists.waiting_numbers.Goals as goal

pub returns-in_err-wait-clause-table : goal.returns-in_err-wait-clause-table
returns-in_err-wait-clause-table c F =
    gathered_table F _ _ c.in_err-wait.ensures.kept ∙ (c.push.ensures.table F ∙ c.loop-number.invariant.same F)

pub loop-number-preserved : goal.loop-number-preserved
loop-number-preserved c =
    let value = to_z_pos w64 c.in-Ok.number c.in-Ok.ensures.small in
    numbers_more c.args.text c.args.at _ c.loop-number.end c.in-Ok.next c.in-Ok.number c.in_ok-id.id _ _ _
    c.loop-number.invariant c.in-Ok.ensures.reads c.push.ensures.grown c.push.ensures.table
    (λ F h. c.in_ok-id.ensures.made F h ∙ ap (λ v. number v end) value) c.in_ok-wait.ensures.kept
    c.in_ok-wait.ensures.waits

pub returns-clause-reads : goal.returns-clause-reads
returns-clause-reads c =
    numbers_end c.args.text c.args.at _ c.loop-number.end _ _ c.loop-number.invariant c.in_default.ensures.reads
