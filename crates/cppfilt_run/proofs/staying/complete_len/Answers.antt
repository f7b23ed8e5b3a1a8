use Rattle.std.proofs.Common.{◌<◌, arith, sym, ◌∙◌}
use Rattle.cppfilt_run.proofs.StayLaws.{begins-behind}
use Rattle.cppfilt_run.proofs.staying.complete_len.Goals as goal

pub overflow_sub-end : goal.overflow_sub-end
overflow_sub-end c =
    let some : 0 < c.loop-end.end = begins-behind c.args.bytes.now c.loop-end.end (sym c.begins_line.ensures ∙ c.loop-end-test.true) in
    omega arith

pub loop-end-smaller : goal.loop-end-smaller
loop-end-smaller c =
    let some : 0 < c.loop-end.end = begins-behind c.args.bytes.now c.loop-end.end (sym c.begins_line.ensures ∙ c.loop-end-test.true) in
    omega arith
