use Rattle.cppfilt_ends.proofs.MoveLaws.{refusal, begins-first, gives-both}
use Rattle.cppfilt_run.proofs.ShownLaws.{shown_line-parts}
use Rattle.cppfilt_run.proofs.lines.emit_line.Goals as goal

pub returns-in_err-emit_shown : goal.returns-in_err-emit_shown
returns-in_err-emit_shown g c =
    let line = c.args.line.now in
    let n = c.body_len-end.result in
    let parts =
    shown_line-parts c.args.options.now line n c.body_len-end.ensures.bytes c.body_len-end.ensures.within in
    let refused = c.in_err-emit_shown.ensures in
    rw parts
    (refusal _ _ _ _ _ _ _ _ c.from_residual.ensures.1
    (refused.0, begins-first _ _ c.args.pending.now.items _ _ refused.1))

pub returns : goal.returns
returns g c =
    let line = c.args.line.now in
    let n = c.body_len-end.result in
    let parts =
    shown_line-parts c.args.options.now line n c.body_len-end.ensures.bytes c.body_len-end.ensures.within in
    rw parts
    (gives-both _ _ _ _ _ _ _ c.args.pending.now.items _ _ c.emit_shown.new.pending.items _ c.in_ok-emit_shown.ensures
    c.emit.ensures)
