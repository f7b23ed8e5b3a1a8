use Rattle.cppfilt_ends.proofs.MoveLaws.{refusal, begins-first, gives-both}
use Rattle.cppfilt_run.proofs.ShownLaws.{refused-parts}
use Rattle.cppfilt_run.proofs.shown.emit_refused.Goals as goal

pub returns-in_err-emit_both : goal.returns-in_err-emit_both
returns-in_err-emit_both g c =
    let parts = refused-parts c.args.why c.args.bytes.now c.args.cause.now c.if-not-why.false in
    let refused = c.in_err-emit_both.ensures in
    rw parts
    (refusal _ _ _ _ _ _ _ _ c.from_residual.ensures.1
    (refused.0, begins-first _ _ c.args.pending.now.items _ _ refused.1))

pub returns : goal.returns
returns g c =
    let parts = refused-parts c.args.why c.args.bytes.now c.args.cause.now c.if-not-why.false in
    rw (parts, ← c.as_bytes.ensures.value)
    (gives-both _ _ _ _ _ _ _ c.args.pending.now.items _ _ c.emit_both.new.pending.items _ c.in_ok-emit_both.ensures
    c.emit-2.ensures)
