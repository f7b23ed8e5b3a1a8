use Rattle.cppfilt_ends.proofs.MoveLaws.{refusal, begins-first, gives-both}
use Rattle.cppfilt_run.proofs.names.emit_name.Goals as goal

pub returns-in_err-emit_shown : goal.returns-in_err-emit_shown
returns-in_err-emit_shown g c =
    let refused = c.in_err-emit_shown.ensures in
    refusal _ _ _ _ _ _ _ _ c.from_residual.ensures.1
    (refused.0, begins-first _ _ c.args.pending.now.items _ _ refused.1)

pub returns : goal.returns
returns g c =
    gives-both _ _ _ _ _ _ _ c.args.pending.now.items _ _ c.emit_shown.new.pending.items _ c.in_ok-emit_shown.ensures
    c.emit.ensures
