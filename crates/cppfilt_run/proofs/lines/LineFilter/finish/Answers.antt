use Rattle.std.proofs.Common.{[], append-nil}
use Rattle.cppfilt_ends.proofs.MoveLaws.{gives-then}
use Rattle.cppfilt_run.proofs.lines.LineFilter.finish.Goals as goal

pub returns : goal.returns
returns g c =
    rw (← c.as_slice.ensures.value, append-nil)
    (gives-then _ _ _ _ _ _ _ _ c.emit_last.new.pending.items [] c.in_ok-emit_last.ensures c.flush.ensures.gives)
