use Rattle.std.proofs.Common.{[]}
use Rattle.cppfilt_ends.proofs.MoveLaws.{refusal, gives-then, begins-more, flushed}
use Rattle.cppfilt_ends.proofs.output.emit_many.Goals as goal

pub returns-in_err-flush : goal.returns-in_err-flush
returns-in_err-flush g c =
    refusal _ _ _ _ _ _ _ _ c.from_residual.ensures.1
    (c.in_err-flush.ensures.gives.0, begins-more _ _ _ _ c.in_err-flush.ensures.gives.1)

pub returns : goal.returns
returns g c =
    let done = c.in_ok-flush.ensures.gives in
    rw c.in_ok-flush.ensures.gathered
    (gives-then _ _ _ _ _ _ _ _ c.args.bytes.now [] (done.0, flushed _ _ _ _ done.1) c.write_all.ensures)
