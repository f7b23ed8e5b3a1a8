use Rattle.std.proofs.Common.{length}
use Rattle.cppfilt_text_run.specs.Outcome.{Taking}
use Rattle.cppfilt_text_run.proofs.filter.take_pieces.Given as goal

abbrev pub invariant-loop-left : goal.invariant-loop-left
invariant-loop-left g l =
    Taking l.fn.stream l.stream (g.W.Sink.faults l.fn.output) (g.W.Sink.faults l.output)
    (g.W.Sink.written l.fn.output) (g.W.Sink.written l.output) l.fn.pending.items l.pending.items l.block l.left

abbrev pub decreases-loop-left : goal.decreases-loop-left
decreases-loop-left g l = length l.left
