use Rattle.std.proofs.Common.{◌≡◌, ◌-◌, ◌<◌, ◌≤◌, [], length}
use Rattle.cppfilt_text_run.specs.Outcome.{Going}
use Rattle.cppfilt_run.specs.Owed.{block_limit}
use Rattle.cppfilt_text_run.proofs.filter.filter_blocks.Given as goal

abbrev pub invariant-loop-taken : goal.invariant-loop-taken
invariant-loop-taken g l =
    Going l.fn.stream.parse l.fn.stream.print l.limit (g.R.Source.faults l.fn.input) (g.R.Source.faults l.input)
    (g.W.Sink.faults l.fn.output) (g.W.Sink.faults l.output) (g.R.Source.taken l.fn.input) (g.R.Source.taken l.input)
    (g.R.Source.left l.fn.input) (g.R.Source.left l.input) (g.W.Sink.written l.fn.output) (g.W.Sink.written l.output)
    l.stream l.taken
    × (l.pending.items ≡ [])
    × (0 < length l.block)
    × (length l.block ≤ block_limit)

abbrev pub decreases-loop-taken : goal.decreases-loop-taken
decreases-loop-taken g l = l.limit - l.taken
