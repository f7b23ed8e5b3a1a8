use Rattle.std.proofs.Common.{◌≡◌, ◌-◌, ◌<◌, ◌≤◌, length}
use Rattle.cppfilt_lines.specs.Lines.{before_feed}
use Rattle.cppfilt_run.specs.Outcome.{Going}
use Rattle.cppfilt_run.specs.Owed.{block_limit}
use Rattle.cppfilt_run.proofs.filter.filter_blocks.Given as goal

abbrev pub invariant-loop-taken : goal.invariant-loop-taken
invariant-loop-taken g l =
    Going l.options l.limit (g.R.Source.faults l.fn.input) (g.R.Source.faults l.input)
    (g.W.Sink.faults l.fn.output) (g.W.Sink.faults l.output) (g.R.Source.taken l.fn.input) (g.R.Source.taken l.input)
    (g.R.Source.left l.fn.input) (g.R.Source.left l.input) (g.W.Sink.written l.fn.output) (g.W.Sink.written l.output)
    l.filter.pending.items l.filter.held.items l.taken
    × (before_feed l.filter.held.items ≡ length l.filter.held.items)
    × (0 < length l.block)
    × (length l.block ≤ block_limit)

abbrev pub decreases-loop-taken : goal.decreases-loop-taken
decreases-loop-taken g l = l.limit - l.taken
