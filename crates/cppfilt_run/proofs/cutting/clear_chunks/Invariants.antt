use Rattle.std.proofs.Common.{◌≡◌, ◌+◌, ◌-◌, ◌≤◌, length, drop}
use Rattle.cppfilt_lines.specs.Lines.{before_feed}
use Rattle.cppfilt_run.proofs.cutting.clear_chunks.Given as goal

abbrev pub invariant-loop-clear : goal.invariant-loop-clear
invariant-loop-clear l =
    (l.clear ≤ length l.bytes) × (before_feed l.bytes ≡ l.clear + before_feed (drop l.clear l.bytes))

abbrev pub decreases-loop-clear : goal.decreases-loop-clear
decreases-loop-clear l = length l.bytes - l.clear
