use Rattle.std.proofs.Common.{◌≡◌, ◌-◌, not, ◌≤◌, length, take}
use Rattle.cppfilt_run.specs.Staying.{stays_behind}
use Rattle.cppfilt_run.proofs.staying.has_underscore_line.Given as goal

abbrev pub invariant-loop-i : goal.invariant-loop-i
invariant-loop-i l = (1 ≤ l.i) × (l.seen ≡ not (stays_behind (take l.i l.bytes)))

abbrev pub decreases-loop-i : goal.decreases-loop-i
decreases-loop-i l = length l.bytes - l.i
