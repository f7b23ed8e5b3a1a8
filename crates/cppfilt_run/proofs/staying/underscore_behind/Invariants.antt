use Rattle.std.proofs.Common.{◌≡◌, ◌-◌, ◌<◌, ◌≤◌, true, length, take}
use Rattle.cppfilt_run.specs.Staying.{stays}
use Rattle.cppfilt_run.proofs.staying.underscore_behind.Given as goal

abbrev pub invariant-loop-i : goal.invariant-loop-i
invariant-loop-i l = (0 < l.i) × (l.i ≤ length l.bytes) × (stays true (take l.i l.bytes) ≡ true)

abbrev pub decreases-loop-i : goal.decreases-loop-i
decreases-loop-i l = length l.bytes - l.i
