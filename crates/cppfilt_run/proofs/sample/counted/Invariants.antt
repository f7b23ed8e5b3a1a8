use Rattle.std.proofs.Common.{◌≤◌}
use Rattle.cppfilt_run.specs.Counted.{Counted}
use Rattle.cppfilt_run.proofs.sample.counted.Given as goal

abbrev pub invariant-loop-i : goal.invariant-loop-i
invariant-loop-i l = Counted l.options l.i l.read l.bytes × (l.read ≤ l.i)
