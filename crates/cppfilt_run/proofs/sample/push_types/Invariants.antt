use Rattle.std.proofs.Common.{◌≡◌, ◌++◌}
use Rattle.cppfilt_lines.specs.Sample.{types_from}
use Rattle.cppfilt_run.proofs.sample.push_types.Given as goal

abbrev pub invariant-loop-j : goal.invariant-loop-j
invariant-loop-j l = l.name.items ≡ l.fn.name.items ++ types_from l.i l.j
