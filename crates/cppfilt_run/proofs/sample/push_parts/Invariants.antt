use Rattle.std.proofs.Common.{◌≡◌, ◌++◌}
use Rattle.cppfilt_lines.specs.Sample.{copies, source_name}
use Rattle.cppfilt_run.proofs.sample.push_parts.Given as goal

abbrev pub invariant-loop-part : goal.invariant-loop-part
invariant-loop-part l = l.name.items ≡ l.fn.name.items ++ copies l._part (source_name l.i)
