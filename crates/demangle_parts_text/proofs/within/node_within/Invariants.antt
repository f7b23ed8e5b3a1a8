use Rattle.std.proofs.Common.{◌≡◌, ◌≤◌, Some, take, zero}
use Rattle.demangle_parts_text.specs.Heard.{sizes}
use Rattle.demangle_parts_text.specs.Marks.{open_marks}
use Rattle.demangle_parts_text.proofs.within.node_within.Given as goal

abbrev pub invariant-loop-i : goal.invariant-loop-i
invariant-loop-i l = record {
  is_open : open_marks (take l.i l.marks) (Some zero) ≡ Some l.open;
  size : sizes (take l.i l.marks) ≡ l.bytes;
  few : l.open ≤ l.i;
}
