use Rattle.std.proofs.Common.{◌≡◌, take, true}
use Rattle.demangle_parts_text.specs.Heard.{sizes}
use Rattle.demangle_parts_text.specs.Marks.{are_pieces}
use Rattle.demangle_parts_text.proofs.within.pieces_at.Given as goal

abbrev pub invariant-loop-i : goal.invariant-loop-i
invariant-loop-i l = record {
  size : sizes (take l.i l.marks) ≡ l.bytes;
  pieces : are_pieces (take l.i l.marks) ≡ true;
}
