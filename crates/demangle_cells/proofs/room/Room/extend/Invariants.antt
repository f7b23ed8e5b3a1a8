use Rattle.std.proofs.Common.{◌≡◌, ◌≤◌, ◌++◌, length, take}
use Rattle.demangle_cells.specs.Held.{held}
use Rattle.demangle_cells.proofs.room.Room.extend.Given as goal

abbrev pub invariant-loop-rest : goal.invariant-loop-rest
invariant-loop-rest g l = record {
  all : held l.self ++ l.rest ≡ held l.fn.self ++ l.fn.more;
  front : take l.count (held l.self) ≡ held l.fn.self;
  long : l.count ≤ length (held l.self);
}

abbrev pub decreases-loop-rest : goal.decreases-loop-rest
decreases-loop-rest g l = length l.rest
