use Rattle.std.proofs.Common.{◌≡◌, length}
use Rattle.demangle_cells.specs.Memo.{memory}
use Rattle.demangle_cells.specs.View.{Grown, view}
use Rattle.demangle_cells.proofs.arena.Arena.restore.Given as goal

abbrev pub invariant-loop-left : goal.invariant-loop-left
invariant-loop-left l = record {
  grown : Grown (view l.fn.self) (view l.self);
  log : (memory l.self.memo).components.log ≡ (memory l.fn.self.memo).components.log;
  whole : length (memory l.self.memo).components.stamps ≡ length (view l.self).entries;
}

abbrev pub decreases-loop-left : goal.decreases-loop-left
decreases-loop-left l = l.left
