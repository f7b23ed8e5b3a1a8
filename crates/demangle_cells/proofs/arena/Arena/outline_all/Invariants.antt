use Rattle.std.proofs.Common.{◌≡◌, ◌-◌, length}
use Rattle.demangle_cells.specs.Memo.{memory}
use Rattle.demangle_cells.specs.View.{view}
use Rattle.demangle_cells.proofs.arena.Arena.outline_all.Given as goal

abbrev pub invariant-loop-self : goal.invariant-loop-self
invariant-loop-self l = record {
  same : view l.self ≡ view l.fn.self;
  text : (memory l.self.memo).text ≡ (memory l.fn.self.memo).text;
  components : (memory l.self.memo).components ≡ (memory l.fn.self.memo).components;
}

abbrev pub decreases-loop-self : goal.decreases-loop-self
decreases-loop-self l = length (view l.self).entries - length (memory l.self.memo).outlines.stamps
