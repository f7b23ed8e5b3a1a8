use Rattle.demangle_cells.specs.Memo.{memory}
use Rattle.demangle_cells.specs.Stored.{stored}
use Rattle.demangle_cells.proofs.Memos.{memo_for}
use Rattle.demangle_cells.proofs.arena.Arena.is_ready.Goals as goal

pub invariant_of-self : goal.invariant_of-self
invariant_of-self c = record {
  kept =
      memo_for (stored c.args.self.now.store) (memory c.args.self.now.memo)
      (memory c.is_for.new.self) c.is_for.ensures.components
      c.is_for.ensures.outlines c.is_for.ensures.known c.is_for.ensures.text c.args.self.now.kept;
}
