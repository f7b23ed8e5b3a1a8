use Rattle.std.proofs.Common.{refl}
use Rattle.demangle_cells.specs.Memo.{memory}
use Rattle.demangle_cells.specs.Stored.{stored}
use Rattle.demangle_cells.proofs.Memos.{memo_cut}
use Rattle.demangle_cells.proofs.arena.Arena.cut_back.Goals as goal

pub invariant_of-self : goal.invariant_of-self
invariant_of-self c = record {
  kept =
      memo_cut (stored c.args.self.now.store) _ (memory c.args.self.now.memo) _ c.args.mark c.cut_back.ensures
      c.truncate.ensures.log c.truncate.ensures.stamps c.truncate-2.ensures.log c.truncate-2.ensures.stamps refl refl
      c.args.self.now.kept;
}
