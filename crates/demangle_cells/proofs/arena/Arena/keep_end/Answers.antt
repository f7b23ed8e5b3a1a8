use Rattle.std.proofs.Common.{true, length, subst}
use Rattle.demangle_cells.specs.Memo.{memory}
use Rattle.demangle_cells.specs.Stored.{stored}
use Rattle.demangle_cells.specs.View.{view}
use Rattle.demangle_cells.proofs.Memos.{IsBefore, memo_put, end_kept}
use Rattle.demangle_cells.proofs.arena.Arena.keep_end.Goals as goal

pub invariant_of-self : goal.invariant_of-self
unfolding view
invariant_of-self c = record {
  kept =
      memo_put (stored c.args.self.now.store) (memory c.args.self.now.memo) (memory c.put.new.self) _
      c.put.ensures.components c.put.ensures.outlines c.put.ensures.text c.put.ensures.known
      (end_kept (stored c.args.self.now.store) (memory c.args.self.now.memo) c.args.text
      (record {
        row = c.args.row;
        at = c.args.at;
        conversion = c.args.depth.conversion;
        before = c.outline_before.result;
        alike = true;
      })
      c.args.depth.levels c.args.end c.args.self.now.kept c.requires.whole c.requires.read c.requires.bytes
      (subst (λ left. IsBefore left (memory c.args.self.now.memo).outlines
      (length (stored c.args.self.now.store).entries) c.outline_before.result) c.rest.ensures
      (subst (λ n. IsBefore c.rest.result.now (memory c.args.self.now.memo).outlines n c.outline_before.result)
      c.count.ensures c.outline_before.ensures)))
      c.args.self.now.kept;
}
