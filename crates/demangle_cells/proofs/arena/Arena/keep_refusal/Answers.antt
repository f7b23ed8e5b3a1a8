use Rattle.std.proofs.Common.{true, refl, subst}
use Rattle.demangle_cells.specs.Memo.{memory}
use Rattle.demangle_cells.specs.Stored.{stored}
use Rattle.demangle_cells.specs.View.{view}
use Rattle.demangle_cells.proofs.Memos.{IsBefore, memo_put, refusal_kept}
use Rattle.demangle_cells.proofs.arena.Arena.keep_refusal.Goals as goal

pub invariant_of-self : goal.invariant_of-self
unfolding view
invariant_of-self c = record {
  kept =
      memo_put (stored c.args.self.now.store) (memory c.args.self.now.memo) (memory c.put.new.self) _
      c.put.ensures.components c.put.ensures.outlines c.put.ensures.text c.put.ensures.known
      (refusal_kept c.requires.read.0 (stored c.args.self.now.store) (memory c.args.self.now.memo) c.args.mark c.args.text
      (record {
        row = c.args.row;
        at = c.args.at;
        conversion = c.args.depth.conversion;
        before = c.outline_before.result;
        alike = true;
      })
      c.args.depth.levels c.args.error c.args.self.now.kept c.requires.whole c.requires.read.1.0 c.requires.read.1.1
      (c.if-not-is_of_bytes.ensures refl)
      c.requires.read.1.2 c.requires.bytes
      (subst (λ left. IsBefore left (memory c.args.self.now.memo).outlines c.args.mark.entries c.outline_before.result)
      c.rest.ensures c.outline_before.ensures))
      c.args.self.now.kept;
}
