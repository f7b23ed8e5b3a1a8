use Rattle.std.proofs.Common.{true, length, refl, inr, subst}
use Rattle.demangle_cells.specs.Memo.{memory}
use Rattle.demangle_cells.specs.Stored.{stored}
use Rattle.demangle_cells.specs.View.{view}
use Rattle.demangle_cells.proofs.Memos.{IsBefore, refuses}
use Rattle.demangle_cells.proofs.arena.Arena.refused.Goals as goal

pub returns-in-Some : goal.returns-in-Some
unfolding view
returns-in-Some c =
    λ F f. inr (
      refuses (stored c.args.self.now.store) (memory c.args.self.now.memo) c.args.text.bytes.now
          (record {
            row = c.args.row;
            at = c.args.at;
            conversion = c.args.depth.conversion;
            before = c.outline_before.result;
            alike = true;
          })
          c.args.depth.levels c.in-Some.ensures.0 c.in-Some.error c.args.self.now.kept c.requires.whole c.requires.bytes
          (subst (λ left. IsBefore left (memory c.args.self.now.memo).outlines
          (length (stored c.args.self.now.store).entries) c.outline_before.result) c.rest.ensures
          (subst (λ n. IsBefore c.rest.result.now (memory c.args.self.now.memo).outlines n c.outline_before.result)
          c.count.ensures c.outline_before.ensures))
          c.in-Some.ensures.1.0 c.in-Some.ensures.1.1 c.in-Some.ensures.1.2 c.in-Some.ensures.1.3 F f,
      refl,
    )
