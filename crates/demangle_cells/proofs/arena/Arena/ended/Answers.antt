use Rattle.std.proofs.Common.{true, length, refl, inr, subst}
use Rattle.demangle_cells.specs.Memo.{memory}
use Rattle.demangle_cells.specs.Stored.{stored}
use Rattle.demangle_cells.specs.View.{view}
use Rattle.demangle_cells.proofs.Memos.{IsBefore, ends_so, refuses}
use Rattle.demangle_cells.proofs.arena.Arena.ended.Goals as goal

pub returns-in-Ended : goal.returns-in-Ended
unfolding view
returns-in-Ended c =
    λ F f. (
      ends_so (stored c.args.self.now.store) (memory c.args.self.now.memo) c.args.text.bytes.now
          (record {
            row = c.args.row;
            at = c.args.at;
            conversion = c.args.depth.conversion;
            before = c.outline_before.result;
            alike = true;
          })
          c.args.depth.levels c.in_ok-end.field-0 c.in-Ended.end c.args.self.now.kept c.requires.whole c.requires.bytes
          (subst (λ left. IsBefore left (memory c.args.self.now.memo).outlines
          (length (stored c.args.self.now.store).entries) c.outline_before.result) c.rest.ensures
          (subst (λ n. IsBefore c.rest.result.now (memory c.args.self.now.memo).outlines n c.outline_before.result)
          c.count.ensures c.outline_before.ensures))
          c.in_ok-end.ensures.among c.in_ok-end.ensures.key c.in_ok-end.ensures.levels c.in-Ended.is F f,
      refl,
    )

pub returns-in-Refused : goal.returns-in-Refused
unfolding view
returns-in-Refused c =
    λ F f. inr (
      refuses (stored c.args.self.now.store) (memory c.args.self.now.memo) c.args.text.bytes.now
          (record {
            row = c.args.row;
            at = c.args.at;
            conversion = c.args.depth.conversion;
            before = c.outline_before.result;
            alike = true;
          })
          c.args.depth.levels c.in_ok-end.field-0 c.in-Refused.error c.args.self.now.kept c.requires.whole
          c.requires.bytes
          (subst (λ left. IsBefore left (memory c.args.self.now.memo).outlines
          (length (stored c.args.self.now.store).entries) c.outline_before.result) c.rest.ensures
          (subst (λ n. IsBefore c.rest.result.now (memory c.args.self.now.memo).outlines n c.outline_before.result)
          c.count.ensures c.outline_before.ensures))
          c.in_ok-end.ensures.among c.in_ok-end.ensures.key c.in_ok-end.ensures.levels c.in-Refused.is F f,
      refl,
    )
