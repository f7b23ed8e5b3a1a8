use Rattle.std.proofs.Common.{false}
use Rattle.demangle_cells.specs.Memo.{memory}
use Rattle.demangle_cells.specs.Stored.{stored}
use Rattle.demangle_cells.specs.View.{view}
use Rattle.demangle_cells.proofs.Memos.{recalls}
use Rattle.demangle_cells.proofs.arena.Arena.answered.Goals as goal

pub returns-then-restore-clause-answer : goal.returns-then-restore-clause-answer
unfolding view
returns-then-restore-clause-answer c =
    recalls (stored c.args.self.now.store) (stored c.restore.new.self.store) (memory c.args.self.now.memo)
    (memory c.restore.new.self.memo) c.args.text.bytes.now
    (record {
      row = c.args.row;
      at = c.args.at;
      conversion = c.args.depth.conversion;
      before = c.stamp.result;
      alike = false;
    })
    c.args.depth.levels c.in_ok-known.known c.in-Found.part c.in-Found.behind c.args.self.now.kept
    c.restore.new.self.kept c.requires.whole (c.restore.ensures.whole c.if-restore.true) c.restore.ensures.log
    c.requires.bytes c.stamp.ensures c.in_ok-known.ensures.among
    c.in_ok-known.ensures.key c.in_ok-known.ensures.levels c.in-Found.is c.restore.ensures.grown
    (c.restore.ensures.stamp c.if-restore.true)
