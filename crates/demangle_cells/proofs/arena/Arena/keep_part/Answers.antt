use Rattle.std.proofs.Common.{false}
use Rattle.demangle_cells.specs.Memo.{memory}
use Rattle.demangle_cells.specs.Stored.{stored}
use Rattle.demangle_cells.specs.View.{view}
use Rattle.demangle_cells.proofs.Memos.{memo_put, part_kept}
use Rattle.demangle_cells.proofs.arena.Arena.keep_part.Goals as goal

pub invariant_of-self : goal.invariant_of-self
unfolding view
invariant_of-self c = record {
  kept =
      memo_put (stored c.args.self.now.store) (memory c.args.self.now.memo) (memory c.put.new.self) _
      c.put.ensures.components c.put.ensures.outlines c.put.ensures.text c.put.ensures.known
      (part_kept c.requires.read.0 (stored c.args.self.now.store) (memory c.args.self.now.memo) c.args.mark c.args.text
      (record { row = c.args.row; at = c.args.at; conversion = c.args.depth.conversion; before = c.stamp.result; alike = false })
      c.args.depth.levels c.args.part c.stamp-behind.result c.args.self.now.kept c.requires.whole c.requires.read.1.0
      c.requires.read.1.1 c.requires.read.1.2 c.requires.bytes c.stamp.ensures c.stamp-behind.ensures)
      c.args.self.now.kept;
}
