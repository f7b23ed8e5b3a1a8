use Rattle.std.proofs.Common.{ap, sym, ◌∙◌, slice_get}
use Rattle.demangle_cells.specs.Memo.{memory}
use Rattle.demangle_cells.specs.Stored.{stored}
use Rattle.demangle_cells.proofs.Memos.{memo_seeing}
use Rattle.demangle_cells.proofs.arena.Arena.outline_next.Goals as goal

pub invariant_of-self-in-Some-seen_of : goal.invariant_of-self-in-Some-seen_of
invariant_of-self-in-Some-seen_of c = record {
  kept =
      memo_seeing (stored c.args.self.now.store) (memory c.args.self.now.memo) (memory c.note_outline.new.self)
      c.note_outline.result c.in-Some.entry c.in-Some-seen_of.last
      (ap (slice_get (stored c.args.self.now.store).entries) (sym c.len.ensures) ∙ sym c.in-Some.ensures)
      c.in-Some-seen_of.ensures c.note_outline.ensures.noted c.note_outline.ensures.same
      c.note_outline.ensures.components c.note_outline.ensures.known c.note_outline.ensures.text
      c.args.self.now.kept;
}
