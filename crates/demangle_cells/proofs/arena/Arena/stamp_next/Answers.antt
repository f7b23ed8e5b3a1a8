use Rattle.std.proofs.Common.{ap, refl, sym, ◌∙◌, slice_get}
use Rattle.demangle_cells.specs.Memo.{memory}
use Rattle.demangle_cells.specs.Stored.{stored}
use Rattle.demangle_cells.proofs.Memos.{memo_noting}
use Rattle.demangle_cells.proofs.arena.Arena.stamp_next.Goals as goal

pub invariant_of-self-in-Some : goal.invariant_of-self-in-Some
invariant_of-self-in-Some c = record {
  kept =
      memo_noting (stored c.args.self.now.store) (memory c.args.self.now.memo) _ c.note.result c.in-Some.entry
      (ap (slice_get (stored c.args.self.now.store).entries) (sym c.len.ensures) ∙ sym c.in-Some.ensures)
      c.note.ensures.log c.note.ensures.stamps c.note.ensures.same refl refl refl c.args.self.now.kept;
}
