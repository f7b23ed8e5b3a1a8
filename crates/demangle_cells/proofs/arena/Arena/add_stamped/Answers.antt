use Rattle.std.proofs.Common.{refl}
use Rattle.demangle_cells.specs.Memo.{memory}
use Rattle.demangle_cells.specs.Stored.{stored}
use Rattle.demangle_cells.specs.View.{view}
use Rattle.demangle_cells.proofs.Memos.{memo_taking}
use Rattle.demangle_cells.proofs.arena.Arena.add_stamped.Goals as goal

pub invariant_of-self-in-Ok : goal.invariant_of-self-in-Ok
unfolding view
invariant_of-self-in-Ok c = record {
  kept =
      memo_taking (stored c.args.self.now.store) (stored c.add.new.self) (memory c.args.self.now.memo) _ c.push.result
      c.args.stamp (record { numbered = c.args.numbered; id = c.args.id }) c.add.ensures.grown c.in-Ok.ensures.entries
      c.requires.whole c.requires.positive c.requires.told c.push.ensures.log c.push.ensures.stamps
      c.push.ensures.same refl refl refl c.args.self.now.kept;
}
