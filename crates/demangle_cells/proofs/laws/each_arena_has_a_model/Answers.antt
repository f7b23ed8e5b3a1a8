use Rattle.demangle_cells.specs.View.{view}
use Rattle.demangle_cells.specs.Stored.{stored}
use Rattle.demangle_cells.proofs.Exists.{model_holds}
use Rattle.demangle_cells.proofs.laws.each_arena_has_a_model.Goals as goal

pub returns : goal.returns
unfolding view stored
returns c = model_holds (view c.args.arena.now) c.args.arena.now.store.few c.args.arena.now.store.behind
