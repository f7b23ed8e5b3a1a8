use Rattle.demangle_cells.specs.Stored.{stored}
use Rattle.demangle_cells.specs.View.{view}
use Rattle.demangle_cells.proofs.Grows.{same_table}
use Rattle.demangle_cells.proofs.arena.Arena.push.Goals as goal

pub returns-clause-table : goal.returns-clause-table
unfolding view
returns-clause-table c = λ F. same_table F (stored c.args.self.now.store) _ c.push.ensures.entries
