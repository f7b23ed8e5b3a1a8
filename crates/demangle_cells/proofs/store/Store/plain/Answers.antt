use Rattle.std.proofs.Common.{length}
use Rattle.demangle_cells.specs.Stored.{stored}
use Rattle.demangle_cells.proofs.Blocks.{known_beside}
use Rattle.demangle_cells.proofs.store.Store.plain.Goals as goal

pub returns-in-None-clause-cell : goal.returns-in-None-clause-cell
unfolding stored
returns-in-None-clause-cell c =
    let v = stored c.args.self.now in
    λ k F h. c.beside_cells-beside.ensures.cell (known_beside (length v.cells) c.args.id c.in-None.ensures.cell k) F v h
