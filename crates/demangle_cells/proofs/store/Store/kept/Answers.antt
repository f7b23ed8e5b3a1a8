use Rattle.std.proofs.Common.{refl, arith}
use Rattle.demangle_cells.specs.Stored.{stored}
use Rattle.demangle_cells.proofs.Blocks.{kept_cell, cell_lower, kept_found}
use Rattle.demangle_cells.proofs.store.Store.kept.Goals as goal

pub returns-clause-cell : goal.returns-clause-cell
unfolding stored
returns-clause-cell c =
    kept_cell (stored c.args.self.now) c.args.id _ _ (omega (arith, c.ranges.id.fits)) c.args.self.now.few refl
    c.get.ensures

pub returns-clause-lower : goal.returns-clause-lower
unfolding stored
returns-clause-lower c =
    cell_lower (stored c.args.self.now) c.args.id _ _ (omega (arith, c.ranges.id.fits)) c.args.self.now.few refl
    c.get.ensures c.args.self.now.behind

pub returns-clause-found : goal.returns-clause-found
unfolding stored
returns-clause-found c =
    kept_found (stored c.args.self.now).cells c.args.id _ _ (omega (arith, c.ranges.id.fits)) c.args.self.now.few refl
    c.get.ensures
