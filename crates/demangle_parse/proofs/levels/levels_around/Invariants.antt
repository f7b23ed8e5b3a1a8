use Rattle.std.proofs.Common.{◌≡◌, ◌⊎◌, ◌<◌, ◌≤◌, ◌-◌}
use Rattle.demangle_core.specs.Table.{Table}
use Rattle.demangle_cells.specs.View.{view}
use Rattle.demangle_parse.specs.Adds.{HasTable}
use Rattle.demangle_parse.specs.Levels.{IsDeep, read_at}
use Rattle.demangle_parse.proofs.levels.levels_around.Given as goal

abbrev pub invariant-loop-levels : goal.invariant-loop-levels
invariant-loop-levels g l = record {
  left : l.levels ≤ l.depth.levels;
  order : l.low ≤ l.levels;
  kept : (whole : Table) → HasTable (view l.fn.arena) whole → HasTable (view l.arena) whole;
  below : (l.levels ≡ l.few) × (l.low ≡ l.few)
      ⊎ ((l.low < l.levels)
      × ((whole : Table) → HasTable (view l.fn.arena) whole
      → IsDeep (read_at g.X.ReadCells.row l.conversion l.text l.at whole l.low)));
}

abbrev pub decreases-loop-levels : goal.decreases-loop-levels
decreases-loop-levels g l = l.depth.levels - l.levels
