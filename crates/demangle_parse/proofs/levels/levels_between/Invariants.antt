use Rattle.std.proofs.Common.{ℕ, ◌-◌}
use Rattle.demangle_core.specs.Table.{Table}
use Rattle.demangle_cells.specs.View.{view}
use Rattle.demangle_parse.specs.Adds.{HasTable}
use Rattle.demangle_parse.specs.Levels.{Brackets, read_at}
use Rattle.demangle_parse.proofs.levels.levels_between.Given as goal

abbrev pub invariant-loop-levels : goal.invariant-loop-levels
invariant-loop-levels g l = record {
  kept : (whole : Table) → HasTable (view l.fn.arena) whole → HasTable (view l.arena) whole;
  between : (few most : ℕ) (whole : Table) → HasTable (view l.fn.arena) whole
      → Brackets few most l.fn.bounds.0 l.fn.bounds.1 (read_at g.X.ReadCells.row l.conversion l.text l.at whole)
      → Brackets few most l.low l.high (read_at g.X.ReadCells.row l.conversion l.text l.at whole);
}

abbrev pub decreases-loop-levels : goal.decreases-loop-levels
decreases-loop-levels g l = l.high - l.low
