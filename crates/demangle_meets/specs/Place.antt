-- Where a line is printed.
use Rattle.std.specs.Prelude.{◌≡◌, ℕ, suc, ◌+◌, List}
use Rattle.demangle_core.specs.Core.{Core}
use Rattle.demangle_core.specs.Table.{Table}
use Rattle.demangle_printing.specs.World.{World}
use Rattle.demangle_printing.specs.Trees.{with_table}

-- What the trees refer to.
pub record Refers : Type 0 where
  pub table : Table
  pub input : List ℕ

abbrev pub world_of : Refers → World Core
world_of r = with_table r.table r.input

-- What the trees refer to, how many levels are left, and the level. A line has it by value, so that all calls of a
-- line stand in one world.
pub record Place : Type 0 where
  pub refers : Refers
  pub left : ℕ
  pub level : ℕ

-- One level deeper.
pub record IsDeeper (p q : Place) : Type 0 where
  pub refers : q.refers ≡ p.refers
  pub left : p.left ≡ suc q.left
  pub level : q.level ≡ p.level + 1
