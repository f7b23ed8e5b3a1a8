-- What is made out of the cells of an arena.
use Rattle.std.specs.Prelude.{◌≡◌, ℕ}
use Rattle.demangle_core.specs.Core.{Core}
use Rattle.demangle_core.specs.Table.{Table}
use Rattle.demangle_cells.specs.declared.arena.Arena.{Arena}
use Rattle.demangle_cell_trees.specs.ArenaTrees.{table_of, tree_at}

-- the tree of the index, and the components of the arena
pub record IsMade (arena : Arena) (root : ℕ) (name : Core) (components : Table) : Type 0 where
  pub tree : tree_at arena root ≡ name
  pub table : table_of arena ≡ components
