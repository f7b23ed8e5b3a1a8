-- What contracts see of an arena: the trees of the name that is read, whatever its memo keeps.
pub use Rattle.demangle_cells.specs.Stored.{View, Holds, which_of, entry, Grown, KeepsTrees, Waited, since}
pub use Rattle.demangle_cells.specs.Stored.{IsMark, FitsMark, IsCut}
unfoldable pub use Rattle.demangle_cells.specs.Stored.{table}
use Rattle.demangle_cells.specs.Stored.{stored}
use Rattle.demangle_cells.specs.declared.arena.Arena.{Arena}

unfoldable pub view : Arena → View
view a = stored a.store
