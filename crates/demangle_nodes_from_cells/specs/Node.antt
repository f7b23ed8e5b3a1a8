-- A node by the tag of its cell and the indexes of its parts.
use Rattle.std.specs.Prelude.{ℕ, List}
use Rattle.demangle_core.specs.Core.{Core, node, end}
use Rattle.demangle_cells.specs.Cells.{row}
use Rattle.demangle_cells.specs.Tags.{tag_of}
use Rattle.demangle_cells.specs.declared.tag.Tag.{Tag}

abbrev pub node_of : (ℕ → Core) → Tag → List ℕ → Core
node_of F tag ids = node (tag_of tag) (row F ids) end
