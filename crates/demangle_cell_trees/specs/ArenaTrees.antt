-- What each index of an arena stands for, and each node.
use Rattle.std.specs.Prelude.{◌≡◌, ℕ, ◌+◌, ◌%◌, Bool, List, [], length, nat_le, nat_lt, if◌then◌else◌}
use Rattle.demangle_core.specs.Core.{Core, Tag, end, node, ref}
use Rattle.demangle_core.specs.Table.{Table}
use Rattle.demangle_cells.specs.Behind.{is_known}
use Rattle.demangle_cells.specs.Cells.{plain_tree}
use Rattle.demangle_cells.specs.Fixed.{first_cell, first_reference}
use Rattle.demangle_cells.specs.Model.{model}
use Rattle.demangle_cells.specs.View.{View, view, table}
use Rattle.demangle_cells.specs.declared.arena.Arena.{Arena}
use Rattle.demangle_cells.specs.declared.plain.Plain.{Plain}
use Rattle.demangle_printing.specs.Reader.{bytes_seen}
use Rattle.demangle_printing.specs.Trees.{began_at, look_in}

-- a part that is not there
abbrev pub absent : Core
absent = node Tag.Absent end end

-- the trees of the model, where an index without a cell stands for a part that is not there
abbrev pub trees : View → ℕ → Core
trees v k = if is_known (first_cell + length v.cells) k then model v k else absent

unfoldable pub tree_at : Arena → ℕ → Core
tree_at a = trees (view a)

unfoldable pub table_of : Arena → Table
table_of a = table (tree_at a) (view a)

-- ---- nodes
-- what is inside of a reference
abbrev pub inside : Core → Core
inside (node t (ref w k m) n) = ref w k end
inside c = c

-- the first number that is no index
abbrev pub first_inside : ℕ
first_inside = 4294967296

-- a node is the tree of an index, and from there on what is inside of the reference whose index is in the lower half
abbrev pub node_at : Arena → ℕ → Core
node_at a k = if nat_lt k first_inside then tree_at a k else inside (tree_at a (k % first_inside))

-- a reference, or what is inside of one, by its index alone
abbrev pub is_referring : ℕ → Bool
is_referring k = nat_le first_reference (k % first_inside)

-- ---- what is known of an index
pub record IsCell (a : Arena) (k : ℕ) (c : Plain) : Type 0 where
  pub is : tree_at a k ≡ plain_tree (tree_at a) (view a).list c

-- ---- what is known of a node
-- no cell is kept for it
pub record IsBeside (a : Arena) (k : ℕ) : Type 0 where
  pub no_bytes : (table : Table) (input : List ℕ) → [] ≡ bytes_seen (look_in table input (node_at a k))

-- what is seen of it is what is seen of its cell
pub record Sees (a : Arena) (k : ℕ) (c : Plain) : Type 0 where
  pub look : (table : Table) (input : List ℕ) → look_in table input (node_at a k)
      ≡ look_in table input (plain_tree (tree_at a) (view a).list c)
  pub began : began_at (node_at a k) ≡ began_at (plain_tree (tree_at a) (view a).list c)
