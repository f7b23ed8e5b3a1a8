-- Numbers that stand for parts, for nodes of either of two arenas, and for shapes.
use Rattle.std.specs.Prelude.{◌≡◌, ℕ, ◌-◌, ◌/◌, ◌%◌, ◌<◌, ◌==◌, Option, Some, None, IfSome, nat_lt}
use Rattle.std.specs.Prelude.{if◌then◌else◌}
use Rattle.demangle_core.specs.Core.{Core, code}
use Rattle.demangle_cells.specs.Tags.{tag_of}
use Rattle.demangle_cells.specs.declared.arena.Arena.{Arena}
use Rattle.demangle_cells.specs.declared.plain.Plain.{Plain}
use Rattle.demangle_cells.specs.declared.plain.Plain.TheVariants as of_plain
use Rattle.demangle_lines.specs.declared.tree.Shape.{Shape}
use Rattle.demangle_lines.specs.declared.tree.Shape.TheVariants as of_shape
use Rattle.demangle_cell_trees.specs.ArenaTrees.{first_inside, node_at}

-- ---- a part by its index
-- no part
abbrev pub none : ℕ
none = 18446744073709551615

-- what is not told by the cell alone
abbrev pub elsewhere : ℕ
elsewhere = 18446744073709551614

-- a node that is its own answer
abbrev pub itself : ℕ
itself = 18446744073709551613

abbrev pub or_none : Option ℕ → ℕ
or_none None = none
or_none (Some k) = k

-- the number stands for this index, where there is one
pub record IsPart (o : Option ℕ) (n : ℕ) : Type 0 where
  pub is : n ≡ or_none o
  pub small : IfSome o (λ k. k < first_inside)

-- ---- a node of either of two arenas
abbrev pub of_others : ℕ
of_others = 17179869184

abbrev pub past_others : ℕ
past_others = 34359738368

-- a node of the first, from `of_others` on one of the second, and behind those none
abbrev pub coded : (a b : Arena) → ℕ → Option Core
coded a b n =
    if nat_lt n of_others then Some (node_at a n) else
    if nat_lt n past_others then Some (node_at b (n - of_others)) else None

-- ---- a shape
abbrev pub shape_of_code : ℕ → Shape
shape_of_code n =
    if (n / 65536) == 1 then of_shape.Node (n % 256) else
    if (n / 65536) == 2 then of_shape.Word ((n / 256) % 256) (n % 256) else
    if (n / 65536) == 3 then of_shape.Number else
    if (n / 65536) == 4 then of_shape.Flag ((n % 256) == 1) else
    if (n / 65536) == 5 then of_shape.Bytes else of_shape.Nothing

-- that of a cell, where the cell tells it
abbrev pub quick_shape : ℕ → Option Shape
quick_shape n =
    if nat_lt n 256 then Some (of_shape.Node n) else
    if n == 256 then Some of_shape.Bytes else None

abbrev pub quick_of : Plain → Option Shape
quick_of (of_plain.Empty t) = Some (of_shape.Node (code (tag_of t)))
quick_of (of_plain.One t a) = Some (of_shape.Node (code (tag_of t)))
quick_of (of_plain.Two t a b) = Some (of_shape.Node (code (tag_of t)))
quick_of (of_plain.Three t a b c) = Some (of_shape.Node (code (tag_of t)))
quick_of (of_plain.Many t start count) = Some (of_shape.Node (code (tag_of t)))
quick_of (of_plain.Arguments i members) = Some (of_shape.Node 80)
quick_of (of_plain.Place start stop) = Some of_shape.Bytes
quick_of _ = None
