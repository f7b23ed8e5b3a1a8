-- What is seen of a tree where references are nodes, and of a cell.
use Rattle.std.specs.Prelude.{ℕ, ℤ, pos, Bool, true, false, List, [], ◌∷◌, Option, Some, None}
use Rattle.demangle_core.specs.Core.{Core, end, node, place, number, flag, chosen, ref, code}
use Rattle.demangle_cells.specs.Cells.{span}
use Rattle.demangle_cells.specs.Tags.{tag_of}
use Rattle.demangle_cells.specs.declared.plain.Plain.{Plain}
use Rattle.demangle_cells.specs.declared.plain.Plain.TheVariants as of_plain
use Rattle.demangle_cells.specs.declared.tag.Tag.{Tag}
use Rattle.demangle_cells.specs.declared.tag.Tag.TheVariants as of_tag
use Rattle.demangle_printing.specs.Texts.{leaf_text, word_text}
use Rattle.demangle_printing.specs.Trees.{trees_of}
use Rattle.demangle_lines.specs.declared.tree.Shape.{Shape}
use Rattle.demangle_lines.specs.declared.tree.Shape.TheVariants as of_shape

-- ---- one tree alone, with nothing behind it
abbrev pub is_end : Core → Bool
is_end end = true
is_end _ = false

abbrev pub is_single : Core → Bool
is_single (node t c n) = is_end n
is_single (place i j n) = is_end n
is_single (number v n) = is_end n
is_single (flag b n) = is_end n
is_single (chosen t k n) = is_end n
is_single _ = false

-- ---- one step deep
abbrev pub own_shape_in : Core → Shape
own_shape_in (node t c n) = of_shape.Node (code t)
own_shape_in (place i j n) = of_shape.Bytes
own_shape_in (number v n) = of_shape.Number
own_shape_in (flag b n) = of_shape.Flag b
own_shape_in (chosen t k n) = of_shape.Word t k
own_shape_in _ = of_shape.Nothing

abbrev pub node_only : Shape → Shape
node_only (of_shape.Node k) = of_shape.Node k
node_only _ = of_shape.Nothing

abbrev pub parts_in : Core → List Core
parts_in (node t c n) = trees_of c
parts_in _ = []

-- its first part is no reference
abbrev pub has_plain : Core → Bool
has_plain (node t (ref w k m) n) = false
has_plain _ = true

-- ---- cells
abbrev pub is_reference : Plain → Bool
is_reference (of_plain.Reference k) = true
is_reference (of_plain.Other k) = true
is_reference _ = false

-- the indexes of the parts; those of a reference have none
abbrev pub row_of : List ℕ → Plain → List ℕ
row_of list (of_plain.One t a) = a ∷ []
row_of list (of_plain.Two t a b) = a ∷ b ∷ []
row_of list (of_plain.Three t a b c) = a ∷ b ∷ c ∷ []
row_of list (of_plain.Many t start count) = span list start count
row_of list (of_plain.Arguments i members) = members ∷ []
row_of list _ = []

-- the tag of a node whose parts have indexes
abbrev pub row_tag : Plain → Option Tag
row_tag (of_plain.Empty t) = Some t
row_tag (of_plain.One t a) = Some t
row_tag (of_plain.Two t a b) = Some t
row_tag (of_plain.Three t a b c) = Some t
row_tag (of_plain.Many t start count) = Some t
row_tag (of_plain.Arguments i members) = Some of_tag.TemplateArgs
row_tag _ = None

-- its number; that of any other cell is 0
abbrev pub tag_number : Option Tag → ℕ
tag_number None = 0
tag_number (Some t) = code (tag_of t)

abbrev pub place_in : Plain → ℕ × ℕ
place_in (of_plain.Place start stop) = (start, stop)
place_in _ = (0, 0)

abbrev pub value_in : Plain → ℤ
value_in (of_plain.Number v) = v
value_in (of_plain.Counted n) = pos n
value_in _ = pos 0

abbrev pub began_in : Plain → ℕ
began_in (of_plain.Arguments i members) = i
began_in _ = 0

abbrev pub text_in : Plain → List ℕ
text_in (of_plain.Word t k) = word_text t k
text_in _ = []

abbrev pub leaf_text_in : Plain → List ℕ
leaf_text_in (of_plain.Word t k) = leaf_text k
leaf_text_in _ = []
