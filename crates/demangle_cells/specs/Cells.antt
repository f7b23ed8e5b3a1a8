-- The trees of cells, where F says what each index stands for, and `list` is the list of indexes.
use Rattle.std.specs.Prelude.{◌≡◌, ℕ, ◌+◌, List, [], ◌∷◌, map, take, drop, pos}
use Rattle.demangle_core.specs.Core as core
use Rattle.demangle_core.specs.Core.{Core, end, node, place, number, flag, chosen, mark, N, U}
use Rattle.demangle_grammar.specs.Code.{joined}
use Rattle.demangle_grammar.specs.Tree.{reference}
use Rattle.demangle_cells.specs.Tags.{tag_of}
use Rattle.demangle_cells.specs.declared.cell.Cell.{Cell}
use Rattle.demangle_cells.specs.declared.cell.ListOf.{ListOf}
use Rattle.demangle_cells.specs.declared.cell.ListOf.TheVariants as of_list
use Rattle.demangle_cells.specs.declared.cell.Cell.TheVariants as of_cell
use Rattle.demangle_cells.specs.declared.plain.Plain.{Plain}
use Rattle.demangle_cells.specs.declared.plain.Plain.TheVariants as of_plain

-- so many of the indexes, from a place on
abbrev pub span : List ℕ → ℕ → ℕ → List ℕ
span list start count = take count (drop start list)

-- the trees of some indexes, one behind the other
abbrev pub row : (ℕ → Core) → List ℕ → Core
row F ids = joined (map F ids)

-- what is kept
abbrev pub plain_tree : (ℕ → Core) → List ℕ → Plain → Core
plain_tree F list (of_plain.Empty t) = node (tag_of t) end end
plain_tree F list (of_plain.One t a) = node (tag_of t) (row F (a ∷ [])) end
plain_tree F list (of_plain.Two t a b) = node (tag_of t) (row F (a ∷ b ∷ [])) end
plain_tree F list (of_plain.Three t a b c) = node (tag_of t) (row F (a ∷ b ∷ c ∷ [])) end
plain_tree F list (of_plain.Many t start count) = node (tag_of t) (row F (span list start count)) end
plain_tree F list (of_plain.Arguments at members) = node core.Tag.TemplateArgs (mark at (F members)) end
plain_tree F list (of_plain.Place start stop) = place start stop end
plain_tree F list (of_plain.Number v) = number v end
plain_tree F list (of_plain.Counted n) = number (pos n) end
plain_tree F list (of_plain.Word t w) = chosen t w end
plain_tree F list (of_plain.Flag b) = flag b end
plain_tree F list (of_plain.Reference k) = reference N k
plain_tree F list (of_plain.Other k) = reference U k

-- what readers push
abbrev pub tree : (ℕ → Core) → List ℕ → Cell → Core
tree F list (of_cell.Empty t) = node (tag_of t) end end
tree F list (of_cell.One t a) = node (tag_of t) (row F (a ∷ [])) end
tree F list (of_cell.Two t a b) = node (tag_of t) (row F (a ∷ b ∷ [])) end
tree F list (of_cell.Three t a b c) = node (tag_of t) (row F (a ∷ b ∷ c ∷ [])) end
tree F list (of_cell.Text t start stop) = node (tag_of t) (place start stop end) end
tree F list (of_cell.Count t n) = node (tag_of t) (number (pos n) end) end
tree F list (of_cell.Place start stop) = place start stop end
tree F list (of_cell.Number v) = number v end
tree F list (of_cell.Counted n) = number (pos n) end
tree F list (of_cell.EmptyList t) = node (tag_of t) (node core.Tag.Several end end) end

-- the node of a list: a node of these trees, or a list of template arguments
abbrev pub list_tree : ListOf → Core → Core
list_tree (of_list.Node t) c = node (tag_of t) c end
list_tree (of_list.Arguments at) c = node core.Tag.TemplateArgs (mark at (node core.Tag.Several c end)) end

-- the cells from the index n on are what F says
abbrev pub holds_from : (ℕ → Core) → List ℕ → ℕ → List Plain → Type 0
holds_from F list n [] = Unit {0}
holds_from F list n (c ∷ cs) = (F n ≡ plain_tree F list c) × holds_from F list (n + 1) cs
