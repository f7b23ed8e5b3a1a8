-- How many components a table has.
use Rattle.std.proofs.Common.{◌≡◌, refl, ◌∙◌, ℕ, ◌+◌, Bool, true, false, List, [], ◌∷◌, length, map, arith}
use Rattle.demangle_core.specs.Core.{Core, N, U}
use Rattle.demangle_core.specs.Table.{count, size}
use Rattle.demangle_cells.specs.View.{view, entry, table, IsMark}
use Rattle.demangle_cells.specs.declared.arena.Arena.{Arena}
use Rattle.demangle_cells.specs.declared.entry.Entry as made
use Rattle.demangle_cells.specs.declared.entry.Mark as mark
use Rattle.demangle_cell_trees.specs.ArenaTrees.{table_of, tree_at}

-- whether it is numbered or not, it is in one of the two lists
more : (F : ℕ → Core) (e : made.Entry) (es : List made.Entry) (b : Bool) → e.numbered ≡ b
    → length es ≡ count N (map (entry F) es) + count U (map (entry F) es)
    → length (e ∷ es) ≡ count N (map (entry F) (e ∷ es)) + count U (map (entry F) (e ∷ es))
more F e es true h r = rw h (omega (arith, r))
more F e es false h r = rw h (omega (arith, r))

both : (F : ℕ → Core) (es : List made.Entry) → length es ≡ count N (map (entry F) es) + count U (map (entry F) es)
both F [] = refl
both F (e ∷ es) = more F e es e.numbered refl (both F es)

pub all_entries : (a : Arena) (m : mark.Mark) → IsMark (view a) m
    → m.entries ≡ size N (table_of a) + size U (table_of a)
unfolding size table table_of
all_entries a m h = h.entries ∙ both (tree_at a) (view a).entries
