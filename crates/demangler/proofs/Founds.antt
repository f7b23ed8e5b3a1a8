-- What a name that was read into an arena is: by what each of the arena's indexes stands for.
use Rattle.std.specs.Prelude.{◌≡◌, ℕ, [], Ok, Err}
use Rattle.demangle_cells.specs.View.{view}
use Rattle.demangle_cells.specs.declared.arena.Arena.{Arena}
use Rattle.demangle_cell_trees.specs.ArenaTrees.{table_of, tree_at}
use Rattle.demangle_cell_trees.proofs.Hold.{trees_hold}
use Rattle.demangle_grammar.specs.Code.{Found, Reply, here}
use Rattle.demangle_read.specs.Found.{FindsWhole, IsFound}
use Rattle.demangle_text.specs.declared.error.Error.{Error}

pub ends_at : (a : Arena) (reply : Reply) (id : ℕ) → FindsWhole (view a) reply (Ok id) →
    (end : ℕ) × (reply ≡ Found (tree_at a id) (here (record { index = end; left = [] }) (table_of a)))
unfolding table_of
ends_at a reply id found = found (tree_at a) (trees_hold a)

pub fails_so : (a : Arena) (reply : Reply) (e : Error) → FindsWhole (view a) reply (Err e) →
    IsFound (tree_at a) (view a) reply (Err e)
fails_so a reply e found = found (tree_at a) (trees_hold a)
