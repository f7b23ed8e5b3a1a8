-- What is asked of a function that readers of rows are handed.
use Rattle.std.specs.Prelude.{ℕ, ◌<◌, Result}
use Rattle.std.specs.Borrow.{MutBor}
use Rattle.demangle_text.specs.declared.error.Error.{Error}
use Rattle.demangle_grammar.specs.Rule.{Row}
use Rattle.demangle_cells.specs.Reads.{Answer, ReadsRow}
use Rattle.demangle_cells.specs.View.{view, Grown}
use Rattle.demangle_cells.specs.declared.arena.Arena.{Arena}
use Rattle.demangle_cells.specs.declared.depth.Depth.{Depth}
use Rattle.demangle_cells.specs.declared.text.Text.{Text}

-- when a function may be called, and what it may have answered with the arena behind it
abbrev pub Before : Type 1
Before = MutBor Arena → Depth → Text → ℕ → Type 0

abbrev pub After : Type 1
After = MutBor Arena → Depth → Text → ℕ → Answer → MutBor Arena → Type 0

-- It may be called with fewer levels left than `most`, and reads its row.
pub record MayRead (row : Row) (pre : Before) (post : After) (most : ℕ) : Type 0 where
  pub may : (a : MutBor Arena) (d : Depth) (t : Text) (i : ℕ) → d.levels < most → pre a d t i
  pub grows : (a b : MutBor Arena) (d : Depth) (t : Text) (i : ℕ) (r : Answer) → post a d t i r b
      → Grown (view a.now) (view b.now)
  pub reads : (a b : MutBor Arena) (d : Depth) (t : Text) (i : ℕ) (r : Answer) → post a d t i r b
      → ReadsRow row d.levels d.conversion t i r (view a.now) (view b.now)
