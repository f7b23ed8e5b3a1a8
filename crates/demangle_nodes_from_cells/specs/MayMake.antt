-- What is asked of a function that makes nodes.
use Rattle.std.specs.Prelude.{◌≡◌, ℕ, ◌<◌, Result, IfErr, IfOk}
use Rattle.std.specs.Borrow.{Bor}
use Rattle.std.specs.declared.alloc.Global.{Global}
use Rattle.demangle_text.specs.declared.error.Error.{Error}
use Rattle.demangle_text.specs.declared.error.Error.TheVariants.{OutOfMemory}
use Rattle.demangle_core.specs.Core.{Core}
use Rattle.demangle_cells.specs.View.{Holds, view}
use Rattle.demangle_cells.specs.declared.arena.Arena.{Arena}

-- when a function may be called, and what it may have answered
abbrev pub Before : Type 1
Before = Global → Bor Arena → ℕ → Type 0

abbrev pub After : Type 0 → Type 1
After A = Global → Bor Arena → ℕ → Result A Error → Type 0

-- It may be called with an index below `most`, and makes the node of this tree.
pub record MayMake {A : Type 0} (tree : A → Core) (pre : Before) (post : After A) (most : ℕ) : Type 0 where
  pub may : (g : Global) (a : Bor Arena) (i : ℕ) → i < most → pre g a i
  pub makes : (g : Global) (a : Bor Arena) (i : ℕ) (r : Result A Error) → post g a i r
      → IfOk r (λ n. (F : ℕ → Core) → Holds F (view a.now) → F i ≡ tree n)
  pub refuses : (g : Global) (a : Bor Arena) (i : ℕ) (r : Result A Error) → post g a i r
      → IfErr r (λ e. e ≡ OutOfMemory)
