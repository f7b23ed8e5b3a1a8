-- What it means that a node was put into an arena: `old` and `new` are the arena before and behind it.
use Rattle.std.specs.Prelude.{◌≡◌, ℕ, Result, IfOk, IfErr, OnOk}
use Rattle.demangle_core.specs.Core.{Core}
use Rattle.demangle_text.specs.declared.error.Error.{Error}
use Rattle.demangle_text.specs.declared.error.Error.TheVariants.{OutOfMemory}
use Rattle.demangle_cells.specs.Cells.{row}
use Rattle.demangle_cells.specs.View.{View, Holds, Grown, Waited, table, since}

-- The answer is the index of the tree, no component was added, and want of memory is the only refusal.
pub record Put (old new : View) (result : Result ℕ Error) (tree : Core) : Type 0 where
  pub grown : Grown old new
  pub table : (F : ℕ → Core) → table F new ≡ table F old
  pub made : IfOk result (λ i. (F : ℕ → Core) → Holds F new → F i ≡ tree)
  pub refused : IfErr result (λ e. e ≡ OutOfMemory)

-- The indexes that wait since then stand for these trees, one behind the other.
pub record Waits (old new : View) (result : Result (Unit {0}) Error) (trees : Core) : Type 0 where
  pub waited : Waited old new
  pub table : (F : ℕ → Core) → table F new ≡ table F old
  pub made : OnOk result ((F : ℕ → Core) → Holds F new → row F (since old new) ≡ trees)
  pub refused : IfErr result (λ e. e ≡ OutOfMemory)
