-- A reading with as few levels as it needs.
use Rattle.std.specs.Prelude.{◌≡◌, ◌≢◌, ◌⊎◌, ◌+◌, ◌≤◌, ℕ, suc, Result, Err}
use Rattle.demangle_text.specs.declared.error.Error.{Error}
use Rattle.demangle_text.specs.declared.error.Error.TheVariants.{TooMuchRecursion}
use Rattle.demangle_leaf_rows.specs.Context.{Context, levels_left, raised}

-- `gives` says of a count of levels what is answered with so many. This is what is answered with so many levels; with
-- one less they are too few; and they are enough, or all that are left.
pub record Deepened {X : Type 0} (gives : ℕ → Result X Error → Type 0) (old new : Context) (result : Result X Error)
    : Type 0 where
  pub levels : ℕ
  pub within : levels ≤ levels_left old
  pub answers : gives levels result
  pub needed : (less : ℕ) → levels ≡ suc less → gives less (Err TooMuchRecursion)
  pub enough : (levels ≡ levels_left old) ⊎ (result ≢ Err TooMuchRecursion)
  pub deepest : new ≡ raised (old.level + levels) old
