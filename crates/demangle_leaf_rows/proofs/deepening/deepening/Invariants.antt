use Rattle.std.proofs.Common.{◌≡◌, ℕ, suc, Err}
use Rattle.demangle_text.specs.declared.error.Error.TheVariants.{TooMuchRecursion}
use Rattle.demangle_leaf_rows.proofs.deepening.deepening.Given as goal

abbrev pub invariant-loop-few : goal.invariant-loop-few
invariant-loop-few g l =
    (l.ctx ≡ l.fn.ctx)
    × ((less : ℕ) → l.few ≡ suc less
    → goal.F-post g l.read (record { levels = less; conversion = l.conversion }) (Err TooMuchRecursion))
