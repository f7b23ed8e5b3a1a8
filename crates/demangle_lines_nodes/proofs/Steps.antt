-- Numbers that no tag has.
use Rattle.std.proofs.Common.{◌≡◌, ℕ, zero, suc, ◌+◌, ◌≤◌, List, [], ◌∷◌, length, refl, sym, ap, arith}
use Rattle.demangle_core.specs.Core.{Core, Tag}
use Rattle.demangle_printing.specs.Lines.{line_steps}
use Rattle.demangle_printing.specs.Scope.{Scope}
use Rattle.demangle_printing.specs.Step.{Step}
use Rattle.demangle_meets.specs.Page.{Page}
use Rattle.demangle_meets.specs.Place.{Place}
use Rattle.demangle_meets.proofs.Acts.{meets_done}
use Rattle.demangle_lines.specs.Does.{Runs}
use Rattle.demangle_lines.proofs.Doing.{runs_as}
use Rattle.demangle_lines_nodes.specs.Tags.{all_tags, nth_tag, tag_at}

past : (n : ℕ) (ts : List Tag) → length ts ≤ n → nth_tag n ts ≡ Tag.Absent
past n [] h = refl
past zero (t ∷ ts) h = absurd (omega (arith, h))
past (suc n) (t ∷ ts) h = past n ts (omega (arith, h))

no_line : (n : ℕ) → 211 ≤ n → line_steps (tag_at n) ≡ Step.done
unfolding tag_at line_steps
no_line n h = ap line_steps (past n all_tags h)

-- no tag has such a number
pub no_tag : {p : Place} {a : Page} {x : Core} {sc : Scope Core} (n : ℕ) → 211 ≤ n →
    Runs p a a x sc (line_steps (tag_at n))
no_tag n h = runs_as (no_line n h) (record { meets = meets_done })
