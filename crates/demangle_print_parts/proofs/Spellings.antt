-- What stands behind a failure.
use Rattle.std.proofs.Common.{[], refl}
use Rattle.demangle_core.specs.Core.{Core}
use Rattle.demangle_printing.specs.State.{Fault, no}
use Rattle.demangle_printing.specs.Act.{Act, fail, block, act}
use Rattle.demangle_printing.specs.Laws.{Does}
use Rattle.demangle_meets.specs.Page.{Page}
use Rattle.demangle_meets.specs.Place.{Place}
use Rattle.demangle_meets.specs.Calls.{Steps}
use Rattle.demangle_meets.specs.Meets.{Meets}
use Rattle.demangle_meets.proofs.Goes.{goes_as}

-- It isn't done.
pub meets_failed : {p : Place} {a b : Page} {f : Fault} {k : Act Core} → Steps a b (λ s. no [] f) →
    Meets p a b (block (fail f) k)
unfolding act Does
meets_failed {p} d = record { goes = goes_as (λ _. refl) (λ _ v. tt) (d.at_place p); same = d.same }
