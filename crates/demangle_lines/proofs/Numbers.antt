-- Numbers, in decimal.
use Rattle.std.proofs.Common.{◌≡◌, ◌+◌, ◌-◌, ℕ, ℤ, List, subst, pos, ap, refl, ◌+ℤ◌}
use Rattle.std.specs.Fmt.{decimal, signed_decimal}
use Rattle.demangle_printing.specs.State.{written}
use Rattle.demangle_meets.specs.Page.{Page}
use Rattle.demangle_meets.specs.Calls.{Steps}

-- a text that is another one
pub text_as : {a b : Page} {bs cs : List ℕ} → Steps a b (written bs) → bs ≡ cs → Steps a b (written cs)
text_as {a} {b} d e = subst (λ z. Steps a b (written z)) e d

-- a number that isn't below zero, and so much more
pub natural_sum : (n plus : ℕ) (z : ℤ) → pos n ≡ z → decimal (n + plus) ≡ signed_decimal (z +ℤ pos plus)
natural_sum n plus z e = ap (λ y. signed_decimal (y +ℤ pos plus)) e

-- a sum that isn't below zero
pub natural_difference : (n : ℕ) (z : ℤ) → pos n ≡ z → decimal n ≡ signed_decimal z
natural_difference n z e = ap signed_decimal e
