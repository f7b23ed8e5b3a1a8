-- Numbers that are read from a node.
use Rattle.std.proofs.Common.{ℤ, subst}
use Rattle.std.proofs.lemmas.Int.{to_z-of_z}
use Rattle.std.specs.Fmt.{signed_decimal}
use mir.Syntax.{w64}
use mir.Val.{SFits, of_z, to_z}
use Rattle.demangle_printing.specs.State.{written}
use Rattle.demangle_meets.specs.Page.{Page}
use Rattle.demangle_meets.specs.Calls.{Steps}

-- A number that fits is written as it is.
pub numbered : {a b : Page} (z : ℤ) → SFits w64 z → Steps a b (written (signed_decimal (to_z w64 (of_z w64 z)))) →
    Steps a b (written (signed_decimal z))
numbered {a} {b} z f d = subst (λ y. Steps a b (written (signed_decimal y))) (to_z-of_z w64 z f) d
