-- The sign before the digits of a literal.
use Rattle.std.proofs.Common.{◌≡◌, ◌==◌, ◌&&◌, ℕ, Bool, true, false, List, [], ◌∷◌, length, refl, sym, ◌∙◌, ap}
use Rattle.std.specs.List.{IsFirstAndRest}
use Rattle.demangle_printing.specs.Texts.{is_negative}

and_true : (v : Bool) → v ≡ v && true
and_true true = refl
and_true false = refl

pub sign_there : (bs rest : List ℕ) (b : ℕ) → IsFirstAndRest bs b rest → (110 == b) ≡ is_negative bs
sign_there bs rest b e = and_true (110 == b) ∙ sym (ap is_negative e.0)

pub no_sign_there : (bs : List ℕ) → length bs ≡ 0 → false ≡ is_negative bs
no_sign_there [] e = refl
no_sign_there (b ∷ bs) e = absurd (cc e)
