-- `starts` is the comparison of slices.
use Rattle.std.proofs.Common.{◌≡◌, ℕ, ◌<◌, ◌≤◌, List, [], ◌∷◌, length, take, refl, arith, false, nat_eq}
use Rattle.std.specs.Cmp.Lexicographic.{pointwise}
use Rattle.demangle_text.specs.Word.{starts}

pub starts-short : (w bs : List ℕ) → length bs < length w → starts w bs ≡ false
starts-short [] bs h = absurd (omega (arith, h))
starts-short (w ∷ ws) [] h = refl
starts-short (w ∷ ws) (b ∷ bs) h = rw (starts-short ws bs (omega (arith, h))) (grind arith)

pub starts-is : (w bs : List ℕ) → length w ≤ length bs → starts w bs ≡ pointwise nat_eq (take (length w) bs) w
starts-is [] bs h = refl
starts-is (w ∷ ws) [] h = absurd (omega (arith, h))
starts-is (w ∷ ws) (b ∷ bs) h = rw (starts-is ws bs (omega (arith, h))) (grind arith)

pub ruleset words = (starts-short, starts-is)
