-- Words past the end of a table have no text.
use Rattle.std.proofs.Common.{◌≡◌, refl, ℕ, suc, zero, ◌≤◌, List, [], ◌∷◌, length, arith}
use Rattle.demangle_vocab.specs.WordTable.{Entry, text_at}

pub text_past : {X : Type 0} (es : List (Entry X)) (k : ℕ) → length es ≤ k → [] ≡ text_at es k
text_past [] k h = refl
text_past (e ∷ es) zero h = absurd (omega (arith, h))
text_past (e ∷ es) (suc k) h = text_past es k (omega (arith, h))
