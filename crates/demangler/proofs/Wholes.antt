-- What is read whole is read at the front, with nothing left.
use Rattle.std.specs.Prelude.{◌≡◌, List, [], ◌∷◌, ℕ}
use Rattle.std.proofs.Common.{refl, subst, ap}
use Rattle.demangle_core.specs.Core.{Core}
use Rattle.demangle_grammar.specs.Code.{Reply, Found, Refused, Here}
use Rattle.demangle_read.specs.Reading.{whole_at, whole}

abbrev here_in : Here → Reply → Here
here_in d (Found x h) = h
here_in d (Refused k) = d

is_all : (k h : Here) → k ≡ h → k.spot.left ≡ [] → h.spot.left ≡ []
is_all k h e n = subst (λ m. m.spot.left ≡ []) e n

unwhole_at : (l : List ℕ) (y x : Core) (k h : Here) → k.spot.left ≡ l → whole_at l y k ≡ Found x h →
    (Found y k ≡ Found x h) × (h.spot.left ≡ [])
unwhole_at [] y x k h n e = (e, is_all k h (ap (here_in h) e) n)
unwhole_at (b ∷ bs) y x k h n e = absurd (cc)

pub unwhole : (r : Reply) (x : Core) (h : Here) → whole r ≡ Found x h → (r ≡ Found x h) × (h.spot.left ≡ [])
unwhole (Found y k) x h e = unwhole_at k.spot.left y x k h refl e
unwhole (Refused k) x h e = absurd (cc)
