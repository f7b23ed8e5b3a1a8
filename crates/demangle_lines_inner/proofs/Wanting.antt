-- Which parentheses the items from one on want.
use Rattle.std.proofs.Common.{◌≡◌, ℕ, zero, suc, ◌+◌, List, [], ◌∷◌, drop, Some, None, refl, sym, ◌∙◌, ap, add-one}
use Rattle.demangle_core.specs.Core.{Core}
use Rattle.demangle_printing.specs.State.{Held}
use Rattle.demangle_printing.specs.Rules.{tag}
use Rattle.demangle_printing.specs.World.{World}
use Rattle.demangle_printing.specs.Parameters.{Wanted, none, or_spaced, wanted, wants}
use Rattle.demangle_context.specs.Items.{item_at}

wanted_at : (w : World Core) (n : ℕ) (hs : List (Held Core)) (x : Core) → Some x ≡ item_at n hs →
    wanted w (drop n hs) ≡ or_spaced (wants (tag w x)) (wanted w (drop (suc n) hs))
wanted_at w n [] x e = absurd (cc e)
wanted_at w zero (h ∷ hs) x e =
    let k : h.item ≡ x = cc in ap (λ y. or_spaced (wants (tag w y)) (wanted w hs)) k
wanted_at w (suc n) (h ∷ hs) x e = wanted_at w n hs x e

-- what this item wants, and else what those behind it want
pub wanted_from : (w : World Core) (n : ℕ) (hs : List (Held Core)) (x : Core) (v : Wanted) → Some x ≡ item_at n hs →
    v ≡ wants (tag w x) → wanted w (drop n hs) ≡ or_spaced v (wanted w (drop (n + 1) hs))
wanted_from w n hs x v there is =
    wanted_at w n hs x there
    ∙ (ap (λ m. or_spaced (wants (tag w x)) (wanted w (drop m hs))) (sym (add-one n))
    ∙ ap (λ u. or_spaced u (wanted w (drop (n + 1) hs))) (sym is))

-- there is none
pub wanted_none : (w : World Core) (n : ℕ) (hs : List (Held Core)) → None ≡ item_at n hs → wanted w (drop n hs) ≡ none
wanted_none w zero [] e = refl
wanted_none w (suc n) [] e = refl
wanted_none w zero (h ∷ hs) e = absurd (cc e)
wanted_none w (suc n) (h ∷ hs) e = wanted_none w n hs e
