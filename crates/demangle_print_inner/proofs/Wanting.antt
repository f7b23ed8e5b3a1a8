-- Which parentheses the items from one on want.
use Rattle.std.proofs.Common.{◌≡◌, ℕ, zero, suc, ◌+◌, List, [], ◌∷◌, drop, Some, None, refl, sym, ◌∙◌, ap, add-one}
use Rattle.demangle_core.specs.Core.{Core}
use Rattle.demangle_printing.specs.State.{Held}
use Rattle.demangle_printing.specs.Rules.{tag}
use Rattle.demangle_printing.specs.Parameters.{Wanted, none, or_spaced, wanted, wants}
use Rattle.demangle_meets.specs.Place.{Refers, world_of}
use Rattle.demangle_context.specs.Items.{item_at}
use Rattle.demangle_scope.specs.declared.inner.InnerItem.{InnerItem}
use Rattle.demangle_scope.specs.ItemTree.{item_tree}
use Rattle.demangle_print_inner.specs.Kinds.{item_wants}
use Rattle.demangle_print_inner.proofs.Items.{wants_is}

wanted_at : (r : Refers) (n : ℕ) (hs : List (Held Core)) (x : Core) → Some x ≡ item_at n hs →
    wanted (world_of r) (drop n hs)
    ≡ or_spaced (wants (tag (world_of r) x)) (wanted (world_of r) (drop (suc n) hs))
wanted_at r n [] x e = absurd (cc e)
wanted_at r zero (h ∷ hs) x e =
    let k : h.item ≡ x = cc in ap (λ y. or_spaced (wants (tag (world_of r) y)) (wanted (world_of r) hs)) k
wanted_at r (suc n) (h ∷ hs) x e = wanted_at r n hs x e

-- what this item wants, and else what those behind it want
pub wanted_from : (r : Refers) (n : ℕ) (hs : List (Held Core)) (i : InnerItem) (v : Wanted) →
    Some (item_tree i) ≡ item_at n hs → v ≡ item_wants i →
    wanted (world_of r) (drop n hs) ≡ or_spaced v (wanted (world_of r) (drop (n + 1) hs))
wanted_from r n hs i v there is =
    wanted_at r n hs (item_tree i) there
    ∙ (ap (λ m. or_spaced (wants (tag (world_of r) (item_tree i))) (wanted (world_of r) (drop m hs))) (sym (add-one n))
    ∙ ap (λ u. or_spaced u (wanted (world_of r) (drop (n + 1) hs))) (sym (wants_is r i) ∙ sym is))

-- there is none
pub wanted_none : (r : Refers) (n : ℕ) (hs : List (Held Core)) → None ≡ item_at n hs →
    wanted (world_of r) (drop n hs) ≡ none
wanted_none r zero [] e = refl
wanted_none r (suc n) [] e = refl
wanted_none r zero (h ∷ hs) e = absurd (cc e)
wanted_none r (suc n) (h ∷ hs) e = wanted_none r n hs e
