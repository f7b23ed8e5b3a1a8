-- Four indexes that wait, and the node of them.
use Rattle.std.proofs.Common.{◌≡◌, ap, ◌∙◌, ℕ, List, [], ◌∷◌, ◌++◌, map, append_assoc}
use Rattle.demangle_core.specs.Core.{Core}
use Rattle.demangle_cells.specs.View.{View, KeepsTrees, table, entry}

-- what four more make of the list
pub four_more : (xs ys zs ws vs : List ℕ) (a b c d : ℕ) → ys ≡ xs ++ a ∷ [] → zs ≡ ys ++ b ∷ [] → ws ≡ zs ++ c ∷ []
    → vs ≡ ws ++ d ∷ [] → vs ≡ xs ++ a ∷ b ∷ c ∷ d ∷ []
four_more xs ys zs ws vs a b c d e f g h =
    h ∙ (ap (λ l. l ++ d ∷ []) (g ∙ ap (λ l. l ++ c ∷ []) (f ∙ ap (λ l. l ++ b ∷ []) e)) ∙ simp append_assoc)

-- the components are the same behind both steps
pub same_behind : (F : ℕ → Core) (a b d : View) → KeepsTrees a b → KeepsTrees b d → table F d ≡ table F a
unfolding table
same_behind F a b d k l = ap (map (entry F)) (l.entries ∙ k.entries)

pub ruleset four_waits = (four_more)

pub ruleset fours = (four_more, same_behind)
