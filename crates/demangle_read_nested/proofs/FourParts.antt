-- Four indexes that wait, and the node of them.
use Rattle.std.proofs.Common.{◌≡◌, refl, ap, ◌∙◌, sym, subst, ℕ, List, [], ◌∷◌, ◌++◌, length, take, drop, map, append_assoc}
use Rattle.demangle_core.specs.Core.{Core, Tag, node, end, ◌⊕◌}
use Rattle.demangle_cells.specs.Cells.{row}
use Rattle.demangle_cells.specs.View.{View, Grown, Holds, KeepsTrees, table, entry}
use Rattle.demangle_cells.proofs.Lists.{take_all, take_front}
use Rattle.demangle_cells.proofs.Waits.{drop_front}

-- what four more make of the list
pub four_more : (xs ys zs ws vs : List ℕ) (a b c d : ℕ) → ys ≡ xs ++ a ∷ [] → zs ≡ ys ++ b ∷ [] → ws ≡ zs ++ c ∷ []
    → vs ≡ ws ++ d ∷ [] → vs ≡ xs ++ a ∷ b ∷ c ∷ d ∷ []
four_more xs ys zs ws vs a b c d e f g h =
    h ∙ (ap (λ l. l ++ d ∷ []) (g ∙ ap (λ l. l ++ c ∷ []) (f ∙ ap (λ l. l ++ b ∷ []) e)) ∙ simp append_assoc)

-- the components are the same behind both steps
pub same_behind : (F : ℕ → Core) (a b d : View) → KeepsTrees a b → KeepsTrees b d → table F d ≡ table F a
unfolding table
same_behind F a b d k l = ap (map (entry F)) (l.entries ∙ k.entries)

pub ruleset four_waits = (four_more)

pub ruleset fours = (four_more, same_behind)
