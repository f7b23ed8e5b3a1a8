-- Trees one behind the other, and one more behind them.
use Rattle.std.proofs.Common.{◌≡◌, refl, ap, ◌∙◌, sym, ℕ, List, [], ◌∷◌, ◌++◌, map}
use Rattle.demangle_core.specs.Core.{Core, node, place, number, flag, chosen, ref, mark, end, ◌⊕◌}
use Rattle.demangle_grammar.specs.Code.{joined, joined_to}
use Rattle.demangle_cells.specs.Cells.{row}
use Rattle.demangle_cells.proofs.Lists.{map_last}

plus_assoc : (a b c : Core) → (a ⊕ b) ⊕ c ≡ a ⊕ (b ⊕ c)
plus_assoc end b c = refl
plus_assoc (node t x n) b c = ap (λ y. node t x y) (plus_assoc n b c)
plus_assoc (place i j n) b c = ap (λ y. place i j y) (plus_assoc n b c)
plus_assoc (number v n) b c = ap (λ y. number v y) (plus_assoc n b c)
plus_assoc (flag z n) b c = ap (λ y. flag z y) (plus_assoc n b c)
plus_assoc (chosen t k n) b c = ap (λ y. chosen t k y) (plus_assoc n b c)
plus_assoc (ref w k n) b c = ap (λ y. ref w k y) (plus_assoc n b c)
plus_assoc (mark i n) b c = ap (λ y. mark i y) (plus_assoc n b c)

joined_last_to : (a : Core) (bs : List Core) (t : Core) → joined_to a (bs ++ t ∷ []) ≡ joined_to a bs ⊕ t
joined_last_to a [] t = refl
joined_last_to a (b ∷ bs) t = ap (λ x. a ⊕ x) (joined_last_to b bs t) ∙ sym (plus_assoc a (joined_to b bs) t)

joined_last : (bs : List Core) (t : Core) → joined (bs ++ t ∷ []) ≡ joined bs ⊕ t
joined_last [] t = refl
joined_last (b ∷ bs) t = joined_last_to b bs t

pub row_more : (F : ℕ → Core) (ks : List ℕ) (k : ℕ) → row F (ks ++ k ∷ []) ≡ row F ks ⊕ F k
row_more F ks k = ap joined (map_last F ks k) ∙ joined_last (map F ks) (F k)
