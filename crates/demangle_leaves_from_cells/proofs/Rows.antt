-- Lists that are made out of a row of indexes, one node after the other.
use Rattle.std.proofs.Common.{◌≡◌, refl, ap, ◌∙◌, sym, ℕ, ℤ, ◌+◌, List, [], ◌∷◌, ◌++◌, take}
use Rattle.demangle_core.specs.Core.{Core, Tag, node, end, place, number, flag, chosen, ref, mark, ◌⊕◌, trees, numbers}
use Rattle.demangle_cells.specs.Cells.{row}

joins : (a b c : Core) → (a ⊕ b) ⊕ c ≡ a ⊕ (b ⊕ c)
joins end b c = refl
joins (node t x n) b c = ap (node t x) (joins n b c)
joins (place i j n) b c = ap (place i j) (joins n b c)
joins (number v n) b c = ap (number v) (joins n b c)
joins (flag s n) b c = ap (flag s) (joins n b c)
joins (chosen t k n) b c = ap (chosen t k) (joins n b c)
joins (ref w k n) b c = ap (ref w k) (joins n b c)
joins (mark i n) b c = ap (mark i) (joins n b c)

row_last : (F : ℕ → Core) (ids : List ℕ) (id : ℕ) → row F (ids ++ id ∷ []) ≡ row F ids ⊕ F id
row_last F [] id = refl
row_last F (a ∷ []) id = refl
row_last F (a ∷ b ∷ ids) id = ap (λ c. F a ⊕ c) (row_last F (b ∷ ids) id) ∙ sym (joins (F a) (row F (b ∷ ids)) (F id))

number_last : (xs : List ℤ) (x : ℤ) → numbers (xs ++ x ∷ []) ≡ numbers xs ⊕ number x end
number_last [] x = refl
number_last (y ∷ ys) x = ap (number y) (number_last ys x)

-- a number more
pub number_more : (F : ℕ → Core) (ids : List ℕ) (k : ℕ) (id : ℕ) (xs ys : List ℤ) (x : ℤ) → ys ≡ xs ++ x ∷ []
    → take (k + 1) ids ≡ take k ids ++ id ∷ [] → row F (take k ids) ≡ numbers xs → F id ≡ number x end
    → row F (take (k + 1) ids) ≡ numbers ys
number_more F ids k id xs ys x grown next before made = ap (row F) next ∙ row_last F (take k ids) id
    ∙ ap (λ c. c ⊕ F id) before ∙ ap (λ c. numbers xs ⊕ c) made ∙ sym (number_last xs x) ∙ ap numbers (sym grown)

module _ {A : Type 0} (t : A → Tag) (p : A → Core) where
  tree_last : (xs : List A) (x : A) → trees t p (xs ++ x ∷ []) ≡ trees t p xs ⊕ node (t x) (p x) end
  tree_last [] x = refl
  tree_last (y ∷ ys) x = ap (node (t y) (p y)) (tree_last ys x)

  -- a node more
  pub tree_more : (F : ℕ → Core) (ids : List ℕ) (k : ℕ) (id : ℕ) (xs ys : List A) (x : A) → ys ≡ xs ++ x ∷ []
      → take (k + 1) ids ≡ take k ids ++ id ∷ [] → row F (take k ids) ≡ trees t p xs → F id ≡ node (t x) (p x) end
      → row F (take (k + 1) ids) ≡ trees t p ys
  tree_more F ids k id xs ys x grown next before made = ap (row F) next ∙ row_last F (take k ids) id
      ∙ ap (λ c. c ⊕ F id) before ∙ ap (λ c. trees t p xs ⊕ c) made ∙ sym (tree_last xs x) ∙ ap (trees t p) (sym grown)
