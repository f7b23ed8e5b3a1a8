-- What the loops that copy lists need: the trees of a list that grows by the copy of an item.
use Rattle.std.proofs.Common.{◌≡◌, refl, ap, ◌∙◌, sym, ℕ, List, [], ◌∷◌, ◌++◌, ◌+◌, take}
use Rattle.demangle_core.specs.Core.{Core, Tag, node, end, ◌⊕◌, trees}

module _ {A : Type 0} (t : A → Tag) (p : A → Core) where
  trees_append : (xs ys : List A) → trees t p (xs ++ ys) ≡ trees t p xs ⊕ trees t p ys
  trees_append [] ys = refl
  trees_append (x ∷ xs) ys = ap (node (t x) (p x)) (trees_append xs ys)

  -- `copies` were the first `k` of `xs`; now `r`, the copy of `x`, is behind them.
  pub one_more : (xs copies grown : List A) (k : ℕ) (x r : A) → grown ≡ copies ++ (r ∷ []) → take (k + 1) xs ≡ take k xs ++ (x ∷ [])
      → trees t p copies ≡ trees t p (take k xs) → node (t r) (p r) end ≡ node (t x) (p x) end → trees t p grown ≡ trees t p (take (k + 1) xs)
  one_more xs copies grown k x r pushed next so_far equal =
      ap (trees t p) pushed ∙ trees_append copies (r ∷ [])
      ∙ ap (λ c. c ⊕ node (t r) (p r) end) so_far ∙ ap (λ c. trees t p (take k xs) ⊕ c) equal
      ∙ sym (trees_append (take k xs) (x ∷ [])) ∙ ap (trees t p) (sym next)
