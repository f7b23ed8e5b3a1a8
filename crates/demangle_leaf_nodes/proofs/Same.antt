-- What the functions that compute the equality of trees need of it.
use Rattle.std.proofs.Common.{◌≡◌, refl, ap, ◌∙◌, sym, ℕ, ℤ, suc, Bool, true, false, List, [], ◌∷◌, length, ◌&&◌}
use Rattle.std.specs.Ordering.{int_eq}
use Rattle.std.specs.Option.{option_eq}
use Rattle.std.specs.Cmp.Lexicographic.{pointwise}
use Rattle.std.proofs.Common.{rules}
use Rattle.std.specs.Prelude.{nat_eq, pos, Option, Some, None}
use Rattle.demangle_leaf_nodes.specs.TreeLeaves.{tree_of_option, tree_of_number}
use Rattle.demangle_core.specs.Core.{Core, Tag, end, node, trees, numbers, same, alike}

-- ---- rows
pub and_true : (b : Bool) → (b && true) ≡ b
and_true true = refl
and_true false = refl

and_false : (b : Bool) → (b && false) ≡ false
and_false true = refl
and_false false = refl

module _ {A : Type 0} (t : A → Tag) (p : A → Core) where
  pub lengths_differ : (xs ys : List A) → ((length xs ≡ length ys) → ⊥) → same (trees t p xs) (trees t p ys) ≡ false
  lengths_differ [] [] not_same = absurd (not_same refl)
  lengths_differ [] (y ∷ ys) not_same = refl
  lengths_differ (x ∷ xs) [] not_same = refl
  lengths_differ (x ∷ xs) (y ∷ ys) not_same =
      ap (λ b. alike (t x) (t y) (same (p x) (p y)) && b) (lengths_differ xs ys (λ e. not_same (ap suc e)))
      ∙ and_false (alike (t x) (t y) (same (p x) (p y)))

pub naturals : (a b : ℕ) → int_eq (pos a) (pos b) ≡ nat_eq a b
naturals a b = search rules

-- ---- what `==` of std answers at an optional field and at a list
pub option_of_trees : {A : Type 0} (f : A → Core) (x y : Option A) → option_eq (λ a b. same (f a) (f b)) x y ≡ same (tree_of_option f x) (tree_of_option f y)
option_of_trees f None None = refl
option_of_trees f None (Some b) = refl
option_of_trees f (Some a) None = refl
option_of_trees f (Some a) (Some b) = sym (and_true (same (f a) (f b)))

pub option_of_numbers : (x y : Option ℕ) → option_eq nat_eq x y ≡ same (tree_of_option tree_of_number x) (tree_of_option tree_of_number y)
option_of_numbers None None = refl
option_of_numbers None (Some b) = refl
option_of_numbers (Some a) None = refl
option_of_numbers (Some a) (Some b) = sym (and_true (int_eq (pos a) (pos b) && true) ∙ and_true (int_eq (pos a) (pos b)) ∙ naturals a b)

pub list_of_trees : {A : Type 0} (t : A → Tag) (p : A → Core) (xs ys : List A) → pointwise (λ a b. same (node (t a) (p a) end) (node (t b) (p b) end)) xs ys ≡ same (trees t p xs) (trees t p ys)
list_of_trees t p [] [] = refl
list_of_trees t p [] (y ∷ ys) = refl
list_of_trees t p (x ∷ xs) [] = refl
list_of_trees t p (x ∷ xs) (y ∷ ys) = λ i. and_true (alike (t x) (t y) (same (p x) (p y))) i && list_of_trees t p xs ys i

pub list_of_numbers : (xs ys : List ℤ) → pointwise int_eq xs ys ≡ same (numbers xs) (numbers ys)
list_of_numbers [] [] = refl
list_of_numbers [] (y ∷ ys) = refl
list_of_numbers (x ∷ xs) [] = refl
list_of_numbers (x ∷ xs) (y ∷ ys) = ap (λ b. int_eq x y && b) (list_of_numbers xs ys)

pub ruleset rows = (and_true, option_of_trees, option_of_numbers, list_of_trees, list_of_numbers)

-- The last of three fields, where the two before it are the same.
pub last_of_three : {first second third answer : Bool} → answer ≡ third → true ≡ first → true ≡ second → answer ≡ (first && (second && third))
last_of_three {third} of_third of_first of_second = of_third ∙ (λ i. of_first i && (of_second i && third))
