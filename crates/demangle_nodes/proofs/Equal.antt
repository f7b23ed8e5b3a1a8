-- How the equality of two nodes follows from that of their fields: one step a field, from the first to the last.
use Rattle.std.proofs.Common.{◌≡◌, ◌∙◌, sym, List, ◌==◌, ◌&&◌, Bool, true, false, ℤ}
use Rattle.std.specs.Ordering.{int_eq}
use Rattle.demangle_core.specs.Core.{Tag, Core, end, node, number, code, same, alike, trees}
use Rattle.demangle_leaf_nodes.proofs.Same.{and_true}

-- That a test's answer is whether two rows are the same.
pub data Tells : Bool → Core → Core → Type 0 where
  tells : {r : Bool} {c d : Core} → r ≡ same c d → Tells r c d

told : {r : Bool} {c d : Core} → Tells r c d → r ≡ same c d
told (tells h) = h

module _ {X : Type 0} (t : X → Tag) (p : X → Core) where
  -- Two nodes of one variant, and what the trees of their fields are.
  pub same_variant : {x y v w : X} {c d : Core} {r : Bool} → x ≡ v → y ≡ w → p v ≡ c → p w ≡ d → (code (t v) == code (t w)) ≡ true → Tells r c d → r ≡ alike (t x) (t y) (same (p x) (p y))
  same_variant ex ey pv pw one h = told h ∙ sym ((λ i. alike (t (ex i)) (t (ey i)) (same (p (ex i)) (p (ey i)))) ∙ (λ i. one i && same (pv i) (pw i)))

  -- Nodes of two variants.
  pub other_variant : {x v : X} (y : X) → x ≡ v → (code (t v) == code (t y)) ≡ false → false ≡ alike (t x) (t y) (same (p x) (p y))
  other_variant {v} y ex two = sym ((λ i. alike (t (ex i)) (t y) (same (p (ex i)) (p y))) ∙ (λ i. two i && same (p v) (p y)))

  -- What a box holds, compared by reference.
  pub behind : {a b d e : X} {r : Bool} → d ≡ a → e ≡ b → r ≡ alike (t d) (t e) (same (p d) (p e)) → r ≡ alike (t a) (t b) (same (p a) (p b))
  behind da eb h = h ∙ (λ i. alike (t (da i)) (t (eb i)) (same (p (da i)) (p (eb i))))

  -- What a list holds, compared by reference.
  pub behind_list : {xs ys d e : List X} {r : Bool} → d ≡ xs → e ≡ ys → r ≡ same (trees t p d) (trees t p e) → r ≡ same (trees t p xs) (trees t p ys)
  behind_list da eb h = h ∙ (λ i. same (trees t p (da i)) (trees t p (eb i)))

-- The last field.
pub last : {t u : Tag} {x y : Core} {r : Bool} → r ≡ alike t u (same x y) → Tells r (node t x end) (node u y end)
last {t} {u} {x} {y} h = tells (h ∙ sym (and_true (alike t u (same x y))))

pub last_leaf : {c d : Core} {r : Bool} → r ≡ same c d → Tells r c d
last_leaf h = tells h

-- A field that is the same in both, and the rest.
pub and_then : {t u : Tag} {x y n m : Core} {r : Bool} → true ≡ alike t u (same x y) → Tells r n m → Tells r (node t x n) (node u y m)
and_then {n} {m} h k = tells (told k ∙ (λ i. h i && same n m))

pub and_then_leaf : {t u : Tag} {x y n m : Core} {r : Bool} → true ≡ same (node t x end) (node u y end) → Tells r n m → Tells r (node t x n) (node u y m)
and_then_leaf {t} {u} {x} {y} h k = and_then (h ∙ and_true (alike t u (same x y))) k

pub and_then_number : {v w : ℤ} {n m : Core} {r : Bool} → true ≡ int_eq v w → Tells r n m → Tells r (number v n) (number w m)
and_then_number {n} {m} h k = tells (told k ∙ (λ i. h i && same n m))

-- A field that differs.
pub differs : {t u : Tag} {x y n m : Core} {r : Bool} → r ≡ false → false ≡ alike t u (same x y) → Tells r (node t x n) (node u y m)
differs {n} {m} e h = tells (e ∙ (λ i. h i && same n m))

pub differs_leaf : {t u : Tag} {x y n m : Core} {r : Bool} → r ≡ false → false ≡ same (node t x end) (node u y end) → Tells r (node t x n) (node u y m)
differs_leaf {t} {u} {x} {y} e h = differs e (h ∙ and_true (alike t u (same x y)))

pub differs_number : {v w : ℤ} {n m : Core} {r : Bool} → r ≡ false → false ≡ int_eq v w → Tells r (number v n) (number w m)
differs_number {n} {m} e h = tells (e ∙ (λ i. h i && same n m))
