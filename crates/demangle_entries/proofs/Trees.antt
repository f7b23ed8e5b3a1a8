-- How the equality of two trees follows from that of the fields of their nodes.
use Rattle.std.proofs.Common.{◌≡◌, ◌∙◌, sym, ◌==◌, ◌&&◌, Bool, true, false, ℕ, pos, rules}
use Rattle.std.specs.Ordering.{int_eq}
use Rattle.demangle_core.specs.Core.{Tag, Core, end, node, code, same, alike}
use Rattle.demangle_leaf_nodes.proofs.Same.{and_true}
use Rattle.demangle_nodes.proofs.Equal.{Tells, same_variant}

module _ {X : Type 0} (t : X → Tag) (p : X → Core) where
  -- Two trees of nodes of one variant.
  pub same_tree : {x y v w : X} {c d : Core} {r : Bool} → x ≡ v → y ≡ w → p v ≡ c → p w ≡ d →
      (code (t v) == code (t w)) ≡ true → Tells r c d → r ≡ same (node (t x) (p x) end) (node (t y) (p y) end)
  same_tree {x} {y} ex ey pv pw one h =
      same_variant t p ex ey pv pw one h ∙ sym (and_true (alike (t x) (t y) (same (p x) (p y))))

-- Two numbers, as the code compares them.
pub same_number : (a b : ℕ) → a ≡ b → true ≡ int_eq (pos a) (pos b)
same_number a b e = search rules

pub other_number : (a b : ℕ) → (a ≡ b → ⊥) → false ≡ int_eq (pos a) (pos b)
other_number a b e = search rules

pub other_test : (a b : ℕ) → (a ≡ b → ⊥) → (a == b) ≡ false
other_test a b e = search rules
