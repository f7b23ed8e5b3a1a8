-- What holds of the turns of a prefix, step by step.
use Rattle.std.specs.Prelude.{◌⊎◌}
use Rattle.std.proofs.Common.{inl, inr, ◌≡◌, ℕ, zero, suc, ◌<◌, ◌≤◌, Bool, true, false, List, [], ◌∷◌, length, refl}
use Rattle.std.proofs.Common.{◌∙◌, arith, ◌==◌}
use Rattle.demangle_core.specs.Core.{Core}
use Rattle.demangle_text.specs.Kind.{Kind}
use Rattle.demangle_grammar.specs.Rule.{Row}
use Rattle.demangle_grammar.specs.Code.{Go, Here, Reply, Found, Refused, turned, turn, turns, turns_of, cread}
use Rattle.demangle_grammar.proofs.CodeLaws.{no_longer}

not_same : (m n : ℕ) → m ≤ n → (m == n) ≡ false → m < n
not_same m n h e = grind (arith, h, e)

module _ (go : Go) (c : Bool) (r : Row)
    (shorter : (s m : Here) (acc : List Core) (t : Core) → go r c s acc ≡ Found t m
    → length m.spot.left ≤ length s.spot.left) where
  turns-enough : (m n : ℕ) (s : Here) (acc : List Core) → length s.spot.left < m → length s.spot.left < n
      → turns (go r c) m s acc ≡ turns (go r c) n s acc
  unfolding turns
  turns-enough zero n s acc h k = absurd (omega arith)
  turns-enough (suc m) zero s acc h k = absurd (omega arith)
  turns-enough (suc m) (suc n) s acc h k = by (go r c s acc) refl (λ q t x y. turns-enough m n q (t ∷ []) x y)
    where
      Next : Type 0
      Next = (q : Here) (t : Core) → length q.spot.left < m → length q.spot.left < n
          → turns (go r c) m q (t ∷ []) ≡ turns (go r c) n q (t ∷ [])

      on : (q : Here) (t : Core) → length q.spot.left ≤ length s.spot.left → Next → (z : Bool)
          → (length q.spot.left == length s.spot.left) ≡ z
          → turned q t z (turns (go r c) m) ≡ turned q t z (turns (go r c) n)
      on q t p next true e = refl
      on q t p next false e =
          let l = not_same (length q.spot.left) (length s.spot.left) p e in
          next q t (omega (arith, l, h)) (omega (arith, l, k))

      by : (a : Reply) → go r c s acc ≡ a → Next
          → turn s (go r c s acc) (turns (go r c) m) ≡ turn s (go r c s acc) (turns (go r c) n)
      by (Found t q) e next = rw e (on q t (shorter s q acc t e) next (length q.spot.left == length s.spot.left) refl)
      by (Refused k) e next = rw e refl

  again-turns : (s m : Here) (acc : List Core) (t : Core) → go r c s acc ≡ Found t m
      → (length m.spot.left == length s.spot.left) ≡ false → turns_of go c r s acc ≡ turns_of go c r m (t ∷ [])
  unfolding turns_of turns
  again-turns s m acc t e z =
      let l = not_same (length m.spot.left) (length s.spot.left) (shorter s m acc t e) z in
      rw (e, z) (turns-enough (length s.spot.left) (suc (length m.spot.left)) m (t ∷ []) l (omega arith))

-- a turn that takes a byte
pub turns_again : (f : ℕ) (c : Bool) (s m : Here) (acc : List Core) (t : Core)
    → cread f Row.prefix_turn c s acc ≡ Found t m → (length m.spot.left == length s.spot.left) ≡ false
    → turns_of (cread f) c Row.prefix_turn s acc ≡ turns_of (cread f) c Row.prefix_turn m (t ∷ [])
turns_again f c s m acc t e z =
    again-turns (cread f) c Row.prefix_turn (λ s m acc t. no_longer f Row.prefix_turn c s m acc t) s m acc t e z

pub turn_shorter : (f : ℕ) (c : Bool) (s m : Here) (acc : List Core) (t : Core)
    → cread f Row.prefix_turn c s acc ≡ Found t m → length m.spot.left ≤ length s.spot.left
turn_shorter f c s m acc t e = no_longer f Row.prefix_turn c s m acc t e

-- one that takes none is the last
pub turns_last : (go : Go) (c : Bool) (r : Row) (s m : Here) (acc : List Core) (t : Core) → go r c s acc ≡ Found t m
    → (length m.spot.left == length s.spot.left) ≡ true → turns_of go c r s acc ≡ Found t m
unfolding turns_of turns
turns_last go c r s m acc t e z = rw (e, z) refl

equal-is : (m n : ℕ) → m ≡ n → (m == n) ≡ true
equal-is m n e = grind (arith, e)

pub turns_stop : (go : Go) (c : Bool) (r : Row) (s m : Here) (acc : List Core) (t : Core) → go r c s acc ≡ Found t m
    → length m.spot.left ≡ length s.spot.left → turns_of go c r s acc ≡ Found t m
turns_stop go c r s m acc t e z =
    turns_last go c r s m acc t e (equal-is (length m.spot.left) (length s.spot.left) z)

pub turns_fail : (go : Go) (c : Bool) (r : Row) (s : Here) (acc : List Core) (k : Kind) → go r c s acc ≡ Refused k
    → turns_of go c r s acc ≡ Refused k
unfolding turns_of turns
turns_fail go c r s acc k e = rw e refl

-- a turn that fails, or a failure that the bytes don't tell
pub turn_refused : {P : Type 0} (go : Go) (c : Bool) (r : Row) (s : Here) (acc : List Core) (k : Kind) (t : Reply)
    → t ≡ turns_of go c r s acc → P ⊎ (go r c s acc ≡ Refused k) → P ⊎ (t ≡ Refused k)
turn_refused go c r s acc k t h (inl p) = inl p
turn_refused go c r s acc k t h (inr e) = inr (h ∙ turns_fail go c r s acc k e)

-- for a loop of turns
pub ruleset turning = (turns_again, turn_shorter, turns_last, turns_fail)
