-- A list of parts, turn by turn.
use Rattle.std.proofs.Common.{◌≡◌, ℕ, zero, suc, ◌<◌, Bool, true, false, List, [], ◌∷◌, ◌++◌, length, map, refl, ap}
use Rattle.std.proofs.Common.{arith}
use Rattle.demangle_core.specs.Core.{Core}
use Rattle.demangle_text.specs.Kind.{Kind, ends}
use Rattle.demangle_grammar.specs.Code.{Here, Out, Yes, No, many, all_of}

module _ (turn : Here → List Core → Out)
    (takes : (s m : Here) (acc b : List Core) → turn s acc ≡ Yes m b → length m.spot.left < length s.spot.left) where
  many-enough : (m n : ℕ) (s : Here) (acc : List Core) → length s.spot.left < m → length s.spot.left < n
      → many turn m s acc ≡ many turn n s acc
  unfolding many
  many-enough zero n s acc h k = absurd (omega arith)
  many-enough (suc m) zero s acc h k = absurd (omega arith)
  many-enough (suc m) (suc n) s acc h k = by (turn s acc) refl (λ q b x y. many-enough m n q b x y)
    where
      by : (a : Out) → turn s acc ≡ a
          → ((q : Here) (b : List Core) → length q.spot.left < m → length q.spot.left < n
          → many turn m q b ≡ many turn n q b) → many turn (suc m) s acc ≡ many turn (suc n) s acc
      by (Yes q b) e next = let p = takes s q acc b e in rw e (next q b (omega arith) (omega arith))
      by (No h k) e next = rw e refl

  -- behind a turn the list goes on
  pub goes_on : (s m : Here) (acc b : List Core) → turn s acc ≡ Yes m b → all_of turn s acc ≡ all_of turn m b
  unfolding all_of many
  goes_on s m acc b e = let p = takes s m acc b e in
      rw e (many-enough (length s.spot.left) (suc (length m.spot.left)) m b p (omega arith))

-- a turn that can't be read is the list's end
pub stops : (turn : Here → List Core → Out) (s : Here) (acc : List Core) (h : Bool) (k : Kind) → turn s acc ≡ No h k
    → ends k ≡ false → all_of turn s acc ≡ Yes s acc
unfolding all_of many
stops turn s acc h k e l = rw (e, l) refl

-- a turn that ends the whole reading
pub breaks : (turn : Here → List Core → Out) (s : Here) (acc : List Core) (h : Bool) (k : Kind) → turn s acc ≡ No h k
    → ends k ≡ true → all_of turn s acc ≡ No true k
unfolding all_of many
breaks turn s acc h k e l = rw (e, l) refl

-- the parts of one member more
pub map-more : {A B : Type 0} (f : A → B) (xs : List A) (x : A) → map f (xs ++ x ∷ []) ≡ map f xs ++ f x ∷ []
map-more f [] x = refl
map-more f (y ∷ ys) x = ap (λ r. f y ∷ r) (map-more f ys x)
