-- Numbers of one or two decimal digits.
use Rattle.std.proofs.Common.{◌≡◌, refl, ℕ, ◌+◌, ◌-◌, ◌*◌, ◌^◌, ◌==◌, true, false, List, ◌∷◌, nat_le, nat_lt, arith}
use Rattle.demangle_text.specs.Bytes.{is_digit}
use Rattle.demangle_text.specs.Found.{took}
use Rattle.demangle_text.specs.Number.{natural_at}

pub one_digit : (a b : ℕ) (bs : List ℕ) → nat_le 48 a ≡ true → nat_le a 57 ≡ true → is_digit b ≡ false
    → natural_at 10 (a ∷ b ∷ bs) ≡ took 1 (a - 48)
one_digit a b bs l h k =
    let s : nat_lt a 65 ≡ true = grind (arith, h) in
    let m : nat_lt (a - 48) (2 ^ 63) ≡ true = grind (arith, h) in
    let e : 0 * 10 + (a - 48) ≡ a - 48 = omega arith in
    rw (l, h, k, s, e, m) refl

pub two_digits : (a b c : ℕ) (bs : List ℕ) → nat_le 49 a ≡ true → nat_le a 57 ≡ true → nat_le 48 b ≡ true
    → nat_le b 57 ≡ true → is_digit c ≡ false → natural_at 10 (a ∷ b ∷ c ∷ bs) ≡ took 2 ((a - 48) * 10 + (b - 48))
two_digits a b c bs l h m n k =
    let z : (a == 48) ≡ false = grind (arith, l) in
    let y : nat_le 48 a ≡ true = grind (arith, l) in
    let s : nat_lt a 65 ≡ true = grind (arith, h) in
    let t : nat_lt b 65 ≡ true = grind (arith, n) in
    let v : nat_lt ((a - 48) * 10 + (b - 48)) (2 ^ 63) ≡ true = grind (arith, h, n) in
    let e : 0 * 10 + (a - 48) ≡ a - 48 = omega arith in
    rw (y, h, m, n, k, z, s, t, e, v) refl

pub ruleset short_numbers = (one_digit, two_digits)
