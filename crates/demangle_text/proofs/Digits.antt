-- The value of a run of digits, digit by digit.
use Rattle.std.proofs.Common.{◌≡◌, ℕ, ◌+◌, ◌*◌, ◌≤◌, List, [], ◌∷◌, refl, arith, true, false}
use Rattle.demangle_text.specs.Number.{value_of, digit_value, run_of, is_digit_in}

pub value_of-grows : (base v : ℕ) (ds : List ℕ) → 1 ≤ base → v ≤ value_of base v ds
value_of-grows base v [] h = omega arith
value_of-grows base v (d ∷ ds) h =
    let e : v * base + digit_value d ≤ value_of base (v * base + digit_value d) ds = value_of-grows base (v * base + digit_value d) ds h in
    let k : v ≤ v * base = times v base h in
    omega arith
  where
    times : (a b : ℕ) → 1 ≤ b → a ≤ a * b
    times a b h = grind arith

pub run_of-digit : (base b : ℕ) (bs : List ℕ) → is_digit_in base b ≡ true → run_of base (b ∷ bs) ≡ b ∷ run_of base bs
run_of-digit base b bs e = rw e refl

pub run_of-other : (base b : ℕ) (bs : List ℕ) → is_digit_in base b ≡ false → run_of base (b ∷ bs) ≡ []
run_of-other base b bs e = rw e refl

pub ruleset digits = (value_of-grows, run_of-digit, run_of-other)
