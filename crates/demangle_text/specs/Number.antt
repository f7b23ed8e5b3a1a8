-- Numbers of the grammar (ABI sections 5.1.2, <number>, and 5.1.10, <seq-id>): in base 10 of `0` to `9`, in base 36 of
-- `0` to `9` and `A` to `Z`.
use Rattle.std.specs.Prelude.{ℕ, ℤ, pos, neg_ℤ, ◌+◌, ◌-◌, ◌*◌, ◌^◌, Bool, true, false, ◌&&◌, ◌||◌, ◌==◌, nat_lt, List}
use Rattle.std.specs.Prelude.{[], ◌∷◌, length, take, if◌then◌else◌, Result}
use Rattle.demangle_text.specs.Kind.{End, Text, Over, Kind}
use Rattle.demangle_text.specs.Spot.{Spot}
use Rattle.demangle_text.specs.Bytes.{is_digit, is_capital, span}
use Rattle.demangle_text.specs.Found.{Found, took, none, mapped, behind, and_rest}

abbrev pub is_digit_in : ℕ → ℕ → Bool
is_digit_in base b = is_digit b || ((base == 36) && is_capital b)

-- the longest run of digits at the front
abbrev pub run_of : ℕ → List ℕ → List ℕ
run_of base bs = take (span (is_digit_in base) bs) bs

abbrev pub digit_value : ℕ → ℕ
digit_value b = if nat_lt b 65 then b - 48 else b - 55

-- the value of digits that stand behind those of a value
abbrev pub value_of : ℕ → ℕ → List ℕ → ℕ
value_of base v [] = v
value_of base v (d ∷ ds) = value_of base (v * base + digit_value d) ds

-- more than one digit, of which the first is `0`
abbrev pub leads_with_zero : List ℕ → Bool
leads_with_zero (d ∷ e ∷ ds) = d == 48
leads_with_zero _ = false

-- the value of a run, which is at most 2 ^ 63 - 1
abbrev pub bounded : ℕ → List ℕ → Found ℕ
bounded base ds = if nat_lt (value_of base 0 ds) (2 ^ 63) then took (length ds) (value_of base 0 ds) else none Over

-- the number of a run of digits
abbrev pub natural_of : ℕ → List ℕ → Found ℕ
natural_of base [] = none Text
natural_of base ds = if leads_with_zero ds then none Text else bounded base ds

-- a number without a sign
abbrev pub natural_at : ℕ → List ℕ → Found ℕ
natural_at base [] = none End
natural_at base bs = natural_of base (run_of base bs)

abbrev pub negative : ℕ → ℤ
negative v = neg_ℤ (pos v)

-- a number with `n` before it where it is negative
abbrev pub signed_at : ℕ → List ℕ → Found ℤ
signed_at base [] = none End
signed_at base (b ∷ bs) =
    if b == 110 then behind 1 (mapped negative (natural_at base bs)) else mapped pos (natural_at base (b ∷ bs))

-- a number, with a sign where signs are allowed
abbrev pub number_at : ℕ → Bool → List ℕ → Found ℤ
number_at base true bs = signed_at base bs
number_at base false bs = mapped pos (natural_at base bs)

-- the number at a place, and the place behind it
unfoldable pub number_from : ℕ → Bool → Spot → Result (ℤ × Spot) Kind
number_from base signs p = and_rest (number_at base signs p.left) p

-- the same for a number without a sign
unfoldable pub natural_from : ℕ → Spot → Result (ℕ × Spot) Kind
natural_from base p = and_rest (natural_at base p.left) p
