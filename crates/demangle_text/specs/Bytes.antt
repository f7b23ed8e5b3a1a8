-- Classes of ASCII bytes, and how many of a class stand at the front.
use Rattle.std.specs.Prelude.{ℕ, suc, Bool, ◌&&◌, nat_le, List, [], ◌∷◌, if◌then◌else◌}

abbrev pub within : ℕ → ℕ → ℕ → Bool
within low high b = nat_le low b && nat_le b high

-- `0` to `9`
abbrev pub is_digit : ℕ → Bool
is_digit b = within 48 57 b

-- `A` to `Z`
abbrev pub is_capital : ℕ → Bool
is_capital b = within 65 90 b

-- `a` to `z`
abbrev pub is_small : ℕ → Bool
is_small b = within 97 122 b

-- how many bytes at the front are of a class
abbrev pub span : (ℕ → Bool) → List ℕ → ℕ
span f [] = 0
span f (b ∷ bs) = if f b then suc (span f bs) else 0
