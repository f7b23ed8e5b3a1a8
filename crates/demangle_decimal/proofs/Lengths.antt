-- How many digits numbers have, and what stands before them.
use Rattle.std.proofs.Common.{◌≡◌, ℕ, ◌+◌, ◌/◌, ◌^◌, ◌<◌, ◌≤◌, true, false, ◌∷◌, length, ℤ, pos, negsuc}
use Rattle.std.proofs.Common.{refl, sym, ap, ◌∙◌, arith, length-append, int_le, unsigned_abs, true≢false}
use Rattle.std.proofs.lemmas.Fmt.{decimal_digit, decimal_step_wide, length-decimal-le_wide, IsAscii-decimal_wide}
use Rattle.std.proofs.lemmas.Str.Ascii.{IsAscii-cons}
use Rattle.std.specs.Fmt.{decimal, signed_decimal}
use Rattle.std.specs.Str.{IsAscii}
use lib.Dec.{leb-zero}

-- a number of 128 bits has no more than 39
pub at_most : (n : ℕ) → n < 2 ^ 128 → length (decimal n) ≤ 39
at_most n h = length-decimal-le_wide 39 n (omega arith) (omega arith) (omega arith)

pub one_digit : (n : ℕ) → n < 10 → length (decimal n) ≡ 1
one_digit n h = ap length (decimal_digit n h)

-- one more than its tenth
pub one_more : (n : ℕ) → 10 ≤ n → n < 2 ^ 128 → length (decimal n) ≡ length (decimal (n / 10)) + 1
one_more n many h = ap length (decimal_step_wide n many (omega arith)) ∙ length-append _ _

-- all of them are of ASCII
pub are_ascii : (n : ℕ) → n < 2 ^ 128 → IsAscii (decimal n)
are_ascii n h = IsAscii-decimal_wide n (omega arith)

-- a sign before them too
pub sign_is_ascii : (n : ℕ) → n < 2 ^ 128 → IsAscii (45 ∷ decimal n)
sign_is_ascii n h = IsAscii-cons 45 _ (omega arith) (are_ascii n h)

-- a number that isn't negative has no sign; a negative one has
pub no_sign : (z : ℤ) → int_le (pos 0) z ≡ true → decimal (unsigned_abs z) ≡ signed_decimal z
no_sign (pos n) e = refl
no_sign (negsuc n) e = absurd (cc e)

pub a_sign : (z : ℤ) → int_le (pos 0) z ≡ false → 45 ∷ decimal (unsigned_abs z) ≡ signed_decimal z
a_sign (pos n) e = absurd (true≢false (sym (leb-zero n) ∙ e))
a_sign (negsuc n) e = refl
