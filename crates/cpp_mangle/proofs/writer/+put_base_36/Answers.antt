use Rattle.std.proofs.Common.{◌≡◌, ap, arith, ℕ, zero, suc, ◌≤◌, ◌++◌, ◌-◌, ◌/◌, ◌%◌, true, false, [], ◌∷◌, append_assoc}
use Rattle.std.specs.Prelude.{nat_lt}
use Rattle.std.specs.Fmt.{digit_glyph}
use Rattle.cpp_mangle.specs.Declarations.{base_36}
use Rattle.cpp_mangle.proofs.writer.+put_base_36.Goals as goal

not_less : (k n : ℕ) → n ≤ k → nat_lt k n ≡ false
not_less k n h = grind (arith, h)

digits_more : (more k : ℕ) → 1 ≤ more → 36 ≤ k
    → base_36 more k ≡ base_36 (more - 1) (k / 36) ++ digit_glyph true (k % 36) ∷ []
digits_more zero k m h = absurd (omega (arith, m))
digits_more (suc more) k m h =
    rw (not_less k 36 h) (ap (λ n. base_36 n (k / 36) ++ digit_glyph true (k % 36) ∷ []) (one more))
  where
    one : (n : ℕ) → n ≡ suc n - 1
    one n = omega arith

pub returns : goal.returns
returns t c =
    rw (digits_more c.args.more c.args.k (omega (arith, c.if-more-eq0.false)) c.if-k-lt36.false)
    (grind (arith, append_assoc, c.push-2.ensures.items, c.in_ok-put_base_36.ensures, c.digit-2.ensures))
