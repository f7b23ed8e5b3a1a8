-- The run of an identifier, part by part: ASCII characters, or one character past U+007F.
use Rattle.std.proofs.Common.{◌≡◌, ℕ, zero, suc, ◌+◌, ◌<◌, Bool, true, false, nat_lt, List, [], ◌∷◌, drop, refl, ap, ◌∙◌, subst, if◌then◌else◌, arith}
use Rattle.std.proofs.lemmas.Bool.Decides.{nat_tests}
use Rattle.demangle_text.specs.Bytes.{span}
use Rattle.demangle_text.specs.Characters.{is_identifier_byte, sequence_len, one_if, char_len_of, identifier_len, run_past, counted}
use Rattle.demangle_text.proofs.Runs.{run_ends, run_goes_on, sequence_len_inside}
use Rattle.demangle_text.proofs.Identifiers.{found_ascii, past_ascii}

-- ---- ASCII characters
is_ascii : (b : ℕ) → is_identifier_byte b ≡ true → b < 128
is_ascii b e = grind (arith, nat_tests, e)

pub by_ascii : (bs : List ℕ) → identifier_len bs ≡ span is_identifier_byte bs + identifier_len (drop (span is_identifier_byte bs) bs)
by_ascii [] = refl
by_ascii (b ∷ bs) = by (is_identifier_byte b) refl (by_ascii bs)
  where
    by : (z : Bool) → is_identifier_byte b ≡ z → identifier_len bs ≡ span is_identifier_byte bs + identifier_len (drop (span is_identifier_byte bs) bs) → identifier_len (b ∷ bs) ≡ span is_identifier_byte (b ∷ bs) + identifier_len (drop (span is_identifier_byte (b ∷ bs)) (b ∷ bs))
    by true e behind =
        let one : identifier_len (b ∷ bs) ≡ suc (identifier_len bs) = ap (λ n. counted n (λ k. run_past k bs)) (found_ascii b bs (is_ascii b e) e) in
        rw e (omega (arith, one, behind))
    by false e behind = rw e (omega arith)

-- ---- one character past U+007F
pub by_char : (bs : List ℕ) → identifier_len bs ≡ sequence_len bs + identifier_len (drop (sequence_len bs) bs)
by_char bs = by (sequence_len bs) refl
  where
    by : (n : ℕ) → sequence_len bs ≡ n → identifier_len bs ≡ sequence_len bs + identifier_len (drop (sequence_len bs) bs)
    by zero e = rw e (grind arith)
    by (suc n) e =
        let k = past_ascii bs (omega (arith, e)) in
        subst (λ m. identifier_len bs ≡ m + identifier_len (drop m bs)) k (run_goes_on bs (omega (arith, e, k)))

-- ---- neither
pub no_part : (bs : List ℕ) → span is_identifier_byte bs ≡ 0 → sequence_len bs ≡ 0 → identifier_len bs ≡ 0
no_part [] e h = refl
no_part (b ∷ bs) e h = run_ends (b ∷ bs) (none (nat_lt b 128))
  where
    is_none : (z : Bool) → is_identifier_byte b ≡ z → one_if (is_identifier_byte b) ≡ 0
    is_none true k = absurd (omega (arith, subst (λ n. n ≡ 0) (ap (λ z. if z then suc (span is_identifier_byte bs) else 0) k) e))
    is_none false k = ap one_if k

    none : (z : Bool) → char_len_of z b bs ≡ 0
    none true = is_none (is_identifier_byte b) refl
    none false = h

pub ruleset parts = (by_ascii, by_char, no_part, sequence_len_inside)
