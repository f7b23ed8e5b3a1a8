-- The run of an identifier, character by character.
use Rattle.std.proofs.Common.{◌≡◌, ℕ, zero, suc, ◌+◌, ◌<◌, ◌≤◌, Bool, true, false, nat_lt, List, [], ◌∷◌, length, drop, refl, sym, ap, ◌∙◌, subst, arith}
use Rattle.std.proofs.lemmas.Bool.{and_parts}
use Rattle.std.proofs.lemmas.List.{drop-drop}
use Rattle.demangle_text.specs.Bytes.{within}
use Rattle.demangle_text.specs.Characters.{sequences, fits_ranges, sequence_in, sequence_len, one_if, char_len_of, char_len, counted, run_past, identifier_len, is_identifier_byte}

-- a character lies in the bytes
fits_inside : (rs : List (ℕ × ℕ)) (bs : List ℕ) → fits_ranges rs bs ≡ true → length rs ≤ length bs
fits_inside [] bs e = omega arith
fits_inside (r ∷ rs) [] e = absurd (grind arith)
fits_inside (r ∷ rs) (b ∷ bs) e = omega (arith, fits_inside rs bs (and_parts (within r.0 r.1 b) (fits_ranges rs bs) e).1)

sequence_inside : (more : List (List (ℕ × ℕ))) (bs : List ℕ) → sequence_in more bs ≤ length bs
sequence_inside [] bs = omega arith
sequence_inside (rs ∷ more) bs = by (fits_ranges rs bs) refl (sequence_inside more bs)
  where
    by : (z : Bool) → fits_ranges rs bs ≡ z → sequence_in more bs ≤ length bs → sequence_in (rs ∷ more) bs ≤ length bs
    by true e h = rw e (fits_inside rs bs e)
    by false e h = rw e h

pub sequence_len_inside : (bs : List ℕ) → sequence_len bs ≤ length bs
unfolding sequence_len
sequence_len_inside bs = sequence_inside sequences bs

one_if_inside : (z : Bool) (b : ℕ) (bs : List ℕ) → one_if z ≤ length (b ∷ bs)
one_if_inside true b bs = omega arith
one_if_inside false b bs = omega arith

of_inside : (ascii : Bool) (b : ℕ) (bs : List ℕ) → char_len_of ascii b bs ≤ length (b ∷ bs)
of_inside true b bs = one_if_inside (is_identifier_byte b) b bs
of_inside false b bs = sequence_len_inside (b ∷ bs)

pub char_inside : (bs : List ℕ) → char_len bs ≤ length bs
char_inside [] = omega arith
char_inside (b ∷ bs) = of_inside (nat_lt b 128) b bs

-- behind a character that was seen the run goes on
pub run_past-drop : (n : ℕ) (bs : List ℕ) → n ≤ length bs → run_past n bs ≡ n + identifier_len (drop n bs)
run_past-drop zero bs h = grind arith
run_past-drop (suc n) [] h = absurd (omega (arith, h))
run_past-drop (suc n) (b ∷ bs) h = rw (run_past-drop n bs (omega (arith, h))) (grind arith)

pub run_ends : (bs : List ℕ) → char_len bs ≡ 0 → identifier_len bs ≡ 0
run_ends [] e = refl
run_ends (b ∷ bs) e = ap (λ n. counted n (λ k. run_past k bs)) e

pub run_goes_on : (bs : List ℕ) → 0 < char_len bs → identifier_len bs ≡ char_len bs + identifier_len (drop (char_len bs) bs)
run_goes_on [] h = absurd (omega (arith, h))
run_goes_on (b ∷ bs) h = by (char_len (b ∷ bs)) h (char_inside (b ∷ bs))
  where
    by : (n : ℕ) → 0 < n → n ≤ length (b ∷ bs) → counted n (λ k. run_past k bs) ≡ n + identifier_len (drop n (b ∷ bs))
    by zero h i = absurd (omega (arith, h))
    by (suc n) h i = rw (run_past-drop n bs (omega (arith, i))) (grind arith)

counted_inside : (n : ℕ) (f : ℕ → ℕ) (b : ℕ) (bs : List ℕ) → ((k : ℕ) → f k ≤ length bs) → counted n f ≤ length (b ∷ bs)
counted_inside zero f b bs h = omega arith
counted_inside (suc n) f b bs h = omega (arith, h n)

past_inside : (n : ℕ) (bs : List ℕ) → run_past n bs ≤ length bs
past_inside n [] = omega arith
past_inside zero (b ∷ bs) = counted_inside (char_len (b ∷ bs)) (λ k. run_past k bs) b bs (λ k. past_inside k bs)
past_inside (suc n) (b ∷ bs) = omega (arith, past_inside n bs)

pub run_inside : (bs : List ℕ) → identifier_len bs ≤ length bs
run_inside bs = past_inside 0 bs

-- from an index on
pub turn : (bs : List ℕ) (i n : ℕ) → identifier_len (drop i bs) ≡ n + identifier_len (drop n (drop i bs)) → identifier_len (drop i bs) ≡ n + identifier_len (drop (i + n) bs)
turn bs i n e = e ∙ ap (λ xs. n + identifier_len xs) (drop-drop n i bs)
