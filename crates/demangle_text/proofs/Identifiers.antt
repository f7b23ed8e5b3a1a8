-- What holds of the run of an identifier.
use Rattle.std.proofs.Common.{◌≡◌, ℕ, zero, suc, ◌+◌, ◌<◌, ◌≤◌, ◌↔◌, Bool, true, false, List, [], ◌∷◌, ◌++◌, length, take, drop, refl, sym, ap, ◌∙◌, subst, inl, inr, arith, append_assoc, append-nil, IsUtf8, lt-ltb, le-ltb, length-append, length-drop, if◌then◌else◌}
use Rattle.std.proofs.lemmas.Bool.Decides.{nat_tests}
use Rattle.std.proofs.lemmas.List.{take_all}
use Rattle.std.proofs.lemmas.Bool.{and_parts, and_from, cases_lt, or_left, or_right}
use Rattle.std.proofs.lemmas.Str.{encode_ascii, length-encode, len_utf8_bounds}
use Rattle.std.proofs.Math.Seq.{take-add, drop-append_seam}
use Rattle.std.specs.List.{list_all}
use Rattle.std.specs.Prelude.{encode_utf8_all}
use Rattle.std.specs.Char.{encode_utf8}
use lib.Utf8.{scalar, scalars, low_scalar}
use Rattle.demangle_text.specs.Bytes.{within}
use Rattle.demangle_text.specs.Characters.{is_identifier_byte, is_identifier_char, AreIdentifierChars, sequence_len, one_if, char_len_of, char_len, identifier_len, begins_char}
use Rattle.demangle_text.proofs.Runs.{char_inside, run_ends, run_goes_on}
use Rattle.demangle_text.proofs.Utf8.{sequence_char, char_sequence, sequence_begins, no_sequence}

-- ---- text
char_scalar : (c : ℕ) → is_identifier_char c ≡ true → scalar c ≡ true
char_scalar c e = elim (cases_lt c 128) [
  | inl small ↦ low_scalar c (omega (arith, small))
  | inr big ↦ sym (ap (λ z. if z then is_identifier_byte c else scalar c) (le-ltb c 128 big)) ∙ e
]

all_scalars : (cs : List ℕ) → list_all is_identifier_char cs ≡ true → scalars cs ≡ true
all_scalars [] e = refl
all_scalars (c ∷ cs) e =
    let p = and_parts (is_identifier_char c) (list_all is_identifier_char cs) e in
    and_from (scalar c) (scalars cs) (char_scalar c p.0) (all_scalars cs p.1)

pub chars_are_text : (bs : List ℕ) → AreIdentifierChars bs → IsUtf8 bs
chars_are_text bs h = (h.0, (all_scalars h.0 h.1, h.2))

-- ---- one character
-- the bytes are one character of an identifier
abbrev IsChar : List ℕ → Type 0
IsChar xs = (c : ℕ) × (is_identifier_char c ≡ true) × (encode_utf8 c ≡ xs)

of_ascii : (b : ℕ) (bs : List ℕ) → b < 128 → (z : Bool) → is_identifier_byte b ≡ z → 0 < one_if z → IsChar (take (one_if z) (b ∷ bs))
of_ascii b bs small true e h = (b, ap (λ z. if z then is_identifier_byte b else scalar b) (lt-ltb b 128 small) ∙ e, encode_ascii b small)
of_ascii b bs small false e h = absurd (omega (arith, h))

of_sequence : (b : ℕ) (bs : List ℕ) → 0 < sequence_len (b ∷ bs) → IsChar (take (sequence_len (b ∷ bs)) (b ∷ bs))
of_sequence b bs h =
    let p = sequence_char (b ∷ bs) h in
    (p.0, ap (λ z. if z then is_identifier_byte p.0 else scalar p.0) (le-ltb p.0 128 p.1) ∙ p.2, p.3)

is_char : (bs : List ℕ) → 0 < char_len bs → IsChar (take (char_len bs) bs)
is_char [] h = absurd (omega (arith, h))
is_char (b ∷ bs) h = elim (cases_lt b 128) [
  | inl small ↦ let e = lt-ltb b 128 small in
      rw e (of_ascii b bs small (is_identifier_byte b) refl (subst (λ z. 0 < char_len_of z b bs) e h))
  | inr big ↦ let e = le-ltb b 128 big in
      rw e (of_sequence b bs (subst (λ z. 0 < char_len_of z b bs) e h))
]

-- a character's bytes at the front are found
pub found_ascii : (c : ℕ) (bs : List ℕ) → c < 128 → is_identifier_byte c ≡ true → char_len (c ∷ bs) ≡ 1
found_ascii c bs small e = ap (λ z. char_len_of z c bs) (lt-ltb c 128 small) ∙ ap one_if e

-- the first byte of a character past U+007F is none below 128
pub past_ascii : (xs : List ℕ) → 0 < sequence_len xs → char_len xs ≡ sequence_len xs
past_ascii [] h = absurd (omega (arith, h, no_sequence))
past_ascii (b ∷ bs) h = ap (λ z. char_len_of z b bs) (le-ltb b 128 (omega (arith, (sequence_begins b bs h).0)))

char_found : (c : ℕ) (bs : List ℕ) → is_identifier_char c ≡ true → char_len (encode_utf8 c ++ bs) ≡ length (encode_utf8 c)
char_found c bs e = elim (cases_lt c 128) [
  | inl small ↦ rw (encode_ascii c small) (found_ascii c bs small (sym (ap (λ z. if z then is_identifier_byte c else scalar c) (lt-ltb c 128 small)) ∙ e))
  | inr big ↦ let k = char_sequence c bs big (char_scalar c e) in
      past_ascii (encode_utf8 c ++ bs) (omega (arith, k, length-encode c, len_utf8_bounds c)) ∙ k
]

-- ---- the run
-- one character, and others behind it
one_more : (xs ys : List ℕ) → IsChar xs → AreIdentifierChars ys → AreIdentifierChars (xs ++ ys)
one_more xs ys x y = (
  x.0 ∷ y.0,
  and_from (is_identifier_char x.0) (list_all is_identifier_char y.0) x.1 y.1,
  ap (λ zs. zs ++ encode_utf8_all y.0) x.2 ∙ ap (λ zs. xs ++ zs) y.2,
)

run_ended : (bs : List ℕ) → char_len bs ≡ 0 → AreIdentifierChars (take (identifier_len bs) bs)
run_ended bs e = subst (λ m. AreIdentifierChars (take m bs)) (sym (run_ends bs e)) ([], refl, refl)

run_chars : (k : ℕ) (bs : List ℕ) → length bs ≤ k → AreIdentifierChars (take (identifier_len bs) bs)
run_chars zero bs h = run_ended bs (omega (arith, h, char_inside bs))
run_chars (suc k) bs h = elim (cases_lt 0 (char_len bs)) [
  | inl some ↦
      let n = char_len bs in
      let rest = run_chars k (drop n bs) (omega (arith, h, length-drop n bs, char_inside bs)) in
      subst (λ m. AreIdentifierChars (take m bs)) (sym (run_goes_on bs some))
      (subst AreIdentifierChars (sym (take-add n (identifier_len (drop n bs)) bs)) (one_more (take n bs) _ (is_char bs some) rest))
  | inr none ↦ run_ended bs (omega (arith, none))
]

pub run_is_chars : (bs : List ℕ) → AreIdentifierChars (take (identifier_len bs) bs)
run_is_chars bs = run_chars (length bs) bs (omega arith)

longest : (cs bs : List ℕ) → list_all is_identifier_char cs ≡ true → identifier_len (encode_utf8_all cs ++ bs) ≡ length (encode_utf8_all cs) + identifier_len bs
longest [] bs e = grind arith
longest (c ∷ cs) bs e =
    let p = and_parts (is_identifier_char c) (list_all is_identifier_char cs) e in
    let more = encode_utf8_all cs ++ bs in
    let found = char_found c more p.0 in
    let some : 0 < char_len (encode_utf8 c ++ more) = omega (arith, found, length-encode c, len_utf8_bounds c) in
    let step : identifier_len (encode_utf8 c ++ more) ≡ length (encode_utf8 c) + identifier_len more =
    run_goes_on (encode_utf8 c ++ more) some ∙ ap (λ n. n + identifier_len (drop n (encode_utf8 c ++ more))) found
    ∙ ap (λ xs. length (encode_utf8 c) + identifier_len xs) (drop-append_seam (encode_utf8 c) more) in
    ap identifier_len (append_assoc (encode_utf8 c) (encode_utf8_all cs) bs) ∙ omega (arith, step, longest cs bs p.1, length-append (encode_utf8 c) (encode_utf8_all cs))

pub run_is_longest : (xs bs : List ℕ) → AreIdentifierChars xs → identifier_len (xs ++ bs) ≡ length xs + identifier_len bs
run_is_longest xs bs h = subst (λ ys. identifier_len (ys ++ bs) ≡ length ys + identifier_len bs) h.2 (longest h.0 bs h.1)

pub run_is_whole : (bs : List ℕ) → AreIdentifierChars bs ↔ (identifier_len bs ≡ length bs)
run_is_whole bs = (whole, chars)
  where
    whole : AreIdentifierChars bs → identifier_len bs ≡ length bs
    whole h = ap identifier_len (sym (append-nil bs)) ∙ run_is_longest bs [] h ∙ omega arith

    chars : identifier_len bs ≡ length bs → AreIdentifierChars bs
    chars e = subst AreIdentifierChars (ap (λ n. take n bs) e ∙ take_all (length bs) bs (omega arith)) (run_is_chars bs)

pub run_begins : (b : ℕ) (bs : List ℕ) → 0 < identifier_len (b ∷ bs) → begins_char b ≡ true
run_begins b bs h = elim (cases_lt 0 (char_len (b ∷ bs))) [
  | inl some ↦ elim (cases_lt b 128) [
    | inl small ↦ ascii (is_identifier_byte b) refl (subst (λ z. 0 < char_len_of z b bs) (lt-ltb b 128 small) some)
    | inr big ↦ let p = sequence_begins b bs (subst (λ z. 0 < char_len_of z b bs) (le-ltb b 128 big) some) in
        or_right (is_identifier_byte b) (within 0xC2 0xF4 b) (grind (arith, nat_tests, p.0, p.1))
  ]
  | inr none ↦ absurd (omega (arith, h, run_ends (b ∷ bs) (omega (arith, none))))
]
  where
    ascii : (z : Bool) → is_identifier_byte b ≡ z → 0 < one_if z → begins_char b ≡ true
    ascii true e h = or_left (is_identifier_byte b) (within 0xC2 0xF4 b) e
    ascii false e h = absurd (omega (arith, h))
