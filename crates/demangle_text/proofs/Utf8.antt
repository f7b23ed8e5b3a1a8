-- The sequences of the table are the characters past U+007F: each is one character's, and each character's is one of them.
use Rattle.std.proofs.Common.{◌≡◌, ℕ, ◌+◌, ◌-◌, ◌*◌, ◌/◌, ◌%◌, ◌<◌, ◌≤◌, Bool, true, false, ◌&&◌, List, [], ◌∷◌, ◌++◌, length, take, refl, sym, ap, ◌∙◌, subst, inl, inr, arith, lt-ltb, le-ltb, lit≤, ◌⊎◌, if◌then◌else◌}
use Rattle.std.proofs.lemmas.Bool.{cond-true, cond-false, and_parts, cases_lt}
use Rattle.std.proofs.lemmas.Bool.Decides.{nat_tests}
use Rattle.std.specs.Char.{encode_utf8}
use lib.Utf8.{scalar, scalar_cases}
use Rattle.demangle_text.specs.Bytes.{within}
use Rattle.demangle_text.specs.Characters.{tail, sequences, fits_ranges, sequence_in, sequence_len}

-- ---- the bytes of a character
encode_two : (c : ℕ) → 0x80 ≤ c → c < 0x800 → encode_utf8 c ≡ (192 + c / 64) ∷ (128 + c % 64) ∷ []
unfolding encode_utf8
encode_two c low high = cond-false _ _ _ (le-ltb c 128 low) ∙ cond-true _ _ _ (lt-ltb c 2048 high)

encode_three : (c : ℕ) → 0x800 ≤ c → c < 0x1_0000 →
    encode_utf8 c ≡ (224 + c / 4096) ∷ (128 + (c / 64) % 64) ∷ (128 + c % 64) ∷ []
unfolding encode_utf8
encode_three c low high =
    cond-false _ _ _ (le-ltb c 128 (omega arith)) ∙ cond-false _ _ _ (le-ltb c 2048 low) ∙ cond-true _ _ _ (lt-ltb c 65536 high)

encode_four : (c : ℕ) → 0x1_0000 ≤ c →
    encode_utf8 c ≡ (240 + c / 262144) ∷ (128 + (c / 4096) % 64) ∷ (128 + (c / 64) % 64) ∷ (128 + c % 64) ∷ []
unfolding encode_utf8
encode_four c low =
    cond-false _ _ _ (le-ltb c 128 (omega arith)) ∙ cond-false _ _ _ (le-ltb c 2048 (omega arith)) ∙ cond-false _ _ _ (le-ltb c 65536 low)

-- ---- of a sequence: its character
-- the bytes are those of a character past U+007F
abbrev pub IsPastAscii : List ℕ → Type 0
IsPastAscii xs = (c : ℕ) × (0x80 ≤ c) × (scalar c ≡ true) × (encode_utf8 c ≡ xs)

-- a byte behind the first
abbrev Follows : ℕ → Type 0
Follows b = (0x80 ≤ b) × (b ≤ 0xBF)

of_two : (a b : ℕ) → 0xC2 ≤ a → a ≤ 0xDF → Follows b → IsPastAscii (a ∷ b ∷ [])
of_two a b low high f =
    let c = (a - 192) * 64 + (b - 128) in
    let first : 192 + c / 64 ≡ a = omega (arith, f.0, f.1) in
    let second : 128 + c % 64 ≡ b = omega (arith, f.0, f.1) in
    (c, omega (arith, f.0), grind (arith, nat_tests, f.0, f.1), encode_two c (omega (arith, f.0)) (omega (arith, f.1)) ∙ rw (first, second) refl)

of_three : (a b d : ℕ) → Follows b → Follows d → let c = ((a - 224) * 64 + (b - 128)) * 64 + (d - 128) in
    0xE0 ≤ a → a ≤ 0xEF → 0x800 ≤ c → scalar c ≡ true → IsPastAscii (a ∷ b ∷ d ∷ [])
of_three a b d f g low high over s =
    let c = ((a - 224) * 64 + (b - 128)) * 64 + (d - 128) in
    let first : 224 + c / 4096 ≡ a = omega (arith, f.0, f.1, g.0, g.1) in
    let second : 128 + (c / 64) % 64 ≡ b = omega (arith, f.0, f.1, g.0, g.1) in
    let third : 128 + c % 64 ≡ d = omega (arith, f.0, f.1, g.0, g.1) in
    (c, omega (arith, over), s, encode_three c over (omega (arith, f.1, g.1)) ∙ rw (first, second, third) refl)

of_four : (a b d x : ℕ) → Follows b → Follows d → Follows x → let c = (((a - 240) * 64 + (b - 128)) * 64 + (d - 128)) * 64 + (x - 128) in
    0xF0 ≤ a → a ≤ 0xF4 → 0x1_0000 ≤ c → scalar c ≡ true → IsPastAscii (a ∷ b ∷ d ∷ x ∷ [])
of_four a b d x f g k low high over s =
    let c = (((a - 240) * 64 + (b - 128)) * 64 + (d - 128)) * 64 + (x - 128) in
    let first : 240 + c / 262144 ≡ a = omega (arith, f.0, f.1, g.0, g.1, k.0, k.1) in
    let second : 128 + (c / 4096) % 64 ≡ b = omega (arith, f.0, f.1, g.0, g.1, k.0, k.1) in
    let third : 128 + (c / 64) % 64 ≡ d = omega (arith, f.0, f.1, g.0, g.1, k.0, k.1) in
    let fourth : 128 + c % 64 ≡ x = omega (arith, f.0, f.1, g.0, g.1, k.0, k.1) in
    (c, omega (arith, over), s, encode_four c over ∙ rw (first, second, third, fourth) refl)

-- a byte in the range, and the others in theirs
in_range : (low high b : ℕ) (z : Bool) → (within low high b && z) ≡ true → (low ≤ b) × (b ≤ high) × (z ≡ true)
in_range low high b z e = let p = and_parts (within low high b) z e in (grind (arith, nat_tests, p.0), grind (arith, nat_tests, p.0), p.1)

two_fit : (p q r s : ℕ) (bs : List ℕ) → fits_ranges ((p, q) ∷ (r, s) ∷ []) bs ≡ true →
    (a : ℕ) × (b : ℕ) × (take 2 bs ≡ a ∷ b ∷ []) × (p ≤ a) × (a ≤ q) × (r ≤ b) × (b ≤ s)
two_fit p q r s [] e = absurd (grind arith)
two_fit p q r s (a ∷ []) e = absurd (grind (arith, (in_range p q a _ e).2))
two_fit p q r s (a ∷ b ∷ bs) e = let h = in_range p q a _ e in let k = in_range r s b _ h.2 in (a, b, refl, h.0, h.1, k.0, k.1)

three_fit : (p q r s : ℕ) (bs : List ℕ) → fits_ranges ((p, q) ∷ (r, s) ∷ tail ∷ []) bs ≡ true →
    (a : ℕ) × (b : ℕ) × (d : ℕ) × (take 3 bs ≡ a ∷ b ∷ d ∷ []) × (p ≤ a) × (a ≤ q) × (r ≤ b) × (b ≤ s) × Follows d
three_fit p q r s [] e = absurd (grind arith)
three_fit p q r s (a ∷ bs) e =
    let h = in_range p q a _ e in let k = two_fit r s 0x80 0xBF bs h.2 in
    (a, k.0, k.1, ap (λ xs. a ∷ xs) k.2, h.0, h.1, k.3, k.4, (k.5, k.6))

four_fit : (p q r s : ℕ) (bs : List ℕ) → fits_ranges ((p, q) ∷ (r, s) ∷ tail ∷ tail ∷ []) bs ≡ true →
    (a : ℕ) × (b : ℕ) × (d : ℕ) × (x : ℕ) × (take 4 bs ≡ a ∷ b ∷ d ∷ x ∷ []) × (p ≤ a) × (a ≤ q) × (r ≤ b) × (b ≤ s) × Follows d × Follows x
four_fit p q r s [] e = absurd (grind arith)
four_fit p q r s (a ∷ bs) e =
    let h = in_range p q a _ e in let k = three_fit r s 0x80 0xBF bs h.2 in
    (a, k.0, k.1, k.2, ap (λ xs. a ∷ xs) k.3, h.0, h.1, k.4, k.5, (k.6, k.7), k.8)

three_of : (p q r s : ℕ) (bs : List ℕ) → 0xE0 ≤ p → q ≤ 0xEF → 0x80 ≤ r → s ≤ 0xBF
    → ((a b d : ℕ) → p ≤ a → a ≤ q → r ≤ b → b ≤ s → Follows d → let c = ((a - 224) * 64 + (b - 128)) * 64 + (d - 128) in (0x800 ≤ c) × (scalar c ≡ true))
    → fits_ranges ((p, q) ∷ (r, s) ∷ tail ∷ []) bs ≡ true → IsPastAscii (take 3 bs)
three_of p q r s bs low high under over is e =
    let h = three_fit p q r s bs e in
    let k = is h.0 h.1 h.2 h.4 h.5 h.6 h.7 h.8 in
    subst IsPastAscii (sym h.3) (of_three h.0 h.1 h.2 (omega (arith, h.6), omega (arith, h.7)) h.8 (omega (arith, h.4)) (omega (arith, h.5)) k.0 k.1)

four_of : (p q r s : ℕ) (bs : List ℕ) → 0xF0 ≤ p → q ≤ 0xF4 → 0x80 ≤ r → s ≤ 0xBF
    → ((a b d x : ℕ) → p ≤ a → a ≤ q → r ≤ b → b ≤ s → Follows d → Follows x
    → let c = (((a - 240) * 64 + (b - 128)) * 64 + (d - 128)) * 64 + (x - 128) in (0x1_0000 ≤ c) × (scalar c ≡ true))
    → fits_ranges ((p, q) ∷ (r, s) ∷ tail ∷ tail ∷ []) bs ≡ true → IsPastAscii (take 4 bs)
four_of p q r s bs low high under over is e =
    let h = four_fit p q r s bs e in
    let k = is h.0 h.1 h.2 h.3 h.5 h.6 h.7 h.8 h.9 h.10 in
    subst IsPastAscii (sym h.4) (of_four h.0 h.1 h.2 h.3 (omega (arith, h.7), omega (arith, h.8)) h.9 h.10 (omega (arith, h.5)) (omega (arith, h.6)) k.0 k.1)

-- what fits the ranges is a character past U+007F
abbrev IsOfChars : List (ℕ × ℕ) → Type 0
IsOfChars rs = (bs : List ℕ) → fits_ranges rs bs ≡ true → IsPastAscii (take (length rs) bs)

abbrev EachIsOfChars : List (List (ℕ × ℕ)) → Type 0
EachIsOfChars [] = Unit {0}
EachIsOfChars (rs ∷ more) = IsOfChars rs × EachIsOfChars more

row_two : IsOfChars ((0xC2, 0xDF) ∷ tail ∷ [])
row_two bs e = let h = two_fit 0xC2 0xDF 0x80 0xBF bs e in subst IsPastAscii (sym h.2) (of_two h.0 h.1 h.3 h.4 (h.5, h.6))

rows_are : EachIsOfChars sequences
rows_are = (
  row_two,
  (
    λ bs. three_of 0xE0 0xE0 0xA0 0xBF bs (lit≤ tt) (lit≤ tt) (lit≤ tt) (lit≤ tt) (λ a b d l h m n f. (omega (arith, f.0), grind (arith, nat_tests, f.0, f.1))),
    (
      λ bs. three_of 0xE1 0xEC 0x80 0xBF bs (lit≤ tt) (lit≤ tt) (lit≤ tt) (lit≤ tt) (λ a b d l h m n f. (omega (arith, f.0), grind (arith, nat_tests, f.0, f.1))),
      (
        λ bs. three_of 0xED 0xED 0x80 0x9F bs (lit≤ tt) (lit≤ tt) (lit≤ tt) (lit≤ tt) (λ a b d l h m n f. (omega (arith, f.0), grind (arith, nat_tests, f.0, f.1))),
        (
          λ bs. three_of 0xEE 0xEF 0x80 0xBF bs (lit≤ tt) (lit≤ tt) (lit≤ tt) (lit≤ tt) (λ a b d l h m n f. (omega (arith, f.0), grind (arith, nat_tests, f.0, f.1))),
          (
            λ bs. four_of 0xF0 0xF0 0x90 0xBF bs (lit≤ tt) (lit≤ tt) (lit≤ tt) (lit≤ tt) (λ a b d x l h m n f g. (omega (arith, f.0, g.0), grind (arith, nat_tests, f.0, f.1, g.0, g.1))),
            (
              λ bs. four_of 0xF1 0xF3 0x80 0xBF bs (lit≤ tt) (lit≤ tt) (lit≤ tt) (lit≤ tt) (λ a b d x l h m n f g. (omega (arith, f.0, g.0), grind (arith, nat_tests, f.0, f.1, g.0, g.1))),
              (
                λ bs. four_of 0xF4 0xF4 0x80 0x8F bs (lit≤ tt) (lit≤ tt) (lit≤ tt) (lit≤ tt) (λ a b d x l h m n f g. (omega (arith, f.0, g.0), grind (arith, nat_tests, f.0, f.1, g.0, g.1))),
                tt,
              ),
            ),
          ),
        ),
      ),
    ),
  ),
)

sequence_is : (more : List (List (ℕ × ℕ))) (bs : List ℕ) → EachIsOfChars more → 0 < sequence_in more bs → IsPastAscii (take (sequence_in more bs) bs)
sequence_is [] bs h some = absurd (omega (arith, some))
sequence_is (rs ∷ more) bs h some = by (fits_ranges rs bs) refl (sequence_is more bs h.1)
  where
    by : (z : Bool) → fits_ranges rs bs ≡ z → (0 < sequence_in more bs → IsPastAscii (take (sequence_in more bs) bs)) → IsPastAscii (take (sequence_in (rs ∷ more) bs) bs)
    by true e k = rw e (h.0 bs e)
    by false e k = rw e (k (subst (λ z. 0 < (if z then length rs else sequence_in more bs)) e some))

-- a sequence at the front is a character past U+007F
pub sequence_char : (bs : List ℕ) → 0 < sequence_len bs → IsPastAscii (take (sequence_len bs) bs)
unfolding sequence_len
sequence_char bs h = sequence_is sequences bs rows_are h

-- ---- of a character: its sequence
char_two : (a b : ℕ) (bs : List ℕ) → 0xC2 ≤ a → a ≤ 0xDF → Follows b → sequence_len (a ∷ b ∷ bs) ≡ 2
unfolding sequence_len
char_two a b bs low high f = grind (arith, nat_tests, f.0, f.1)

-- which seconds may stand behind a first byte
abbrev Second : ℕ → ℕ → Type 0
Second a b = (a ≡ 0xE0 → 0xA0 ≤ b) × (a ≡ 0xED → b ≤ 0x9F) × (a ≡ 0xF0 → 0x90 ≤ b) × (a ≡ 0xF4 → b ≤ 0x8F)

char_three : (a b d : ℕ) (bs : List ℕ) → 0xE0 ≤ a → a ≤ 0xEF → Follows b → Follows d → Second a b → sequence_len (a ∷ b ∷ d ∷ bs) ≡ 3
unfolding sequence_len
char_three a b d bs low high f g s = grind (arith, nat_tests, f.0, f.1, g.0, g.1, s.0, s.1)

char_four : (a b d x : ℕ) (bs : List ℕ) → 0xF0 ≤ a → a ≤ 0xF4 → Follows b → Follows d → Follows x → Second a b → sequence_len (a ∷ b ∷ d ∷ x ∷ bs) ≡ 4
unfolding sequence_len
char_four a b d x bs low high f g k s = grind (arith, nat_tests, f.0, f.1, g.0, g.1, k.0, k.1, s.2, s.3)

follows : (c : ℕ) → Follows (128 + c % 64)
follows c = (omega arith, omega arith)

-- what a character's number says
scalar_range : (c : ℕ) → scalar c ≡ true → (c < 0xD800) ⊎ ((0xE000 ≤ c) × (c < 0x11_0000))
scalar_range c e = scalar_cases c e

pub char_sequence : (c : ℕ) (bs : List ℕ) → 0x80 ≤ c → scalar c ≡ true → sequence_len (encode_utf8 c ++ bs) ≡ length (encode_utf8 c)
char_sequence c bs low s = elim (cases_lt c 0x800) [
  | inl two ↦ rw (encode_two c low two) (char_two (192 + c / 64) (128 + c % 64) bs (omega arith) (omega arith) (follows c))
  | inr from_three ↦ elim (cases_lt c 0x1_0000) [
    | inl three ↦ rw (encode_three c from_three three) (char_three (224 + c / 4096) (128 + (c / 64) % 64) (128 + c % 64) bs
        (omega arith) (omega arith) (follows (c / 64)) (follows c) (
          λ e. omega (arith, e),
          λ e. elim (scalar_range c s) [ inl h ↦ omega (arith, e, h) | inr h ↦ absurd (omega (arith, e, h.0)) ],
          λ e. absurd (omega (arith, e)),
          λ e. absurd (omega (arith, e)),
        ))
    | inr four ↦ let top : c < 0x11_0000 = elim (scalar_range c s) [ inl h ↦ omega (arith, h) | inr h ↦ h.1 ] in
        rw (encode_four c four) (char_four (240 + c / 262144) (128 + (c / 4096) % 64) (128 + (c / 64) % 64) (128 + c % 64) bs
        (omega arith) (omega (arith, top)) (follows (c / 4096)) (follows (c / 64)) (follows c)
        (λ e. absurd (omega (arith, e, top)), λ e. absurd (omega (arith, e, top)), λ e. omega (arith, e), λ e. omega (arith, e, top)))
  ]
]

-- ---- the first byte
other_low : (b : ℕ) (bs : List ℕ) → b < 0xC2 → sequence_len (b ∷ bs) ≡ 0
unfolding sequence_len
other_low b bs h = grind (arith, nat_tests)

other_high : (b : ℕ) (bs : List ℕ) → 0xF4 < b → sequence_len (b ∷ bs) ≡ 0
unfolding sequence_len
other_high b bs h = grind (arith, nat_tests)

pub sequence_begins : (b : ℕ) (bs : List ℕ) → 0 < sequence_len (b ∷ bs) → (0xC2 ≤ b) × (b ≤ 0xF4)
sequence_begins b bs h = elim (cases_lt b 0xC2) [
  | inl low ↦ absurd (omega (arith, h, other_low b bs low))
  | inr from ↦ elim (cases_lt 0xF4 b) [ inl high ↦ absurd (omega (arith, h, other_high b bs high)) | inr to ↦ (from, to) ]
]

pub no_sequence : sequence_len [] ≡ 0
unfolding sequence_len
no_sequence = refl
