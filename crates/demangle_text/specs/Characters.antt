-- Identifiers in UTF-8: of which characters they are, and how many bytes of such characters stand at the front.
-- A character is its number, a scalar value of Unicode.
use Rattle.std.specs.Prelude.{◌≡◌, ℕ, zero, suc, ◌+◌, ◌<◌, ◌≤◌, ◌↔◌, Bool, true, false, ◌&&◌, ◌||◌, ◌==◌, nat_lt, List}
use Rattle.std.specs.Prelude.{[], ◌∷◌, ◌++◌, length, take, if◌then◌else◌, IsUtf8, encode_utf8_all}
use Rattle.std.specs.List.{list_all}
use lib.Utf8.{scalar}
use Rattle.demangle_text.specs.Bytes.{within, is_digit, is_capital, is_small}

-- ---- the characters
-- an ASCII letter, a digit, `$`, `_` or `.`
abbrev pub is_identifier_byte : ℕ → Bool
is_identifier_byte b = is_digit b || (is_capital b || (is_small b || ((b == 36) || ((b == 95) || (b == 46)))))

-- one of these, or any character past U+007F: no surrogate, and none past U+10FFFF
abbrev pub is_identifier_char : ℕ → Bool
is_identifier_char c = if nat_lt c 128 then is_identifier_byte c else scalar c

-- the bytes are such characters in UTF-8, one after the other
abbrev pub AreIdentifierChars : List ℕ → Type 0
AreIdentifierChars bs = (cs : List ℕ) × (list_all is_identifier_char cs ≡ true) × (encode_utf8_all cs ≡ bs)

-- ---- the characters past U+007F, byte by byte
-- a byte behind the first
abbrev pub tail : ℕ × ℕ
tail = (0x80, 0xBF)

-- The least and the greatest of each byte (the Unicode Standard, table 3-7, Well-Formed UTF-8 Byte Sequences): so that
-- no form is overlong, a surrogate or past U+10FFFF.
abbrev pub sequences : List (List (ℕ × ℕ))
sequences =
    ((0xC2, 0xDF) ∷ tail ∷ [])
    ∷ ((0xE0, 0xE0) ∷ (0xA0, 0xBF) ∷ tail ∷ [])
    ∷ ((0xE1, 0xEC) ∷ tail ∷ tail ∷ [])
    ∷ ((0xED, 0xED) ∷ (0x80, 0x9F) ∷ tail ∷ [])
    ∷ ((0xEE, 0xEF) ∷ tail ∷ tail ∷ [])
    ∷ ((0xF0, 0xF0) ∷ (0x90, 0xBF) ∷ tail ∷ tail ∷ [])
    ∷ ((0xF1, 0xF3) ∷ tail ∷ tail ∷ tail ∷ [])
    ∷ ((0xF4, 0xF4) ∷ (0x80, 0x8F) ∷ tail ∷ tail ∷ [])
    ∷ []

abbrev pub fits_ranges : List (ℕ × ℕ) → List ℕ → Bool
fits_ranges [] bs = true
fits_ranges (r ∷ rs) [] = false
fits_ranges (r ∷ rs) (b ∷ bs) = within r.0 r.1 b && fits_ranges rs bs

abbrev pub sequence_in : List (List (ℕ × ℕ)) → List ℕ → ℕ
sequence_in [] bs = 0
sequence_in (rs ∷ more) bs = if fits_ranges rs bs then length rs else sequence_in more bs

-- how many bytes a character past U+007F takes at the front, and 0 where there is none
unfoldable pub sequence_len : List ℕ → ℕ
sequence_len bs = sequence_in sequences bs

-- ---- identifiers at the front
abbrev pub one_if : Bool → ℕ
one_if true = 1
one_if false = 0

abbrev pub char_len_of : (ascii : Bool) → ℕ → List ℕ → ℕ
char_len_of true b bs = one_if (is_identifier_byte b)
char_len_of false b bs = sequence_len (b ∷ bs)

-- how many bytes a character of an identifier takes at the front, and 0 where there is none
abbrev pub char_len : List ℕ → ℕ
char_len [] = 0
char_len (b ∷ bs) = char_len_of (nat_lt b 128) b bs

-- nothing, or a byte and what stands behind it
abbrev pub counted : ℕ → (ℕ → ℕ) → ℕ
counted zero behind = 0
counted (suc k) behind = suc (behind k)

-- how many bytes stand in a row, the first n of which are those of a character that was seen before
abbrev pub run_past : ℕ → List ℕ → ℕ
run_past n [] = 0
run_past zero (b ∷ bs) = counted (char_len (b ∷ bs)) (λ k. run_past k bs)
run_past (suc n) (b ∷ bs) = suc (run_past n bs)

-- how many bytes the longest run of characters of an identifier takes at the front
abbrev pub identifier_len : List ℕ → ℕ
identifier_len bs = run_past 0 bs

-- the bytes with which such a character begins
abbrev pub begins_char : ℕ → Bool
begins_char b = is_identifier_byte b || within 0xC2 0xF4 b

-- ---- what holds of a run
-- It lies in the bytes.
abbrev pub RunIsInside : Type 0
RunIsInside = (bs : List ℕ) → identifier_len bs ≤ length bs

-- It is characters of an identifier.
abbrev pub RunIsChars : Type 0
RunIsChars = (bs : List ℕ) → AreIdentifierChars (take (identifier_len bs) bs)

-- It goes on behind such characters: so none of them ends a longer one, and the run of a run is the whole.
abbrev pub RunIsLongest : Type 0
RunIsLongest = (xs bs : List ℕ) → AreIdentifierChars xs → identifier_len (xs ++ bs) ≡ length xs + identifier_len bs

-- Bytes are characters of an identifier just where their run is the whole.
abbrev pub RunIsWhole : Type 0
RunIsWhole = (bs : List ℕ) → AreIdentifierChars bs ↔ (identifier_len bs ≡ length bs)

-- It begins with a byte of `begins_char`.
abbrev pub RunBegins : Type 0
RunBegins = (b : ℕ) (bs : List ℕ) → 0 < identifier_len (b ∷ bs) → begins_char b ≡ true

-- Characters of an identifier are text: their bytes may be taken as a `str`.
abbrev pub CharsAreText : Type 0
CharsAreText = (bs : List ℕ) → AreIdentifierChars bs → IsUtf8 bs
