-- The last character of a text, and its last byte.
use Rattle.std.proofs.Common.{◌≡◌, ℕ, ◌+◌, ◌%◌, ◌<◌, ◌≤◌, ◌==◌, cond, Bool, true, false, List, [], ◌∷◌, ◌++◌}
use Rattle.std.proofs.Common.{length, Option, Some, None, refl, sym, ◌∙◌, ap, arith, eq-eqb}
use Rattle.std.proofs.Common.{zero, suc, ltb, ⊎_elim}
use Rattle.std.specs.Prelude.{IsSomeAnd, slice_get, ◌-◌}
use Rattle.std.proofs.lemmas.Bool.{ne_eqb, ltb-false, cases_eq}
use Rattle.std.proofs.lemmas.Str.{encode_ascii}
use lib.Utf8.{encode}
use Rattle.demangle_printing.specs.State.{last_of, is_byte}
use Rattle.demangle_context.specs.View.{last_byte}
use Rattle.demangle_meets.specs.Seen.{EndsIn, LastChar}

pub last_append : (d : Option ℕ) (xs ys : List ℕ) → last_of d (xs ++ ys) ≡ last_of (last_of d xs) ys
last_append d [] ys = refl
last_append d (x ∷ xs) ys = last_append (Some x) xs ys

-- the last byte of a character past ASCII
abbrev tail : ℕ → ℕ
tail c = 128 + c % 64

by_tests : (d : Option ℕ) (c : ℕ) (a b e : Bool) → ltb c 128 ≡ a → ltb c 2048 ≡ b → ltb c 65536 ≡ e →
    last_of d (encode c) ≡ Some (cond a c (tail c))
unfolding encode
by_tests d c true b e f g h = rw f refl
by_tests d c false true e f g h = rw (f, g) refl
by_tests d c false false true f g h = rw (f, g, h) refl
by_tests d c false false false f g h = rw (f, g, h) refl

-- a character has a last byte, whatever stands before it
pub last_encode : (d : Option ℕ) (c : ℕ) → last_of d (encode c) ≡ Some (cond (ltb c 128) c (tail c))
last_encode d c = by_tests d c (ltb c 128) (ltb c 2048) (ltb c 65536) refl refl refl

pub last_in_text : (old new : Option ℕ) (s : List ℕ) → LastChar s old new → last_byte new ≡ last_of (last_byte old) s
last_in_text old new [] e = ap last_byte e
last_in_text old new (b ∷ bs) p =
    let e : b ∷ bs ≡ p.2.front ++ encode p.0 = p.2.is in
    ap last_byte p.1
    ∙ (last_encode None p.0
    ∙ sym (ap (last_of (last_byte old)) e
    ∙ (last_append (last_byte old) p.2.front (encode p.0) ∙ last_encode (last_of (last_byte old) p.2.front) p.0)))

pub is_last_char : (s : List ℕ) (old new : Option ℕ) → 0 < length s → IsSomeAnd new (EndsIn s) → LastChar s old new
is_last_char [] old new h p = absurd (omega (arith, h))
is_last_char (b ∷ bs) old None h p = absurd p
is_last_char (b ∷ bs) old (Some c) h p = (c, refl, p)

pub has_bytes : (n : ℕ) → false ≡ (n == 0) → 0 < n
has_bytes zero e = absurd (let k : false ≡ true = e in cc)
has_bytes (suc n) e = omega arith

-- what stands before the last byte
before_last : (x : ℕ) (xs : List ℕ) (b : ℕ) → slice_get (x ∷ xs) (length xs) ≡ Some b →
    (f : List ℕ) × (x ∷ xs ≡ f ++ b ∷ [])
before_last x [] b h = let e : x ≡ b = cc in ([], ap (λ y. y ∷ []) e)
before_last x (y ∷ ys) b h = let p = before_last y ys b h in (x ∷ p.0, ap (λ l. x ∷ l) p.1)

-- a last byte of ASCII is the last character
pub ends_in_ascii : (s : List ℕ) (b : ℕ) → slice_get s (length s - 1) ≡ Some b → b < 128 → EndsIn s b
ends_in_ascii [] b h k = absurd (let e : slice_get {X = ℕ} [] 0 ≡ Some b = h in cc)
ends_in_ascii (x ∷ xs) b h k =
    let e : length (x ∷ xs) - 1 ≡ length xs = omega arith in
    let p = before_last x xs b (ap (λ n. slice_get (x ∷ xs) n) (sym e) ∙ h) in
    record { front = p.0; is = p.1 ∙ sym (ap (λ l. p.0 ++ l) (encode_ascii b k)) }

-- ---- one byte
same_byte : (b x : ℕ) → (x == b) ≡ (b == x)
same_byte b x = ⊎_elim (λ e. eq-eqb x b e ∙ sym (eq-eqb b x (sym e)))
    (λ n. ne_eqb x b n ∙ sym (ne_eqb b x (λ e. n (sym e)))) (cases_eq x b)

ascii_by : (b c : ℕ) (small : Bool) → ltb c 128 ≡ small → b < 128 → (c == b) ≡ (b == cond small c (tail c))
ascii_by b c true f h = same_byte b c
ascii_by b c false f h =
    let past : 128 ≤ c = ltb-false c 128 f in
    ne_eqb c b (λ e. let k = e in omega (arith, k, past, h))
    ∙ sym (ne_eqb b (128 + c % 64) (λ e. let k = e in omega (arith, k, h)))

-- the last byte is one of ASCII just where the last character is
pub ascii_last : (b c : ℕ) → b < 128 → (c == b) ≡ is_byte b (last_byte (Some c))
ascii_last b c h = ascii_by b c (ltb c 128) refl h ∙ ap (is_byte b) (sym (last_encode None c))
