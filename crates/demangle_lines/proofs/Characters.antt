-- The characters at the front of bytes, and what is left behind them.
use Rattle.std.proofs.Common.{◌≡◌, ℕ, suc, ◌<◌, List, [], ◌∷◌, length, Option, Some, None, sym, ◌∙◌, ap, subst, arith}
use Rattle.std.specs.Prelude.{encode_utf8}
use Rattle.demangle_printing.specs.State.{written}
use Rattle.demangle_printing.specs.Reader.{texts}
use Rattle.demangle_printing.specs.Texts.{characters, escaped, or_both}
use Rattle.demangle_meets.specs.Page.{Page}
use Rattle.demangle_meets.specs.Place.{Place}
use Rattle.demangle_meets.specs.Calls.{Steps}
use Rattle.demangle_meets.specs.Meets.{Meets, Remains}
use Rattle.demangle_meets.proofs.Lines.{meets_whole, remains_all, then_text}

-- ---- what was written
one_left : {p : Place} {a b : Page} (x : ℕ) → Steps a b (written (encode_utf8 x)) →
    Remains p a b (texts (characters (x ∷ []))) (texts (characters []))
one_left x d = then_text remains_all d

pub last_written : {p : Place} {a b : Page} (x : ℕ) (bytes rest : List ℕ) → bytes ≡ x ∷ rest → rest ≡ [] →
    Steps a b (written (encode_utf8 x)) → Remains p a b (texts (characters bytes)) (texts (characters rest))
last_written {p} {a} {b} x bytes rest e f d =
    subst (λ z. Remains p a b (texts (characters z)) (texts (characters rest))) (sym e)
    (subst (λ z. Remains p a b (texts (characters (x ∷ z))) (texts (characters z))) (sym f) (one_left x d))

-- two bytes and others, of which it is known whether they are an escape
both : (x y : ℕ) (bytes rest behind : List ℕ) → bytes ≡ x ∷ rest → rest ≡ y ∷ behind → (o : Option (List ℕ)) →
    o ≡ escaped x y →
    characters bytes ≡ or_both o (encode_utf8 x) (characters rest) (characters behind)
both x y bytes rest behind e f o g =
    ap characters e ∙ (ap (λ z. characters (x ∷ z)) f
    ∙ (ap (λ z. or_both z (encode_utf8 x) (characters (y ∷ behind)) (characters behind)) (sym g)
    ∙ ap (λ z. or_both o (encode_utf8 x) (characters z) (characters behind)) (sym f)))

pub escape_written : {p : Place} {a b : Page} (x y : ℕ) (bytes rest behind text : List ℕ) → bytes ≡ x ∷ rest →
    rest ≡ y ∷ behind → Some text ≡ escaped x y → Steps a b (written text) →
    Remains p a b (texts (characters bytes)) (texts (characters behind))
escape_written {p} {a} {b} x y bytes rest behind text e f g d =
    subst (λ z. Remains p a b (texts z) (texts (characters behind)))
    (sym (both x y bytes rest behind e f (Some text) g)) (then_text remains_all d)

pub byte_written : {p : Place} {a b : Page} (x y : ℕ) (bytes rest behind : List ℕ) → bytes ≡ x ∷ rest →
    rest ≡ y ∷ behind → None ≡ escaped x y → Steps a b (written (encode_utf8 x)) →
    Remains p a b (texts (characters bytes)) (texts (characters rest))
byte_written {p} {a} {b} x y bytes rest behind e f g d =
    subst (λ z. Remains p a b (texts z) (texts (characters rest)))
    (sym (both x y bytes rest behind e f None g)) (then_text remains_all d)

-- ---- what is left is shorter
less : (n : ℕ) → n < suc n
less n = omega arith

pub one_less : (x : ℕ) (bytes rest : List ℕ) → bytes ≡ x ∷ rest → length rest < length bytes
one_less x bytes rest e = subst (λ z. length rest < length z) (sym e) (less (length rest))

pub two_less : (x y : ℕ) (bytes rest behind : List ℕ) → bytes ≡ x ∷ rest → rest ≡ y ∷ behind →
    length behind < length bytes
two_less x y bytes rest behind e f =
    let a = one_less x bytes rest e in
    let b = one_less y rest behind f in
    omega (arith, a, b)

pub none_less : (bytes : List ℕ) → length bytes ≡ 0 → 0 < length bytes → length bytes < length bytes
none_less bytes e h = omega (arith, e, h)

-- ---- one character after the other
pub more_written : {p : Place} {a b c : Page} (bytes rest behind : List ℕ) →
    Remains p a b (texts (characters bytes)) (texts (characters rest)) →
    Remains p b c (texts (characters rest)) (texts (characters behind)) →
    Remains p a c (texts (characters bytes)) (texts (characters behind))
more_written bytes rest behind d e = record { rest = λ z q. d.rest z (e.rest z q) }

pub all_written : {p : Place} {a b : Page} (bytes rest : List ℕ) → rest ≡ [] →
    Remains p a b (texts (characters bytes)) (texts (characters rest)) → Meets p a b (texts (characters bytes))
all_written {p} {a} {b} bytes rest e d =
    meets_whole (subst (λ z. Remains p a b (texts (characters bytes)) (texts (characters z))) e d)
