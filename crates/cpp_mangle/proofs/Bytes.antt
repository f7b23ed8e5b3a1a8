-- The format's bytes: numbers, source names, references, words.
use Rattle.std.specs.List.{list_all}
use Rattle.std.specs.Fmt.{decimal, digits}
use Rattle.std.specs.Prelude.{◌≤◌, ◌<◌, ◌^◌, ◌&&◌, ◌||◌, ◌==◌, not, nat_lt, nat_le, drop, take, codes, Ok, Err}
use Rattle.std.proofs.Common.{◌≡◌, refl, sym, ap, subst, ◌∙◌, arith, ℕ, zero, suc, ◌+◌, Bool, true, false, List, [], ◌∷◌, ◌++◌, length, length-append, append_assoc}
use Rattle.std.specs.List.{All}
use Rattle.std.specs.Str.{IsUtf8}
use Rattle.std.proofs.lemmas.List.Elements.{All-cons}
use Rattle.std.proofs.lemmas.Str.{IsUtf8-from_ascii}
use Rattle.std.proofs.lemmas.Str.Ascii.{IsAscii-from_all}
use Rattle.std.proofs.lemmas.Bool.{eqb-true, leb-true, ltb-true}
use Rattle.std.proofs.Math.Seq.{drop-append_seam, take-append_seam}
use Rattle.demangle_text.specs.Bytes.{is_digit, is_capital, is_small, span, within}
use Rattle.demangle_text.specs.Found.{took}
use Rattle.demangle_text.specs.Number.{natural_at, natural_of, run_of, is_digit_in, value_of, leads_with_zero, natural_from}
use Rattle.demangle_text.specs.Characters.{identifier_len, is_identifier_byte}
use Rattle.demangle_text.specs.Word.{starts}
use Rattle.demangle_grammar.specs.Rule.{Class, Row}
use Rattle.demangle_grammar.specs.Reading.{next_is}
use Rattle.demangle_grammar.proofs.Truth.{both_true}
use Rattle.cpp_mangle.specs.Declarations.{Ident, is_name_byte, begins_with_digit, is_ident, seq_id, source_name, source_names, Path}
use Rattle.cpp_mangle.specs.Declarations as format
use Rattle.cpp_mangle.proofs.Rows.{spot}
use Rattle.cpp_mangle.proofs.Marks.{first_reference_read, reference_read}
use Rattle.demangle_core.specs.Core.{N}
use Rattle.demangle_vocab.specs.WordTable.{table_from, word_read, no_word}
use Rattle.demangle_vocab.specs.Components.{component_words}
use Rattle.demangle_text.specs.Kind.{Unread}
use Rattle.demangle_grammar.specs.Code.{here, Found, cread}
use Rattle.demangle_grammar.specs.Tree.{reference}
use Rattle.std.proofs.lemmas.List.{drop-drop}
use Rattle.cpp_mangle.proofs.Prefixes.{below_true}
use Rattle.cpp_mangle.proofs.Types.{IsSource, Sources, IsReference}

-- ---- numbers: that these digits are a number's is checked by computation, for each that is small enough
abbrev none_of : List ℕ → Bool
none_of [] = true
none_of (x ∷ xs) = false

abbrev spells : (base n : ℕ) → List ℕ → Bool
spells base n ds = not (none_of ds) && (list_all (is_digit_in base) ds && (not (leads_with_zero ds) && (value_of base 0 ds == n)))

span_all : (f : ℕ → Bool) (xs : List ℕ) (b : ℕ) (rest : List ℕ) → list_all f xs ≡ true → f b ≡ false → span f (xs ++ b ∷ rest) ≡ length xs
span_all f [] b rest h e = rw e refl
span_all f (x ∷ xs) b rest h e =
    let g = both_true (f x) (list_all f xs) h in
    rw g.0 (ap suc (span_all f xs b rest g.1 e))

not_true : (z : Bool) → not z ≡ true → z ≡ false
not_true true h = absurd (cc)
not_true false h = refl

number_is : (base n : ℕ) (ds : List ℕ) → spells base n ds ≡ true → nat_lt n (2 ^ 63) ≡ true → natural_of base ds ≡ took (length ds) n
number_is base n [] s l = absurd (cc)
number_is base n (d ∷ ds) s l =
    let a = both_true (list_all (is_digit_in base) (d ∷ ds)) _ s in
    let b = both_true (not (leads_with_zero (d ∷ ds))) (value_of base 0 (d ∷ ds) == n) a.1 in
    rw (not_true (leads_with_zero (d ∷ ds)) b.0, eqb-true (value_of base 0 (d ∷ ds)) n b.1, l) refl

natural_is : (base : ℕ) (bs : List ℕ) (d : ℕ) (ds : List ℕ) → bs ≡ d ∷ ds → natural_at base bs ≡ natural_of base (run_of base bs)
natural_is base bs d ds e = rw e refl

number_read : (base n : ℕ) (ds : List ℕ) (b : ℕ) (rest : List ℕ) → spells base n ds ≡ true → is_digit_in base b ≡ false → nat_lt n (2 ^ 63) ≡ true → natural_at base (ds ++ b ∷ rest) ≡ took (length ds) n
number_read base n [] b rest s e l = absurd (cc)
number_read base n (d ∷ ds) b rest s e l =
    let a = both_true (list_all (is_digit_in base) (d ∷ ds)) _ s in
    ap (λ k. natural_of base (take k ((d ∷ ds) ++ b ∷ rest))) (span_all (is_digit_in base) (d ∷ ds) b rest a.0 e)
    ∙ ap (natural_of base) (take-append_seam (d ∷ ds) (b ∷ rest))
    ∙ number_is base n (d ∷ ds) s l

decimal_spells : (n : ℕ) → n < 256 → spells 10 n (decimal n) ≡ true
unfolding digits
decimal_spells n l = below_true 256 (λ n. spells 10 n (decimal n)) refl n l

seq_spells : (k : ℕ) → k < 2200 → spells 36 k (seq_id (suc k)) ≡ true
seq_spells k l = below_true 2200 (λ k. spells 36 k (seq_id (suc k))) refl k l

first_digit : (n : ℕ) (ds rest : List ℕ) → spells 10 n ds ≡ true → next_is Class.digits (ds ++ rest) ≡ true
first_digit n [] rest s = absurd (cc)
first_digit n (d ∷ ds) rest s =
    let a = both_true (list_all (is_digit_in 10) (d ∷ ds)) (not (leads_with_zero (d ∷ ds)) && (value_of 10 0 (d ∷ ds) == n)) s in
    let b = both_true (is_digit_in 10 d) (list_all (is_digit_in 10) ds) a.0 in
    plainly (is_digit d) b.0
  where
    plainly : (z : Bool) → (z || false) ≡ true → z ≡ true
    plainly true h = refl
    plainly false h = absurd (cc)

-- ---- identifiers
byte_is : (b : ℕ) → is_name_byte b ≡ true → (nat_lt b 128 ≡ true) × (is_identifier_byte b ≡ true)
byte_is b h = by (is_digit b) refl (is_capital b) refl (is_small b) refl (b == 95) refl h
  where
    within_is : (low high : ℕ) → within low high b ≡ true → high < 128 → nat_lt b 128 ≡ true
    within_is low high e l =
        let x = both_true (nat_le low b) (nat_le b high) e in
        let y = leb-true b high x.1 in
        grind (arith, y, l)

    by : (w : Bool) → is_digit b ≡ w → (x : Bool) → is_capital b ≡ x → (y : Bool) → is_small b ≡ y → (z : Bool) → (b == 95) ≡ z → (w || (x || (y || z))) ≡ true
        → (nat_lt b 128 ≡ true) × ((w || (x || (y || ((b == 36) || (z || (b == 46)))))) ≡ true)
    by true e x f y g z k h = (within_is 48 57 e (omega arith), refl)
    by false e true f y g z k h = (within_is 65 90 f (omega arith), refl)
    by false e false f true g z k h = (within_is 97 122 g (omega arith), refl)
    by false e false f false g true k h = (grind (arith, eqb-true b 95 k), any (b == 36))
      where
        any : (a : Bool) → (a || true) ≡ true
        any true = refl
        any false = refl
    by false e false f false g false k h = absurd (cc)

pub identifier_is : (p : Ident) → list_all is_name_byte p ≡ true → identifier_len p ≡ length p
identifier_is [] h = refl
identifier_is (b ∷ p) h =
    let g = both_true (is_name_byte b) (list_all is_name_byte p) h in
    let x = byte_is b g.0 in
    rw (x.0, x.1) (ap suc (identifier_is p g.1))

-- ---- a source name, behind which anything stands
pub ident_parts : (p : Ident) → is_ident p ≡ true → (1 ≤ length p) × (length p ≤ 255) × (list_all is_name_byte p ≡ true) × (begins_with_digit p ≡ false) × (starts (codes "_GLOBAL_") p ≡ false)
ident_parts p h =
    let a = both_true (nat_le 1 (length p)) _ h in
    let b = both_true (nat_le (length p) 255) _ a.1 in
    let c = both_true (list_all is_name_byte p) _ b.1 in
    let d = both_true (not (begins_with_digit p)) (not (starts (codes "_GLOBAL_") p)) c.1 in
    (leb-true 1 (length p) a.0, leb-true (length p) 255 b.0, c.0, not_true (begins_with_digit p) d.0, not_true (starts (codes "_GLOBAL_") p) d.1)

small : (n : ℕ) → n ≤ 255 → nat_lt n 9223372036854775808 ≡ true
small n h = grind (arith, h)

long_enough : (p rest : List ℕ) → nat_lt (suc (length (p ++ rest))) (suc (length p)) ≡ false
long_enough p rest = grind (arith, length-append p rest)

pub source_is : (p : Ident) (rest : List ℕ) → is_ident p ≡ true → IsSource (source_name p ++ rest) p rest
source_is [] rest h = absurd (omega (arith, (ident_parts [] h).0))
source_is (b ∷ p) rest h =
    let g = ident_parts (b ∷ p) h in
    let ds = decimal (length (b ∷ p)) in
    let s = decimal_spells (length (b ∷ p)) (omega (arith, g.1)) in
    let e : (ds ++ (b ∷ p)) ++ rest ≡ ds ++ ((b ∷ p) ++ rest) = append_assoc ds (b ∷ p) rest in
    let d : drop (length ds) ((ds ++ (b ∷ p)) ++ rest) ≡ (b ∷ p) ++ rest = ap (drop (length ds)) e ∙ drop-append_seam ds ((b ∷ p) ++ rest) in
    record {
      digits = length ds;
      more = length p;
      stands = record {
        number = ap (natural_at 10) e ∙ number_read 10 (length (b ∷ p)) ds b (p ++ rest) s (no_digit b g.3) (small (length (b ∷ p)) g.1);
        digit = ap (next_is Class.digits) e ∙ first_digit (length (b ∷ p)) ds ((b ∷ p) ++ rest) s;
        long = ap (λ z. nat_lt (length z) (suc (length p))) d ∙ long_enough p rest;
        identifier = ap (λ z. identifier_len (take (suc (length p)) z)) d ∙ ap identifier_len (take-append_seam (b ∷ p) rest) ∙ identifier_is (b ∷ p) g.2;
      };
      name = ap (take (suc (length p))) d ∙ take-append_seam (b ∷ p) rest;
      behind = ap (drop (suc (length p))) d ∙ drop-append_seam (b ∷ p) rest;
    }
  where
    no_digit : (b : ℕ) → is_digit b ≡ false → is_digit_in 10 b ≡ false
    no_digit b e = rw e refl

pub sources_are : (input : List ℕ) (ps : Path) (rest : List ℕ) → list_all is_ident ps ≡ true → Sources input (source_names ps ++ rest) ps rest
sources_are input [] rest h = refl
sources_are input (p ∷ ps) rest h =
    let g = both_true (is_ident p) (list_all is_ident ps) h in
    (source_names ps ++ rest, subst (λ z. IsSource z p (source_names ps ++ rest)) (sym (append_assoc (source_name p) (source_names ps) rest)) (source_is p (source_names ps ++ rest) g.0), sources_are input ps rest g.1)

-- ---- references
below_small : (x d : ℕ) → d < 97 → 97 ≤ x → (x == d) ≡ false
below_small x d l m = grind (arith, l, m)

no_component : (i d : ℕ) (xs : List ℕ) → d < 97 → table_from component_words (spot i (83 ∷ d ∷ xs)) ≡ Err (Unread (no_word component_words (83 ∷ d ∷ xs)))
unfolding table_from word_read
no_component i d xs l =
    rw (below_small 116 d l (omega arith), below_small 97 d l (omega arith), below_small 98 d l (omega arith), below_small 115 d l (omega arith), below_small 105 d l (omega arith), below_small 111 d l (omega arith), below_small 100 d l (omega arith)) refl

digit_below : (d : ℕ) → is_digit_in 36 d ≡ true → d < 97
digit_below d h = by (is_digit d) refl h
  where
    below : (low high : ℕ) → within low high d ≡ true → high < 97 → d < 97
    below low high e l = let y = leb-true d high (both_true (nat_le low d) (nat_le d high) e).1 in omega (arith, y, l)

    by : (z : Bool) → is_digit d ≡ z → (z || (true && is_capital d)) ≡ true → d < 97
    by true e h = below 48 57 e (omega arith)
    by false e h = below 65 90 h (omega arith)

first_below : (ds : List ℕ) (k : ℕ) → spells 36 k ds ≡ true → (d : ℕ) × (more : List ℕ) × (ds ≡ d ∷ more) × (d < 97)
first_below [] k s = absurd (cc)
first_below (d ∷ ds) k s =
    let a = both_true (list_all (is_digit_in 36) (d ∷ ds)) (not (leads_with_zero (d ∷ ds)) && (value_of 36 0 (d ∷ ds) == k)) s in
    let b = both_true (is_digit_in 36 d) (list_all (is_digit_in 36) ds) a.0 in
    (d, ds, refl, digit_below d b.0)

seq_from : (i k : ℕ) (ds rest : List ℕ) → spells 36 k ds ≡ true → nat_lt k 9223372036854775808 ≡ true → natural_from 36 (spot (i + 1) (ds ++ 95 ∷ rest)) ≡ Ok (k, spot ((i + 1) + length ds) (95 ∷ rest))
unfolding natural_from
seq_from i k ds rest s l = rw (number_read 36 k ds 95 rest s refl l, drop-append_seam ds (95 ∷ rest)) refl

small_seq : (n : ℕ) → n < 2200 → nat_lt n 9223372036854775808 ≡ true
small_seq n h = grind (arith, h)

pub reference_is : (input : List ℕ) (k : ℕ) (rest : List ℕ) → k < 2200 → IsReference input (format.reference k ++ rest) k rest
reference_is input zero rest l = record {
  second = 95;
  more = rest;
  bytes = refl;
  no_std = refl;
  long = 2;
  behind = refl;
  is = λ f i e h. first_reference_read f false i rest e h ∙ ap (λ j. Found (reference N 0) (here (spot j rest) e)) (two i);
}
  where
    two : (i : ℕ) → (i + 1) + 1 ≡ i + 2
    two i = omega arith
reference_is input (suc k) rest l =
    let ds = seq_id (suc k) in
    let s = seq_spells k (omega (arith, l)) in
    let b = first_below ds k s in
    let e : format.reference (suc k) ++ rest ≡ 83 ∷ (ds ++ 95 ∷ rest) = ap (λ z. 83 ∷ z) (append_assoc ds (95 ∷ []) rest) in
    let c : format.reference (suc k) ++ rest ≡ 83 ∷ b.0 ∷ (b.1 ++ 95 ∷ rest) = e ∙ ap (λ z. 83 ∷ (z ++ 95 ∷ rest)) b.2 in
    record {
      second = b.0;
      more = b.1 ++ 95 ∷ rest;
      bytes = c;
      no_std = below_small 116 b.0 b.3 (omega arith);
      long = suc (length ds) + 1;
      behind = sym (drop-drop 1 (suc (length ds)) (format.reference (suc k) ++ rest)) ∙ ap (λ z. drop 1 (drop (suc (length ds)) z)) e ∙ ap (drop 1) (drop-append_seam ds (95 ∷ rest));
      is = λ f i t h. subst (λ z. cread (suc (suc f)) Row.substitution false (here (spot i z) t) [] ≡ Found (reference N (suc k)) (here (spot (i + (suc (length ds) + 1)) rest) t)) (sym e)
          (reference_read f false i k ((i + 1) + length ds) (ds ++ 95 ∷ rest) rest t _ (ap (λ z. table_from component_words (spot i (83 ∷ (z ++ 95 ∷ rest)))) b.2 ∙ no_component i b.0 (b.1 ++ 95 ∷ rest) b.3) (seq_from i k ds rest s (small_seq k (omega (arith, l)))) h
          ∙ ap (λ j. Found (reference N (suc k)) (here (spot j rest) t)) (sums i (length ds)));
    }
  where
    sums : (i n : ℕ) → ((i + 1) + n) + 1 ≡ i + (suc n + 1)
    sums i n = omega arith

-- ---- text
ascii : (b : Ident) → list_all is_name_byte b ≡ true → All (λ x. x < 128) b
ascii [] h = λ k d l. absurd (omega (arith, l))
ascii (x ∷ b) h =
    let g = both_true (is_name_byte x) (list_all is_name_byte b) h in
    All-cons (λ y. y < 128) x b (ltb-true x 128 (byte_is x g.0).0) (ascii b g.1)

pub ident_is_text : (b : Ident) → is_ident b ≡ true → IsUtf8 b
ident_is_text b h = IsUtf8-from_ascii b (IsAscii-from_all b (ascii b (ident_parts b h).2))
