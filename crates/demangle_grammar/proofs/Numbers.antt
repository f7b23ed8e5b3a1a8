-- Numbers and words at the front: how many bytes they take, what they are, and when there is none.
use Rattle.std.specs.Prelude.{Option, Some, None, ◌≡◌, ℕ, suc, ◌+◌, ◌^◌, ◌≤◌, ◌<◌, Bool, true, false, if◌then◌else◌, ◌&&◌, List, [], ◌∷◌, length, take, drop, nat_lt, ◌==◌, ℤ, pos, neg_ℤ}
use Rattle.std.proofs.Common.{refl, subst, sym, ap, ◌∙◌, arith, length-append, inl, inr}
use Rattle.std.proofs.lemmas.List.{take-append-drop}
use Rattle.std.proofs.lemmas.Bool.{ltb-true, eqb-true}
use Rattle.demangle_text.specs.Kind.{Cause, Text, Over}
use Rattle.demangle_text.specs.Found.{Found, took, none, mapped, behind}
use Rattle.demangle_text.specs.Bytes.{span}
use Rattle.demangle_text.specs.Word.{starts}
use Rattle.demangle_text.specs.Number.{is_digit_in, leads_with_zero, value_of, natural_of, natural_at, number_at, negative, run_of}
use Rattle.demangle_vocab.specs.WordTable.{no_word, word_in, word_or, table_at}
use Rattle.demangle_grammar.specs.Rule.{Eat, Leaf}
use Rattle.demangle_grammar.specs.Fits.{AllOf, IsSome, IsNumber, IsNumeral, IsWordAt}
use Rattle.demangle_grammar.specs.First.{no_empty, heads, begins_leaf, Misses}
use Rattle.demangle_grammar.proofs.Truth.{both_true, or_false}

-- ---- lists
pub halves : (n : ℕ) (bs : List ℕ) → length bs ≡ length (take n bs) + length (drop n bs)
halves n bs = ap length (sym (take-append-drop n bs)) ∙ length-append (take n bs) (drop n bs)

some_long : (xs : List ℕ) → IsSome xs → 1 ≤ length xs
some_long [] h = absurd h
some_long (x ∷ xs) h = omega arith

fewer : (n : ℕ) (bs : List ℕ) → length (take n bs) ≡ n → 1 ≤ n → length (drop n bs) < length bs
fewer n bs e h = omega (arith, e, h, halves n bs)

pub span_all : (f : ℕ → Bool) (bs : List ℕ) → AllOf f (take (span f bs) bs) × (length (take (span f bs) bs) ≡ span f bs)
span_all f [] = (tt, refl)
span_all f (b ∷ bs) = by (f b) refl (span_all f bs)
  where
    by : (z : Bool) → f b ≡ z → AllOf f (take (span f bs) bs) × (length (take (span f bs) bs) ≡ span f bs) → AllOf f (take (if z then suc (span f bs) else 0) (b ∷ bs)) × (length (take (if z then suc (span f bs) else 0) (b ∷ bs)) ≡ if z then suc (span f bs) else 0)
    by true e r = ((e, r.0), ap suc r.1)
    by false e r = (tt, refl)

pub span_zero : (f : ℕ → Bool) (b : ℕ) (bs : List ℕ) → f b ≡ false → span f (b ∷ bs) ≡ 0
span_zero f b bs e = ap (λ z. if z then suc (span f bs) else 0) e

pub starts_so : (w bs : List ℕ) → starts w bs ≡ true → take (length w) bs ≡ w
starts_so [] bs e = refl
starts_so (c ∷ w) [] e = absurd (cc)
starts_so (c ∷ w) (b ∷ bs) e =
    let es = both_true (c == b) (starts w bs) e in
    ap (λ x. x ∷ take (length w) bs) (sym (eqb-true c b es.0)) ∙ ap (λ xs. c ∷ xs) (starts_so w bs es.1)

-- ---- numbers
-- So many bytes are there, one at least, and they are this number.
abbrev pub NaturalAt : ℕ → List ℕ → Found ℕ → Type 0
NaturalAt base bs (took n v) = (length (take n bs) ≡ n) × (length (drop n bs) < length bs) × IsNumber base (take n bs) v
NaturalAt base bs (none c) = Unit {0}

natural_is : (base : ℕ) (ds : List ℕ) → AllOf (is_digit_in base) ds → (P : Found ℕ → Type 0) → ((c : Cause) → P (none c)) → ((v : ℕ) → IsNumber base ds v → P (took (length ds) v)) → P (natural_of base ds)
natural_is base [] a P n y = n Text
natural_is base (d ∷ ds) a P n y = by (leads_with_zero (d ∷ ds)) refl (nat_lt (value_of base 0 (d ∷ ds)) (2 ^ 63)) refl
  where
    by : (x : Bool) → leads_with_zero (d ∷ ds) ≡ x → (z : Bool) → nat_lt (value_of base 0 (d ∷ ds)) (2 ^ 63) ≡ z
        → P (if x then none Text else (if z then took (length (d ∷ ds)) (value_of base 0 (d ∷ ds)) else none Over))
    by true p z q = n Text
    by false p false q = n Over
    by false p true q = y (value_of base 0 (d ∷ ds)) (record { some = tt; digits = a; shortest = p; value = refl; bounded = ltb-true _ _ q })

pub natural_fits : (base : ℕ) (bs : List ℕ) → NaturalAt base bs (natural_at base bs)
natural_fits base [] = tt
natural_fits base (b ∷ bs) =
    let a = span_all (is_digit_in base) (b ∷ bs) in
    let n = span (is_digit_in base) (b ∷ bs) in
    natural_is base (run_of base (b ∷ bs)) a.0 (NaturalAt base (b ∷ bs)) (λ c. tt)
    (λ v h. subst (λ k. NaturalAt base (b ∷ bs) (took k v)) (sym a.1) (a.1, fewer n (b ∷ bs) a.1 (omega (arith, a.1, some_long _ h.some)), h))

-- the same with a sign
abbrev pub NumberAt : ℕ → Bool → List ℕ → Found ℤ → Type 0
NumberAt base signs bs (took n v) = (length (take n bs) ≡ n) × (length (drop n bs) < length bs) × IsNumeral base signs (take n bs) v
NumberAt base signs bs (none c) = Unit {0}

one_plus : (n : ℕ) → suc n ≡ 1 + n
one_plus n = omega arith

plain_number : (base : ℕ) (signs : Bool) (bs : List ℕ) → ((ds : List ℕ) (v : ℕ) → IsNumber base ds v → IsNumeral base signs ds (pos v)) → NumberAt base signs bs (mapped pos (natural_at base bs))
plain_number base signs bs f = by (natural_at base bs) (natural_fits base bs)
  where
    by : (r : Found ℕ) → NaturalAt base bs r → NumberAt base signs bs (mapped pos r)
    by (took n v) h = (h.0, h.1, f (take n bs) v h.2)
    by (none c) h = tt

pub number_fits : (base : ℕ) (signs : Bool) (bs : List ℕ) → NumberAt base signs bs (number_at base signs bs)
number_fits base false bs = plain_number base false bs (λ ds v h. (v, h, refl))
number_fits base true [] = tt
number_fits base true (b ∷ bs) = by (b == 110) refl
  where
    signed : (natural : Found ℕ) → NaturalAt base bs natural → b ≡ 110 → NumberAt base true (b ∷ bs) (behind 1 (mapped negative natural))
    signed (took n v) h e =
        subst (λ k. NumberAt base true (b ∷ bs) (took k (neg_ℤ (pos v)))) (one_plus n)
        (ap suc h.0, fewer (suc n) (b ∷ bs) (ap suc h.0) (omega arith), inr (take n bs, v, ap (λ x. x ∷ take n bs) e, h.2, refl))
    signed (none c) h e = tt

    by : (z : Bool) → (b == 110) ≡ z → NumberAt base true (b ∷ bs) (if z then behind 1 (mapped negative (natural_at base bs)) else mapped pos (natural_at base (b ∷ bs)))
    by true e = signed (natural_at base bs) (natural_fits base bs) (eqb-true b 110 e)
    by false e = plain_number base true (b ∷ bs) (λ ds v h. inl (v, h, refl))

-- ---- a word of a table
abbrev pub WordAt : List (List ℕ) → List ℕ → Found ℕ → Type 0
WordAt ws bs (took n k) = (length (take n bs) ≡ n) × IsWordAt k ws (take n bs) × (no_empty ws ≡ true → length (drop n bs) < length bs)
WordAt ws bs (none c) = Unit {0}

zero_plus : (n : ℕ) → 0 + n ≡ n
zero_plus n = omega arith

plus_zero : (n : ℕ) → n ≡ n + 0
plus_zero n = omega arith

word_long : (w : List ℕ) (ws : List (List ℕ)) → no_empty (w ∷ ws) ≡ true → 1 ≤ length w
word_long [] ws e = absurd (cc)
word_long (c ∷ w) ws e = omega arith

words_left : (w : List ℕ) (ws : List (List ℕ)) → no_empty (w ∷ ws) ≡ true → no_empty ws ≡ true
words_left [] ws e = absurd (cc)
words_left (c ∷ w) ws e = e

table_is : (k : ℕ) (ws vs : List (List ℕ)) (cause : Cause) (bs : List ℕ) → ((i : ℕ) (xs : List ℕ) → IsWordAt i ws xs → IsWordAt (i + k) vs xs) → (no_empty vs ≡ true → no_empty ws ≡ true)
    → WordAt vs bs (word_or (word_in k ws bs) cause)
table_is k [] vs cause bs h g = tt
table_is k (w ∷ ws) vs cause bs h g =
    by (starts w bs) refl (table_is (suc k) ws vs cause bs (λ i xs q. subst (λ n. IsWordAt n vs xs) (let e : suc i + k ≡ i + suc k = omega arith in e) (h (suc i) xs q)) (λ e. words_left w ws (g e)))
  where
    by : (y : Bool) → starts w bs ≡ y → WordAt vs bs (word_or (word_in (suc k) ws bs) cause) → WordAt vs bs (word_or (if y then Some (k, length w) else word_in (suc k) ws bs) cause)
    by true e r =
        let l : length (take (length w) bs) ≡ length w = ap length (starts_so w bs e) in
        (l, subst (λ n. IsWordAt n vs (take (length w) bs)) (zero_plus k) (h 0 (take (length w) bs) (starts_so w bs e)), λ q. fewer (length w) bs l (word_long w ws (g q)))
    by false e r = r

pub word_fits : (ws : List (List ℕ)) (bs : List ℕ) → WordAt ws bs (table_at ws bs)
word_fits ws bs = table_is 0 ws ws (no_word ws bs) bs (λ i xs q. subst (λ n. IsWordAt n ws xs) (plus_zero i) q) (λ e. e)

-- ---- where there is none
abbrev pub Missing : {A : Type 0} → Found A → Type 0
Missing (took n x) = ⊥
Missing (none c) = Unit {0}

pub mapped_missing : {A B : Type 0} (f : A → B) (r : Found A) → Missing r → Missing (mapped f r)
mapped_missing f (took n x) e = e
mapped_missing f (none c) e = tt

pub natural_missing : (base : ℕ) (bs : List ℕ) → Misses (is_digit_in base) bs → Missing (natural_at base bs)
natural_missing base [] e = tt
natural_missing base (b ∷ bs) e = subst (λ n. Missing (natural_of base (take n (b ∷ bs)))) (sym (span_zero (is_digit_in base) b bs e)) tt

pub number_missing : (base : ℕ) (signs : Bool) (bs : List ℕ) → Misses (begins_leaf (Leaf.eat (Eat.numeral base signs))) bs → Missing (number_at base signs bs)
number_missing base false bs e = mapped_missing pos (natural_at base bs) (natural_missing base bs e)
number_missing base true [] e = tt
number_missing base true (b ∷ bs) e = by (b == 110) (or_false _ _ e).0
  where
    by : (z : Bool) → z ≡ false → Missing (if z then behind 1 (mapped negative (natural_at base bs)) else mapped pos (natural_at base (b ∷ bs)))
    by true p = absurd (cc)
    by false p = mapped_missing pos (natural_at base (b ∷ bs)) (natural_missing base (b ∷ bs) (or_false _ _ e).1)

abbrev IsNone : Option (ℕ × ℕ) → Type 0
IsNone None = Unit {0}
IsNone (Some x) = ⊥

none_in : (k : ℕ) (ws : List (List ℕ)) (bs : List ℕ) → no_empty ws ≡ true → Misses (heads ws) bs → IsNone (word_in k ws bs)
none_in k [] bs t e = tt
none_in k ([] ∷ ws) bs t e = absurd (cc)
none_in k ((c ∷ w) ∷ ws) [] t e = none_in (suc k) ws [] t tt
none_in k ((c ∷ w) ∷ ws) (b ∷ bs) t e = by (c == b) (or_false _ _ e).0 (none_in (suc k) ws (b ∷ bs) t (or_false _ _ e).1)
  where
    by : (z : Bool) → z ≡ false → IsNone (word_in (suc k) ws (b ∷ bs)) → IsNone (if z && starts w bs then Some (k, length (c ∷ w)) else word_in (suc k) ws (b ∷ bs))
    by true p h = absurd (cc)
    by false p h = h

pub word_missing : (ws : List (List ℕ)) (bs : List ℕ) → no_empty ws ≡ true → Misses (heads ws) bs → Missing (table_at ws bs)
word_missing ws bs t e = by (word_in 0 ws bs) (none_in 0 ws bs t e)
  where
    by : (x : Option (ℕ × ℕ)) → IsNone x → Missing (word_or x (no_word ws bs))
    by None h = tt
    by (Some x) h = h
