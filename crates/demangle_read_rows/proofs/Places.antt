-- Places of the text, and what is read of its bytes from a place on as if they were a whole input.
use Rattle.std.proofs.Common.{◌≡◌, refl, ap, ◌∙◌, sym, subst, ℕ, ◌≤◌, ◌<◌, ◌+◌, ◌^◌, Bool, List, [], ◌∷◌, length}
use Rattle.std.proofs.Common.{take, drop, ℤ, arith, Result, Ok, Err, length-take}
use Rattle.std.proofs.lemmas.List.{drop-drop, length-drop, drop-take}
use Rattle.demangle_text.specs.Kind.{Kind}
use Rattle.demangle_text.specs.Found.{Found, took, none, and_rest}
use Rattle.demangle_text.specs.Number.{natural_at, natural_from, number_at, number_from}
use Rattle.demangle_text.specs.Spot.{Spot, skip}
use Rattle.demangle_vocab.specs.WordTable.{table_at, table_from, word_read}
use Rattle.demangle_grammar.proofs.Numbers.{NaturalAt, natural_fits, NumberAt, number_fits, WordAt, word_fits}
use Rattle.demangle_cells.specs.Reads.{spot_at}
use Rattle.demangle_cells.specs.declared.text.Text.{Text}

ok_of : {X E : Type 0} → X → Result X E → X
ok_of d (Ok x) = x
ok_of d (Err e) = d

pub spot_on : (text : Text) (a n : ℕ) → spot_at text (a + n) ≡ skip n (spot_at text a)
spot_on text a n = ap (λ l. record { index = a + n; left = l }) (sym (drop-drop n a text.bytes.now))

-- so many bytes on, the index is still one of 32 bits
pub place_fits : (text : Text) (a n : ℕ) → n ≤ length (drop a text.bytes.now) → a < 2 ^ 32 → a + n < 2 ^ 32
place_fits text a n h l =
    let k = length-drop a text.bytes.now in
    let s = text.short in
    omega (arith, h, k, s, l)

pub empty_below : (xs ys : List ℕ) → xs ≡ ys → length xs < 1 → ys ≡ []
empty_below [] ys e h = sym e
empty_below (x ∷ xs) ys e h = absurd (omega (arith, h))

pub front_of : (a n : ℕ) (bs : List ℕ) → drop a (take (a + n) bs) ≡ take n (drop a bs)
front_of a n bs = drop-take a n bs

pub front_inside : (a n : ℕ) (bs : List ℕ) → 1 ≤ n → n ≤ length (drop a bs) → a + n ≤ length bs
front_inside a n bs s h = let k = length-drop a bs in omega (arith, s, h, k)

-- ---- what is found in a whole input is found in the same bytes at any place
module _ {X : Type 0} (f : List ℕ → Found X) where
  moved : (text : Text) (a : ℕ) (p q : Spot) (x : X) → p.index ≡ 0
      → p.left ≡ drop a text.bytes.now → and_rest (f p.left) p ≡ Ok (x, q)
      → and_rest (f (drop a text.bytes.now)) (spot_at text a) ≡ Ok (x, spot_at text (a + q.index))
  unfolding ok_of
  moved text a p q x i l e = by (f (drop a text.bytes.now)) (subst (λ z. and_rest (f z) p ≡ Ok (x, q)) l e)
    where
      by : (r : Found X) → and_rest r p ≡ Ok (x, q)
          → and_rest r (spot_at text a) ≡ Ok (x, spot_at text (a + q.index))
      by (took n y) h =
          let v : y ≡ x = ap (λ z. z.0) (ap (ok_of (y, q)) h) in
          let s : p.index + n ≡ q.index = ap (λ z. z.1.index) (ap (ok_of (y, q)) h) in
          let k : n ≡ q.index = omega (arith, s, i) in
          ap (λ z. Ok (z, skip n (spot_at text a))) v
          ∙ ap (λ z. Ok (x, z)) (sym (spot_on text a n) ∙ ap (λ z. spot_at text (a + z)) k)
      by (none c) h = absurd (cc)

  missed : (text : Text) (a : ℕ) (p : Spot) (k : Kind)
      → p.left ≡ drop a text.bytes.now → and_rest (f p.left) p ≡ Err k
      → and_rest (f (drop a text.bytes.now)) (spot_at text a) ≡ Err k
  missed text a p k l e = by (f (drop a text.bytes.now)) (subst (λ z. and_rest (f z) p ≡ Err k) l e)
    where
      by : (r : Found X) → and_rest r p ≡ Err k → and_rest r (spot_at text a) ≡ Err k
      by (took n y) h = absurd (cc)
      by (none c) h = h

  within : ((bs : List ℕ) (n : ℕ) (x : X) → f bs ≡ took n x → n ≤ length bs)
      → (p q : Spot) (x : X) → p.index ≡ 0 → and_rest (f p.left) p ≡ Ok (x, q) → q.index ≤ length p.left
  unfolding ok_of
  within fits p q x i e = by (f p.left) refl e
    where
      by : (r : Found X) → f p.left ≡ r → and_rest r p ≡ Ok (x, q) → q.index ≤ length p.left
      by (took n y) d h =
          let s : p.index + n ≡ q.index = ap (λ z. z.1.index) (ap (ok_of (y, q)) h) in
          let k = fits p.left n y d in
          omega (arith, s, i, k)
      by (none c) d h = absurd (cc)

taken_fits : {X : Type 0} (n : ℕ) (xs : List X) → length (take n xs) ≡ n → n ≤ length xs
taken_fits n xs h = let k = length-take n xs in omega (arith, h, k)

natural_within : (base : ℕ) (bs : List ℕ) (n v : ℕ) → natural_at base bs ≡ took n v → n ≤ length bs
natural_within base bs n v e = taken_fits n bs (subst (NaturalAt base bs) e (natural_fits base bs)).0

number_within : (base : ℕ) (signs : Bool) (bs : List ℕ) (n : ℕ) (v : ℤ) → number_at base signs bs ≡ took n v
    → n ≤ length bs
number_within base signs bs n v e = taken_fits n bs (subst (NumberAt base signs bs) e (number_fits base signs bs)).0

word_within : (ws : List (List ℕ)) (bs : List ℕ) (n k : ℕ) → table_at ws bs ≡ took n k → n ≤ length bs
word_within ws bs n k e = taken_fits n bs (subst (WordAt ws bs) e (word_fits ws bs)).0

-- ---- what readers of the text use
pub natural_moved : (text : Text) (a base : ℕ) (p q : Spot) (v : ℕ) → p.index ≡ 0 → p.left ≡ drop a text.bytes.now
    → natural_from base p ≡ Ok (v, q) → natural_from base (spot_at text a) ≡ Ok (v, spot_at text (a + q.index))
unfolding natural_from
natural_moved text a base p q v i l e = moved (natural_at base) text a p q v i l e

pub natural_missed : (text : Text) (a base : ℕ) (p : Spot) (k : Kind) → p.left ≡ drop a text.bytes.now
    → natural_from base p ≡ Err k → natural_from base (spot_at text a) ≡ Err k
unfolding natural_from
natural_missed text a base p k l e = missed (natural_at base) text a p k l e

pub natural_inside : (base : ℕ) (bs : List ℕ) (p q : Spot) (v : ℕ) → p.index ≡ 0 → p.left ≡ bs
    → natural_from base p ≡ Ok (v, q) → q.index ≤ length bs
unfolding natural_from
natural_inside base bs p q v i l e =
    subst (λ z. q.index ≤ length z) l (within (natural_at base) (natural_within base) p q v i e)

pub number_moved : (text : Text) (a base : ℕ) (signs : Bool) (p q : Spot) (v : ℤ) → p.index ≡ 0
    → p.left ≡ drop a text.bytes.now → number_from base signs p ≡ Ok (v, q)
    → number_from base signs (spot_at text a) ≡ Ok (v, spot_at text (a + q.index))
unfolding number_from
number_moved text a base signs p q v i l e = moved (number_at base signs) text a p q v i l e

pub number_missed : (text : Text) (a base : ℕ) (signs : Bool) (p : Spot) (k : Kind) → p.left ≡ drop a text.bytes.now
    → number_from base signs p ≡ Err k → number_from base signs (spot_at text a) ≡ Err k
unfolding number_from
number_missed text a base signs p k l e = missed (number_at base signs) text a p k l e

pub number_inside : (base : ℕ) (signs : Bool) (bs : List ℕ) (p q : Spot) (v : ℤ) → p.index ≡ 0 → p.left ≡ bs
    → number_from base signs p ≡ Ok (v, q) → q.index ≤ length bs
unfolding number_from
number_inside base signs bs p q v i l e =
    subst (λ z. q.index ≤ length z) l (within (number_at base signs) (number_within base signs) p q v i e)

pub table_moved : (text : Text) (a : ℕ) (ws : List (List ℕ)) (p q : Spot) (v : ℕ) → p.index ≡ 0
    → p.left ≡ drop a text.bytes.now → table_from ws p ≡ Ok (v, q)
    → table_from ws (spot_at text a) ≡ Ok (v, spot_at text (a + q.index))
unfolding table_from word_read
table_moved text a ws p q v i l e = moved (table_at ws) text a p q v i l e

pub table_missed : (text : Text) (a : ℕ) (ws : List (List ℕ)) (p : Spot) (k : Kind) → p.left ≡ drop a text.bytes.now
    → table_from ws p ≡ Err k → table_from ws (spot_at text a) ≡ Err k
unfolding table_from word_read
table_missed text a ws p k l e = missed (table_at ws) text a p k l e

pub table_inside : (ws : List (List ℕ)) (bs : List ℕ) (p q : Spot) (v : ℕ) → p.index ≡ 0 → p.left ≡ bs
    → table_from ws p ≡ Ok (v, q) → q.index ≤ length bs
unfolding table_from word_read
table_inside ws bs p q v i l e =
    subst (λ z. q.index ≤ length z) l (within (table_at ws) (word_within ws) p q v i e)

pub ruleset fronts = (front_of, front_inside)

pub ruleset places = (spot_on, place_fits)

pub ruleset numbers = (natural_moved, natural_missed, natural_inside, place_fits)

pub ruleset signs = (number_moved, number_missed, number_inside, place_fits)

pub ruleset tables = (table_moved, table_missed, table_inside, place_fits)
