-- A table whose words have two bytes each.
use Rattle.std.proofs.Common.{◌≡◌, ℕ, suc, ◌<◌, ◌≤◌, List, [], ◌∷◌, length, slice_index, arith, refl, ap, ◌∙◌, Bool, true, false, ◌==◌, ◌&&◌, if◌then◌else◌, Option, Some, None, Err}
use Rattle.demangle_text.specs.Kind.{End, Text, Unread}
use Rattle.demangle_text.specs.Found.{and_length}
use Rattle.demangle_vocab.specs.WordTable.{no_word, word_in, word_or, word_read}
use Rattle.demangle_vocab.specs.Operators.{operator_words, operator_of, operator_cut, read_pair}

abbrev pub are_pairs : List (List ℕ) → Bool
are_pairs [] = true
are_pairs ((x ∷ y ∷ []) ∷ ws) = are_pairs ws
are_pairs _ = false

word_in-one : (k : ℕ) (ws : List (List ℕ)) (a : ℕ) → are_pairs ws ≡ true → word_in k ws (a ∷ []) ≡ None
word_in-one k [] a h = refl
word_in-one k ([] ∷ ws) a h = cc
word_in-one k ((x ∷ []) ∷ ws) a h = cc
word_in-one k ((x ∷ y ∷ z ∷ v) ∷ ws) a h = cc
word_in-one k ((x ∷ y ∷ []) ∷ ws) a h = go (x == a) (word_in-one (suc k) ws a h)
  where
    go : (u : Bool) → word_in (suc k) ws (a ∷ []) ≡ None → (if u && false then Some (k, 2) else word_in (suc k) ws (a ∷ [])) ≡ None
    go true e = e
    go false e = e

word_in-pair : (k : ℕ) (ws : List (List ℕ)) (a b : ℕ) (bs : List ℕ) → are_pairs ws ≡ true → word_in k ws (a ∷ b ∷ bs) ≡ word_in k ws (a ∷ b ∷ [])
word_in-pair k [] a b bs h = refl
word_in-pair k ([] ∷ ws) a b bs h = cc
word_in-pair k ((x ∷ []) ∷ ws) a b bs h = cc
word_in-pair k ((x ∷ y ∷ z ∷ v) ∷ ws) a b bs h = cc
word_in-pair k ((x ∷ y ∷ []) ∷ ws) a b bs h =
    ap (λ r. if (x == a) && ((y == b) && true) then Some (k, 2) else r) (word_in-pair (suc k) ws a b bs h)

no_word-pair : (ws : List (List ℕ)) (a b : ℕ) (bs : List ℕ) → are_pairs ws ≡ true → no_word ws (a ∷ b ∷ bs) ≡ Text
no_word-pair [] a b bs h = refl
no_word-pair ([] ∷ ws) a b bs h = cc
no_word-pair ((x ∷ []) ∷ ws) a b bs h = cc
no_word-pair ((x ∷ y ∷ z ∷ v) ∷ ws) a b bs h = cc
no_word-pair ((x ∷ y ∷ []) ∷ ws) a b bs h = go (a == x) (b == y) (no_word-pair ws a b bs h)
  where
    go : (u v : Bool) → no_word ws (a ∷ b ∷ bs) ≡ Text → (if u && (v && false) then End else no_word ws (a ∷ b ∷ bs)) ≡ Text
    go true true e = e
    go true false e = e
    go false v e = e

pub operator-none : (bs : List ℕ) → length bs < 1 → word_read operator_words bs ≡ Err (Unread End)
unfolding word_read
operator-none [] h = refl
operator-none (b ∷ bs) h = absurd (omega (arith, h))

pub operator-one : (bs : List ℕ) → 1 ≤ length bs → length bs < 2 → word_read operator_words bs ≡ Err (Unread (operator_cut (slice_index bs 0)))
unfolding word_read operator_cut
operator-one [] l h = absurd (omega (arith, l))
operator-one (a ∷ []) l h = ap (λ x. and_length (word_or x (no_word operator_words (a ∷ [])))) (word_in-one 0 operator_words a refl)
operator-one (a ∷ b ∷ bs) l h = absurd (omega (arith, h))

pub operator-pair : (bs : List ℕ) → 2 ≤ length bs → word_read operator_words bs ≡ read_pair (operator_of (slice_index bs 0) (slice_index bs 1))
unfolding word_read operator_of
operator-pair [] h = absurd (omega (arith, h))
operator-pair (a ∷ []) h = absurd (omega (arith, h))
operator-pair (a ∷ b ∷ bs) h =
    ap (λ x. and_length (word_or x (no_word operator_words (a ∷ b ∷ bs)))) (word_in-pair 0 operator_words a b bs refl)
    ∙ ap (λ c. and_length (word_or (word_in 0 operator_words (a ∷ b ∷ [])) c)) (no_word-pair operator_words a b bs refl)
    ∙ as_read (word_in 0 operator_words (a ∷ b ∷ []))
  where
    as_read : (x : Option (ℕ × ℕ)) → and_length (word_or x Text) ≡ read_pair x
    as_read None = refl
    as_read (Some x) = refl

pub ruleset pairs = (operator-none, operator-one, operator-pair)
