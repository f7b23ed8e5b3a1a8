-- Tables of words, and the word of a table at the front of the bytes.
use Rattle.std.specs.Prelude.{ℕ, zero, suc, Bool, true, false, List, [], ◌∷◌, length, ◌==◌, ◌&&◌, ◌||◌, not}
use Rattle.std.specs.Prelude.{if◌then◌else◌, Result, Option, Some, None}
use Rattle.demangle_text.specs.Kind.{Cause, End, Text, Kind}
use Rattle.demangle_text.specs.Spot.{Spot}
use Rattle.demangle_text.specs.Found.{Found, took, none, and_length, placed}
use Rattle.demangle_text.specs.Word.{starts}

-- a word, the text that is printed for it, and what else its table says of it
pub record Entry (X : Type 0) : Type 0 where
  pub word : List ℕ
  pub text : List ℕ
  pub more : X

-- ---- an entry by its number, from 0
abbrev pub words : {X : Type 0} → List (Entry X) → List (List ℕ)
words [] = []
words (e ∷ es) = e.word ∷ words es

abbrev pub text_at : {X : Type 0} → List (Entry X) → ℕ → List ℕ
text_at [] k = []
text_at (e ∷ es) zero = e.text
text_at (e ∷ es) (suc k) = text_at es k

abbrev pub more_at : {X : Type 0} → X → List (Entry X) → ℕ → X
more_at x [] k = x
more_at x (e ∷ es) zero = e.more
more_at x (e ∷ es) (suc k) = more_at x es k

-- ---- reading
-- the bytes are a proper prefix of the word
abbrev pub begins : List ℕ → List ℕ → Bool
begins bs [] = false
begins [] (w ∷ ws) = true
begins (b ∷ bs) (w ∷ ws) = (b == w) && begins bs ws

-- why no word of a table is at the front: all bytes are a proper prefix of a word, or not
abbrev pub no_word : List (List ℕ) → List ℕ → Cause
no_word [] bs = Text
no_word (w ∷ ws) bs = if begins bs w then End else no_word ws bs

-- the number and the length of the word at the front, where the numbers begin with k
abbrev pub word_in : ℕ → List (List ℕ) → List ℕ → Option (ℕ × ℕ)
word_in k [] bs = None
word_in k (w ∷ ws) bs = if starts w bs then Some (k, length w) else word_in (suc k) ws bs

abbrev pub word_or : Option (ℕ × ℕ) → Cause → Found ℕ
word_or (Some x) c = took x.1 x.0
word_or None c = none c

-- the number of the word at the front
abbrev pub table_at : List (List ℕ) → List ℕ → Found ℕ
table_at ws bs = word_or (word_in 0 ws bs) (no_word ws bs)

-- the number and the length of the word at the front
unfoldable pub word_read : List (List ℕ) → List ℕ → Result (ℕ × ℕ) Kind
word_read ws bs = and_length (table_at ws bs)

-- the number of the word at a place, and the place behind it
unfoldable pub table_from : List (List ℕ) → Spot → Result (ℕ × Spot) Kind
table_from ws p = placed (word_read ws p.left) p

-- ---- what the words of a table begin with
abbrev pub starts_some : List (List ℕ) → ℕ → Bool
starts_some [] b = false
starts_some ([] ∷ ws) b = starts_some ws b
starts_some ((w ∷ v) ∷ ws) b = if w == b then true else starts_some ws b

-- ---- that no word is a prefix of another one
abbrev pub is_apart : List ℕ → List (List ℕ) → Bool
is_apart w [] = true
is_apart w (v ∷ vs) = not (starts w v || starts v w) && is_apart w vs

abbrev pub is_prefix_free : List (List ℕ) → Bool
is_prefix_free [] = true
is_prefix_free (w ∷ ws) = is_apart w ws && is_prefix_free ws
