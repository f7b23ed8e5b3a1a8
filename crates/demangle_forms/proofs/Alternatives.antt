-- Alternatives, of which the last is a reply.
use Rattle.std.specs.Prelude.{if◌then◌else◌}
use Rattle.std.proofs.Common.{◌≡◌, refl, ap, ◌∙◌, List, [], ◌∷◌, ℕ, Bool, true, false, Result, Ok, Err}
use Rattle.demangle_core.specs.Core.{Core}
use Rattle.demangle_text.specs.Kind.{Kind, Unread, Text}
use Rattle.demangle_text.specs.Spot.{Spot}
use Rattle.demangle_text.specs.Word.{word_at}
use Rattle.demangle_grammar.specs.Code.{Here, Reply, Found, Refused, Out, Yes, No, close, or_else, committed}
use Rattle.demangle_grammar.specs.Code.{from_row, read_spot, read_leaf}
use Rattle.demangle_grammar.specs.Parts.{else_row, worded, missing_kind, first_word, else_spot, else_word}

pub or_last : (a : Out) (f : Unit {0} → Out) (x : Reply) → close (f tt) ≡ x
    → close (or_else a f) ≡ else_row a (λ u. x)
or_last (Yes s acc) f x h = refl
or_last (No true k) f x h = refl
or_last (No false k) f x h = h

-- the same for the first of several in brackets
pub or_then : (a : Out) (g f : Unit {0} → Out) (x : Reply) → close (or_else (g tt) f) ≡ x
    → close (or_else (or_else a g) f) ≡ else_row a (λ u. x)
or_then (Yes s acc) g f x h = refl
or_then (No true k) g f x h = refl
or_then (No false k) g f x h = h

-- what stands behind a mark ends the alternatives
pub stays_so : (o : Out) (g : Unit {0} → Out) → close (or_else (committed o) g) ≡ close o
stays_so (Yes s acc) g = refl
stays_so (No h k) g = refl

pub stays : (o rest : Out) → close (or_else (committed o) (λ u. rest)) ≡ close o
stays o rest = stays_so o (λ u. rest)

-- alternatives in brackets are alternatives
pub or_flat : (a : Out) (g f : Unit {0} → Out) → or_else (or_else a g) f ≡ or_else a (λ u. or_else (g u) f)
or_flat (Yes s acc) g f = refl
or_flat (No true k) g f = refl
or_flat (No false k) g f = refl

-- ---- alternatives that begin with a word each
-- the last of them may have no mark behind its word
abbrev pub tries_words : {X : Type 0} → (X → Spot → Out) → List (List ℕ × X) → Spot → Out
tries_words f [] p = No false (Unread Text)
tries_words f (x ∷ []) p = read_spot (word_at x.0 p) (λ q. f x.1 q)
tries_words f (x ∷ y ∷ xs) p =
    or_else (read_spot (word_at x.0 p) (λ q. committed (f x.1 q))) (λ u. tries_words f (y ∷ xs) p)

last_word : {X : Type 0} (f : X → Spot → Out) (t : X) (q : Result Spot Kind)
    → close (read_spot q (λ p. f t p)) ≡ close (read_leaf (worded t q (Err (missing_kind q))) (λ x p. f x p))
last_word f t (Ok p) = refl
last_word f t (Err k) = refl

next_word : {X : Type 0} (f : X → Spot → Out) (t : X) (q : Result Spot Kind) (rest : Out)
    (o : Result (X × Spot) Kind) → close rest ≡ close (read_leaf o (λ x p. f x p))
    → close (or_else (read_spot q (λ p. committed (f t p))) (λ u. rest))
    ≡ close (read_leaf (worded t q o) (λ x p. f x p))
next_word f t (Ok p) rest o h = stays (f t p) rest
next_word f t (Err k) rest o h = h

-- the last alternatives of a row
pub words_are : {X : Type 0} (f : X → Spot → Out) (xs : List (List ℕ × X)) (p : Spot)
    → close (tries_words f xs p) ≡ close (read_leaf (first_word xs p) (λ x q. f x q))
words_are f [] p = refl
words_are f (x ∷ []) p = last_word f x.1 (word_at x.0 p)
words_are f (x ∷ y ∷ xs) p =
    next_word f x.1 (word_at x.0 p) (tries_words f (y ∷ xs) p) (first_word (y ∷ xs) p) (words_are f (y ∷ xs) p)

-- ---- the same where a mark stands behind each word and other alternatives follow
-- with what follows as the last of them
abbrev pub marked_words : {X : Type 0} → (X → Spot → Out) → List (List ℕ × X) → Spot → (Unit {0} → Out) → Out
marked_words f [] p g = g tt
marked_words f (x ∷ xs) p g =
    or_else (read_spot (word_at x.0 p) (λ q. committed (f x.1 q))) (λ u. marked_words f xs p g)

marked_last : {X : Type 0} (f : X → Spot → Out) (t : X) (q : Result Spot Kind) (g : Unit {0} → Out) (x : Reply)
    → close (g tt) ≡ x
    → close (or_else (read_spot q (λ p. committed (f t p))) g)
    ≡ else_word (worded t q (Err (missing_kind q))) (λ y p. close (f y p)) (λ u. x)
marked_last f t (Ok p) g x h = stays_so (f t p) g
marked_last f t (Err k) g x h = h

marked_next : {X : Type 0} (f : X → Spot → Out) (t : X) (q : Result Spot Kind) (rest : Out)
    (o : Result (X × Spot) Kind) (x : Reply) → close rest ≡ else_word o (λ y p. close (f y p)) (λ u. x)
    → close (or_else (read_spot q (λ p. committed (f t p))) (λ u. rest))
    ≡ else_word (worded t q o) (λ y p. close (f y p)) (λ u. x)
marked_next f t (Ok p) rest o x h = stays (f t p) rest
marked_next f t (Err k) rest o x h = h

pub marked_are : {X : Type 0} (f : X → Spot → Out) (xs : List (List ℕ × X)) (p : Spot) (g : Unit {0} → Out)
    (x : Reply) → close (g tt) ≡ x
    → close (marked_words f xs p g) ≡ else_word (first_word xs p) (λ y q. close (f y q)) (λ u. x)
marked_are f [] p g x h = h
marked_are f (y ∷ []) p g x h = marked_last f y.1 (word_at y.0 p) (λ u. g tt) x h
marked_are f (y ∷ z ∷ xs) p g x h =
    marked_next f y.1 (word_at y.0 p) (marked_words f (z ∷ xs) p g) (first_word (z ∷ xs) p) x
    (marked_are f (z ∷ xs) p g x h)

-- those in brackets
pub marked_in : {X : Type 0} (f : X → Spot → Out) (xs : List (List ℕ × X)) (p : Spot) (g h : Unit {0} → Out)
    → or_else (marked_words f xs p g) h ≡ marked_words f xs p (λ u. or_else (g u) h)
marked_in f [] p g h = refl
marked_in f (x ∷ xs) p g h =
    or_flat (read_spot (word_at x.0 p) (λ q. committed (f x.1 q))) (λ u. marked_words f xs p g) h
    ∙ ap (λ o. or_else (read_spot (word_at x.0 p) (λ q. committed (f x.1 q))) (λ u. o)) (marked_in f xs p g h)

-- one word alone
pub marked_is : (q : Result Spot Kind) (f : Spot → Out) (g : Unit {0} → Out) (x : Reply) → close (g tt) ≡ x
    → close (or_else (read_spot q (λ p. committed (f p))) g) ≡ else_spot q (λ p. close (f p)) (λ u. x)
marked_is (Ok p) f g x h = stays_so (f p) g
marked_is (Err k) f g x h = h

-- a test in the word's place
pub tested_is : (z : Bool) (o : Out) (k : Kind) (g : Unit {0} → Out) (x : Reply) → close (g tt) ≡ x
    → close (or_else (if z then committed o else No false k) g) ≡ (if z then close o else x)
tested_is true o k g x h = stays_so o g
tested_is false o k g x h = h

-- ---- what is read behind a row or a word may be put by something that answers alike
pub row_behind : (a : Reply) (f g : Here → Core → Out) → ((m : Here) (t : Core) → close (f m t) ≡ close (g m t))
    → close (from_row a f) ≡ close (from_row a g)
row_behind (Found t m) f g h = h m t
row_behind (Refused k) f g h = refl

pub spot_behind : (q : Result Spot Kind) (f g : Spot → Out) → ((p : Spot) → close (f p) ≡ close (g p))
    → close (read_spot q f) ≡ close (read_spot q g)
spot_behind (Ok p) f g h = h p
spot_behind (Err k) f g h = refl
