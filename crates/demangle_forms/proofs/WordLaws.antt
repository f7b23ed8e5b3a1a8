-- Alternatives that begin with a word each and have the mark behind it are told by the word alone.
use Rattle.std.specs.Prelude.{if◌then◌else◌}
use Rattle.std.proofs.Common.{◌≡◌, refl, ◌∙◌, ℕ, Bool, true, false, List, [], ◌∷◌, Result, Ok, Err}
use Rattle.demangle_core.specs.Core.{Core}
use Rattle.demangle_text.specs.Kind.{Kind, Unread, End, Text}
use Rattle.demangle_text.specs.Spot.{Spot}
use Rattle.demangle_text.specs.Word.{word_at}
use Rattle.demangle_grammar.specs.Code.{at, Here, Reply, Refused, Out, Yes, No, close, committed, or_else}
use Rattle.demangle_grammar.specs.Code.{and_then, read_spot}
use Rattle.demangle_grammar.specs.Parts.{worded, missing_kind, first_word, else_spot, else_word}
use Rattle.demangle_forms.specs.WordForms.{either, behind_word}
use Rattle.demangle_forms.proofs.Alternatives.{stays_so, marked_words}

-- ---- a word that must be there
pub word_before : (q : Result Spot Kind) (f : Spot → Out) (g : Spot → Reply) → ((p : Spot) → close (f p) ≡ g p)
    → close (read_spot q f) ≡ behind_word q g
word_before (Ok p) f g h = h p
word_before (Err k) f g h = refl

-- ---- behind the mark no other alternative is tried: for the first of several in brackets
stays_in : (a o : Out) (g : Unit {0} → Out) → close (or_else (or_else (committed a) (λ u. o)) g) ≡ close a
stays_in (Yes s acc) o g = refl
stays_in (No h k) o g = refl

-- ---- one word
pub spot_then : (q : Result Spot Kind) (f : Spot → Out) (g : Unit {0} → Out) (h : Spot → Reply) (x : Reply)
    → ((p : Spot) → close (f p) ≡ h p) → close (g tt) ≡ x
    → close (or_else (read_spot q (λ p. committed (f p))) g) ≡ else_spot q h (λ u. x)
spot_then (Ok p) f g h x e k = stays_so (f p) g ∙ e p
spot_then (Err j) f g h x e k = k

pub spot_in : (q : Result Spot Kind) (f : Spot → Out) (o : Out) (g : Unit {0} → Out) (h : Spot → Reply) (x : Reply)
    → ((p : Spot) → close (f p) ≡ h p) → close (or_else o g) ≡ x
    → close (or_else (or_else (read_spot q (λ p. committed (f p))) (λ u. o)) g) ≡ else_spot q h (λ u. x)
spot_in (Ok p) f o g h x e k = stays_in (f p) o g ∙ e p
spot_in (Err j) f o g h x e k = k

-- a test in the word's place
pub test_in : (z : Bool) (a o : Out) (g : Unit {0} → Out) (x y : Reply) → close a ≡ x → close (or_else o g) ≡ y
    → close (or_else (or_else (if z then committed a else No false (Unread Text)) (λ u. o)) g) ≡ (if z then x else y)
test_in true a o g x y e k = stays_in a o g ∙ e
test_in false a o g x y e k = k

-- a test on how many bytes are left, before all alternatives
pub enough_left : (z : Bool) (o : Out) (x : Reply) → close o ≡ x
    → close (if z then o else No false (Unread End)) ≡ (if z then x else Refused (Unread End))
enough_left true o x e = e
enough_left false o x e = refl

-- ---- one of two words
pub either_then : (a b : Result Spot Kind) (s : Here) (f : Here → List Core → Out) (g : Unit {0} → Out)
    (h : Spot → Reply) (x : Reply) → ((p : Spot) → close (f (at s p) []) ≡ h p) → close (g tt) ≡ x
    → close (or_else (and_then (or_else (read_spot a (λ p. Yes (at s p) [])) (λ u. read_spot b (λ p. Yes (at s p) [])))
    (λ m acc. committed (f m acc))) g) ≡ else_spot (either a b) h (λ u. x)
either_then (Ok p) b s f g h x e k = stays_so (f (at s p) []) g ∙ e p
either_then (Err j) (Ok p) s f g h x e k = stays_so (f (at s p) []) g ∙ e p
either_then (Err j) (Err i) s f g h x e k = k

-- ---- one of several words, with other alternatives behind them
word_in : {X : Type 0} (f : X → Spot → Out) (x : X) (q : Result Spot Kind) (o : Out) (g : Unit {0} → Out)
    (h : X → Spot → Reply) (y : Reply) (w : Result (X × Spot) Kind) → ((x : X) (q : Spot) → close (f x q) ≡ h x q)
    → close (or_else o g) ≡ else_word w h (λ u. y)
    → close (or_else (or_else (read_spot q (λ p. committed (f x p))) (λ u. o)) g) ≡ else_word (worded x q w) h (λ u. y)
word_in f x (Ok p) o g h y w e k = stays_in (f x p) o g ∙ e x p
word_in f x (Err j) o g h y w e k = k

pub words_in : {X : Type 0} (f : X → Spot → Out) (xs : List (List ℕ × X)) (p : Spot) (o : Out) (g : Unit {0} → Out)
    (h : X → Spot → Reply) (y : Reply) → ((x : X) (q : Spot) → close (f x q) ≡ h x q) → close (or_else o g) ≡ y
    → close (or_else (marked_words f xs p (λ u. o)) g) ≡ else_word (first_word xs p) h (λ u. y)
words_in f [] p o g h y e k = k
words_in f (x ∷ []) p o g h y e k =
    word_in f x.1 (word_at x.0 p) o g h y (Err (missing_kind (word_at x.0 p))) e k
words_in f (x ∷ z ∷ xs) p o g h y e k =
    word_in f x.1 (word_at x.0 p) (marked_words f (z ∷ xs) p (λ u. o)) g h y (first_word (z ∷ xs) p) e
    (words_in f (z ∷ xs) p o g h y e k)
