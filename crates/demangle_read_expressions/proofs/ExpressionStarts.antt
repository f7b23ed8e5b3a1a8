-- The alternatives of an expression before those with which the next bytes leave it are passed over.
use Rattle.std.specs.Prelude.{◌≤◌, ◌&&◌, ◌||◌, ◌==◌, nat_le, length, drop, codes, if◌then◌else◌}
use Rattle.std.proofs.Common.{◌≡◌, refl, ap, ◌∙◌, ℕ, Bool, true, false, List, [], ◌∷◌, Result, Ok, Err}
use Rattle.demangle_text.specs.Kind.{Kind, Unread, End}
use Rattle.demangle_text.specs.Spot.{Spot, skip}
use Rattle.demangle_text.specs.Word.{starts, missing_word, word_at}
use Rattle.demangle_grammar.specs.Rule.{Row, Class}
use Rattle.demangle_grammar.specs.Reading.{next_is, no_digit}
use Rattle.demangle_grammar.specs.Rows.{rule}
use Rattle.demangle_grammar.specs.First.{takes_in, first_in, idle_in}
use Rattle.demangle_grammar.specs.Code.{Go, Here, Reply, Out, No, cread}
use Rattle.demangle_grammar.specs.Parts.{worded, first_word, else_word}
use Rattle.demangle_grammar.proofs.Truth.{both_true}
use Rattle.demangle_forms.specs.WordForms.{either}
use Rattle.demangle_forms.specs.ExpressionForms.{prefix_words, call_words, cast_words, query_words, member_words}
use Rattle.demangle_forms.specs.ExpressionForms.{prefix_word_at, call_word_at, cast_word_at, query_word_at}
use Rattle.demangle_forms.specs.ExpressionForms.{member_word_at, expression_word_at, new_at, delete_at, plain_forms}
use Rattle.demangle_forms.specs.ExpressionForms.{allocation_at, global_allocation_at, operators_at}
use Rattle.demangle_forms.specs.ExpressionForms.{references_at, names_at, fold_next, expression_at}
use Rattle.demangle_forms.proofs.Missed.{IsMissed, IsPassed, none_of, end_or_one, apart_missed, no_start}
use Rattle.demangle_forms.proofs.Missed.{one_or_end, digit_or_one, row_passed, word_passed, both_passed, passed_on}
use Rattle.demangle_read_expressions.specs.declared.first_bytes.ExpressionStart.{ExpressionStart}
use Rattle.demangle_read_expressions.specs.declared.first_bytes.ExpressionStart.TheVariants as of_start
use Rattle.demangle_read_expressions.specs.ExpressionStarts.{leaves_expression, expression_from, parameters_at}
use Rattle.demangle_read_expressions.specs.ExpressionStarts.{literals_at}

-- ---- no word of a family stands there
abbrev IsAbsent : {X : Type 0} → Result X Kind → Type 0
IsAbsent (Ok x) = ⊥
IsAbsent (Err k) = Unit {0}

word_absent : (w : List ℕ) (p : Spot) → starts w p.left ≡ false → IsAbsent (word_at w p)
unfolding word_at
word_absent w p e = by (starts w p.left) e
  where
    by : (z : Bool) → z ≡ false
        → IsAbsent (if z then Ok (skip (length w) p) else Err (Unread (missing_word w p.left)))
    by true q = absurd (cc)
    by false q = tt

abbrev no_first : List ℕ → List ℕ → Bool
no_first [] ys = false
no_first (b ∷ w) ys = none_of (λ x. b == x) ys

-- none of the words begins with one of these bytes
abbrev no_word : {X : Type 0} → List (List ℕ × X) → List ℕ → Bool
no_word [] ys = true
no_word (x ∷ xs) ys = no_first x.0 ys && no_word xs ys

no_first_starts : (w ys bs : List ℕ) → no_first w ys ≡ true → end_or_one ys bs ≡ true → starts w bs ≡ false
no_first_starts [] ys bs n e = absurd (cc)
no_first_starts (b ∷ w) ys bs n e = no_start b w ys bs n e

worded_absent : {X : Type 0} (x : X) (q : Result Spot Kind) (o : Result (X × Spot) Kind) → IsAbsent q → IsAbsent o
    → IsAbsent (worded x q o)
worded_absent x (Ok p) o a b = absurd a
worded_absent x (Err k) o a b = b

words_absent : {X : Type 0} (xs : List (List ℕ × X)) (ys : List ℕ) (p : Spot) → no_word xs ys ≡ true
    → end_or_one ys p.left ≡ true → IsAbsent (first_word xs p)
words_absent [] ys p n e = tt
words_absent (x ∷ []) ys p n e =
    let ns = both_true (no_first x.0 ys) true n in
    worded_absent x.1 (word_at x.0 p) _ (word_absent x.0 p (no_first_starts x.0 ys p.left ns.0 e)) tt
words_absent (x ∷ y ∷ xs) ys p n e =
    let ns = both_true (no_first x.0 ys) (no_word (y ∷ xs) ys) n in
    worded_absent x.1 (word_at x.0 p) _ (word_absent x.0 p (no_first_starts x.0 ys p.left ns.0 e))
    (words_absent (y ∷ xs) ys p ns.1 e)

either_absent : {X : Type 0} (a b : Result X Kind) → IsAbsent a → IsAbsent b → IsAbsent (either a b)
either_absent (Ok x) b h k = absurd h
either_absent (Err j) b h k = k

else_absent : {X : Type 0} (q : Result (X × Spot) Kind) (f : X → Spot → Reply) (g : Unit {0} → Reply) → IsAbsent q
    → else_word q f g ≡ g tt
else_absent (Ok x) f g a = absurd a
else_absent (Err k) f g a = refl

-- all the words of an expression
abbrev apart_from_words : List ℕ → Bool
apart_from_words ys =
    no_word prefix_words ys && (no_word call_words ys && (no_word cast_words ys
    && (no_word query_words ys && no_word member_words ys)))

no_expression_word : (ys : List ℕ) (p : Spot) → apart_from_words ys ≡ true → end_or_one ys p.left ≡ true
    → IsAbsent (expression_word_at p)
unfolding expression_word_at prefix_word_at call_word_at cast_word_at query_word_at member_word_at
no_expression_word ys p a e =
    let bs = both_true (no_word prefix_words ys) _ a in
    let cs = both_true (no_word call_words ys) _ bs.1 in
    let ds = both_true (no_word cast_words ys) _ cs.1 in
    let es = both_true (no_word query_words ys) (no_word member_words ys) ds.1 in
    either_absent (first_word prefix_words p) _ (words_absent prefix_words ys p bs.0 e)
    (either_absent (first_word call_words p) _ (words_absent call_words ys p cs.0 e)
    (either_absent (first_word cast_words p) _ (words_absent cast_words ys p ds.0 e)
    (either_absent (first_word query_words p) _ (words_absent query_words ys p es.0 e)
    (words_absent member_words ys p es.1 e))))

-- ---- no fold, no new and no delete
none_starts : (a b c d n : Bool) → a ≡ false → b ≡ false → c ≡ false → d ≡ false
    → ((a || (b || (c || false))) || (d && n)) ≡ false
none_starts a b c d n p q r s = rw (p, q, r, s) refl

no_fold : (ys bs : List ℕ) → none_of (λ x. 102 == x) ys ≡ true → end_or_one ys bs ≡ true → fold_next bs ≡ false
unfolding fold_next
no_fold ys bs n e =
    none_starts (starts (codes "fl") bs) (starts (codes "fr") bs) (starts (codes "fR") bs) (starts (codes "fL") bs)
    (no_digit (drop 2 bs)) (no_start 102 (codes "l") ys bs n e) (no_start 102 (codes "r") ys bs n e)
    (no_start 102 (codes "R") ys bs n e) (no_start 102 (codes "L") ys bs n e)

if_not : (z : Bool) (x y : Reply) → z ≡ false → (if z then x else y) ≡ y
if_not true x y e = absurd (cc)
if_not false x y e = refl

if_enough : (z : Bool) (o : Out) → IsPassed o → IsPassed (if z then o else No false (Unread End))
if_enough true o h = h
if_enough false o h = tt

module _ (go : Go) (c : Bool) (s : Here) (ys : List ℕ) (e : end_or_one ys s.spot.left ≡ true) where
  no_allocation : none_of (λ x. 110 == x) ys ≡ true → none_of (λ x. 100 == x) ys ≡ true
      → IsPassed (allocation_at plain_forms go c s)
  unfolding allocation_at new_at delete_at
  no_allocation n d =
      if_enough (nat_le 2 (length s.spot.left)) _
      (both_passed _ _ (word_passed (codes "nw") s.spot _ (no_start 110 (codes "w") ys s.spot.left n e))
      (both_passed _ _ (word_passed (codes "na") s.spot _ (no_start 110 (codes "a") ys s.spot.left n e))
      (both_passed _ _ (word_passed (codes "dl") s.spot _ (no_start 100 (codes "l") ys s.spot.left d e))
      (word_passed (codes "da") s.spot _ (no_start 100 (codes "a") ys s.spot.left d e)))))

  to_parameters : apart_from_words ys ≡ true → none_of (λ x. 102 == x) ys ≡ true → none_of (λ x. 103 == x) ys ≡ true
      → none_of (λ x. 110 == x) ys ≡ true → none_of (λ x. 100 == x) ys ≡ true
      → expression_at go c s ≡ parameters_at go c s
  unfolding expression_at names_at parameters_at global_allocation_at
  to_parameters w f g n d =
      else_absent (expression_word_at s.spot) _ _ (no_expression_word ys s.spot w e)
      ∙ if_not (fold_next s.spot.left) _ _ (no_fold ys s.spot.left f e)
      ∙ passed_on _ _ (word_passed (codes "gs") s.spot _ (no_start 103 (codes "s") ys s.spot.left g e))
      ∙ passed_on _ _ (no_allocation n d)

  to_references : IsMissed (go Row.template_param c s []) → IsMissed (go Row.function_param c s [])
      → parameters_at go c s ≡ references_at go c s
  unfolding parameters_at
  to_references t f =
      passed_on _ _ (row_passed (go Row.template_param c s []) _ t)
      ∙ passed_on _ _ (row_passed (go Row.function_param c s []) _ f)

  to_literals : IsMissed (go Row.unresolved_name c s []) → references_at go c s ≡ literals_at go c s
  unfolding references_at literals_at
  to_literals u = passed_on _ _ (row_passed (go Row.unresolved_name c s []) _ u)

  to_operators : IsMissed (go Row.expr_primary c s []) → literals_at go c s ≡ operators_at go c s
  unfolding literals_at
  to_operators l = passed_on _ _ (row_passed (go Row.expr_primary c s []) _ l)

digits_or_end : (bs : List ℕ) → next_is Class.digits bs ≡ true → end_or_one (codes "0123456789") bs ≡ true
digits_or_end bs e = digit_or_one [] bs (ap (λ z. z || next_is (Class.these []) bs) e)

-- ---- where the next bytes leave these alternatives, the expression is what they answer
pub expression_starts : (x : ExpressionStart) (f : ℕ) (c : Bool) (s : Here) → 4 ≤ f
    → leaves_expression x s.spot.left ≡ true
    → expression_at (cread f) c s ≡ expression_from x (cread f) c s
unfolding rule takes_in first_in idle_in
expression_starts of_start.All f c s l e = refl
expression_starts of_start.Parameters f c s l e =
    let n = one_or_end (codes "T") s.spot.left e in
    to_parameters (cread f) c s (codes "T") n refl refl refl refl refl
expression_starts of_start.UnresolvedNames f c s l e =
    let xs = codes "0123456789" in
    let n = digits_or_end s.spot.left e in
    to_parameters (cread f) c s xs n refl refl refl refl refl
    ∙ to_references (cread f) c s xs n (apart_missed Row.template_param 4 xs f c s refl l n)
    (apart_missed Row.function_param 4 xs f c s refl l n)
expression_starts of_start.Literals f c s l e =
    let xs = codes "L" in
    let n = one_or_end xs s.spot.left e in
    to_parameters (cread f) c s xs n refl refl refl refl refl
    ∙ to_references (cread f) c s xs n (apart_missed Row.template_param 4 xs f c s refl l n)
    (apart_missed Row.function_param 4 xs f c s refl l n)
    ∙ to_literals (cread f) c s xs n (apart_missed Row.unresolved_name 4 xs f c s refl l n)
expression_starts of_start.Operators f c s l e =
    let xs = codes "E_" in
    to_parameters (cread f) c s xs e refl refl refl refl refl
    ∙ to_references (cread f) c s xs e (apart_missed Row.template_param 4 xs f c s refl l e)
    (apart_missed Row.function_param 4 xs f c s refl l e)
    ∙ to_literals (cread f) c s xs e (apart_missed Row.unresolved_name 4 xs f c s refl l e)
    ∙ to_operators (cread f) c s xs e (apart_missed Row.expr_primary 4 xs f c s refl l e)
