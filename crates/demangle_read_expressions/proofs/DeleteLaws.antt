-- At the words of delete the other alternatives of an expression are passed over, but for the operators of the same
-- words.
use Rattle.std.specs.Prelude.{◌≤◌, ◌==◌, ◌&&◌, ◌++◌, nat_le, length, drop, codes, if◌then◌else◌}
use Rattle.std.proofs.Common.{◌≡◌, refl, ap, ◌∙◌, arith, ℕ, zero, suc, Bool, true, false, List, [], ◌∷◌, Ok, Err}
use Rattle.std.proofs.lemmas.Bool.{eqb-true, le-leb}
use Rattle.demangle_core.specs.Core.{Core, Tag, node, chosen, end}
use Rattle.demangle_text.specs.Kind.{Unread, Deep, Other, End}
use Rattle.demangle_text.specs.Spot.{Spot, skip}
use Rattle.demangle_text.specs.Found.{and_length, placed}
use Rattle.demangle_text.specs.Word.{starts, missing_word, word_at}
use Rattle.demangle_vocab.specs.WordTable.{table_from, word_read}
use Rattle.demangle_vocab.specs.Operators.{operator_words}
use Rattle.demangle_vocab.proofs.WordsFound.{reads_each}
use Rattle.demangle_grammar.specs.Rule.{Row}
use Rattle.demangle_grammar.specs.Items.{◌·◌, e, made}
use Rattle.demangle_grammar.specs.Rows.{rule}
use Rattle.demangle_grammar.specs.First.{takes_in, first_in, idle_in}
use Rattle.demangle_grammar.specs.Code.{at, Go, Here, Reply, Found, Refused, Out, Yes, No, close, or_else}
use Rattle.demangle_grammar.specs.Code.{from_row, read_spot, read_leaf, cread}
use Rattle.demangle_grammar.specs.Parts.{alone, else_row}
use Rattle.demangle_grammar.proofs.Truth.{both_true}
use Rattle.demangle_forms.specs.ExpressionForms.{new_at, delete_at, plain_forms, four_forms, allocation_at}
use Rattle.demangle_forms.specs.ExpressionForms.{global_allocation_at, unary_at, operands_at, operators_at}
use Rattle.demangle_forms.specs.ExpressionForms.{references_at, names_at, of_expression_at}
use Rattle.demangle_forms.proofs.Missed.{IsMissed, IsPassed, end_or_one, apart_missed, row_passed, word_passed}
use Rattle.demangle_forms.proofs.Missed.{no_start, both_passed, closed_missed, passed_on, passed_in}

-- the operator that is the word of this number in the table of operators
abbrev operator_name : ℕ → Core
operator_name k = node Tag.OperatorNameSimple (chosen 0 k end) end

-- ---- a word of two bytes at the front
two_bytes : (a b : ℕ) (bs : List ℕ) → starts (a ∷ b ∷ []) bs ≡ true → bs ≡ a ∷ b ∷ drop 2 bs
two_bytes a b [] e = absurd (cc)
two_bytes a b (x ∷ []) e = let es = both_true (a == x) false e in absurd (cc)
two_bytes a b (x ∷ y ∷ bs) e =
    let es = both_true (a == x) ((b == y) && true) e in
    let ds = both_true (b == y) true es.1 in
    let p = eqb-true a x es.0 in
    let q = eqb-true b y ds.0 in
    cc

word_is : (w : List ℕ) (p : Spot) → starts w p.left ≡ true → word_at w p ≡ Ok (skip (length w) p)
unfolding word_at
word_is w p e = ap (λ z. if z then Ok (skip (length w) p) else Err (Unread (missing_word w p.left))) e

operator_is : (k : ℕ) (before behind : List (List ℕ)) (w : List ℕ) (p : Spot) → operator_words ≡ before ++ w ∷ behind
    → length before ≡ k → starts w p.left ≡ true → table_from operator_words p ≡ Ok (k, skip (length w) p)
unfolding table_from word_read
operator_is k before behind w p q n e =
    ap (λ x. placed (and_length x) p) (reads_each operator_words refl before behind w p.left q e)
    ∙ ap (λ j. Ok (j, skip (length w) p)) n

-- ---- the operator is found
simple_found : (k n : ℕ) (c : Bool) (s : Here) (p : Spot) → table_from operator_words s.spot ≡ Ok (k, p)
    → cread (suc n) Row.simple_operator_name c s [] ≡ Found (chosen 0 k end) (at s p)
unfolding cread rule
simple_found k n c s p q = ap (λ x. close (read_leaf x (λ j m. Yes (at s m) (chosen 0 j end ∷ [])))) q

first_found : (x : Reply) (t : Core) (m : Here) (h : Core → Core) (g : Unit {0} → Out) → x ≡ Found t m
    → close (or_else (from_row x (λ n u. Yes n (h u ∷ []))) g) ≡ Found (h t) m
first_found x t m h g q = ap (λ y. close (or_else (from_row y (λ n u. Yes n (h u ∷ []))) g)) q

operator_found : (k f : ℕ) (c : Bool) (s : Here) (p : Spot) → 4 ≤ f → table_from operator_words s.spot ≡ Ok (k, p)
    → cread f Row.operator_name c s [] ≡ Found (operator_name k) (at s p)
unfolding cread rule
operator_found k zero c s p l q = absurd (omega (arith, l))
operator_found k (suc zero) c s p l q = absurd (omega (arith, l))
operator_found k (suc (suc n)) c s p l q =
    first_found (cread (suc n) Row.simple_operator_name c s []) (chosen 0 k end) (at s p)
    (λ t. node Tag.OperatorNameSimple t end) _ (simple_found k n c s p q)

-- ---- from the forms of new and delete to the operands
first_counts : (o : Out) (g : Unit {0} → Out) (f : Unit {0} → Reply) → IsPassed (g tt)
    → else_row (or_else o g) f ≡ else_row o f
first_counts (Yes s acc) g f h = refl
first_counts (No true k) g f h = refl
first_counts (No false k) g f h = passed_on (g tt) f h

-- where the operand of delete can't be read, the operator's can't
refused_alike : (x : Reply) (h : Core → Core) (g : Here → Core → Out)
    → else_row (from_row x (λ m t. Yes m (h t ∷ []))) (λ u. close (from_row x g))
    ≡ close (from_row x (λ m t. Yes m (h t ∷ [])))
refused_alike (Found t m) h g = refl
refused_alike (Refused (Unread u)) h g = refl
refused_alike (Refused Deep) h g = refl
refused_alike (Refused Other) h g = refl

module _ (go : Go) (c : Bool) (s : Here) where
  to_operands : (x : Core) (m : Here) → starts (codes "gs") s.spot.left ≡ false
      → IsMissed (go Row.template_param c s []) → IsMissed (go Row.function_param c s [])
      → IsMissed (go Row.unresolved_name c s []) → IsMissed (go Row.expr_primary c s [])
      → go Row.operator_name c s [] ≡ Found x m
      → names_at go c s ≡ else_row (allocation_at plain_forms go c s) (λ u. close (operands_at x go c m))
  unfolding names_at global_allocation_at references_at operators_at
  to_operands x m g t p u l q =
      passed_on _ _ (word_passed (codes "gs") s.spot _ g)
      ∙ ap (λ y. else_row (allocation_at plain_forms go c s) (λ u. y))
      (passed_on _ _ (row_passed (go Row.template_param c s []) _ t)
      ∙ passed_on _ _ (row_passed (go Row.function_param c s []) _ p)
      ∙ passed_on _ _ (row_passed (go Row.unresolved_name c s []) _ u)
      ∙ passed_on _ _ (row_passed (go Row.expr_primary c s []) _ l)
      ∙ ap (λ y. close (from_row y (λ n z. operands_at z go c n))) q)

  to_forms : (g : Unit {0} → Reply) → nat_le 2 (length s.spot.left) ≡ true
      → else_row (allocation_at plain_forms go c s) g ≡ else_row (four_forms plain_forms go c s) g
  unfolding allocation_at
  to_forms g n = ap (λ z. else_row (if z then four_forms plain_forms go c s else No false (Unread End)) g) n

  -- the word of delete that stands there, with the operator's operand behind it
  delete_word : (v : List ℕ) (x : Tag) (y : Core) → starts v s.spot.left ≡ true
      → else_row (delete_at v x go c s) (λ u. close (unary_at y go c (at s (skip (length v) s.spot))))
      ≡ close (of_expression_at x go c (at s (skip (length v) s.spot)))
  unfolding delete_at of_expression_at unary_at
  delete_word v x y n =
      ap (λ q. else_row (read_spot q (λ p. alone (e · made x) go c (at s p)))
      (λ u. close (unary_at y go c (at s (skip (length v) s.spot))))) (word_is v s.spot n)
      ∙ refused_alike (go Row.expression c (at s (skip (length v) s.spot)) []) (λ t. node x t end) _

  no_new : (v : List ℕ) (x : Tag) → starts v s.spot.left ≡ false → IsPassed (new_at v x go c s)
  unfolding new_at
  no_new v x n = word_passed v s.spot _ n

  no_delete : (v : List ℕ) (x : Tag) → starts v s.spot.left ≡ false → IsPassed (delete_at v x go c s)
  unfolding delete_at
  no_delete v x n = word_passed v s.spot _ n

  -- each of the two forms, where the words of the others don't stand there
  object_form : (g : Unit {0} → Reply) → starts (codes "nw") s.spot.left ≡ false
      → starts (codes "na") s.spot.left ≡ false → starts (codes "da") s.spot.left ≡ false
      → else_row (four_forms plain_forms go c s) g ≡ else_row (delete_at (codes "dl") Tag.ExpressionDelete go c s) g
  object_form g m n o =
      ap (λ x. else_row x g)
      (passed_in (new_at (codes "nw") Tag.ExpressionNew go c s) _ (no_new _ _ m)
      ∙ passed_in (new_at (codes "na") Tag.ExpressionNewArray go c s) _ (no_new _ _ n))
      ∙ first_counts (delete_at (codes "dl") Tag.ExpressionDelete go c s) _ g (no_delete _ _ o)

  array_form : (g : Unit {0} → Reply) → starts (codes "nw") s.spot.left ≡ false
      → starts (codes "na") s.spot.left ≡ false → starts (codes "dl") s.spot.left ≡ false
      → else_row (four_forms plain_forms go c s) g
      ≡ else_row (delete_at (codes "da") Tag.ExpressionDeleteArray go c s) g
  array_form g m n o =
      ap (λ x. else_row x g)
      (passed_in (new_at (codes "nw") Tag.ExpressionNew go c s) _ (no_new _ _ m)
      ∙ passed_in (new_at (codes "na") Tag.ExpressionNewArray go c s) _ (no_new _ _ n)
      ∙ passed_in (delete_at (codes "dl") Tag.ExpressionDelete go c s) _ (no_delete _ _ o))

-- ---- names with which nothing begins here
-- `d` may begin an unresolved name, but only where `n` follows
no_base : (f : ℕ) (c : Bool) (s : Here) → 2 ≤ f → end_or_one (codes "d") s.spot.left ≡ true
    → starts (codes "dn") s.spot.left ≡ false → IsMissed (cread (suc f) Row.base_unresolved_name c s [])
unfolding cread rule takes_in first_in idle_in
no_base f c s l z n =
    closed_missed _ (both_passed _ _
    (row_passed (cread f Row.simple_id c s []) _ (apart_missed Row.simple_id 2 (codes "d") f c s refl l z))
    (both_passed _ _ (word_passed (codes "on") s.spot _ (no_start 111 (codes "n") (codes "d") s.spot.left refl z))
    (word_passed (codes "dn") s.spot _ n)))

no_unresolved : (f : ℕ) (c : Bool) (s : Here) → 4 ≤ f → end_or_one (codes "d") s.spot.left ≡ true
    → starts (codes "dn") s.spot.left ≡ false → IsMissed (cread f Row.unresolved_name c s [])
unfolding cread rule
no_unresolved zero c s l z n = absurd (omega (arith, l))
no_unresolved (suc zero) c s l z n = absurd (omega (arith, l))
no_unresolved (suc (suc f)) c s l z n =
    closed_missed _ (both_passed _ _
    (word_passed (codes "gs") s.spot _ (no_start 103 (codes "s") (codes "d") s.spot.left refl z))
    (both_passed _ _
    (row_passed (cread (suc f) Row.base_unresolved_name c s []) _ (no_base f c s (omega (arith, l)) z n))
    (word_passed (codes "sr") s.spot _ (no_start 115 (codes "r") (codes "d") s.spot.left refl z))))

-- ---- by both bytes
module _ (f : ℕ) (c : Bool) (s : Here) (l : 4 ≤ f) (a b : ℕ) (h : starts (a ∷ b ∷ []) s.spot.left ≡ true) where
  abbrev bytes : List ℕ
  bytes = a ∷ b ∷ drop 2 s.spot.left

  not_there : (v : List ℕ) → starts v bytes ≡ false → starts v s.spot.left ≡ false
  not_there v n = ap (starts v) (two_bytes a b s.spot.left h) ∙ n

  next_of : (xs : List ℕ) → end_or_one xs bytes ≡ true → end_or_one xs s.spot.left ≡ true
  next_of xs n = ap (end_or_one xs) (two_bytes a b s.spot.left h) ∙ n

  enough : nat_le 2 (length s.spot.left) ≡ true
  enough =
      ap (λ bs. nat_le 2 (length bs)) (two_bytes a b s.spot.left h)
      ∙ le-leb 2 (length bytes) (omega arith)

  -- what the operator's operands are read by where no form is read
  abbrev operands : ℕ → Unit {0} → Reply
  operands k u = close (operands_at (operator_name k) (cread f) c (at s (skip 2 s.spot)))

  -- the k-th operator
  to_four : (k : ℕ) (before behind : List (List ℕ)) → operator_words ≡ before ++ (a ∷ b ∷ []) ∷ behind
      → length before ≡ k → end_or_one (codes "nd") bytes ≡ true → starts (codes "gs") bytes ≡ false
      → IsMissed (cread f Row.unresolved_name c s [])
      → names_at (cread f) c s ≡ else_row (four_forms plain_forms (cread f) c s) (operands k)
  unfolding rule takes_in first_in idle_in
  to_four k before behind ws n z g u =
      to_operands (cread f) c s (operator_name k) (at s (skip 2 s.spot)) (not_there (codes "gs") g)
      (apart_missed Row.template_param 4 (codes "nd") f c s refl l (next_of (codes "nd") z))
      (apart_missed Row.function_param 4 (codes "nd") f c s refl l (next_of (codes "nd") z)) u
      (apart_missed Row.expr_primary 4 (codes "nd") f c s refl l (next_of (codes "nd") z))
      (operator_found k f c s (skip 2 s.spot) l (operator_is k before behind (a ∷ b ∷ []) s.spot ws n h))
      ∙ to_forms (cread f) c s (operands k) enough

-- ---- what an expression is at each of the two words
pub delete_is : (f : ℕ) (c : Bool) (s : Here) → 4 ≤ f → starts (codes "dl") s.spot.left ≡ true
    → names_at (cread f) c s ≡ close (of_expression_at Tag.ExpressionDelete (cread f) c (at s (skip 2 s.spot)))
unfolding operands_at
delete_is f c s l h =
    to_four f c s l 100 108 h 2 (codes "nw" ∷ codes "na" ∷ []) (drop 3 operator_words) refl refl refl refl
    (no_unresolved f c s l (next_of f c s l 100 108 h (codes "d") refl)
    (not_there f c s l 100 108 h (codes "dn") refl))
    ∙ object_form (cread f) c s (operands f c s l 100 108 h 2) (not_there f c s l 100 108 h (codes "nw") refl)
    (not_there f c s l 100 108 h (codes "na") refl) (not_there f c s l 100 108 h (codes "da") refl)
    ∙ delete_word (cread f) c s (codes "dl") Tag.ExpressionDelete (operator_name 2) h

pub delete_array_is : (f : ℕ) (c : Bool) (s : Here) → 4 ≤ f → starts (codes "da") s.spot.left ≡ true
    → names_at (cread f) c s ≡ close (of_expression_at Tag.ExpressionDeleteArray (cread f) c (at s (skip 2 s.spot)))
unfolding operands_at
delete_array_is f c s l h =
    to_four f c s l 100 97 h 3 (codes "nw" ∷ codes "na" ∷ codes "dl" ∷ []) (drop 4 operator_words) refl refl refl refl
    (no_unresolved f c s l (next_of f c s l 100 97 h (codes "d") refl)
    (not_there f c s l 100 97 h (codes "dn") refl))
    ∙ array_form (cread f) c s (operands f c s l 100 97 h 3) (not_there f c s l 100 97 h (codes "nw") refl)
    (not_there f c s l 100 97 h (codes "na") refl) (not_there f c s l 100 97 h (codes "dl") refl)
    ∙ delete_word (cread f) c s (codes "da") Tag.ExpressionDeleteArray (operator_name 3) h

pub ruleset deletes = (delete_is, delete_array_is)
