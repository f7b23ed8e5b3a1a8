-- The rows of expressions are their parts.
use Rattle.std.specs.Prelude.{codes, if◌then◌else◌, ◌||◌, ◌==◌}
use Rattle.std.proofs.Common.{◌≡◌, refl, ap, ◌∙◌, ℕ, zero, suc, Bool, true, false, List, [], ◌∷◌, ◌++◌, Result}
use Rattle.std.proofs.Common.{Ok, Err}
use Rattle.std.proofs.Math.Path.{fun_ext}
use Rattle.std.specs.Prelude.{ℤ, pos}
use Rattle.demangle_core.specs.Core.{Core, Tag, node, number, end}
use Rattle.demangle_text.specs.Kind.{Kind, Unread, Text}
use Rattle.demangle_text.specs.Spot.{Spot}
use Rattle.demangle_text.specs.Word.{word_at}
use Rattle.demangle_text.specs.Number.{number_from}
use Rattle.demangle_grammar.specs.Rule.{Row, Cond}
use Rattle.demangle_grammar.specs.Items.{◌·◌, r, e, w, vec, need, commit, made}
use Rattle.demangle_grammar.specs.Rows.{rule, calls, casts, members, names, operators, of_expression}
use Rattle.demangle_grammar.specs.Reading.{any_starts, arity_in, holds}
use Rattle.demangle_grammar.specs.Code.{joined, at, Go, Here, Reply, Found, Refused, Out, Yes, No, close, committed}
use Rattle.demangle_grammar.specs.Code.{or_else, and_then, from_row, read_spot, read_leaf, crun, cread}
use Rattle.demangle_grammar.specs.Parts.{alone, first_word, else_word}
use Rattle.demangle_forms.specs.ExpressionForms.{Head, prefix_words, call_words, cast_words, query_words}
use Rattle.demangle_forms.specs.ExpressionForms.{member_words, prefix_word_at, call_word_at, cast_word_at}
use Rattle.demangle_forms.specs.ExpressionForms.{query_word_at, member_word_at, expression_word_at}
use Rattle.demangle_forms.specs.ExpressionForms.{of_expression_at, of_type_at, cast_at, access_at, call_at}
use Rattle.demangle_forms.specs.ExpressionForms.{conversion_at, braces_at, list_at, subobject_at, member_pointer_at}
use Rattle.demangle_forms.specs.ExpressionForms.{sizeof_pack_at, captured_pack_at, worded_at}
use Rattle.demangle_forms.specs.ExpressionForms.{new_at, delete_at, plain_forms, allocation_at}
use Rattle.demangle_forms.specs.ExpressionForms.{global_allocation_at, unary_at, binary_at, ternary_at, operands_at}
use Rattle.demangle_forms.specs.ExpressionForms.{operators_at, references_at, names_at, fold_next, fold_or_name_at}
use Rattle.demangle_forms.specs.ExpressionForms.{expression_at, expression_row}
use Rattle.demangle_forms.specs.ExpressionForms.{offset_or_zero, offset_at, subobject_end, subobject_expr_row, Fold}
use Rattle.demangle_forms.specs.ExpressionForms.{fold_words, fold_word_at, fold_operator_at}
use Rattle.demangle_forms.specs.ExpressionForms.{folded_at, fold_from, fold_expr_row}
use Rattle.demangle_forms.proofs.Alternatives.{or_last, stays, marked_words, marked_are, marked_in, row_behind}
use Rattle.demangle_forms.proofs.Alternatives.{spot_behind}
use Rattle.demangle_forms.specs.WordForms.{either, or_text}

-- ---- words of several lists
word_next : {X : Type 0} (a b : Result (X × Spot) Kind) (f : X → Spot → Reply) (g : Unit {0} → Reply)
    → else_word a f (λ u. else_word b f g) ≡ else_word (either a b) f g
word_next (Ok x) b f g = refl
word_next (Err k) b f g = refl

all_words : {X : Type 0} (a b d x y : Result (X × Spot) Kind) (f : X → Spot → Reply) (g : Unit {0} → Reply)
    → else_word a f (λ u. else_word b f (λ u. else_word d f (λ u. else_word x f (λ u. else_word y f g))))
    ≡ else_word (either a (either b (either d (either x y)))) f g
all_words a b d x y f g =
    ap (λ z. else_word a f (λ u. z))
    (ap (λ z. else_word b f (λ u. z))
    (ap (λ z. else_word d f (λ u. z)) (word_next x y f g) ∙ word_next d (either x y) f g)
    ∙ word_next b (either d (either x y)) f g)
    ∙ word_next a (either b (either d (either x y))) f g

-- ---- folds
folds_are : (a b : Bool) (o rest : Out)
    → close (or_else (or_else (if a then committed o else No false (Unread Text))
    (λ u. if b then committed o else No false (Unread Text))) (λ u. rest))
    ≡ (if a || b then close o else close rest)
folds_are true b (Yes s acc) rest = refl
folds_are true b (No h k) rest = refl
folds_are false true (Yes s acc) rest = refl
folds_are false true (No h k) rest = refl
folds_are false false o rest = refl

-- ---- operators
operands_are : (a b d : Bool) (x y z : Out)
    → close (or_else (if a then committed x else No false (Unread Text))
    (λ u. or_else (if b then committed y else No false (Unread Text))
    (λ u. or_else (if d then committed z else No false (Unread Text)) (λ u. No false (Unread Text)))))
    ≡ close (if a then x else (if b then y else (if d then z else No false (Unread Text))))
operands_are true b d x y z = stays x _
operands_are false true d x y z = stays y _
operands_are false false true x y z = stays z _
operands_are false false false x y z = refl

module _ (go : Go) (c : Bool) (s : Here) where
  operators_are : close (alone operators go c s) ≡ operators_at go c s
  unfolding operators_at operands_at unary_at binary_at ternary_at
  operators_are =
      row_behind (go Row.operator_name c s []) _ (λ m x. operands_at x go c m)
      (λ m x. operands_are (arity_in x == 1) (arity_in x == 2) (arity_in x == 3) (unary_at x go c m)
      (binary_at x go c m) (ternary_at x go c m))

  references_are : close (or_else (alone (r Row.unresolved_name · made Tag.ExpressionUnresolvedName) go c s) (λ _.
      or_else (alone (r Row.expr_primary · made Tag.ExpressionPrimary) go c s) (λ u. alone operators go c s)))
      ≡ references_at go c s
  unfolding references_at
  references_are =
      or_last (alone (r Row.unresolved_name · made Tag.ExpressionUnresolvedName) go c s) _ _
      (or_last (alone (r Row.expr_primary · made Tag.ExpressionPrimary) go c s) _ _ operators_are)

  names_are : close (alone names go c s) ≡ names_at go c s
  unfolding names_at global_allocation_at allocation_at new_at delete_at
  names_are =
      or_last (global_allocation_at go c s) _ _ (or_last (allocation_at plain_forms go c s) _ _
      (or_last (alone (r Row.template_param · made Tag.ExpressionTemplateParam) go c s) _ _
      (or_last (alone (r Row.function_param · made Tag.ExpressionFunctionParam) go c s) _ _ references_are)))

  abbrev by : Head → Spot → Out
  by x p = worded_at x go c (at s p)

  abbrev shown : Head → Spot → Reply
  shown x p = close (worded_at x go c (at s p))

  abbrev fold : Out
  fold = alone (r Row.fold_expr · made Tag.ExpressionFold) go c s

  abbrev first_folds : Out
  first_folds = alone (need (Cond.ahead (codes "fl" ∷ codes "fr" ∷ codes "fR" ∷ [])) · commit · r Row.fold_expr · made
      Tag.ExpressionFold) go c s

  abbrev left_fold : Out
  left_fold = alone (need (Cond.ahead_no_digit (codes "fL")) · commit · r Row.fold_expr · made Tag.ExpressionFold) go
      c s

  abbrev name_part : Out
  name_part = alone names go c s

  abbrev member_part : Out
  member_part = or_else (alone members go c s) (λ u. name_part)

  abbrev cast_part : Out
  cast_part = or_else (alone casts go c s) (λ u. member_part)

  abbrev call_part : Out
  call_part = or_else (alone calls go c s) (λ u. cast_part)

  abbrev members_shown : Reply
  members_shown = else_word (member_word_at s.spot) shown (λ u. fold_or_name_at go c s)

  abbrev casts_shown : Reply
  casts_shown = else_word (cast_word_at s.spot) shown (λ u. else_word (query_word_at s.spot) shown (λ u. members_shown))

  abbrev calls_shown : Reply
  calls_shown = else_word (call_word_at s.spot) shown (λ u. casts_shown)

  members_are : close member_part ≡ members_shown
  unfolding member_word_at fold_next of_expression_at access_at subobject_at member_pointer_at sizeof_pack_at
      captured_pack_at
  members_are =
      ap close (marked_in by member_words s.spot (λ u. or_else first_folds (λ u. left_fold)) (λ u. name_part))
      ∙ marked_are by member_words s.spot (λ u. or_else (or_else first_folds (λ u. left_fold))
      (λ u. name_part)) (fold_or_name_at go c s)
      (folds_are (any_starts (codes "fl" ∷ codes "fr" ∷ codes "fR" ∷ []) s.spot.left) (holds (Cond.ahead_no_digit
      (codes "fL")) s.spot.left end) fold name_part
      ∙ ap (λ a. if fold_next s.spot.left then close fold else a) names_are)

  abbrev query_front : List (List ℕ × Head)
  query_front =
      (codes "ti", Head.of_type Tag.ExpressionTypeidType) ∷ (codes "te", Head.of_expression Tag.ExpressionTypeidExpr)
      ∷ (codes "st", Head.of_type Tag.ExpressionSizeofType) ∷ (codes "sz", Head.of_expression Tag.ExpressionSizeofExpr)
      ∷ (codes "at", Head.of_type Tag.ExpressionAlignofType) ∷
      (codes "az", Head.of_expression Tag.ExpressionAlignofExpr) ∷ []

  casts_are : close cast_part ≡ casts_shown
  unfolding cast_word_at query_word_at cast_at of_type_at of_expression_at
  casts_are =
      ap close (marked_in by (cast_words ++ query_front) s.spot
      (λ u. alone (of_expression "nx" Tag.ExpressionNoexcept) go c s) (λ u. member_part))
      ∙ marked_are by cast_words s.spot (λ u. marked_words by query_words s.spot
      (λ u. member_part)) (else_word (query_word_at s.spot) shown (λ u. members_shown))
      (marked_are by query_words s.spot (λ u. member_part) members_shown members_are)

  abbrev call_front : List (List ℕ × Head)
  call_front = (codes "cl", Head.call) ∷ (codes "cv", Head.conversion) ∷ (codes "tl", Head.braces) ∷ []

  calls_are : close call_part ≡ calls_shown
  unfolding call_word_at call_at conversion_at braces_at list_at
  calls_are =
      ap close (marked_in by call_front s.spot (λ u. alone (w "il" · commit · vec e · w "E" · made
      Tag.ExpressionBracedInitList) go c s) (λ u. cast_part))
      ∙ marked_are by call_words s.spot (λ u. cast_part) casts_shown casts_are

  expression_is : close (crun go c (rule Row.expression) s []) ≡ expression_at go c s
  unfolding rule expression_at expression_word_at prefix_word_at of_expression_at
  expression_is =
      marked_are by prefix_words s.spot (λ u. call_part) calls_shown calls_are
      ∙ all_words (first_word prefix_words s.spot) (call_word_at s.spot) (cast_word_at s.spot) (query_word_at s.spot)
      (member_word_at s.spot) shown (λ u. fold_or_name_at go c s)

pub expression_row_is : (f : ℕ) (c : Bool) (s : Here) → cread f Row.expression c s [] ≡ expression_row f c s
unfolding cread expression_row
expression_row_is zero c s = refl
expression_row_is (suc f) c s = expression_is (cread f) c s

-- ---- a part of an object
offset_is : (s : Here) (acc : List Core)
    → and_then (or_else (read_leaf (number_from 10 true s.spot) (λ v p. Yes (at s p) (acc ++ number v end ∷ [])))
    (λ u. Yes s (acc ++ number (pos 0) end ∷ [])))
    (λ m b. read_spot (word_at (codes "E") m.spot) (λ p. Yes (at m p) (node Tag.SubobjectExpr (joined b) end ∷ [])))
    ≡ subobject_end s acc
unfolding offset_at
offset_is s acc = by (number_from 10 true s.spot)
  where
    by : (x : Result (ℤ × Spot) Kind)
        → and_then (or_else (read_leaf x (λ v p. Yes (at s p) (acc ++ number v end ∷ [])))
        (λ u. Yes s (acc ++ number (pos 0) end ∷ [])))
        (λ m b. read_spot (word_at (codes "E") m.spot) (λ p. Yes (at m p) (node Tag.SubobjectExpr
        (joined b) end ∷ [])))
        ≡ read_spot (word_at (codes "E") (offset_or_zero x s.spot).1)
        (λ p. Yes (at s p) (node Tag.SubobjectExpr (joined (acc ++ number
        (offset_or_zero x s.spot).0 end ∷ [])) end ∷ []))
    by (Ok x) = refl
    by (Err k) = refl

subobject_is : (go : Go) (c : Bool) (s : Here)
    → close (crun go c (rule Row.subobject_expr) s [])
    ≡ close (from_row (go Row.type_handle c s []) (λ m x. from_row (go Row.expression c m [])
    (λ n y. subobject_end n (x ∷ y ∷ []))))
unfolding rule
subobject_is go c s =
    ap close (ap (from_row (go Row.type_handle c s []))
    (fun_ext (λ m. fun_ext (λ x. ap (from_row (go Row.expression c m [])) (fun_ext (λ n. fun_ext
    (λ y. offset_is n (x ∷ y ∷ []))))))))

pub subobject_expr_row_is : (f : ℕ) (c : Bool) (s : Here) → cread f Row.subobject_expr c s [] ≡ subobject_expr_row f c s
unfolding cread subobject_expr_row
subobject_expr_row_is zero c s = refl
subobject_expr_row_is (suc f) c s = subobject_is (cread f) c s

-- ---- folds
text_then : {X : Type 0} (q : Result (X × Spot) Kind) (f : X → Spot → Out)
    → else_word q (λ x p. close (f x p)) (λ u. Refused (Unread Text)) ≡ close (read_leaf (or_text q) (λ x p. f x p))
text_then (Ok x) f = refl
text_then (Err k) f = refl

operator_then : (a : Reply) (z : Core → Bool) (g : Here → Core → Out)
    → from_row a (λ m x. if z x then g m x else No false (Unread Text))
    ≡ and_then (from_row a (λ m x. if z x then Yes m (x ∷ []) else No false (Unread Text))) (λ m b. g m (joined b))
operator_then (Found x m) z g = by (z x)
  where
    by : (y : Bool) → (if y then g m x else No false (Unread Text))
        ≡ and_then (if y then Yes m (x ∷ []) else No false (Unread Text)) (λ m b. g m (joined b))
    by true = refl
    by false = refl
operator_then (Refused k) z g = refl

module _ (go : Go) (c : Bool) (s : Here) where
  abbrev fold_by : Fold → Spot → Out
  fold_by x q =
      from_row (go Row.simple_operator_name c (at s q) []) (λ m y. if arity_in y == 2 then folded_at x y go c m else
      No false (Unread Text))

  fold_by_is : (x : Fold) (q : Spot) → fold_by x q ≡ fold_from go c s x q
  unfolding fold_operator_at
  fold_by_is x q = operator_then (go Row.simple_operator_name c (at s q) []) (λ y. arity_in y == 2)
      (λ m y. folded_at x y go c m)

  folds_by : (p : Spot) → close (marked_words fold_by fold_words p (λ u. No false (Unread Text)))
      ≡ close (read_leaf (fold_word_at p) (λ x q. fold_from go c s x q))
  unfolding fold_word_at
  folds_by p =
      marked_are fold_by fold_words p (λ u. No false (Unread Text)) (Refused (Unread Text)) refl
      ∙ (text_then (first_word fold_words p) fold_by
      ∙ ap (λ f. close (read_leaf (or_text (first_word fold_words p)) f)) (fun_ext (λ x. fun_ext
      (λ q. fold_by_is x q))))

  fold_is : close (crun go c (rule Row.fold_expr) s []) ≡ close (read_spot (word_at (codes "f") s.spot)
      (λ p. read_leaf (fold_word_at p) (λ x q. fold_from go c s x q)))
  unfolding rule folded_at
  fold_is =
      spot_behind (word_at (codes "f") s.spot) (λ p. marked_words fold_by fold_words p (λ u. No false (Unread Text)))
      (λ p. read_leaf (fold_word_at p) (λ x q. fold_from go c s x q)) folds_by

pub fold_expr_row_is : (f : ℕ) (c : Bool) (s : Here) → cread f Row.fold_expr c s [] ≡ fold_expr_row f c s
unfolding cread fold_expr_row
fold_expr_row_is zero c s = refl
fold_expr_row_is (suc f) c s = fold_is (cread f) c s
