-- The rows of constructors and destructors, of closures, and the alternatives of an unqualified name are their parts.
use Rattle.std.specs.Prelude.{codes, nat_le, length, pos}
use Rattle.std.proofs.Common.{◌≡◌, refl, ℕ, zero, suc, Bool, false, List, [], ◌∷◌, ◌++◌, Result, Ok, Err}
use Rattle.demangle_core.specs.Core.{Core, Tag, node, number, end}
use Rattle.demangle_text.specs.Kind.{Kind, Unread, Text}
use Rattle.demangle_text.specs.Number.{natural_from}
use Rattle.demangle_text.specs.Spot.{Spot}
use Rattle.demangle_text.specs.Word.{word_at}
use Rattle.demangle_grammar.specs.Rule.{Row}
use Rattle.demangle_grammar.specs.Items.{Item, ◌·◌, ◌//◌, w, t, made, commit, present, absent, fail}
use Rattle.demangle_grammar.specs.Rows.{rule, constructors}
use Rattle.demangle_grammar.specs.Code.{joined, at, Go, Here, Out, Yes, No, close, or_else, and_then, read_spot}
use Rattle.demangle_grammar.specs.Code.{Found, committed, read_leaf, some_at, cread}
use Rattle.demangle_grammar.specs.Parts.{alone, worded, missing_kind, else_spot}
use Rattle.demangle_forms.specs.WordForms.{or_text, number_or_none, optional_unsigned_at}
use Rattle.demangle_forms.specs.NameForms.{unqualified_rest_at}
use Rattle.demangle_forms.specs.UnqualifiedForms.{constructor_words, constructor_at, destructor_at}
use Rattle.demangle_forms.specs.UnqualifiedForms.{inherited_from, inherited_at, constructor_from, constructed_at}
use Rattle.demangle_forms.specs.UnqualifiedForms.{destructor_from, ctor_dtor_name_at, ctor_dtor_name_row}
use Rattle.demangle_forms.specs.UnqualifiedForms.{closure_type_name_row, lambda_sig_row}
use Rattle.demangle_forms.specs.UnqualifiedForms.{ctor_dtor_alternative, local_alternative, source_alternative}
use Rattle.demangle_forms.specs.UnqualifiedForms.{unnamed_at, unqualified_alternatives}
use Rattle.demangle_forms.proofs.Alternatives.{or_last, words_are, row_behind, spot_behind}
use Rattle.demangle_forms.proofs.WordLaws.{spot_then, enough_left}

-- ---- constructors and destructors
abbrev destructors : Item
destructors k =
    (w "D0" · made Tag.CtorDtorNameDeletingDestructor // w "D1" · made Tag.CtorDtorNameCompleteDestructor
    // w "D2" · made Tag.CtorDtorNameBaseDestructor // w "D4" · made Tag.CtorDtorNameMaybeInChargeDestructor
    // fail) k

abbrev from_constructors : Item
from_constructors k = (w "C" · commit · constructors absent // destructors) k

abbrev from_inherited : Item
from_inherited k = (w "CI" · commit · constructors (present t) // from_constructors) k

abbrev one_of_four : Here → (a b d e : Result Spot Kind) → Out
one_of_four s a b d e =
    or_else (read_spot a (λ p. destructor_from s Tag.CtorDtorNameDeletingDestructor p)) (λ u.
    or_else (read_spot b (λ p. destructor_from s Tag.CtorDtorNameCompleteDestructor p)) (λ u.
    or_else (read_spot d (λ p. destructor_from s Tag.CtorDtorNameBaseDestructor p)) (λ u.
    or_else (read_spot e (λ p. destructor_from s Tag.CtorDtorNameMaybeInChargeDestructor p))
    (λ u. No false (Unread Text)))))

one_is : (s : Here) (a b d e : Result Spot Kind) → close (one_of_four s a b d e)
    ≡ close (read_leaf (or_text (worded Tag.CtorDtorNameDeletingDestructor a
    (worded Tag.CtorDtorNameCompleteDestructor b (worded Tag.CtorDtorNameBaseDestructor d
    (worded Tag.CtorDtorNameMaybeInChargeDestructor e (Err (missing_kind e))))))) (λ x p. destructor_from s x p))
one_is s (Ok p) b d e = refl
one_is s (Err i) (Ok p) d e = refl
one_is s (Err i) (Err j) (Ok p) e = refl
one_is s (Err i) (Err j) (Err k) (Ok p) = refl
one_is s (Err i) (Err j) (Err k) (Err l) = refl

module _ (go : Go) (c : Bool) (s : Here) where
  destructors_are : close (alone destructors go c s)
      ≡ close (read_leaf (destructor_at s.spot) (λ x p. destructor_from s x p))
  unfolding destructor_at
  destructors_are =
      one_is s (word_at (codes "D0") s.spot) (word_at (codes "D1") s.spot) (word_at (codes "D2") s.spot)
      (word_at (codes "D4") s.spot)

  constructors_are : (m : Here) → close (alone (constructors absent) go c m) ≡ constructed_at go c m
  unfolding constructor_at
  constructors_are m = words_are (λ x p. constructor_from go c m x p) constructor_words m.spot

  inherited_are : (m : Here) → close (alone (constructors (present t)) go c m) ≡ inherited_at go c m
  unfolding constructor_at inherited_at
  inherited_are m = words_are (λ x p. inherited_from go c m x p) constructor_words m.spot

  ctor_dtor_is : close (alone from_inherited go c s) ≡ ctor_dtor_name_at go c s
  ctor_dtor_is =
      spot_then (word_at (codes "CI") s.spot) (λ p. alone (constructors (present t)) go c (at s p))
      (λ u. alone from_constructors go c s) (λ p. inherited_at go c (at s p)) _ (λ p. inherited_are (at s p))
      (spot_then (word_at (codes "C") s.spot) (λ p. alone (constructors absent) go c (at s p))
      (λ u. alone destructors go c s) (λ p. constructed_at go c (at s p)) _ (λ p. constructors_are (at s p))
      destructors_are)

pub ctor_dtor_name_row_is : (f : ℕ) (c : Bool) (s : Here)
    → cread f Row.ctor_dtor_name c s [] ≡ ctor_dtor_name_row f c s
unfolding cread rule ctor_dtor_name_row
ctor_dtor_name_row_is zero c s = refl
ctor_dtor_name_row_is (suc f) c s =
    enough_left (nat_le 1 (length s.spot.left)) (alone from_inherited (cread f) c s) _ (ctor_dtor_is (cread f) c s)

-- ---- closures
-- the number as a part behind another one
abbrev numbered : Result (ℕ × Spot) Kind → Here → List Core → Out
numbered z m acc =
    or_else (and_then (read_leaf z (λ v p. Yes (at m p) (number (pos v) end ∷ [])))
    (λ n b. Yes n (acc ++ node Tag.Present (joined b) end ∷ [])))
    (λ u. Yes m (acc ++ node Tag.Absent end end ∷ []))

closure_end_is : (x : Core) (m : Here) (z : Result (ℕ × Spot) Kind)
    → close (and_then (numbered z m (x ∷ []))
    (λ n b. read_spot (word_at (codes "_") n.spot) (λ q. Yes (at n q) (node Tag.ClosureTypeName (joined b) end ∷ []))))
    ≡ close (read_spot (word_at (codes "_") (number_or_none z m.spot).1)
    (λ q. Yes (at m q) (node Tag.ClosureTypeName (joined (x ∷ (number_or_none z m.spot).0 ∷ [])) end ∷ [])))
closure_end_is x m (Ok v) = refl
closure_end_is x m (Err k) = refl

pub closure_type_name_row_is : (f : ℕ) (c : Bool) (s : Here)
    → cread f Row.closure_type_name c s [] ≡ closure_type_name_row f c s
unfolding cread rule closure_type_name_row optional_unsigned_at
closure_type_name_row_is zero c s = refl
closure_type_name_row_is (suc f) c s =
    spot_behind (word_at (codes "Ul") s.spot) _ _ (λ p. row_behind (cread f Row.lambda_sig c (at s p) []) _ _
    (λ m x. spot_behind (word_at (codes "E") m.spot) _ _
    (λ q. closure_end_is x (at m q) (natural_from 10 q))))

-- ---- the signature of a closure
signature_is : (s : Here) (q : Result Spot Kind) (o : Out)
    → close (and_then (or_else (read_spot q (λ p. committed (Yes (at s p) (node Tag.Several end end ∷ []))))
    (λ u. and_then o (λ m b. Yes m b))) (λ m b. Yes m (node Tag.LambdaSig (joined b) end ∷ [])))
    ≡ else_spot q (λ p. Found (node Tag.LambdaSig (node Tag.Several end end) end) (at s p))
    (λ u. close (and_then o (λ m b. Yes m (node Tag.LambdaSig (joined b) end ∷ []))))
signature_is s (Ok p) o = refl
signature_is s (Err k) (Yes m b) = refl
signature_is s (Err k) (No h j) = refl

pub lambda_sig_row_is : (f : ℕ) (c : Bool) (s : Here) → cread f Row.lambda_sig c s [] ≡ lambda_sig_row f c s
unfolding cread rule lambda_sig_row
lambda_sig_row_is zero c s = refl
lambda_sig_row_is (suc f) c s =
    signature_is s (word_at (codes "v") s.spot) (some_at (cread f) c Row.type_handle Row.type_handle s)

-- ---- an unqualified name that is no operator's
pub unqualified_rest_is : (go : Go) (c : Bool) (s : Here)
    → unqualified_rest_at go c s ≡ unqualified_alternatives go c s
unfolding unqualified_rest_at unqualified_alternatives unnamed_at
unqualified_rest_is go c s =
    or_last (alone ctor_dtor_alternative go c s) _ _ (or_last (alone local_alternative go c s) _ _
    (or_last (alone source_alternative go c s) _ _ refl))
