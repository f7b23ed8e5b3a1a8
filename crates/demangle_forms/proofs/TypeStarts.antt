-- The alternatives of a type before those with which the next bytes leave it are passed over.
use Rattle.std.specs.Prelude.{◌≤◌, ◌&&◌, ◌||◌, ◌==◌, not, drop, codes, if◌then◌else◌}
use Rattle.std.proofs.Common.{◌≡◌, refl, sym, ap, subst, ◌∙◌, arith, ℕ, zero, suc, Bool, true, false, List, [], ◌∷◌}
use Rattle.demangle_core.specs.Core.{Core}
use Rattle.demangle_text.specs.Kind.{Unread, Deep, Other, Text}
use Rattle.demangle_text.specs.Word.{starts}
use Rattle.demangle_grammar.specs.Rule.{Row, Class}
use Rattle.demangle_grammar.specs.Items.{these}
use Rattle.demangle_grammar.specs.Reading.{next_is}
use Rattle.demangle_grammar.specs.Rows.{rule}
use Rattle.demangle_grammar.specs.First.{takes_in, first_in, idle_in, first, Misses}
use Rattle.demangle_grammar.specs.Code.{Go, Here, Reply, Found, Refused, Out, Yes, No, close, committed, or_else}
use Rattle.demangle_grammar.specs.Code.{from_row, cread}
use Rattle.demangle_grammar.specs.Parts.{else_row}
use Rattle.demangle_grammar.proofs.Truth.{both_true}
use Rattle.demangle_forms.specs.TypeForms.{type_extension_at, type_qualified_at, type_substitution_at, type_param_at}
use Rattle.demangle_forms.specs.TypeForms.{type_template_at, type_templates_at, type_shapes_at, type_names_at}
use Rattle.demangle_forms.specs.TypeForms.{type_marks_at, type_handle_at}
use Rattle.demangle_forms.specs.Starts.{TypeStart, leaves_type, type_from, found_or, qualified_types_at}
use Rattle.demangle_forms.specs.Starts.{referred_types_at, function_types_at, refers}
use Rattle.demangle_forms.proofs.Missed.{IsMissed, row_missed, none_of, is_apart, end_or_one, apart_missed}
use Rattle.demangle_forms.proofs.Missed.{no_start, one_or_end, digit_or_one, passed_in, IsPassed}
use Rattle.demangle_forms.proofs.Missed.{row_passed, word_passed, behind_passed, both_passed, closed_missed, passed_on}

-- ---- one alternative after the other
module _ (go : Go) (c : Bool) (s : Here) where
  to_qualified : IsMissed (go Row.builtin_type c s []) → starts (codes "U") s.spot.left ≡ false
      → type_handle_at go c s ≡ qualified_types_at go c s
  unfolding type_handle_at type_extension_at qualified_types_at
  to_qualified b u =
      passed_on _ _ (row_passed (go Row.builtin_type c s []) _ b) ∙ passed_on _ _ (word_passed (codes "U") s.spot _ u)

  to_names : IsMissed (go Row.some_cv_qualifiers c s []) → qualified_types_at go c s ≡ type_names_at go c s
  unfolding qualified_types_at type_qualified_at
  to_names q = passed_on _ _ (row_passed (go Row.some_cv_qualifiers c s []) _ q)

  to_functions : IsMissed (go Row.class_enum_type c s []) → IsMissed (go Row.substitution c s [])
      → type_names_at go c s ≡ function_types_at go c s
  unfolding type_names_at type_substitution_at function_types_at
  to_functions n q =
      passed_on _ _ (row_passed (go Row.class_enum_type c s []) _ n)
      ∙ passed_on _ _ (row_passed (go Row.substitution c s []) _ q)

  to_shapes : IsMissed (go Row.function_type c s []) → function_types_at go c s ≡ type_shapes_at go c s
  unfolding function_types_at
  to_shapes f = passed_on _ _ (row_passed (go Row.function_type c s []) _ f)

  to_templates : IsMissed (go Row.array_type c s []) → IsMissed (go Row.vector_type c s [])
      → IsMissed (go Row.pointer_to_member_type c s []) → type_shapes_at go c s ≡ type_templates_at go c s
  unfolding type_shapes_at
  to_templates a v m =
      passed_on _ _ (row_passed (go Row.array_type c s []) _ a)
      ∙ passed_on _ _ (row_passed (go Row.vector_type c s []) _ v)
      ∙ passed_on _ _ (row_passed (go Row.pointer_to_member_type c s []) _ m)

  to_marks : IsMissed (go Row.template_param c s []) → IsMissed (go Row.template_template_param_handle c s [])
      → IsMissed (go Row.decltype c s []) → type_templates_at go c s ≡ type_marks_at go c s
  unfolding type_templates_at type_param_at type_template_at
  to_marks p t d =
      passed_on _ _ (row_passed (go Row.template_param c s []) _ p)
      ∙ passed_on _ _ (row_passed (go Row.template_template_param_handle c s []) _ t)
      ∙ passed_on _ _ (row_passed (go Row.decltype c s []) _ d)

-- ---- what is passed over where levels enough are left
module _ (f : ℕ) (c : Bool) (s : Here) (l : 8 ≤ f) where
  gone : (r : Row) (xs : List ℕ) → is_apart r 8 xs ≡ true → end_or_one xs s.spot.left ≡ true
      → IsMissed (cread f r c s [])
  gone r xs a e = apart_missed r 8 xs f c s a l e

  from_qualified : (xs : List ℕ) → is_apart Row.builtin_type 8 xs ≡ true → none_of (λ b. 85 == b) xs ≡ true
      → end_or_one xs s.spot.left ≡ true → type_handle_at (cread f) c s ≡ qualified_types_at (cread f) c s
  from_qualified xs a u e =
      to_qualified (cread f) c s (gone Row.builtin_type xs a e) (no_start 85 [] xs s.spot.left u e)

  from_names : (xs : List ℕ) → is_apart Row.builtin_type 8 xs ≡ true → none_of (λ b. 85 == b) xs ≡ true
      → is_apart Row.some_cv_qualifiers 8 xs ≡ true → end_or_one xs s.spot.left ≡ true
      → type_handle_at (cread f) c s ≡ type_names_at (cread f) c s
  from_names xs a u q e =
      from_qualified xs a u e ∙ to_names (cread f) c s (gone Row.some_cv_qualifiers xs q e)

  from_shapes : (xs : List ℕ) → is_apart Row.substitution 8 xs ≡ true → is_apart Row.function_type 8 xs ≡ true
      → IsMissed (cread f Row.class_enum_type c s []) → end_or_one xs s.spot.left ≡ true
      → type_names_at (cread f) c s ≡ type_shapes_at (cread f) c s
  from_shapes xs r h n e =
      to_functions (cread f) c s n (gone Row.substitution xs r e)
      ∙ to_shapes (cread f) c s (gone Row.function_type xs h e)

  from_templates : (xs : List ℕ) → is_apart Row.array_type 8 xs ≡ true → is_apart Row.vector_type 8 xs ≡ true
      → is_apart Row.pointer_to_member_type 8 xs ≡ true → end_or_one xs s.spot.left ≡ true
      → type_shapes_at (cread f) c s ≡ type_templates_at (cread f) c s
  from_templates xs a v m e =
      to_templates (cread f) c s (gone Row.array_type xs a e) (gone Row.vector_type xs v e)
      (gone Row.pointer_to_member_type xs m e)

-- ---- a parameter is no class
abbrev numeral : List ℕ
numeral = codes "0123456789_"

no_class : (f : ℕ) (c : Bool) (s : Here) → 7 ≤ f → next_is (these "T") s.spot.left ≡ true
    → end_or_one numeral (drop 1 s.spot.left) ≡ true → IsMissed (cread (suc f) Row.class_enum_type c s [])
unfolding cread rule takes_in first_in idle_in
no_class f c s l e n =
    closed_missed _ (both_passed _ _
    (row_passed (cread f Row.name c s []) _
    (apart_missed Row.name 7 (codes "T") f c s refl l (one_or_end (codes "T") s.spot.left e)))
    (behind_passed (codes "T") s.spot _
    (both_passed _ _ (word_passed (codes "s") _ _ (no_start 115 [] numeral (drop 1 s.spot.left) refl n))
    (both_passed _ _ (word_passed (codes "u") _ _ (no_start 117 [] numeral (drop 1 s.spot.left) refl n))
    (word_passed (codes "e") _ _ (no_start 101 [] numeral (drop 1 s.spot.left) refl n))))))

-- ---- a reference where no arguments follow is no class
pub no_std : (bs : List ℕ) → refers bs ≡ true → starts (codes "St") bs ≡ false
no_std [] e = refl
no_std (b ∷ []) e = by (83 == b)
  where
    by : (z : Bool) → (z && false) ≡ false
    by true = refl
    by false = refl
no_std (b ∷ d ∷ bs) e = by (83 == b) (116 == d) e
  where
    by : (y z : Bool) → ((y || false) && not (z || false)) ≡ true → (y && (z && true)) ≡ false
    by true true e = absurd (cc)
    by true false e = refl
    by false z e = refl

pub reference_next : (bs : List ℕ) → refers bs ≡ true → end_or_one (codes "S") bs ≡ true
reference_next bs e =
    one_or_end (codes "S") bs (both_true (next_is (these "S") bs) (not (next_is (these "t") (drop 1 bs))) e).0

-- the levels play no part in it
same_reference : (m n : ℕ) (c : Bool) (s : Here)
    → cread (suc (suc m)) Row.substitution c s [] ≡ cread (suc (suc n)) Row.substitution c s []
unfolding cread rule
same_reference m n c s = refl

pub no_unscoped : (n : ℕ) (c : Bool) (s : Here) → 3 ≤ n → refers s.spot.left ≡ true
    → IsMissed (cread (suc n) Row.unscoped_name c s [])
unfolding cread rule takes_in first_in idle_in
no_unscoped n c s l e =
    closed_missed _ (both_passed _ _ (word_passed (codes "St") s.spot _ (no_std s.spot.left e))
    (row_passed (cread n Row.unqualified_name c s []) _
    (apart_missed Row.unqualified_name 3 (codes "S") n c s refl l (reference_next s.spot.left e))))

template_is_reference : (n : ℕ) (c : Bool) (s : Here) → 3 ≤ n → refers s.spot.left ≡ true
    → cread (suc (suc n)) Row.unscoped_template_name_handle c s []
    ≡ close (from_row (cread (suc n) Row.substitution c s []) (λ m t. Yes m (t ∷ [])))
unfolding cread rule
template_is_reference n c s l e =
    ap close (passed_in _ _ (row_passed (cread (suc n) Row.unscoped_name c s []) _ (no_unscoped n c s l e)))

no_arguments : (n : ℕ) (c : Bool) (s : Here) → 1 ≤ n → next_is (these "I") s.spot.left ≡ false
    → IsMissed (cread n Row.template_args c s [])
unfolding rule takes_in first_in idle_in
no_arguments n c s l e = row_missed Row.template_args n c s refl l (misses s.spot.left e)
  where
    misses : (bs : List ℕ) → next_is (these "I") bs ≡ false → Misses (first Row.template_args) bs
    misses [] e = tt
    misses (b ∷ bs) e = e

marked_missed : (x : Reply) (f : Here → Core → Out) (g : Unit {0} → Out) → IsMissed x
    → IsMissed (close (or_else (committed (from_row x f)) g))
marked_missed (Refused (Unread u)) f g m = tt
marked_missed (Refused Deep) f g m = absurd m
marked_missed (Refused Other) f g m = absurd m
marked_missed (Found t s) f g m = absurd m

missed_behind : (o : Out) (f : Unit {0} → Out) → IsPassed o → IsMissed (close (f tt)) → IsMissed (close (or_else o f))
missed_behind o f p h = subst (λ x. IsMissed (close x)) (sym (passed_in o f p)) h

missed_found : (x : Reply) (t : Core) (m : Here) (f : Here → Core → Out) (g : Unit {0} → Out) → x ≡ Found t m
    → IsMissed (close (or_else (f m t) g)) → IsMissed (close (or_else (from_row x f) g))
missed_found x t m f g e h = subst (λ y. IsMissed (close (or_else (from_row y f) g))) (sym e) h

module _ (n : ℕ) (c : Bool) (s m : Here) (t : Core) (l : 3 ≤ n) (e : refers s.spot.left ≡ true)
    (q : cread (suc n) Row.substitution c s [] ≡ Found t m) (i : next_is (these "I") m.spot.left ≡ false) where
  no_name : IsMissed (cread (suc (suc (suc n))) Row.name c s [])
  unfolding cread rule takes_in first_in idle_in
  no_name =
      let nested = apart_missed Row.nested_name 3 (codes "S") (suc (suc n)) c s refl (omega (arith, l))
      (reference_next s.spot.left e) in
      let unscoped = no_unscoped (suc n) c s (omega (arith, l)) e in
      let template = template_is_reference n c s l e
      ∙ ap (λ x. close (from_row x (λ k u. Yes k (u ∷ [])))) q in
      missed_behind _ _ (row_passed (cread (suc (suc n)) Row.nested_name c s []) _ nested)
      (missed_behind _ _ (row_passed (cread (suc (suc n)) Row.unscoped_name c s []) _ unscoped)
      (missed_behind _ _ (row_passed (cread (suc (suc n)) Row.unscoped_name c s []) _ unscoped)
      (missed_found (cread (suc (suc n)) Row.unscoped_template_name_handle c s []) t m _ _ template
      (marked_missed (cread (suc (suc n)) Row.template_args c m []) _ _
      (no_arguments (suc (suc n)) c m (omega (arith, l)) i)))))

  no_referred_class : IsMissed (cread (suc (suc (suc (suc n)))) Row.class_enum_type c s [])
  unfolding cread rule
  no_referred_class =
      closed_missed _ (both_passed _ _ (row_passed (cread (suc (suc (suc n))) Row.name c s []) _ no_name)
      (word_passed (codes "T") s.spot _ (no_start 84 [] (codes "S") s.spot.left refl (reference_next s.spot.left e))))

-- so it may be tried first
module _ (n : ℕ) (c : Bool) (s : Here) (l : 2 ≤ n) (e : refers s.spot.left ≡ true) where
  abbrev reads : Go
  reads = cread (suc (suc (suc (suc (suc n)))))

  abbrev unless_arguments : Here → Core → Out
  unless_arguments m t = if not (next_is (these "I") m.spot.left) then Yes m (t ∷ []) else No false (Unread Text)

  abbrev referred : Reply → Reply
  referred x =
      else_row (from_row x (λ m t. unless_arguments m t)) (λ u. function_types_at reads c s)

  found_first : (t : Core) (m : Here) → next_is (these "I") m.spot.left ≡ false
      → reads Row.substitution c s [] ≡ Found t m → type_names_at reads c s ≡ Found t m
  unfolding type_names_at type_substitution_at function_types_at
  found_first t m i q =
      passed_on _ _ (row_passed (reads Row.class_enum_type c s []) _
      (no_referred_class (suc n) c s m t (omega (arith, l)) e (same_reference n (suc (suc (suc n))) c s ∙ q) i))
      ∙ ap referred q
      ∙ ap (λ z. else_row (if not z then Yes m (t ∷ []) else No false (Unread Text))
      (λ u. function_types_at reads c s)) i

  unless_found : (t : Core) (m : Here) (z : Bool) → next_is (these "I") m.spot.left ≡ z
      → reads Row.substitution c s [] ≡ Found t m
      → found_or (if not z then Yes m (t ∷ []) else No false (Unread Text)) (λ u. type_names_at reads c s)
      ≡ type_names_at reads c s
  unless_found t m true i q = refl
  unless_found t m false i q = sym (found_first t m i q)

  by_reply : (x : Reply) → reads Row.substitution c s [] ≡ x
      → found_or (from_row x (λ m t. unless_arguments m t)) (λ u. type_names_at reads c s)
      ≡ type_names_at reads c s
  by_reply (Refused k) q = refl
  by_reply (Found t m) q = unless_found t m (next_is (these "I") m.spot.left) refl q

  referred_is : referred_types_at reads c s ≡ type_names_at reads c s
  unfolding referred_types_at type_substitution_at
  referred_is = by_reply (reads Row.substitution c s []) refl

-- ---- where the next bytes leave these alternatives, the type is what they answer
pub type_starts : (x : TypeStart) (f : ℕ) (c : Bool) (s : Here) → 8 ≤ f → leaves_type x s.spot.left ≡ true
    → type_handle_at (cread f) c s ≡ type_from x (cread f) c s
unfolding rule takes_in first_in idle_in
type_starts TypeStart.all f c s l e = refl
type_starts TypeStart.qualified f c s l e =
    from_qualified f c s l (codes "rVK") refl refl (one_or_end (codes "rVK") s.spot.left e)
type_starts TypeStart.names f c s l e =
    from_names f c s l (codes "0123456789NZLCS") refl refl refl (digit_or_one (codes "NZLCS") s.spot.left e)
type_starts TypeStart.references (suc (suc (suc (suc (suc n))))) c s l e =
    from_names (suc (suc (suc (suc (suc n))))) c s l (codes "S") refl refl refl (reference_next s.spot.left e)
    ∙ sym (referred_is n c s (omega (arith, l)) e)
type_starts TypeStart.references f c s l e = absurd (omega (arith, l))
type_starts TypeStart.functions f c s l e =
    let n = one_or_end (codes "F") s.spot.left e in
    from_names f c s l (codes "F") refl refl refl n
    ∙ to_functions (cread f) c s (gone f c s l Row.class_enum_type (codes "F") refl n)
    (gone f c s l Row.substitution (codes "F") refl n)
type_starts TypeStart.shapes f c s l e =
    let n = one_or_end (codes "AM") s.spot.left e in
    from_names f c s l (codes "AM") refl refl refl n
    ∙ from_shapes f c s l (codes "AM") refl refl (gone f c s l Row.class_enum_type (codes "AM") refl n) n
type_starts TypeStart.templates zero c s l e = absurd (omega (arith, l))
type_starts TypeStart.templates (suc f) c s l e =
    let es = both_true (next_is (these "T") s.spot.left) (next_is Class.digits (drop 1 s.spot.left)
    || next_is (these "_") (drop 1 s.spot.left)) e in
    let n = one_or_end (codes "T") s.spot.left es.0 in
    let m = no_class f c s (omega (arith, l)) es.0 (digit_or_one (codes "_") (drop 1 s.spot.left) es.1) in
    from_names (suc f) c s l (codes "T") refl refl refl n
    ∙ from_shapes (suc f) c s l (codes "T") refl refl m n
    ∙ from_templates (suc f) c s l (codes "T") refl refl refl n
type_starts TypeStart.marks f c s l e =
    let xs = codes "PROGEJIX_." in
    from_names f c s l xs refl refl refl e
    ∙ from_shapes f c s l xs refl refl (gone f c s l Row.class_enum_type xs refl e) e
    ∙ from_templates f c s l xs refl refl refl e
    ∙ to_marks (cread f) c s (gone f c s l Row.template_param xs refl e)
    (gone f c s l Row.template_template_param_handle xs refl e) (gone f c s l Row.decltype xs refl e)
