-- The rows of prefixes, nested names and unqualified names are their parts.
use Rattle.std.specs.Prelude.{codes, not, if◌then◌else◌, ◌&&◌, ◌||◌, ◌==◌}
use Rattle.std.proofs.Common.{◌≡◌, refl, ap, ◌∙◌, ℕ, zero, suc, Bool, true, false, List, [], ◌∷◌, Ok, Err}
use Rattle.demangle_core.specs.Core.{Core, Tag}
use Rattle.demangle_text.specs.Kind.{Kind, Unread, End, Text}
use Rattle.demangle_text.specs.Spot.{Spot, skip}
use Rattle.demangle_text.specs.Word.{starts, word_at}
use Rattle.demangle_grammar.specs.Rule.{Row, Rule}
use Rattle.demangle_grammar.specs.Items.{◌·◌, ◌//◌, r, w, these, not_next, prefix_component}
use Rattle.demangle_grammar.specs.Reading.{next_is, is_numbered, is_empty}
use Rattle.demangle_grammar.specs.Rows.{rule, name_first, prefix_param, prefix_decltype, replaced}
use Rattle.demangle_grammar.specs.Code.{joined, at, Go, Here, Reply, Found, Refused, Out, Yes, No, close, or_else}
use Rattle.demangle_grammar.specs.Code.{and_then, read_spot, committed, from_row, taken_if, taken_word, crun, cread}
use Rattle.demangle_grammar.specs.Parts.{alone, behind, else_row}
use Rattle.demangle_forms.specs.NameForms.{Turn, is_name_first, names_next, turn_of, turn_at, turn_name_at}
use Rattle.demangle_forms.specs.NameForms.{turn_decltype_at, turn_by, prefix_turn_row, first_turn_at, no_prefix_kind}
use Rattle.demangle_forms.specs.NameForms.{first_decltype_at, first_name_at, first_turn_by, first_turn_row}
use Rattle.demangle_forms.specs.NameForms.{nested_qualifiers_at, nested_name_row, behind_on_at, operator_name}
use Rattle.demangle_forms.specs.NameForms.{unqualified_rest, operator_at, unqualified_rest_at, unqualified_name_row}
use Rattle.demangle_forms.proofs.Alternatives.{or_last, stays}

-- a part where a test holds
abbrev where_so : Bool → Out → Out
where_so z o = if z then o else No false (Unread Text)

-- ---- a word that may stand there, or not
-- with no parts before it
word_or_not : (z : Bool) (n : ℕ) (p : Spot) (s : Here) (acc : List Core) (j : Kind)
    → or_else (read_spot (if z then Ok (skip n p) else Err j) (λ q. Yes (at s q) acc)) (λ u. Yes s acc)
    ≡ Yes (if z then at s (skip n p) else s) acc
word_or_not true n p s acc j = refl
word_or_not false n p s acc j = refl

at_if : (z : Bool) (n : ℕ) (s : Here) → (if z then at s (skip n s.spot) else s) ≡ at s (taken_if z n s.spot).1
at_if true n s = refl
at_if false n s = refl

-- ---- a later turn
-- no turn begins here
abbrev ended : (std i n m : Bool) → Here → List Core → Out
ended std i n m s acc =
    where_so (not m) (where_so (not std) (or_else (where_so (not i) (Yes s acc)) (λ u. where_so (not n) (Yes s acc))))

abbrev all_of : (s t d i n m std : Bool) → (a b x y e v : Out) → Here → List Core → Out
all_of s t d i n m std a b x y e v h acc =
    or_else (where_so s (committed a)) (λ u. or_else (where_so t (committed b)) (λ u. or_else (where_so d x) (λ u.
    or_else (where_so d (committed y)) (λ u. or_else (where_so i (where_so n (committed e))) (λ u.
    or_else (where_so m (committed v)) (λ u. ended std i n m h acc))))))

abbrev one_of : Turn → (a b x y e v : Out) → Here → List Core → Reply
one_of Turn.substitution a b x y e v h acc = close a
one_of Turn.parameter a b x y e v h acc = close b
one_of Turn.decltype a b x y e v h acc = else_row x (λ u. close y)
one_of Turn.template a b x y e v h acc = close e
one_of Turn.name a b x y e v h acc = close v
one_of Turn.none a b x y e v h acc = Found (joined acc) h

picked : (s t d i n m : Bool) → (a b x y e v : Out) → (h : Here) (acc : List Core)
    → close (all_of s t d i n m (s || (t || d)) a b x y e v h acc) ≡ one_of (turn_of s t d (i && n) m) a b x y e v h acc
picked true t d i n m a b x y e v h acc = stays a _
picked false true d i n m a b x y e v h acc = stays b _
picked false false true i n m a b x y e v h acc = or_last x _ _ (stays y _)
picked false false false true true m a b x y e v h acc = stays e _
picked false false false true false true a b x y e v h acc = stays v _
picked false false false true false false a b x y e v h acc = refl
picked false false false false n true a b x y e v h acc = stays v _
picked false false false false n false a b x y e v h acc = refl

three : (x y z : Bool) → (x || (y || (z || false))) ≡ ((x || false) || ((y || false) || (z || false)))
three true y z = refl
three false true z = refl
three false false true = refl
three false false false = refl

std_is : (bs : List ℕ)
    → next_is (these "STD") bs ≡ (next_is (these "S") bs || (next_is (these "T") bs || next_is (these "D") bs))
std_is [] = refl
std_is (b ∷ bs) = three (83 == b) (84 == b) (68 == b)

names_next_is : (bs : List ℕ) → next_is (these name_first) bs ≡ names_next bs
unfolding is_name_first
names_next_is [] = refl
names_next_is (b ∷ bs) = refl

module _ (go : Go) (c : Bool) (s : Here) (acc : List Core) where
  abbrev substituted : Out
  substituted = behind (replaced · r Row.substitution) go c s acc

  abbrev with_param : Out
  with_param = behind (replaced · prefix_param) go c s acc

  abbrev with_decltype : Out
  with_decltype = behind (replaced · prefix_decltype) go c s acc

  abbrev with_destructor : Out
  with_destructor = behind (r Row.unqualified_name · prefix_component Tag.PrefixNested) go c s acc

  abbrev with_args : Out
  with_args = behind (r Row.template_args · prefix_component Tag.PrefixTemplate) go c s acc

  abbrev turn_with : Bool → Out
  turn_with std =
      let bs = s.spot.left in
      all_of (next_is (these "S") bs) (next_is (these "T") bs) (next_is (these "D") bs) (next_is (these "I") bs)
      (is_numbered (joined acc)) (next_is (these name_first) bs) std
      substituted with_param with_decltype with_destructor with_args (turn_name_at go c s acc) s acc

  by_turn : (x : Turn)
      → one_of x substituted with_param with_decltype with_destructor with_args (turn_name_at go c s acc) s acc
      ≡ turn_by x go c s acc
  unfolding turn_decltype_at
  by_turn Turn.substitution = refl
  by_turn Turn.parameter = refl
  by_turn Turn.decltype = refl
  by_turn Turn.template = refl
  by_turn Turn.name = refl
  by_turn Turn.none = refl

  turn_is : close (turn_with (next_is (these "STD") s.spot.left))
      ≡ turn_by (turn_at (joined acc) s.spot.left) go c s acc
  unfolding turn_at
  turn_is =
      let bs = s.spot.left in
      ap (λ z. close (turn_with z)) (std_is bs)
      ∙ picked (next_is (these "S") bs) (next_is (these "T") bs) (next_is (these "D") bs) (next_is (these "I") bs)
      (is_numbered (joined acc)) (next_is (these name_first) bs)
      substituted with_param with_decltype with_destructor with_args (turn_name_at go c s acc) s acc
      ∙ by_turn (turn_of (next_is (these "S") bs) (next_is (these "T") bs) (next_is (these "D") bs)
      (next_is (these "I") bs && is_numbered (joined acc)) (next_is (these name_first) bs))
      ∙ ap (λ z. turn_by (turn_of (next_is (these "S") bs) (next_is (these "T") bs) (next_is (these "D") bs)
      (next_is (these "I") bs && is_numbered (joined acc)) z) go c s acc) (names_next_is bs)

pub prefix_turn_row_is : (f : ℕ) (c : Bool) (s : Here) (acc : List Core)
    → cread f Row.prefix_turn c s acc ≡ prefix_turn_row f c s acc
unfolding cread rule prefix_turn_row turn_name_at
prefix_turn_row_is zero c s acc = refl
prefix_turn_row_is (suc f) c s acc = turn_is (cread f) c s acc

-- ---- the first turn
-- an `M` behind a name, which is read where it is next
m_starts : (bs : List ℕ) → next_is (these "M") bs ≡ starts (codes "M") bs
m_starts [] = refl
m_starts (b ∷ bs) = by (77 == b)
  where
    by : (z : Bool) → (z || false) ≡ (z && true)
    by true = refl
    by false = refl

m_or_not : (z : Bool) (n : ℕ) (p : Spot) (s : Here) (acc : List Core) (j : Kind)
    → or_else (read_spot (if z then Ok (skip n p) else Err j) (λ q. Yes (at s q) acc))
    (λ u. where_so (not z) (Yes s acc))
    ≡ Yes (if z then at s (skip n p) else s) acc
m_or_not true n p s acc j = refl
m_or_not false n p s acc j = refl

m_or_none : (s : Here) (acc : List Core)
    → or_else (read_spot (word_at (codes "M") s.spot) (λ q. Yes (at s q) acc))
    (λ u. where_so (not (next_is (these "M") s.spot.left)) (Yes s acc))
    ≡ Yes (at s (taken_word (codes "M") s.spot).1) acc
unfolding taken_word word_at
m_or_none s acc =
    let bs = s.spot.left in
    ap (λ z. or_else (read_spot (word_at (codes "M") s.spot) (λ q. Yes (at s q) acc))
    (λ u. where_so (not z) (Yes s acc))) (m_starts bs)
    ∙ m_or_not (starts (codes "M") bs) 1 s.spot s acc _ ∙ ap (λ m. Yes m acc) (at_if (starts (codes "M") bs) 1 s)

abbrev first_all : (s t d i m : Bool) → (a b x y v : Out) → Kind → Out
first_all s t d i m a b x y v k =
    or_else (where_so s (committed a)) (λ u. or_else (where_so t (committed b)) (λ u. or_else (where_so d x) (λ u.
    or_else (where_so d (committed y)) (λ u. or_else (where_so i (No false (Unread Text))) (λ u.
    or_else (where_so m (committed v)) (λ u. No false k))))))

abbrev first_one : Turn → (a b x y v : Out) → Kind → Reply
first_one Turn.substitution a b x y v k = close a
first_one Turn.parameter a b x y v k = close b
first_one Turn.decltype a b x y v k = else_row x (λ u. close y)
first_one Turn.template a b x y v k = Refused k
first_one Turn.name a b x y v k = close v
first_one Turn.none a b x y v k = Refused k

first_picked : (s t d i m : Bool) → (a b x y v : Out) → (k : Kind)
    → close (first_all s t d i m a b x y v k) ≡ first_one (turn_of s t d false m) a b x y v k
first_picked true t d i m a b x y v k = stays a _
first_picked false true d i m a b x y v k = stays b _
first_picked false false true i m a b x y v k = or_last x _ _ (stays y _)
first_picked false false false true true a b x y v k = stays v _
first_picked false false false true false a b x y v k = refl
first_picked false false false false true a b x y v k = stays v _
first_picked false false false false false a b x y v k = refl

module _ (go : Go) (c : Bool) (s : Here) where
  abbrev named : Out
  named = alone (r Row.unqualified_name · prefix_component Tag.PrefixUnqualified · (w "M" // not_next "M")) go c s

  named_is : close named ≡ first_name_at go c s
  unfolding first_name_at
  named_is = by (go Row.unqualified_name c s [])
    where
      by : (a : Reply)
          → close (from_row a (λ m t. crun go c
          ((prefix_component Tag.PrefixUnqualified · (w "M" // not_next "M")) Rule.done)
          m (t ∷ [])))
          ≡ close (and_then (from_row a (λ m t. crun go c
          (prefix_component Tag.PrefixUnqualified Rule.done) m (t ∷ [])))
          (λ m b. Yes (at m (taken_word (codes "M") m.spot).1) b))
      by (Found t m) = ap close (m_or_none _ _)
      by (Refused k) = refl

  abbrev first_row : Out
  first_row =
      let bs = s.spot.left in
      first_all (next_is (these "S") bs) (next_is (these "T") bs) (next_is (these "D") bs) (next_is (these "I") bs)
      (next_is (these name_first) bs)
      (alone (r Row.substitution) go c s) (alone prefix_param go c s) (alone prefix_decltype go c s)
      (alone (r Row.unqualified_name · prefix_component Tag.PrefixUnqualified) go c s) named
      (if next_is (these "E") bs || is_empty bs then Unread End else Unread Text)

  by_first : (x : Turn)
      → first_one x (alone (r Row.substitution) go c s) (alone prefix_param go c s) (alone prefix_decltype go c s)
      (alone (r Row.unqualified_name · prefix_component Tag.PrefixUnqualified) go c s) named
      (if next_is (these "E") s.spot.left || is_empty s.spot.left then Unread End else Unread Text)
      ≡ first_turn_by x go c s
  unfolding first_decltype_at no_prefix_kind
  by_first Turn.substitution = refl
  by_first Turn.parameter = refl
  by_first Turn.decltype = refl
  by_first Turn.template = refl
  by_first Turn.name = named_is
  by_first Turn.none = refl

  first_is : close first_row ≡ first_turn_by (first_turn_at s.spot.left) go c s
  unfolding first_turn_at
  first_is =
      let bs = s.spot.left in
      first_picked (next_is (these "S") bs) (next_is (these "T") bs) (next_is (these "D") bs) (next_is (these "I") bs)
      (next_is (these name_first) bs) _ _ _ _ _ _
      ∙ by_first (turn_of (next_is (these "S") bs) (next_is (these "T") bs) (next_is (these "D") bs) false
      (next_is (these name_first) bs))
      ∙ ap (λ z. first_turn_by (turn_of (next_is (these "S") bs) (next_is (these "T") bs) (next_is (these "D") bs)
      false z) go c s) (names_next_is bs)

pub first_turn_row_is : (f : ℕ) (c : Bool) (s : Here) → cread f Row.first_turn c s [] ≡ first_turn_row f c s
unfolding cread rule first_turn_row
first_turn_row_is zero c s = refl
first_turn_row_is (suc f) c s = first_is (cread f) c s

-- ---- nested names
pub nested_name_row_is : (f : ℕ) (c : Bool) (s : Here) → cread f Row.nested_name c s [] ≡ nested_name_row f c s
unfolding cread rule nested_name_row nested_qualifiers_at
nested_name_row_is zero c s = refl
nested_name_row_is (suc f) c s = refl

-- ---- names without a scope
behind_on : (s : Here) (f : Here → List Core → Out)
    → and_then (or_else (read_spot (word_at (codes "on") s.spot) (λ q. Yes (at s q) [])) (λ u. Yes s [])) f
    ≡ f (at s (behind_on_at s.spot)) []
unfolding behind_on_at taken_word word_at
behind_on s f =
    ap (λ o. and_then o f) (word_or_not (starts (codes "on") s.spot.left) 2 s.spot s [] _)
    ∙ ap (λ m. f m []) (at_if (starts (codes "on") s.spot.left) 2 s)

unqualified_is : (go : Go) (c : Bool) (s : Here)
    → close (crun go c (rule Row.unqualified_name) s [])
    ≡ else_row (operator_at go c s) (λ u. unqualified_rest_at go c s)
unfolding rule unqualified_rest_at
unqualified_is go c s =
    ap (λ o. close (or_else o (λ u. alone unqualified_rest go c s)))
    (behind_on s (λ m b. behind operator_name go c m b))
    ∙ or_last (operator_at go c s) (λ u. alone unqualified_rest go c s) (unqualified_rest_at go c s) refl

pub unqualified_name_row_is : (f : ℕ) (c : Bool) (s : Here)
    → cread f Row.unqualified_name c s [] ≡ unqualified_name_row f c s
unfolding cread unqualified_name_row
unqualified_name_row_is zero c s = refl
unqualified_name_row_is (suc f) c s = unqualified_is (cread f) c s
