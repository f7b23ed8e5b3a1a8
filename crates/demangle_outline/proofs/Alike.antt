-- Parts that were read over two tables: alike but for the numbers of components, and for what no test looks at.
use Rattle.std.specs.Prelude.{◌≡◌, ℕ, zero, suc, ◌+◌, ◌-◌, Bool, true, false, cond, not, List, [], ◌∷◌, ◌==◌, ℤ, pos, negsuc, Option, Some, None}
use Rattle.std.proofs.Common.{refl, ap}
use Rattle.demangle_core.specs.Core.{Core, end, node, place, number, flag, chosen, ref, mark, ◌⊕◌, Tag, Which, N, U}
use Rattle.demangle_core.specs.Table.{Entry, count}
use Rattle.demangle_text.specs.Bytes.{is_digit, span}
use Rattle.demangle_text.specs.Characters.{identifier_len}
use Rattle.demangle_text.specs.Number.{number_at}
use Rattle.demangle_text.specs.Kind.{Text}
use Rattle.demangle_text.specs.Found.{Found, took, none, mapped}
use Rattle.demangle_vocab.specs.WordTable.{table_at}
use Rattle.demangle_grammar.specs.Rule.{Eat, Cond, Given, Make}
use Rattle.demangle_grammar.specs.Tree.{index_of, longer_by, data_member_of, reshaped, component_of, rest_of, template_name, nested_unqualified, nested_template, taken_of, reference}
use Rattle.demangle_grammar.specs.Reading.{find, run_found, is_in, given, numbered, worded, holds, is_numbered, is_member, is_ten_or_more, arity_in, last_component, is_nestable}

-- nodes in which no test looks for more than of what kind their first field is
pub data Blind : Tag → Type 0 where
  a_name : Blind Tag.NameNested
  a_member : Blind Tag.PrefixDataMember

abbrev pub IsNode : Core → Type 0
IsNode (node t c n) = Unit {0}
IsNode _ = ⊥

unqualified_node : (p name c : Core) → IsNode (nested_unqualified p name c)
unqualified_node p name (chosen t k n) = tt
unqualified_node p name _ = tt

template_node : (c : Core) → IsNode (nested_template c)
template_node (chosen t k n) = tt
template_node _ = tt

pub taken_node : (x c : Core) → IsNode (taken_of x c)
taken_node (node Tag.SubstitutablePrefix (node Tag.PrefixUnqualified name n) m) c = unqualified_node (node Tag.Absent end end) name c
taken_node (node Tag.SubstitutablePrefix (node Tag.PrefixNested (node t p name) n) m) c = unqualified_node (node Tag.Present (node t p end) end) name c
taken_node _ c = template_node c

tag_numbered : (t : Tag) (c d m n : Core) → is_numbered (node t c m) ≡ is_numbered (node t d n)
tag_numbered Tag.WellKnown c d m n = refl
tag_numbered _ c d m n = refl

module _ (t u : List Entry) where
  -- the numbers of one component, behind those of t and behind those of u
  abbrev pub Both : Which → ℕ → ℕ → Type 0
  Both w k l = (i : ℕ) × (k ≡ count w t + i) × (l ≡ count w u + i)

  -- rows whose first fields are of one kind
  pub data Heads : Core → Core → Type 0 where
    no_field : Heads end end
    nodes : {a b : Tag} {c d m n : Core} → Heads (node a c m) (node b d n)
    places : (i j : ℕ) {m n : Core} → Heads (place i j m) (place i j n)
    numbers : (v : ℤ) {m n : Core} → Heads (number v m) (number v n)
    flags : (b : Bool) {m n : Core} → Heads (flag b m) (flag b n)
    words : (a k : ℕ) {m n : Core} → Heads (chosen a k m) (chosen a k n)
    refs : (w : Which) (k l : ℕ) {m n : Core} → Both w k l → Heads (ref w k m) (ref w l n)
    marks : (i : ℕ) {m n : Core} → Heads (mark i m) (mark i n)

  pub data Alike : Core → Core → Type 0 where
    nil : Alike end end
    over : (a : Tag) {c d m n : Core} → Alike c d → Alike m n → Alike (node a c m) (node a d n)
    blind : {a : Tag} {c d m n : Core} → Blind a → Heads c d → Alike m n → Alike (node a c m) (node a d n)
    a_place : (i j : ℕ) {m n : Core} → Alike m n → Alike (place i j m) (place i j n)
    a_number : (v : ℤ) {m n : Core} → Alike m n → Alike (number v m) (number v n)
    a_flag : (b : Bool) {m n : Core} → Alike m n → Alike (flag b m) (flag b n)
    a_word : (a k : ℕ) {m n : Core} → Alike m n → Alike (chosen a k m) (chosen a k n)
    a_ref : (w : Which) (k l : ℕ) {m n : Core} → Both w k l → Alike m n → Alike (ref w k m) (ref w l n)
    a_mark : (i : ℕ) {m n : Core} → Alike m n → Alike (mark i m) (mark i n)

  pub heads : {a b : Core} → Alike a b → Heads a b
  heads Alike.nil = Heads.no_field
  heads (Alike.over a x y) = Heads.nodes
  heads (Alike.blind b h y) = Heads.nodes
  heads (Alike.a_place i j y) = Heads.places i j
  heads (Alike.a_number v y) = Heads.numbers v
  heads (Alike.a_flag b y) = Heads.flags b
  heads (Alike.a_word a k y) = Heads.words a k
  heads (Alike.a_ref w k l b y) = Heads.refs w k l b
  heads (Alike.a_mark i y) = Heads.marks i

  pub two_nodes : (a b : Core) → IsNode a → IsNode b → Heads a b
  two_nodes (node s c m) (node r d n) x y = Heads.nodes
  two_nodes (node s c m) _ x y = absurd y
  two_nodes _ b x y = absurd x

  pub heads_behind : {a b : Core} (c d : Core) → Alike a b → Heads c d → Heads (a ⊕ c) (b ⊕ d)
  heads_behind c d Alike.nil h = h
  heads_behind c d (Alike.over a x y) h = Heads.nodes
  heads_behind c d (Alike.blind b x y) h = Heads.nodes
  heads_behind c d (Alike.a_place i j y) h = Heads.places i j
  heads_behind c d (Alike.a_number v y) h = Heads.numbers v
  heads_behind c d (Alike.a_flag b y) h = Heads.flags b
  heads_behind c d (Alike.a_word a k y) h = Heads.words a k
  heads_behind c d (Alike.a_ref w k l b y) h = Heads.refs w k l b
  heads_behind c d (Alike.a_mark i y) h = Heads.marks i

  pub behind : {a b : Core} (c d : Core) → Alike a b → Alike c d → Alike (a ⊕ c) (b ⊕ d)
  behind c d Alike.nil h = h
  behind c d (Alike.over a x y) h = Alike.over a x (behind c d y h)
  behind c d (Alike.blind b x y) h = Alike.blind b x (behind c d y h)
  behind c d (Alike.a_place i j y) h = Alike.a_place i j (behind c d y h)
  behind c d (Alike.a_number v y) h = Alike.a_number v (behind c d y h)
  behind c d (Alike.a_flag b y) h = Alike.a_flag b (behind c d y h)
  behind c d (Alike.a_word a k y) h = Alike.a_word a k (behind c d y h)
  behind c d (Alike.a_ref w k l b y) h = Alike.a_ref w k l b (behind c d y h)
  behind c d (Alike.a_mark i y) h = Alike.a_mark i (behind c d y h)

  -- ---- what a node of such fields tells
  component_node : (a b : Tag) (c d m n : Core) → Heads c d → component_of (node a c m) ≡ component_of (node b d n)
  component_node a b c d m n (Heads.numbers (pos k)) = refl
  component_node a b c d m n (Heads.numbers (negsuc k)) = refl
  component_node a b c d m n _ = refl

  index_node : (a b : Tag) (c d m n : Core) → Heads c d → Alike (index_of (node a c m)) (index_of (node b d n))
  index_node a b c d m n (Heads.numbers (pos k)) = Alike.a_number _ Alike.nil
  index_node a b c d m n (Heads.numbers (negsuc k)) = Alike.a_number _ Alike.nil
  index_node a b c d m n _ = Alike.a_number _ Alike.nil

  arity_node : (a : Tag) (c d m n : Core) → Heads c d → arity_in (node a c m) ≡ arity_in (node a d n)
  arity_node Tag.OperatorNameSimple c d m n (Heads.words b k) = refl
  arity_node Tag.OperatorNameSimple c d m n _ = refl
  arity_node Tag.OperatorNameLiteral c d m n h = refl
  arity_node Tag.OperatorNameVendorExtension c d m n (Heads.numbers (pos k)) = refl
  arity_node Tag.OperatorNameVendorExtension c d m n (Heads.numbers (negsuc k)) = refl
  arity_node Tag.OperatorNameVendorExtension c d m n _ = refl
  arity_node _ c d m n h = refl

  -- ---- tests
  pub component_same : {a b : Core} → Alike a b → component_of a ≡ component_of b
  component_same (Alike.over a {c} {d} {m} {n} x y) = component_node a a c d m n (heads x)
  component_same (Alike.blind {a} {c} {d} {m} {n} b h y) = component_node a a c d m n h
  component_same _ = refl

  numbered_same : {a b : Core} → Alike a b → is_numbered a ≡ is_numbered b
  numbered_same (Alike.over a {c} {d} {m} {n} x y) = tag_numbered a c d m n
  numbered_same (Alike.blind {a} {c} {d} {m} {n} b h y) = tag_numbered a c d m n
  numbered_same _ = refl

  member_node : (a : Tag) (c d m n : Core) → Alike m n → is_member m ≡ is_member n → is_member (node a c m) ≡ is_member (node a d n)
  member_node a c d m n Alike.nil h = refl
  member_node a c d m n _ h = h

  member_same : {a b : Core} → Alike a b → is_member a ≡ is_member b
  member_same (Alike.over a {c} {d} {m} {n} x y) = member_node a c d m n y (member_same y)
  member_same (Alike.blind {a} {c} {d} {m} {n} b h y) = member_node a c d m n y (member_same y)
  member_same _ = refl

  ten_same : {a b : Core} → Alike a b → is_ten_or_more a ≡ is_ten_or_more b
  ten_same (Alike.a_number (pos k) y) = refl
  ten_same (Alike.a_number (negsuc k) y) = refl
  ten_same _ = refl

  arity_same : {a b : Core} → Alike a b → arity_in a ≡ arity_in b
  arity_same (Alike.over a {c} {d} {m} {n} x y) = arity_node a c d m n (heads x)
  arity_same (Alike.blind {a} {c} {d} {m} {n} b h y) = arity_node a c d m n h
  arity_same _ = refl

  pub holds_same : (x : Cond) (bs : List ℕ) {a b : Core} → Alike a b → holds x bs a ≡ holds x bs b
  holds_same Cond.numbered bs h = numbered_same h
  holds_same Cond.unnumbered bs h = ap not (numbered_same h)
  holds_same Cond.member bs h = member_same h
  holds_same Cond.ten_or_more bs h = ten_same h
  holds_same (Cond.arity n) bs h = ap (λ k. k == n) (arity_same h)
  holds_same _ bs h = refl

  -- ---- the component that the last field refers to
  pub data Last : Option (Which × ℕ) → Option (Which × ℕ) → Type 0 where
    no_last : Last None None
    last : (w : Which) (k l : ℕ) → Both w k l → Last (Some (w, k)) (Some (w, l))

  last_node : (a : Tag) (c d m n : Core) → Heads c d → Alike m n → Last (last_component m) (last_component n) → Last (last_component (node a c m)) (last_component (node a d n))
  last_node a c d m n (Heads.refs w k l b) Alike.nil h = Last.last w k l b
  last_node a c d m n (Heads.refs w k l b) _ h = h
  last_node a c d m n _ Alike.nil h = Last.no_last
  last_node a c d m n _ _ h = h

  pub last_same : {a b : Core} → Alike a b → Last (last_component a) (last_component b)
  last_same (Alike.over a {c} {d} {m} {n} x y) = last_node a c d m n (heads x) y (last_same y)
  last_same (Alike.blind {a} {c} {d} {m} {n} b h y) = last_node a c d m n h y (last_same y)
  last_same (Alike.a_word a k y) = last_same y
  last_same _ = Last.no_last

  -- ---- whether a nested name can take it over
  nestable_in : (a : Tag) (c d m n x y : Core) → Heads c d → is_nestable (node Tag.SubstitutablePrefix (node a c m) x) ≡ is_nestable (node Tag.SubstitutablePrefix (node a d n) y)
  nestable_in Tag.PrefixNested c d m n x y Heads.nodes = refl
  nestable_in Tag.PrefixNested c d m n x y _ = refl
  nestable_in _ c d m n x y h = refl

  nestable_node : (a : Tag) (c d m n : Core) → Alike c d → is_nestable (node a c m) ≡ is_nestable (node a d n)
  nestable_node Tag.SubstitutablePrefix c d m n (Alike.over b {c = x} {d = y} {m = v} {n = w} h k) = nestable_in b x y v w m n (heads h)
  nestable_node Tag.SubstitutablePrefix c d m n (Alike.blind {a = b} {c = x} {d = y} {m = v} {n = w} z h k) = nestable_in b x y v w m n h
  nestable_node Tag.SubstitutablePrefix c d m n _ = refl
  nestable_node _ c d m n h = refl

  pub nestable_same : {a b : Core} → Alike a b → is_nestable a ≡ is_nestable b
  nestable_same (Alike.over a {c} {d} {m} {n} x y) = nestable_node a c d m n x
  nestable_same (Alike.blind Blind.a_name h y) = refl
  nestable_same (Alike.blind Blind.a_member h y) = refl
  nestable_same _ = refl

  -- ---- what parts become
  index_alike : {a b : Core} → Alike a b → Alike (index_of a) (index_of b)
  index_alike (Alike.over a {c} {d} {m} {n} x y) = index_node a a c d m n (heads x)
  index_alike (Alike.blind {a} {c} {d} {m} {n} b h y) = index_node a a c d m n h
  index_alike (Alike.a_number (pos k) y) = Alike.a_number _ Alike.nil
  index_alike (Alike.a_number (negsuc k) y) = Alike.a_number _ Alike.nil
  index_alike _ = Alike.a_number _ Alike.nil

  longer_alike : (k : ℕ) {a b : Core} → Alike a b → Alike (longer_by k a) (longer_by k b)
  longer_alike k (Alike.a_place i j y) = Alike.a_place i (j + k) y
  longer_alike k Alike.nil = Alike.nil
  longer_alike k (Alike.over a x y) = Alike.over a x y
  longer_alike k (Alike.blind b h y) = Alike.blind b h y
  longer_alike k (Alike.a_number v y) = Alike.a_number v y
  longer_alike k (Alike.a_flag b y) = Alike.a_flag b y
  longer_alike k (Alike.a_word a l y) = Alike.a_word a l y
  longer_alike k (Alike.a_ref w i l b y) = Alike.a_ref w i l b y
  longer_alike k (Alike.a_mark i y) = Alike.a_mark i y

  data_member_alike : {a b : Core} → Alike a b → Alike (data_member_of a) (data_member_of b)
  data_member_alike (Alike.over a x y) = Alike.blind Blind.a_member Heads.nodes Alike.nil
  data_member_alike (Alike.blind b h y) = Alike.blind Blind.a_member Heads.nodes Alike.nil
  data_member_alike Alike.nil = Alike.nil
  data_member_alike (Alike.a_place i j y) = Alike.a_place i j y
  data_member_alike (Alike.a_number v y) = Alike.a_number v y
  data_member_alike (Alike.a_flag b y) = Alike.a_flag b y
  data_member_alike (Alike.a_word a l y) = Alike.a_word a l y
  data_member_alike (Alike.a_ref w i l b y) = Alike.a_ref w i l b y
  data_member_alike (Alike.a_mark i y) = Alike.a_mark i y

  pub reshaped_alike : (x : Make) {a b : Core} → Alike a b → Alike (reshaped x a) (reshaped x b)
  reshaped_alike (Make.one a) h = Alike.over a h Alike.nil
  reshaped_alike Make.dropped h = Alike.nil
  reshaped_alike Make.index h = index_alike h
  reshaped_alike (Make.longer k) h = longer_alike k h
  reshaped_alike Make.data_member h = data_member_alike h

  rest_alike : {a b : Core} → Alike a b → Alike (rest_of a) (rest_of b)
  rest_alike (Alike.over a x y) = y
  rest_alike (Alike.blind b h y) = y
  rest_alike _ = Alike.nil

  pub template_alike : (k l : ℕ) {a b : Core} → Both U k l → Alike a b → Alike (template_name k a) (template_name l b)
  template_alike k l i h =
      Alike.over Tag.NameUnscopedTemplate (Alike.over Tag.NonSubstitution (Alike.a_ref U k l i Alike.nil) (rest_alike h)) Alike.nil

  pub reference_alike : (w : Which) (k l : ℕ) → Both w k l → Alike (reference w k) (reference w l)
  reference_alike N k l i = Alike.over Tag.BackReference (Alike.a_ref N k l i Alike.nil) Alike.nil
  reference_alike U k l i = Alike.over Tag.NonSubstitution (Alike.a_ref U k l i Alike.nil) Alike.nil

  -- ---- what is read with no other row is one and the same
  abbrev pub IsSelf : Found Core → Type 0
  IsSelf (took n c) = Alike c c
  IsSelf (none k) = Unit {0}

  given_self : (g : Given) → Alike (given g) (given g)
  given_self Given.set = Alike.a_flag true Alike.nil
  given_self Given.unset = Alike.a_flag false Alike.nil
  given_self Given.missing = Alike.over Tag.Absent Alike.nil Alike.nil
  given_self Given.nought = Alike.a_number (pos 0) Alike.nil
  given_self Given.empty = Alike.over Tag.Several Alike.nil Alike.nil

  run_self : (at n : ℕ) → IsSelf (run_found at n)
  run_self at zero = tt
  run_self at (suc n) = Alike.a_place _ _ Alike.nil

  test_self : (z : Bool) (n : ℕ) (c : Core) → Alike c c → IsSelf (cond z (took n c) (none Text))
  test_self true n c h = h
  test_self false n c h = tt

  mapped_self : {A : Type 0} (f : A → Core) → ((x : A) → Alike (f x) (f x)) → (x : Found A) → IsSelf (mapped f x)
  mapped_self f h (took n x) = h x
  mapped_self f h (none k) = tt

  pub find_self : (x : Eat) (at : ℕ) (bs : List ℕ) → IsSelf (find x at bs)
  find_self (Eat.run c) at [] = tt
  find_self (Eat.run c) at (b ∷ bs) = run_self at (span (is_in c) (b ∷ bs))
  find_self Eat.identifier at [] = tt
  find_self Eat.identifier at (b ∷ bs) = run_self at (identifier_len (b ∷ bs))
  find_self (Eat.upto b) at bs = Alike.a_place _ _ Alike.nil
  find_self (Eat.byte c) at [] = tt
  find_self (Eat.byte c) at (b ∷ bs) = test_self (is_in c b) 1 end Alike.nil
  find_self Eat.digit at [] = tt
  find_self Eat.digit at (b ∷ bs) = test_self (is_digit b) 1 (number (pos (b - 48)) end) (Alike.a_number _ Alike.nil)
  find_self (Eat.numeral base signs) at bs = mapped_self numbered (λ v. Alike.a_number v Alike.nil) (number_at base signs bs)
  find_self (Eat.table a ws) at bs = mapped_self (worded a) (λ k. Alike.a_word a k Alike.nil) (table_at ws bs)
  find_self (Eat.give g) at bs = given_self g
  find_self Eat.here at bs = Alike.a_mark at Alike.nil
