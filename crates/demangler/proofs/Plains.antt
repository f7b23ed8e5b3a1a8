-- A plain type that was read is one as the law on declarators asks for: the names of its classes are identifiers.
use Rattle.std.specs.Prelude.{◌≡◌, ℕ, zero, suc, ◌+◌, ◌/◌, ◌%◌, ◌<◌, ◌≤◌, ◌&&◌, ◌||◌, ◌==◌, not, Bool, true, false}
use Rattle.std.specs.Prelude.{List, [], ◌∷◌, ◌++◌, length, codes, Option, Some, None, slice_get, encode_utf8_all}
use Rattle.std.specs.Prelude.{if◌then◌else◌}
use Rattle.std.specs.Str.{is_utf8}
use Rattle.std.specs.Char.{encode_utf8}
use Rattle.std.specs.List.{list_all}
use Rattle.std.proofs.Common.{refl, sym, subst, ap, ◌∙◌, arith, inl, inr, true≢false, lt-ltb, le-ltb}
use Rattle.std.proofs.lemmas.Bool.{and_parts, and_from, cases_lt, eqb-true, ltb-true, cond-true, cond-false}
use Rattle.std.proofs.lemmas.Str.{encode_ascii, is_utf8-from_IsUtf8}
use lib.Utf8.{scalar}
use Rattle.demangle_text.specs.Characters.{is_identifier_byte, is_identifier_char, AreIdentifierChars}
use Rattle.demangle_text.proofs.Identifiers.{chars_are_text}
use Rattle.demangle_vocab.specs.WordTable.{Entry, text_at}
use Rattle.demangle_vocab.specs.Builtins.{builtins}
use Rattle.demangle_core.specs.Core.{Core, Tag, Which, end, node, place, number, flag, chosen, ref, mark, same_which}
use Rattle.demangle_core.specs.Table.{Table, more_if, listed, entry_at}
use Rattle.demangle_grammar.specs.Fits.{IsSome}
use Rattle.demangle_grammar.specs.Sound.{HasPlaces, EachEntry}
use Rattle.demangle_printing.specs.World.{World, Seen}
use Rattle.demangle_printing.specs.World as seen
use Rattle.demangle_printing.specs.State.{last_of}
use Rattle.demangle_printing.specs.Texts.{is_anonymous}
use Rattle.demangle_printing.specs.Trees.{trees_of, look_component, look_in, with_table}
use Rattle.demangle_printing.specs.Declarators.{Plain, Plains, builtin, class, const, to, function, none, more}
use Rattle.demangle_printing.specs.Declarators.{is_function, is_reference, may_be_reference, is_plain_end, ends_plainly}
use Rattle.demangle_printing.specs.Declarators.{class_text, is_type, are_types, mark_tag, Chain, Is, Are}
use Rattle.demangler.specs.Plain.{is_plain, are_plain}

-- ---- texts that end plainly
-- a byte of an identifier is none of these
not_such : (k c : ℕ) → is_identifier_byte k ≡ false → is_identifier_byte c ≡ true → not (k == c) ≡ true
not_such k c n e = by (k == c) refl
  where
    by : (b : Bool) → (k == c) ≡ b → not b ≡ true
    by true p = absurd (true≢false (sym e ∙ ap is_identifier_byte (sym (eqb-true k c p)) ∙ n))
    by false p = refl

byte_plain : (c : ℕ) → is_identifier_byte c ≡ true → is_plain_end (Some c) ≡ true
byte_plain c e =
    and_from (not (32 == c)) (not (40 == c) && not (42 == c)) (not_such 32 c refl e)
    (and_from (not (40 == c)) (not (42 == c)) (not_such 40 c refl e) (not_such 42 c refl e))

-- neither is one past ASCII
not_high : (k c : ℕ) → k < 128 → 128 ≤ c → not (k == c) ≡ true
not_high k c l h = by (k == c) refl
  where
    by : (b : Bool) → (k == c) ≡ b → not b ≡ true
    by true p = absurd (omega (arith, l, h, eqb-true k c p))
    by false p = refl

high_plain : (c : ℕ) → 128 ≤ c → is_plain_end (Some c) ≡ true
high_plain c h =
    and_from (not (32 == c)) (not (40 == c) && not (42 == c)) (not_high 32 c (omega arith) h)
    (and_from (not (40 == c)) (not (42 == c)) (not_high 40 c (omega arith) h) (not_high 42 c (omega arith) h))

-- the bytes of a character past ASCII
encode_two : (c : ℕ) → 128 ≤ c → c < 2048 → encode_utf8 c ≡ (192 + c / 64) ∷ (128 + c % 64) ∷ []
unfolding encode_utf8
encode_two c low high = cond-false _ _ _ (le-ltb c 128 low) ∙ cond-true _ _ _ (lt-ltb c 2048 high)

encode_three : (c : ℕ) → 2048 ≤ c → c < 65536 →
    encode_utf8 c ≡ (224 + c / 4096) ∷ (128 + (c / 64) % 64) ∷ (128 + c % 64) ∷ []
unfolding encode_utf8
encode_three c low high =
    cond-false _ _ _ (le-ltb c 128 (omega arith)) ∙ cond-false _ _ _ (le-ltb c 2048 low)
    ∙ cond-true _ _ _ (lt-ltb c 65536 high)

encode_four : (c : ℕ) → 65536 ≤ c →
    encode_utf8 c ≡ (240 + c / 262144) ∷ (128 + (c / 4096) % 64) ∷ (128 + (c / 64) % 64) ∷ (128 + c % 64) ∷ []
unfolding encode_utf8
encode_four c low =
    cond-false _ _ _ (le-ltb c 128 (omega arith)) ∙ cond-false _ _ _ (le-ltb c 2048 (omega arith))
    ∙ cond-false _ _ _ (le-ltb c 65536 low)

-- the last of them
last_high : (c : ℕ) (l : Option ℕ) → 128 ≤ c → is_plain_end (last_of l (encode_utf8 c)) ≡ true
last_high c l h = elim (cases_lt c 2048) [
  | inl two ↦ subst (λ bs. is_plain_end (last_of l bs) ≡ true) (sym (encode_two c h two))
      (high_plain (128 + c % 64) (omega arith))
  | inr wide ↦ elim (cases_lt c 65536) [
    | inl three ↦ subst (λ bs. is_plain_end (last_of l bs) ≡ true) (sym (encode_three c wide three))
        (high_plain (128 + c % 64) (omega arith))
    | inr four ↦ subst (λ bs. is_plain_end (last_of l bs) ≡ true) (sym (encode_four c four))
        (high_plain (128 + c % 64) (omega arith))
  ]
]

last_char : (c : ℕ) (l : Option ℕ) → is_identifier_char c ≡ true → is_plain_end (last_of l (encode_utf8 c)) ≡ true
last_char c l e = elim (cases_lt c 128) [
  | inl small ↦ subst (λ bs. is_plain_end (last_of l bs) ≡ true) (sym (encode_ascii c small))
      (byte_plain c (sym (ap (λ z. if z then is_identifier_byte c else scalar c) (lt-ltb c 128 small)) ∙ e))
  | inr big ↦ last_high c l big
]

last_append : (l : Option ℕ) (xs ys : List ℕ) → last_of l (xs ++ ys) ≡ last_of (last_of l xs) ys
last_append l [] ys = refl
last_append l (x ∷ xs) ys = last_append (Some x) xs ys

chars_plain : (cs : List ℕ) (l : Option ℕ) → is_plain_end l ≡ true → list_all is_identifier_char cs ≡ true →
    is_plain_end (last_of l (encode_utf8_all cs)) ≡ true
chars_plain [] l h e = h
chars_plain (c ∷ cs) l h e =
    let p = and_parts (is_identifier_char c) (list_all is_identifier_char cs) e in
    ap is_plain_end (last_append l (encode_utf8 c) (encode_utf8_all cs))
    ∙ chars_plain cs (last_of l (encode_utf8 c)) (last_char c l p.0) p.1

some_plain : (cs : List ℕ) → IsSome (encode_utf8_all cs) → list_all is_identifier_char cs ≡ true →
    ends_plainly (encode_utf8_all cs) ≡ true
some_plain [] s e = absurd s
some_plain (c ∷ cs) s e =
    let p = and_parts (is_identifier_char c) (list_all is_identifier_char cs) e in
    ap is_plain_end (last_append None (encode_utf8 c) (encode_utf8_all cs))
    ∙ chars_plain cs (last_of None (encode_utf8 c)) (last_char c None p.0) p.1

-- an identifier, and what is written for one
name_plain : (name : List ℕ) → IsSome name → AreIdentifierChars name → ends_plainly (class_text name) ≡ true
name_plain name s a = by (is_anonymous name)
  where
    by : (b : Bool) → ends_plainly (if b then codes "(anonymous namespace)" else name) ≡ true
    by true = refl
    by false =
        subst (λ bs. ends_plainly bs ≡ true) a.2 (some_plain a.0 (subst IsSome (sym a.2) s) a.1)

-- a builtin type
word_plain : {X : Type 0} (es : List (Entry X)) → list_all (λ e. ends_plainly e.text) es ≡ true → (k : ℕ) →
    k < length es → ends_plainly (text_at es k) ≡ true
word_plain [] h k l = absurd (omega (arith, l))
word_plain (e ∷ es) h zero l = (and_parts (ends_plainly e.text) (list_all (λ e. ends_plainly e.text) es) h).0
word_plain (e ∷ es) h (suc k) l =
    word_plain es (and_parts (ends_plainly e.text) (list_all (λ e. ends_plainly e.text) es) h).1 k (omega (arith, l))

-- ---- places in a sound table
module _ (t : Table) (input : List ℕ) (sound : EachEntry (HasPlaces input Tag.Several) t) where
  -- each tree of a row, in a node of this tag
  abbrev AllPlaced : Tag → List Core → Type 0
  AllPlaced u [] = Unit {0}
  AllPlaced u (x ∷ xs) = HasPlaces input u x × AllPlaced u xs

  abbrev PartsPlaced : Seen Core → Type 0
  PartsPlaced (seen.node u xs) = AllPlaced u xs
  PartsPlaced _ = Unit {0}

  trees_placed : (u : Tag) (c : Core) → HasPlaces input u c → AllPlaced u (trees_of c)
  trees_placed u end h = tt
  trees_placed u (node v c n) h = ((h.0, tt), trees_placed u n h.1)
  trees_placed u (place i j n) h = ((h.0, tt), trees_placed u n h.1)
  trees_placed u (number v n) h = (tt, trees_placed u n h)
  trees_placed u (flag b n) h = (tt, trees_placed u n h)
  trees_placed u (chosen v k n) h = (tt, trees_placed u n h)
  trees_placed u (ref w k n) h = (tt, trees_placed u n h)
  trees_placed u (mark i n) h = trees_placed u n h

  -- ---- components
  abbrev EachPlaced : List Core → Type 0
  EachPlaced [] = Unit {0}
  EachPlaced (x ∷ xs) = HasPlaces input Tag.Several x × EachPlaced xs

  one_more : (b : Bool) (x : Core) (xs : List Core) → HasPlaces input Tag.Several x → EachPlaced xs →
      EachPlaced (more_if b x xs)
  one_more true x xs h k = (h, k)
  one_more false x xs h k = k

  listed_placed : (w : Which) (es : Table) → EachEntry (HasPlaces input Tag.Several) es → EachPlaced (listed w es)
  listed_placed w [] h = tt
  listed_placed w (e ∷ es) h = one_more (same_which w e.which) e.tree (listed w es) h.0 (listed_placed w es h.1)

  held_placed : (x : Core) → HasPlaces input Tag.Several x → PartsPlaced (look_component (Some x))
  held_placed end h = tt
  held_placed (node u c n) h = trees_placed u c h.0
  held_placed (place i j n) h = tt
  held_placed (number v n) h = tt
  held_placed (flag b n) h = tt
  held_placed (chosen v k n) h = tt
  held_placed (ref w k n) h = tt
  held_placed (mark i n) h = tt

  get_placed : (xs : List Core) (k : ℕ) → EachPlaced xs → PartsPlaced (look_component (slice_get xs k))
  get_placed [] k h = tt
  get_placed (x ∷ xs) zero h = held_placed x h.0
  get_placed (x ∷ xs) (suc k) h = get_placed xs k h.1

  component_placed : (w : Which) (k : ℕ) → PartsPlaced (look_component (entry_at w k t))
  unfolding entry_at
  component_placed w k = get_placed (listed w t) k (listed_placed w t sound)

  look_placed : (u : Tag) (x : Core) → HasPlaces input u x → PartsPlaced (look_in t input x)
  look_placed u end h = tt
  look_placed u (node v (ref w k m) n) h = component_placed w k
  look_placed u (node v c n) h = trees_placed v c h.0
  look_placed u (place i j n) h = tt
  look_placed u (number v n) h = tt
  look_placed u (flag b n) h = tt
  look_placed u (chosen v k n) h = tt
  look_placed u (ref w k n) h = component_placed w k
  look_placed u (mark i n) h = look_placed u n h

  -- ---- what is seen of a tree
  abbrev w : World Core
  w = with_table t input

  pub parts_placed : (u v : Tag) (x : Core) (ys : List Core) → HasPlaces input u x → w.look x ≡ seen.node v ys →
      AllPlaced v ys
  parts_placed u v x ys h e = subst PartsPlaced e (look_placed u x h)

  abbrev last_tag : Tag → List Tag → Tag
  last_tag u [] = u
  last_tag u (v ∷ vs) = last_tag v vs

  chain_placed : (u : Tag) (vs : List Tag) (x y : Core) → HasPlaces input u x → Chain w x vs y →
      HasPlaces input (last_tag u vs) y
  chain_placed u [] x y h c = subst (HasPlaces input u) c h
  chain_placed u (v ∷ vs) x y h c =
      chain_placed v vs c.0 y (parts_placed u v x (c.0 ∷ []) h c.1).0 c.2

  -- bytes in an identifier are one
  abbrev IsName : Seen Core → Type 0
  IsName (seen.bytes bs) = IsSome bs × AreIdentifierChars bs
  IsName _ = Unit {0}

  component_name : (o : Option Core) → IsName (look_component o)
  component_name None = tt
  component_name (Some end) = tt
  component_name (Some (node u c n)) = tt
  component_name (Some (place i j n)) = tt
  component_name (Some (number v n)) = tt
  component_name (Some (flag b n)) = tt
  component_name (Some (chosen v k n)) = tt
  component_name (Some (ref w k n)) = tt
  component_name (Some (mark i n)) = tt

  look_name : (x : Core) → HasPlaces input Tag.Identifier x → IsName (look_in t input x)
  look_name end h = tt
  look_name (node v (ref w k m) n) h = component_name (entry_at w k t)
  look_name (node v c n) h = tt
  look_name (place i j n) h = h.0.2
  look_name (number v n) h = tt
  look_name (flag b n) h = tt
  look_name (chosen v k n) h = tt
  look_name (ref w k n) h = component_name (entry_at w k t)
  look_name (mark i n) h = look_name n h

  -- ---- plain types
  class_type : (name : List ℕ) → IsSome name × AreIdentifierChars name → is_type (class name) ≡ true
  class_type name h =
      and_from (is_utf8 name) (ends_plainly (class_text name))
      (is_utf8-from_IsUtf8 name (chars_are_text name h.1)) (name_plain name h.0 h.1)

  mutual
    pub types : (u : Tag) (x : Core) (p : Plain) → HasPlaces input u x → Is w x p → is_plain p ≡ true →
        is_type p ≡ true
    types u x (builtin k) h i e = word_plain builtins refl k (ltb-true k (length builtins) e)
    types u x (class name) h i e =
        let y = parts_placed u Tag.SubstitutableTypeNode x (i.0 ∷ []) h i.2 in
        let z = chain_placed Tag.SubstitutableTypeNode
        (Tag.TypeNodeClassEnum ∷ Tag.ClassEnumTypeNamed ∷ Tag.NameUnscoped ∷ Tag.UnscopedNameUnqualified ∷ [])
        i.0 i.1 y.0 i.3 in
        let s = parts_placed Tag.UnscopedNameUnqualified Tag.UnqualifiedNameSource i.1 (i.4.0 ∷ i.4.1 ∷ []) z i.4.4 in
        let n = chain_placed Tag.UnqualifiedNameSource (Tag.SourceName ∷ Tag.Identifier ∷ []) i.4.0 i.4.2 s.0 i.4.5 in
        class_type name (subst IsName i.4.6 (look_name i.4.2 n))
    types u x (const p) h i e =
        let b = and_parts (not (is_function p)) (is_plain p) e in
        let y = parts_placed u Tag.SubstitutableTypeNode x (i.0 ∷ []) h i.3 in
        let q = parts_placed Tag.SubstitutableTypeNode Tag.TypeNodeQualified i.0 (i.1 ∷ i.2 ∷ []) y.0 i.4 in
        and_from (not (is_function p)) (is_type p) b.0 (types Tag.TypeNodeQualified i.2 p q.1.0 i.6 b.1)
    types u x (to m p) h i e =
        let b = and_parts (may_be_reference m || not (is_reference p)) (is_plain p) e in
        let y = parts_placed u Tag.SubstitutableTypeNode x (i.0 ∷ []) h i.2 in
        let q = parts_placed Tag.SubstitutableTypeNode (mark_tag m) i.0 (i.1 ∷ []) y.0 i.3 in
        and_from (may_be_reference m || not (is_reference p)) (is_type p) b.0 (types (mark_tag m) i.1 p q.0 i.4 b.1)
    types u x (function r ps) h i e =
        let b = and_parts (not (is_function r)) (is_plain r && are_plain ps) e in
        let c = and_parts (is_plain r) (are_plain ps) b.1 in
        let y = parts_placed u Tag.SubstitutableTypeNode x (i.0 ∷ []) h i.6 in
        let f = parts_placed Tag.SubstitutableTypeNode Tag.TypeNodeFunction i.0 (i.1 ∷ []) y.0 i.7 in
        let a = parts_placed Tag.TypeNodeFunction Tag.FunctionType i.1
        (i.8.0 ∷ i.8.1 ∷ i.8.2 ∷ i.8.3 ∷ i.2 ∷ i.8.4 ∷ []) f.0 i.8.5 in
        let l = parts_placed Tag.FunctionType Tag.BareFunctionType i.2 (i.3 ∷ []) a.1.1.1.1.0 i.9 in
        let k = parts_placed Tag.BareFunctionType Tag.Several i.3 (i.4 ∷ i.5) l.0 i.10 in
        and_from (not (is_function r)) (is_type r && are_types ps) b.0
        (and_from (is_type r) (are_types ps) (types Tag.Several i.4 r k.0 i.11 c.0)
        (types_all Tag.Several i.5 ps k.1 i.12 c.1))

    types_all : (u : Tag) (xs : List Core) (ps : Plains) → AllPlaced u xs → Are w xs ps → are_plain ps ≡ true →
        are_types ps ≡ true
    types_all u [] none h i e = refl
    types_all u (x ∷ xs) (more p ps) h i e =
        let b = and_parts (is_plain p) (are_plain ps) e in
        and_from (is_type p) (are_types ps) (types u x p h.0 i.0 b.0) (types_all u xs ps h.1 i.1 b.1)
    types_all u [] (more p ps) h i e = absurd i
    types_all u (x ∷ xs) none h i e = absurd i
