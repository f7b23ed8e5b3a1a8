-- Rows of fields whose nodes are sound for an input: places within them hold what they are to, function types have results.
use Rattle.std.specs.Prelude.{◌≡◌, ℕ, ◌≤◌, Bool, true, false, List, [], ◌∷◌, length, pos}
use Rattle.std.proofs.Common.{refl, subst, sym, ap, ◌∙◌, ⊎_elim}
use Rattle.std.proofs.lemmas.Bool.{false≢true}
use Rattle.demangle_core.specs.Core.{Core, end, node, place, number, flag, chosen, ref, mark, ◌⊕◌, Tag, Which, N, U}
use Rattle.demangle_core.specs.Table.{Entry}
use Rattle.demangle_grammar.specs.Tree.{IsOfEntry, index_of, member_of, data_member_of, first_of, rest_of, template_entry, template_name, front, taken_of, nested_unqualified, nested_template, reference}
use Rattle.demangle_grammar.specs.Sound.{bytes_of, AreOf, HasPlaces, HasResult, HasResults, IsSomeRow, is_substitutable, handle_of, HasHandles, IsComponent, EachEntry}

-- a predicate of places by their two indexes
abbrev pub Places : Type 1
Places = (start stop : ℕ) → Type 0

abbrev pub no_place : Places
no_place i j = ⊥

-- ---- handles
node_first : (t : Tag) (c n : Core) → HasHandles (node t c n) → HasHandles (node t c end) × HasHandles n
node_first t (ref w k m) n h = ((h.0, h.1, tt), h.2)
node_first t _ n h = ((h.0, h.1, tt), h.2)

node_then : (t : Tag) (c n : Core) → HasHandles (node t c end) → HasHandles n → HasHandles (node t c n)
node_then t (ref w k m) n h i = (h.0, h.1, i)
node_then t _ n h i = (h.0, h.1, i)

pub node_around : (t : Tag) → is_substitutable t ≡ false → (c : Core) → HasHandles c → HasHandles (node t c end)
node_around t s (ref w k m) h = absurd h
node_around t s _ h = (s, h, tt)

abbrev is_handle : Tag → Bool
is_handle Tag.BackReference = true
is_handle Tag.NonSubstitution = true
is_handle _ = false

is_its_handle : (w : Which) → is_handle (handle_of w) ≡ true
is_its_handle N = refl
is_its_handle U = refl

-- what stands in a node that is no handle
handles_in : (t : Tag) → is_handle t ≡ false → (c n : Core) → HasHandles (node t c n) → HasHandles c
handles_in t s (ref w k m) n h = absurd (false≢true (sym s ∙ ap is_handle h.0 ∙ is_its_handle w))
handles_in t s _ n h = h.1

module _ (input : List ℕ) where
  abbrev pub IsNode : Tag → Core → Type 0
  IsNode t c = HasPlaces input t c × HasResult t c × HasResults c × HasHandles (node t c end)

  -- The nodes of a row are sound, its places, which stand in no node of it, are such places, and no reference stands alone.
  abbrev pub Fields : Places → Core → Type 0
  Fields Q end = Unit {0}
  Fields Q (node t c n) = IsNode t c × Fields Q n
  Fields Q (place i j n) = Q i j × Fields Q n
  Fields Q (number v n) = Fields Q n
  Fields Q (flag b n) = Fields Q n
  Fields Q (chosen t k n) = Fields Q n
  Fields Q (ref w k n) = ⊥
  Fields Q (mark i n) = Fields Q n

  -- ---- rows
  pub fields_both : (Q : Places) (a b : Core) → Fields Q a → Fields Q b → Fields Q (a ⊕ b)
  fields_both Q end b h i = i
  fields_both Q (node t c n) b h i = (h.0, fields_both Q n b h.1 i)
  fields_both Q (place j k n) b h i = (h.0, fields_both Q n b h.1 i)
  fields_both Q (number v n) b h i = fields_both Q n b h i
  fields_both Q (flag z n) b h i = fields_both Q n b h i
  fields_both Q (chosen t k n) b h i = fields_both Q n b h i
  fields_both Q (ref w k n) b h i = absurd h
  fields_both Q (mark j n) b h i = fields_both Q n b h i

  pub fields_so : (P Q : Places) → ((i j : ℕ) → P i j → Q i j) → (c : Core) → Fields P c → Fields Q c
  fields_so P Q f end h = tt
  fields_so P Q f (node t c n) h = (h.0, fields_so P Q f n h.1)
  fields_so P Q f (place i j n) h = (f i j h.0, fields_so P Q f n h.1)
  fields_so P Q f (number v n) h = fields_so P Q f n h
  fields_so P Q f (flag b n) h = fields_so P Q f n h
  fields_so P Q f (chosen t k n) h = fields_so P Q f n h
  fields_so P Q f (ref w k n) h = absurd h
  fields_so P Q f (mark i n) h = fields_so P Q f n h

  -- without a place the fields fit any predicate
  pub fields_free : (Q : Places) (c : Core) → Fields no_place c → Fields Q c
  fields_free Q c h = fields_so no_place Q (λ i j p. absurd p) c h

  -- ---- to and from what is said of a node
  abbrev pub place_of : Tag → Places
  place_of t i j = (i ≤ j) × (j ≤ length input) × AreOf t (bytes_of input i j)

  pub fields_places : (t : Tag) (c : Core) → Fields (place_of t) c → HasPlaces input t c
  fields_places t end h = tt
  fields_places t (node u c n) h = (h.0.0, fields_places t n h.1)
  fields_places t (place i j n) h = (h.0, fields_places t n h.1)
  fields_places t (number v n) h = fields_places t n h
  fields_places t (flag b n) h = fields_places t n h
  fields_places t (chosen u k n) h = fields_places t n h
  fields_places t (ref w k n) h = absurd h
  fields_places t (mark i n) h = fields_places t n h

  pub fields_results : (Q : Places) (c : Core) → Fields Q c → HasResults c
  fields_results Q end h = tt
  fields_results Q (node t c n) h = ((h.0.1, h.0.2), fields_results Q n h.1)
  fields_results Q (place i j n) h = fields_results Q n h.1
  fields_results Q (number v n) h = fields_results Q n h
  fields_results Q (flag b n) h = fields_results Q n h
  fields_results Q (chosen t k n) h = fields_results Q n h
  fields_results Q (ref w k n) h = absurd h
  fields_results Q (mark i n) h = fields_results Q n h

  pub fields_handles : (Q : Places) (c : Core) → Fields Q c → HasHandles c
  fields_handles Q end h = tt
  fields_handles Q (node t c n) h = node_then t c n h.0.3 (fields_handles Q n h.1)
  fields_handles Q (place i j n) h = fields_handles Q n h.1
  fields_handles Q (number v n) h = fields_handles Q n h
  fields_handles Q (flag b n) h = fields_handles Q n h
  fields_handles Q (chosen t k n) h = fields_handles Q n h
  fields_handles Q (ref w k n) h = absurd h
  fields_handles Q (mark i n) h = fields_handles Q n h

  -- the fields of a node that has no place
  pub fields_in : (t : Tag) → ((bs : List ℕ) → AreOf t bs → ⊥) → (c : Core) → HasPlaces input t c → HasResults c → HasHandles c → Fields no_place c
  fields_in t z end h i k = tt
  fields_in t z (node u c n) h i k = let ks = node_first u c n k in ((h.0, i.0.0, i.0.1, ks.0), fields_in t z n h.1 i.1 ks.1)
  fields_in t z (place a b n) h i k = (z (bytes_of input a b) h.0.2, fields_in t z n h.1 i k)
  fields_in t z (number v n) h i k = fields_in t z n h i k
  fields_in t z (flag b n) h i k = fields_in t z n h i k
  fields_in t z (chosen u j n) h i k = fields_in t z n h i k
  fields_in t z (ref w j n) h i k = absurd k
  fields_in t z (mark j n) h i k = fields_in t z n h i k

  pub places_free : (t : Tag) (c : Core) → Fields no_place c → HasPlaces input t c
  places_free t c h = fields_places t c (fields_free (place_of t) c h)

  -- a node around such fields, where its type is no component's and asks for no result
  pub around : (t : Tag) → is_substitutable t ≡ false → ((c : Core) → HasResult t c) → (c : Core) → Fields no_place c → Fields no_place (node t c end)
  around t s z c h = ((places_free t c h, z c, fields_results no_place c h, node_around t s c (fields_handles no_place c h)), tt)

  -- ---- shapes
  pub index_fields : (c : Core) → Fields no_place (index_of c)
  index_fields (number (pos k) n) = tt
  index_fields (node t (number (pos k) n) m) = tt
  index_fields _ = tt

  member_fields : (c : Core) → Fields no_place c → Fields no_place (member_of c)
  member_fields (node t (node u c n) m) h =
      (((h.0.0.0, tt), tt, ((h.0.2.0.0, h.0.2.0.1), tt), (refl, (node_first u c n h.0.3.1).0, tt)), tt)
  member_fields _ h = h

  pub data_member_fields : (c : Core) → Fields no_place c → Fields no_place (data_member_of c)
  data_member_fields (node t c n) h =
      let m = member_fields n h.1 in
      let both : Fields no_place (node t c (member_of n)) = (h.0, m) in
      around Tag.PrefixDataMember refl (λ c. tt) (node t c (member_of n)) both
  data_member_fields _ h = h

  first_fields : (c : Core) → Fields no_place c → Fields no_place (first_of c)
  first_fields (node t c n) h = (h.0, tt)
  first_fields _ h = tt

  rest_fields : (c : Core) → Fields no_place c → Fields no_place (rest_of c)
  rest_fields (node t c n) h = h.1
  rest_fields _ h = tt

  front_fields : (c : Core) → Fields no_place c → Fields no_place (front c)
  front_fields (node t c end) h = tt
  front_fields (node t c (node u d n)) h = (h.0, front_fields (node u d n) h.1)
  front_fields (node t c (place i j n)) h = absurd h.1.0
  front_fields (node t c (number v n)) h = (h.0, tt)
  front_fields (node t c (flag b n)) h = (h.0, tt)
  front_fields (node t c (chosen u k n)) h = (h.0, tt)
  front_fields (node t c (ref w k n)) h = (h.0, tt)
  front_fields (node t c (mark i n)) h = (h.0, tt)
  front_fields _ h = tt

  unqualified_fields : (p name c : Core) → Fields no_place p → Fields no_place name → Fields no_place c → Fields no_place (nested_unqualified p name c)
  unqualified_fields p name (chosen t k n) h i j =
      around Tag.NestedNameUnqualifiedExplicitObject refl (λ c. tt) (p ⊕ (name ⊕ chosen t k end)) (fields_both no_place p (name ⊕ chosen t k end) h (fields_both no_place name (chosen t k end) i tt))
  unqualified_fields p name c h i j =
      around Tag.NestedNameUnqualified refl (λ c. tt) (front c ⊕ (p ⊕ name)) (fields_both no_place (front c) (p ⊕ name) (front_fields c j) (fields_both no_place p name h i))

  template_fields : (c : Core) → Fields no_place c → Fields no_place (nested_template c)
  template_fields (chosen t k n) h = around Tag.NestedNameTemplateExplicitObject refl (λ c. tt) (n ⊕ chosen t k end) (fields_both no_place n (chosen t k end) h tt)
  template_fields c h = around Tag.NestedNameTemplate refl (λ c. tt) c h

  -- what an entry holds
  abbrev Holds : Core → Type 0
  Holds (node t c m) = HasPlaces input t c × HasResults c × HasHandles c
  Holds _ = Unit {0}

  taken_of_holds : (x c : Core) → Holds x → Fields no_place c → Fields no_place (taken_of x c)
  taken_of_holds (node Tag.SubstitutablePrefix (node Tag.PrefixUnqualified name n) m) c h i =
      unqualified_fields (node Tag.Absent end end) name c ((tt, tt, tt, (refl, tt, tt)), tt)
      (fields_in Tag.PrefixUnqualified (λ bs z. z) name h.0.0 h.1.0.1 (handles_in Tag.PrefixUnqualified refl name n h.2)) i
  taken_of_holds (node Tag.SubstitutablePrefix (node Tag.PrefixNested (node t p name) n) m) c h i =
      let inner : Fields no_place (node t p name) = fields_in Tag.PrefixNested (λ bs z. z) (node t p name) h.0.0 h.1.0.1 h.2.1 in
      unqualified_fields (node Tag.Present (node t p end) end) name c (around Tag.Present refl (λ c. tt) (node t p end) (inner.0, tt)) inner.1 i
  taken_of_holds _ c h i = template_fields c i

  pub reference_fields : (w : Which) (k : ℕ) → Fields no_place (reference w k)
  reference_fields N k = ((tt, tt, tt, (refl, refl, tt)), tt)
  reference_fields U k = ((tt, tt, tt, (refl, refl, tt)), tt)

  pub template_name_fields : (k : ℕ) (c : Core) → Fields no_place c → Fields no_place (template_name k c)
  template_name_fields k c h =
      around Tag.NameUnscopedTemplate refl (λ c. tt) (node Tag.NonSubstitution (ref U k end) (rest_of c)) ((tt, tt, tt, (refl, refl, tt)), rest_fields c h)

  -- ---- entries
  abbrev pub IsEntry : Core → Type 0
  IsEntry (node t c end) = (is_substitutable t ≡ true) × HasPlaces input t c × HasResult t c × HasResults c × HasHandles c
  IsEntry _ = ⊥

  pub entry_of : (x : Core) → IsComponent x → HasPlaces input Tag.Several x → HasResults x → IsEntry x
  entry_of (node t c end) k p r = (k.0, p.0, r.0.0, r.0.1, k.1)
  entry_of _ k p r = absurd k

  pub entry_is : (x : Core) → IsEntry x → IsComponent x × HasPlaces input Tag.Several x × HasResults x
  entry_is (node t c end) h = ((h.0, h.4), (h.1, tt), ((h.2, h.3), tt))
  entry_is _ h = absurd h

  pub template_entry_is : (c : Core) → Fields no_place c → IsEntry (template_entry c)
  template_entry_is c h =
      let x = node Tag.UnscopedTemplateName (node Tag.UnscopedNameUnqualified (first_of c) end) end in
      let f : Fields no_place x =
      around Tag.UnscopedTemplateName refl (λ c. tt) (node Tag.UnscopedNameUnqualified (first_of c) end) (around Tag.UnscopedNameUnqualified refl (λ c. tt) (first_of c) (first_fields c h)) in
      (refl, places_free Tag.SubstitutableUnscopedTemplateName x f, tt, fields_results no_place x f, fields_handles no_place x f)

  entry_holds : (x : Core) → IsEntry x → Holds x
  entry_holds (node t c end) h = (h.1, h.3, h.4)
  entry_holds _ h = absurd h

  holds_of : (x : Core) (es : List Entry) → EachEntry IsEntry es → IsOfEntry x es → Holds x
  holds_of x [] h i = subst Holds (sym i) tt
  holds_of x (y ∷ es) h i = ⊎_elim (λ p. subst Holds (sym p) (entry_holds y.tree h.0)) (λ p. holds_of x es h.1 p) i

  pub taken_fields : (x c : Core) (es : List Entry) → EachEntry IsEntry es → IsOfEntry x es → Fields no_place c → Fields no_place (taken_of x c)
  taken_fields x c es h i f = taken_of_holds x c (holds_of x es h i) f

-- ---- a field at least
pub some_front : (a b : Core) → IsSomeRow a → IsSomeRow (a ⊕ b)
some_front end b h = absurd h
some_front (node t c n) b h = tt
some_front (place i j n) b h = tt
some_front (number v n) b h = tt
some_front (flag z n) b h = tt
some_front (chosen t k n) b h = tt
some_front (ref w k n) b h = tt
some_front (mark i n) b h = tt

pub some_behind : (a b : Core) → IsSomeRow b → IsSomeRow (a ⊕ b)
some_behind end b h = h
some_behind (node t c n) b h = tt
some_behind (place i j n) b h = tt
some_behind (number v n) b h = tt
some_behind (flag z n) b h = tt
some_behind (chosen t k n) b h = tt
some_behind (ref w k n) b h = tt
some_behind (mark i n) b h = tt

pub index_some : (c : Core) → IsSomeRow (index_of c)
index_some (number (pos k) n) = tt
index_some (node t (number (pos k) n) m) = tt
index_some _ = tt

pub data_member_some : (c : Core) → IsSomeRow c → IsSomeRow (data_member_of c)
data_member_some (node t c n) h = tt
data_member_some _ h = h

unqualified_some : (p name c : Core) → IsSomeRow (nested_unqualified p name c)
unqualified_some p name (chosen t k n) = tt
unqualified_some p name _ = tt

template_some : (c : Core) → IsSomeRow (nested_template c)
template_some (chosen t k n) = tt
template_some _ = tt

pub taken_some : (x c : Core) → IsSomeRow (taken_of x c)
taken_some (node Tag.SubstitutablePrefix (node Tag.PrefixUnqualified name n) m) c = unqualified_some (node Tag.Absent end end) name c
taken_some (node Tag.SubstitutablePrefix (node Tag.PrefixNested (node t p name) n) m) c = unqualified_some (node Tag.Present (node t p end) end) name c
taken_some _ c = template_some c

pub reference_some : (w : Which) (k : ℕ) → IsSomeRow (reference w k)
reference_some N k = tt
reference_some U k = tt
