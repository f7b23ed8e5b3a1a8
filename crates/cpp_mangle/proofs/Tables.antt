-- A table and the entities that its numbered components are.
use Rattle.std.specs.Prelude.{◌⊎◌, Option, Some, None, slice_get}
use Rattle.std.proofs.Common.{◌≡◌, refl, sym, ap, subst, ◌∙◌, arith, inl, inr, ℕ, zero, suc, Bool, true, false, List, [], ◌∷◌, ◌++◌, length, append_assoc, append-nil, length-append}
use Rattle.demangle_core.specs.Core.{Core, Tag, Which, N, U}
use Rattle.demangle_core.specs.Core as core
use Rattle.demangle_core.specs.Core.{same_which}
use Rattle.demangle_core.specs.Table.{Table, Entry, added, size, entry_at, listed, count, count_if, more_if}
use Rattle.demangle_core.specs.Sound.{ReferBack}
use Rattle.demangle_grammar.specs.Tree.{reference}
use Rattle.demangle_grammar.specs.Sound.{bytes_of}
use Rattle.demangle_grammar.specs.Expand.{Expanded, expand, expand_upto, end, node, flag, nothing, in_place}
use Rattle.demangle_grammar.proofs.Expands.{expands_entries}
use Rattle.cpp_mangle.specs.Declarations.{PlainType, Path, Modifier}
use Rattle.cpp_mangle.specs.Declarations as decl
use Rattle.cpp_mangle.proofs.Marks.{entry_of}
use Rattle.cpp_mangle.proofs.Prefixes.{first_prefix, later_prefix, nested_name}
use Rattle.cpp_mangle.specs.Declarations.{pointer, lvalue, rvalue, const}
use Rattle.cpp_mangle.proofs.Printed.{name_tree, Scoped, one, more, Typed, typed, entity}
use Rattle.cpp_mangle.proofs.Printed as printed

-- ---- a table that has more behind
abbrev pub Later : Table → Table → Type 0
Later t u = (v : List Entry) × (u ≡ t ++ v)

pub later_same : (t : Table) → Later t t
later_same t = ([], sym (append-nil t))

pub later_added : (w : Which) (x : Core) (t u : Table) → Later (added w x t) u → Later t u
unfolding added
later_added w x t u h = (record { which = w; tree = x } ∷ h.0, h.1 ∙ append_assoc t (record { which = w; tree = x } ∷ []) h.0)

entry_there : (w : Which) (x : Core) (t v : List Entry) → slice_get (listed w (t ++ record { which = w; tree = x } ∷ v)) (count w t) ≡ Some x
entry_there N x [] v = refl
entry_there U x [] v = refl
entry_there w x (y ∷ t) v = by w y.which (entry_there w x t v)
  where
    by : (w u : Which) → slice_get (listed w (t ++ record { which = w; tree = x } ∷ v)) (count w t) ≡ Some x
        → slice_get (more_if (same_which w u) y.tree (listed w (t ++ record { which = w; tree = x } ∷ v))) (count_if (same_which w u) (count w t)) ≡ Some x
    by N N h = h
    by N U h = h
    by U N h = h
    by U U h = h

pub later_entry : (w : Which) (x : Core) (t u : Table) → Later (added w x t) u → entry_at w (size w t) u ≡ Some x
unfolding entry_at size added
later_entry w x t u h =
    subst (λ z. slice_get (listed w z) (count w t) ≡ Some x) (sym (append_assoc t (record { which = w; tree = x } ∷ []) h.0) ∙ sym h.1) (entry_there w x t h.0)

count_behind : (w : Which) (t : Table) (x : Core) (z : Which) → count w (t ++ record { which = z; tree = x } ∷ []) ≡ count_if (same_which w z) (count w t)
count_behind w [] x z = refl
count_behind w (y ∷ t) x z = ap (count_if (same_which w y.which)) (count_behind w t x z) ∙ swap (same_which w y.which) (same_which w z) (count w t)
  where
    swap : (a b : Bool) (n : ℕ) → count_if a (count_if b n) ≡ count_if b (count_if a n)
    swap true true n = refl
    swap true false n = refl
    swap false true n = refl
    swap false false n = refl

pub size_added : (w z : Which) (x : Core) (t : Table) → size w (added z x t) ≡ count_if (same_which w z) (size w t)
unfolding size added
size_added w z x t = count_behind w t x z

-- ---- expanding a node that is no handle of a reference
abbrev pub begins_ref : Core → Bool
begins_ref (core.ref w k n) = true
begins_ref _ = false

pub expand_node : (u : Table) (input : List ℕ) (t : Tag) (c n : Core) → begins_ref c ≡ false → expand u input (core.node t c n) ≡ node t (expand u input c) (expand u input n)
unfolding expand
expand_node u input t c n e = by (length u) c e
  where
    by : (l : ℕ) (c : Core) → begins_ref c ≡ false → expand_upto l u input (core.node t c n) ≡ node t (expand_upto l u input c) (expand_upto l u input n)
    by zero core.end e = refl
    by zero (core.node v d m) e = refl
    by zero (core.place i j m) e = refl
    by zero (core.number v m) e = refl
    by zero (core.flag b m) e = refl
    by zero (core.chosen v k m) e = refl
    by zero (core.mark i m) e = refl
    by zero (core.ref w k m) e = absurd (cc)
    by (suc l) core.end e = refl
    by (suc l) (core.node v d m) e = refl
    by (suc l) (core.place i j m) e = refl
    by (suc l) (core.number v m) e = refl
    by (suc l) (core.flag b m) e = refl
    by (suc l) (core.chosen v k m) e = refl
    by (suc l) (core.mark i m) e = refl
    by (suc l) (core.ref w k m) e = absurd (cc)

pub expand_end : (u : Table) (input : List ℕ) → expand u input core.end ≡ end
unfolding expand
expand_end u input = by (length u)
  where
    by : (l : ℕ) → expand_upto l u input core.end ≡ end
    by zero = refl
    by (suc l) = refl

abbrev pub name_core : (i j : ℕ) → Core
name_core i j = core.node Tag.UnqualifiedNameSource (core.node Tag.SourceName (core.node Tag.Identifier (core.place i j core.end) core.end) (core.node Tag.AbiTags (core.node Tag.Several core.end core.end) core.end)) core.end

pub expand_name : (u : Table) (input : List ℕ) (i j : ℕ) → expand u input (name_core i j) ≡ name_tree (bytes_of input i j)
unfolding expand
expand_name u input i j = by (length u)
  where
    by : (l : ℕ) → expand_upto l u input (name_core i j) ≡ name_tree (bytes_of input i j)
    by zero = refl
    by (suc l) = refl

pub expand_flags : (u : Table) (input : List ℕ) (a b c : Bool) → expand u input (core.flag a (core.flag b (core.flag c core.end))) ≡ flag a (flag b (flag c end))
unfolding expand
expand_flags u input a b c = by (length u)
  where
    by : (l : ℕ) → expand_upto l u input (core.flag a (core.flag b (core.flag c core.end))) ≡ flag a (flag b (flag c end))
    by zero = refl
    by (suc l) = refl

pub builtin_expands : (u : Table) (input : List ℕ) (k : ℕ) → expand u input (core.node Tag.TypeHandleBuiltin (core.node Tag.BuiltinTypeStandard (core.chosen 1 k core.end) core.end) core.end) ≡ typed (printed.builtin k) end
unfolding expand
builtin_expands u input k = by (length u)
  where
    by : (l : ℕ) → expand_upto l u input (core.node Tag.TypeHandleBuiltin (core.node Tag.BuiltinTypeStandard (core.chosen 1 k core.end) core.end) core.end) ≡ typed (printed.builtin k) end
    by zero = refl
    by (suc l) = refl

-- ---- what stands next
abbrev pub with_next : Expanded → Expanded → Expanded
with_next (node t c m) n = node t c n
with_next (nothing m) n = nothing n
with_next x n = x

in_place_next : (f : Core → Expanded) (o : Option Core) (n : Expanded) → in_place f o n ≡ with_next (in_place f o end) n
in_place_next f None n = refl
in_place_next f (Some core.end) n = refl
in_place_next f (Some (core.node t c m)) n = refl
in_place_next f (Some (core.place i j m)) n = refl
in_place_next f (Some (core.number v m)) n = refl
in_place_next f (Some (core.flag b m)) n = refl
in_place_next f (Some (core.chosen t k m)) n = refl
in_place_next f (Some (core.ref w k m)) n = refl
in_place_next f (Some (core.mark i m)) n = refl

pub expand_next : (u : Table) (input : List ℕ) (t : Tag) (c n : Core) → expand u input (core.node t c n) ≡ with_next (expand u input (core.node t c core.end)) (expand u input n)
unfolding expand
expand_next u input t c n = by (length u) c
  where
    by : (l : ℕ) (c : Core) → expand_upto l u input (core.node t c n) ≡ with_next (expand_upto l u input (core.node t c core.end)) (expand_upto l u input n)
    by zero core.end = refl
    by zero (core.node v d m) = refl
    by zero (core.place i j m) = refl
    by zero (core.number v m) = refl
    by zero (core.flag b m) = refl
    by zero (core.chosen v k m) = refl
    by zero (core.mark i m) = refl
    by zero (core.ref w k m) = refl
    by (suc l) core.end = refl
    by (suc l) (core.node v d m) = refl
    by (suc l) (core.place i j m) = refl
    by (suc l) (core.number v m) = refl
    by (suc l) (core.flag b m) = refl
    by (suc l) (core.chosen v k m) = refl
    by (suc l) (core.mark i m) = refl
    by (suc l) (core.ref w k m) = in_place_next (λ x. expand_upto l u input x) (entry_at w k u) (expand_upto (suc l) u input n)

-- ---- entities
abbrev pub parts : Scoped → Path
parts (one b p) = p ∷ []
parts (more b q p) = parts q ++ p ∷ []

abbrev pub plain : Typed → PlainType
plain (printed.builtin k) = decl.builtin k
plain (printed.scoped q) = decl.class (parts q)
plain (printed.of m t) = decl.of m (plain t)

module _ (input : List ℕ) where
  -- expanded, it is such a type
  abbrev pub Shows : Table → Core → PlainType → Type 0
  Shows u x t = (T : Typed) × (plain T ≡ t) × (expand u input x ≡ typed T end)

  -- in each later table whose entries refer back
  abbrev pub ShowsLater : Table → Core → PlainType → Type 0
  ShowsLater e x t = (u : Table) → Later e u → ReferBack [] u → Shows u x t

  pub record Known (e : Table) (es : List PlainType) : Type 0 where
    pub count : size N e ≡ length es
    pub shows : (k : ℕ) (q : PlainType) → slice_get es k ≡ Some q → ShowsLater e (reference N k) q

  snoc_get : (xs : List PlainType) (x q : PlainType) (k : ℕ) → slice_get (xs ++ x ∷ []) k ≡ Some q → (slice_get xs k ≡ Some q) ⊎ ((k ≡ length xs) × (x ≡ q))
  snoc_get [] x q zero h = inr (refl, option_is h)
    where
      or_x : Option PlainType → PlainType
      or_x None = x
      or_x (Some y) = y

      option_is : Some x ≡ Some q → x ≡ q
      option_is e = ap or_x e
  snoc_get [] x q (suc k) h = absurd (cc)
  snoc_get (y ∷ xs) x q zero h = inl h
  snoc_get (y ∷ xs) x q (suc k) h = by (snoc_get xs x q k h)
    where
      by : (slice_get xs k ≡ Some q) ⊎ ((k ≡ length xs) × (x ≡ q)) → (slice_get xs k ≡ Some q) ⊎ ((suc k ≡ suc (length xs)) × (x ≡ q))
      by (inl e) = inl e
      by (inr e) = inr (ap suc e.0, e.1)

  snoc_length : (es : List PlainType) (q : PlainType) → suc (length es) ≡ length (es ++ q ∷ [])
  snoc_length es q = omega (arith, length-append es (q ∷ []))

  pub known_more : (e : Table) (es : List PlainType) (y : Core) (q : PlainType) → Known e es → ShowsLater (added N y e) (reference N (size N e)) q → Known (added N y e) (es ++ q ∷ [])
  known_more e es y q h s = record {
    count = size_added N N y e ∙ (ap suc h.count ∙ snoc_length es q);
    shows = λ k z g u l b. by k z (snoc_get es q z k g) u l b;
  }
    where
      by : (k : ℕ) (z : PlainType) → (slice_get es k ≡ Some z) ⊎ ((k ≡ length es) × (q ≡ z)) → ShowsLater (added N y e) (reference N k) z
      by k z (inl g) u l b = h.shows k z g u (later_added N y e u l) b
      by k z (inr g) u l b = subst (λ z. Shows u (reference N k) z) g.1 (subst (λ k. Shows u (reference N k) q) (h.count ∙ sym g.0) (s u l b))

  pub known_other : (e : Table) (es : List PlainType) (y : Core) → Known e es → Known (added U y e) es
  known_other e es y h = record {
    count = size_added N U y e ∙ h.count;
    shows = λ k q g u l b. h.shows k q g u (later_added U y e u l) b;
  }

  -- a reference to what was added, in the node of its kind
  added_shows : (e u : Table) (t : Tag) (c : Core) → Later (added N (core.node t c core.end) e) u → ReferBack [] u → expand u input (reference N (size N e)) ≡ node t (expand u input c) end
  added_shows e u t c l b =
      expands_entries u input Tag.BackReference t N (size N e) c core.end core.end core.end b (later_entry N (core.node t c core.end) e u l)
      ∙ ap (λ z. node t (expand u input c) z) (expand_end u input)

  -- ---- a modifier's entry
  pub modifier_shows : (m : Modifier) (e : Table) (t : Tag) (c : Core) (q : PlainType) → ShowsLater e (core.node t c core.end) q
      → ShowsLater (added N (entry_of m (core.node t c core.end)) e) (reference N (size N e)) (decl.of m q)
  modifier_shows pointer e t c q s u l b =
      let g = s u (later_added N (entry_of pointer (core.node t c core.end)) e u l) b in (
        printed.of pointer g.0,
        ap (decl.of pointer) g.1,
        added_shows e u Tag.SubstitutableTypeNode _ l b
            ∙ (rw (expand_node u input Tag.TypeNodePointerTo (core.node t c core.end) core.end refl, g.2, expand_end u input) refl),
      )
  modifier_shows lvalue e t c q s u l b =
      let g = s u (later_added N (entry_of lvalue (core.node t c core.end)) e u l) b in (
        printed.of lvalue g.0,
        ap (decl.of lvalue) g.1,
        added_shows e u Tag.SubstitutableTypeNode _ l b
            ∙ (rw (expand_node u input Tag.TypeNodeLvalueRef (core.node t c core.end) core.end refl, g.2, expand_end u input) refl),
      )
  modifier_shows rvalue e t c q s u l b =
      let g = s u (later_added N (entry_of rvalue (core.node t c core.end)) e u l) b in (
        printed.of rvalue g.0,
        ap (decl.of rvalue) g.1,
        added_shows e u Tag.SubstitutableTypeNode _ l b
            ∙ (rw (expand_node u input Tag.TypeNodeRvalueRef (core.node t c core.end) core.end refl, g.2, expand_end u input) refl),
      )
  modifier_shows const e t c q s u l b =
      let g = s u (later_added N (entry_of const (core.node t c core.end)) e u l) b in (
        printed.of const g.0,
        ap (decl.of const) g.1,
        added_shows e u Tag.SubstitutableTypeNode _ l b
            ∙ (rw (
              expand_node u input Tag.TypeNodeQualified (core.node Tag.CvQualifiers (core.flag false (core.flag false (core.flag true core.end))) (core.node t c core.end)) core.end refl,
              expand_node u input Tag.CvQualifiers (core.flag false (core.flag false (core.flag true core.end))) (core.node t c core.end) refl,
              expand_flags u input false false true,
              g.2,
              expand_end u input,
            ) refl),
      )

  -- ---- names' entries
  pub first_prefix_shows : (e : Table) (i j : ℕ) (p : List ℕ) → bytes_of input i j ≡ p → ShowsLater (added N (first_prefix (name_core i j)) e) (reference N (size N e)) (decl.class (p ∷ []))
  first_prefix_shows e i j p h u l b = (
    printed.scoped (one false p),
    refl,
    added_shows e u Tag.SubstitutablePrefix _ l b
        ∙ (rw (expand_node u input Tag.PrefixUnqualified (name_core i j) core.end refl, expand_name u input i j, h, expand_end u input) refl),
  )

  -- a type that is a class is a scope
  pub scoped_of : (T : Typed) (ps : Path) → plain T ≡ decl.class ps → (q : Scoped) × (parts q ≡ ps) × (T ≡ printed.scoped q)
  scoped_of (printed.builtin k) ps h = absurd (cc)
  scoped_of (printed.of m t) ps h = absurd (cc)
  scoped_of (printed.scoped q) ps h = (q, ap path_of h, refl)
    where
      path_of : PlainType → Path
      path_of (decl.class ps) = ps
      path_of _ = []

  -- a name, expanded with others before it
  expand_name_last : (u : Table) (t : Tag) (c : Core) (i j : ℕ) → begins_ref c ≡ false → expand u input (core.node t c (name_core i j)) ≡ node t (expand u input c) (name_tree (bytes_of input i j))
  expand_name_last u t c i j e = expand_node u input t c (name_core i j) e ∙ ap (λ z. node t (expand u input c) z) (expand_name u input i j)

  -- a scope, and a name next to it
  scope_and_name : (u : Table) (k i j : ℕ) (ps : Path) (p : List ℕ) → bytes_of input i j ≡ p → (g : Shows u (reference N k) (decl.class ps))
      → expand u input (core.node Tag.BackReference (core.ref N k core.end) (name_core i j)) ≡ entity (scoped_of g.0 ps g.1).0 (name_tree p)
  scope_and_name u k i j ps p h g =
      let q = scoped_of g.0 ps g.1 in
      expand_next u input Tag.BackReference (core.ref N k core.end) (name_core i j)
      ∙ ap (λ z. with_next z (expand u input (name_core i j))) (g.2 ∙ ap (λ T. typed T end) q.2)
      ∙ ap (λ z. entity q.0 z) (expand_name u input i j ∙ ap name_tree h)

  pub later_prefix_shows : (e : Table) (k i j : ℕ) (ps : Path) (p : List ℕ) → bytes_of input i j ≡ p → ShowsLater e (reference N k) (decl.class ps)
      → ShowsLater (added N (later_prefix (reference N k) (name_core i j)) e) (reference N (size N e)) (decl.class (ps ++ p ∷ []))
  later_prefix_shows e k i j ps p h s u l b =
      let g = s u (later_added N (later_prefix (reference N k) (name_core i j)) e u l) b in
      let q = scoped_of g.0 ps g.1 in (
        printed.scoped (more false q.0 p),
        ap (λ z. decl.class (z ++ p ∷ [])) q.1,
        added_shows e u Tag.SubstitutablePrefix _ l b
            ∙ (rw (expand_node u input Tag.PrefixNested (core.node Tag.BackReference (core.ref N k core.end) (name_core i j)) core.end refl, scope_and_name u k i j ps p h g, expand_end u input) refl),
      )

  -- ---- classes' entries
  abbrev pub class_of : Core → Core
  class_of x = core.node Tag.SubstitutableTypeNode (core.node Tag.TypeNodeClassEnum (core.node Tag.ClassEnumTypeNamed x core.end) core.end) core.end

  around_class : (u : Table) (t : Tag) (c : Core) → expand u input (core.node Tag.TypeNodeClassEnum (core.node Tag.ClassEnumTypeNamed (core.node t c core.end) core.end) core.end)
      ≡ printed.class_tree (expand u input (core.node t c core.end))
  around_class u t c =
      rw (
        expand_node u input Tag.TypeNodeClassEnum (core.node Tag.ClassEnumTypeNamed (core.node t c core.end) core.end) core.end refl,
        expand_node u input Tag.ClassEnumTypeNamed (core.node t c core.end) core.end refl,
        expand_end u input,
      ) refl

  pub class_shows : (e : Table) (i j : ℕ) (p : List ℕ) → bytes_of input i j ≡ p
      → ShowsLater (added N (class_of (core.node Tag.NameUnscoped (core.node Tag.UnscopedNameUnqualified (name_core i j) core.end) core.end)) e) (reference N (size N e)) (decl.class (p ∷ []))
  class_shows e i j p h u l b = (
    printed.scoped (one true p),
    refl,
    added_shows e u Tag.SubstitutableTypeNode _ l b
        ∙ (rw (
          around_class u Tag.NameUnscoped (core.node Tag.UnscopedNameUnqualified (name_core i j) core.end),
          expand_node u input Tag.NameUnscoped (core.node Tag.UnscopedNameUnqualified (name_core i j) core.end) core.end refl,
          expand_node u input Tag.UnscopedNameUnqualified (name_core i j) core.end refl,
          expand_name u input i j,
          h,
          expand_end u input,
        ) refl),
  )

  pub nested_expands : (u : Table) (k i j : ℕ) (ps : Path) (p : List ℕ) → bytes_of input i j ≡ p → (g : Shows u (reference N k) (decl.class ps))
      → expand u input (nested_name (reference N k) (name_core i j)) ≡ printed.nested_tree (entity (scoped_of g.0 ps g.1).0 end) (name_tree p)
  nested_expands u k i j ps p h g =
      rw (
        expand_node u input Tag.NestedNameUnqualified (core.node Tag.CvQualifiers (core.flag false (core.flag false (core.flag false core.end))) (core.node Tag.Absent core.end (core.node Tag.Present (reference N k) (name_core i j)))) core.end refl,
        expand_node u input Tag.CvQualifiers (core.flag false (core.flag false (core.flag false core.end))) (core.node Tag.Absent core.end (core.node Tag.Present (reference N k) (name_core i j))) refl,
        expand_flags u input false false false,
        expand_node u input Tag.Absent core.end (core.node Tag.Present (reference N k) (name_core i j)) refl,
        expand_node u input Tag.Present (reference N k) (name_core i j) refl,
        g.2 ∙ ap (λ T. typed T end) (scoped_of g.0 ps g.1).2,
        expand_name u input i j,
        h,
        expand_end u input,
      ) refl

  pub nested_class_shows : (e : Table) (k i j : ℕ) (ps : Path) (p : List ℕ) → bytes_of input i j ≡ p → ShowsLater e (reference N k) (decl.class ps)
      → ShowsLater (added N (class_of (core.node Tag.NameNested (nested_name (reference N k) (name_core i j)) core.end)) e) (reference N (size N e)) (decl.class (ps ++ p ∷ []))
  nested_class_shows e k i j ps p h s u l b =
      let g = s u (later_added N (class_of (core.node Tag.NameNested (nested_name (reference N k) (name_core i j)) core.end)) e u l) b in
      let q = scoped_of g.0 ps g.1 in (
        printed.scoped (more true q.0 p),
        ap (λ z. decl.class (z ++ p ∷ [])) q.1,
        added_shows e u Tag.SubstitutableTypeNode _ l b
            ∙ (rw (around_class u Tag.NameNested (nested_name (reference N k) (name_core i j)), expand_node u input Tag.NameNested (nested_name (reference N k) (name_core i j)) core.end refl, nested_expands u k i j ps p h g, expand_end u input) refl),
      )
