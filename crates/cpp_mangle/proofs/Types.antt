-- What is read of a type's bytes, and what the table then holds.
use Rattle.std.specs.Prelude.{◌≤◌, ◌<◌, ◌-◌, drop, take, codes, Some, slice_get, ◌==◌, nat_lt, Ok}
use Rattle.std.proofs.Common.{◌≡◌, refl, sym, ap, subst, ◌∙◌, arith, ℕ, zero, suc, ◌+◌, Bool, true, false, List, [], ◌∷◌, ◌++◌, length, append_assoc, append-nil}
use Rattle.std.proofs.lemmas.List.{length-drop, drop-drop}
use Rattle.demangle_core.specs.Core.{Core, Tag, Which, N, U}
use Rattle.demangle_core.specs.Core as core
use Rattle.demangle_core.specs.Table.{Table, added, size, entry_at}
use Rattle.demangle_text.specs.Spot.{Spot}
use Rattle.demangle_grammar.specs.Rule.{Row}
use Rattle.demangle_grammar.specs.Items.{these}
use Rattle.demangle_grammar.specs.Tree.{reference}
use Rattle.demangle_grammar.specs.Reading.{next_is}
use Rattle.demangle_grammar.specs.Sound.{bytes_of}
use Rattle.demangle_grammar.specs.Code.{Here, here, Found, cread, turns_of}
use Rattle.demangle_forms.proofs.Turns.{turns_again}
use Rattle.demangle_forms.proofs.Missed.{end_or_one}
use Rattle.cpp_mangle.specs.Declarations.{PlainType, Path, Modifier, class, of, fronts_behind, proper}
use Rattle.cpp_mangle.proofs.Rows.{spot, SourceAt, Lacks, unqualified_read, class_type_read, named_class}
use Rattle.cpp_mangle.proofs.Marks.{letter, entry_of, NoFunction, modifier_read, builtin_read, referred_type_read}
use Rattle.cpp_mangle.proofs.Prefixes.{IsPrefixStart, nested_name, nested_name_read, prefix_handle_read, nested_is_name, class_type, first_turn_read, first_turn_refers, digit_has, first_prefix, later_prefix, turn_read, turns_end, entry_added, list_of, digit_lacks}
use Rattle.std.proofs.lemmas.Option.{slice_get_within}
use Rattle.demangle_vocab.specs.WordTable.{table_from}
use Rattle.demangle_vocab.specs.Builtins.{builtin_words}
use Rattle.cpp_mangle.specs.Declarations as decl
use Rattle.cpp_mangle.proofs.Printed as printed
use Rattle.cpp_mangle.proofs.Tables.{builtin_expands, Later, later_added, name_core, Known, ShowsLater, known_more, known_other, modifier_shows, later_prefix_shows, class_shows, class_of, nested_class_shows, first_prefix_shows}

-- a source name at the front, and what is behind it
pub record IsSource (bs p rest : List ℕ) : Type 0 where
  pub digits : ℕ
  pub more : ℕ
  pub stands : SourceAt bs digits more
  pub name : take (suc more) (drop digits bs) ≡ p
  pub behind : drop (suc more) (drop digits bs) ≡ rest

shorter : (bs p rest : List ℕ) → IsSource bs p rest → length rest < length bs
shorter bs p rest h =
    let n : length rest ≡ length (drop h.digits bs) - suc h.more = ap length (sym h.behind) ∙ length-drop (suc h.more) (drop h.digits bs) in
    grind (arith, n, length-drop h.digits bs, h.stands.long)

module _ (input : List ℕ) where
  abbrev pub Stands : Spot → Type 0
  Stands p = drop p.index input ≡ p.left

  pub place_is : (i : ℕ) (bs p rest : List ℕ) (h : IsSource bs p rest) → drop i input ≡ bs → bytes_of input (i + h.digits) ((i + h.digits) + suc h.more) ≡ p
  place_is i bs p rest h e =
      let n : ((i + h.digits) + suc h.more) - (i + h.digits) ≡ suc h.more = omega arith in
      ap (λ k. take k (drop (i + h.digits) input)) n ∙ (ap (take (suc h.more)) (sym (drop-drop h.digits i input) ∙ ap (drop h.digits) e) ∙ h.name)

  pub stands_behind : (i : ℕ) (bs p rest : List ℕ) (h : IsSource bs p rest) → drop i input ≡ bs → drop ((i + h.digits) + suc h.more) input ≡ rest
  stands_behind i bs p rest h e =
      sym (drop-drop (suc h.more) (i + h.digits) input) ∙ (ap (drop (suc h.more)) (sym (drop-drop h.digits i input) ∙ ap (drop h.digits) e) ∙ h.behind)

  -- ---- a type that was read
  pub record Reads (f : ℕ) (s : Here) (rest : List ℕ) (t : PlainType) (es : List PlainType) : Type 0 where
    pub tag : Tag
    pub inside : Core
    pub index : ℕ
    pub table : Table
    pub is : cread f Row.type_handle false s [] ≡ Found (core.node tag inside core.end) (here (spot index rest) table)
    pub stands : drop index input ≡ rest
    pub known : Known input table es
    pub later : (u : Table) → Later table u → Later s.table u
    pub shows : ShowsLater input table (core.node tag inside core.end) t

  pub modifier_reads : (m : Modifier) (f i : ℕ) (bs rest : List ℕ) (e : Table) (t : PlainType) (es : List PlainType) → 7 ≤ f → NoFunction m bs
      → Reads (suc f) (here (spot (i + 1) bs) e) rest t es → Reads (suc (suc f)) (here (spot i (letter m ∷ bs)) e) rest (of m t) (es ++ of m t ∷ [])
  modifier_reads m f i bs rest e t es l n r = record {
    tag = Tag.BackReference;
    inside = core.ref N (size N r.table) core.end;
    index = r.index;
    table = added N (entry_of m (core.node r.tag r.inside core.end)) r.table;
    is = modifier_read f false i bs e (core.node r.tag r.inside core.end) (here (spot r.index rest) r.table) m l n r.is;
    stands = r.stands;
    known = known_more input r.table es (entry_of m (core.node r.tag r.inside core.end)) (of m t) r.known (modifier_shows input m r.table r.tag r.inside t r.shows);
    later = λ u h. r.later u (later_added N (entry_of m (core.node r.tag r.inside core.end)) r.table u h);
    shows = modifier_shows input m r.table r.tag r.inside t r.shows;
  }

  -- ---- the names behind a prefix, up to `E`
  abbrev pub Sources : List ℕ → Path → List ℕ → Type 0
  Sources bs [] rest = bs ≡ rest
  Sources bs (p ∷ ps) rest = (mid : List ℕ) × IsSource bs p mid × Sources mid ps rest

  pub record Looped (f : ℕ) (s : Here) (k : ℕ) (rest : List ℕ) (ps qs : Path) (es : List PlainType) : Type 0 where
    pub last : ℕ  -- the component of the second list
    pub scope : ℕ  -- that of the scope
    pub start : ℕ
    pub stop : ℕ
    pub index : ℕ
    pub table : Table
    pub path : Path
    pub name : List ℕ
    pub is : turns_of (cread f) false Row.prefix_turn s (reference N k ∷ []) ≡ Found (reference U last) (here (spot index (69 ∷ rest)) table)
    pub entry : entry_at U last table ≡ Some (later_prefix (reference N scope) (name_core start stop))
    pub named : bytes_of input start stop ≡ name
    pub whole : path ++ name ∷ [] ≡ ps ++ qs
    pub shows : ShowsLater input table (reference N scope) (class path)
    pub stands : drop index input ≡ 69 ∷ rest
    pub known : Known input table (es ++ proper (fronts_behind ps qs))
    pub later : (u : Table) → Later table u → Later s.table u

  unqualified_is : (f i : ℕ) (bs p mid : List ℕ) (e : Table) (h : IsSource bs p mid) → Lacks 66 mid
      → cread (suc (suc (suc f))) Row.unqualified_name false (here (spot i bs) e) [] ≡ Found (name_core (i + h.digits) ((i + h.digits) + suc h.more)) (here (spot ((i + h.digits) + suc h.more) mid) e)
  unqualified_is f i bs p mid e h a =
      subst (λ r. Lacks 66 r → cread (suc (suc (suc f))) Row.unqualified_name false (here (spot i bs) e) [] ≡ Found (name_core (i + h.digits) ((i + h.digits) + suc h.more)) (here (spot ((i + h.digits) + suc h.more) r) e))
      h.behind (λ l. unqualified_read false i h.digits h.more bs e h.stands f l) a

  class_is : (f i : ℕ) (bs p mid : List ℕ) (e : Table) (h : IsSource bs p mid) → Lacks 66 mid → Lacks 73 mid
      → cread (suc (suc (suc (suc (suc (suc (suc (suc (suc f))))))))) Row.type_handle false (here (spot i bs) e) [] ≡ Found (reference N (size N e)) (here (spot ((i + h.digits) + suc h.more) mid)
      (added N (class_of input (core.node Tag.NameUnscoped (core.node Tag.UnscopedNameUnqualified (name_core (i + h.digits) ((i + h.digits) + suc h.more)) core.end) core.end)) e))
  class_is f i bs p mid e h a b =
      subst (λ r. Lacks 66 r → Lacks 73 r → cread (suc (suc (suc (suc (suc (suc (suc (suc (suc f))))))))) Row.type_handle false (here (spot i bs) e) [] ≡ Found (reference N (size N e)) (here (spot ((i + h.digits) + suc h.more) r)
      (added N (class_of input (core.node Tag.NameUnscoped (core.node Tag.UnscopedNameUnqualified (name_core (i + h.digits) ((i + h.digits) + suc h.more)) core.end) core.end)) e)))
      h.behind (λ l m. class_type_read false i h.digits h.more bs e h.stands f l m) a b

  -- a class of one part
  pub class_reads : (f i : ℕ) (bs p rest : List ℕ) (e : Table) (es : List PlainType) → IsSource bs p rest → Lacks 66 rest → Lacks 73 rest → drop i input ≡ bs → Known input e es
      → Reads (suc (suc (suc (suc (suc (suc (suc (suc (suc f))))))))) (here (spot i bs) e) rest (class (p ∷ [])) (es ++ class (p ∷ []) ∷ [])
  class_reads f i bs p rest e es h a b d k =
      let x = name_core (i + h.digits) ((i + h.digits) + suc h.more) in
      let y = class_of input (core.node Tag.NameUnscoped (core.node Tag.UnscopedNameUnqualified x core.end) core.end) in
      let s = class_shows input e (i + h.digits) ((i + h.digits) + suc h.more) p (place_is i bs p rest h d) in
      record {
        tag = Tag.BackReference;
        inside = core.ref N (size N e) core.end;
        index = (i + h.digits) + suc h.more;
        table = added N y e;
        is = class_is f i bs p rest e h a b;
        stands = stands_behind i bs p rest h d;
        known = known_more input e es y (class (p ∷ [])) k s;
        later = λ u l. later_added N y e u l;
        shows = s;
      }

  -- one turn
  one_turn : (f i : ℕ) (bs p mid : List ℕ) (e : Table) (k : ℕ) (z : Bool) (h : IsSource bs p mid) → Lacks 66 mid → Lacks 77 mid → next_is (these "E") mid ≡ z
      → cread (suc (suc (suc (suc f)))) Row.prefix_turn false (here (spot i bs) e) (reference N k ∷ []) ≡ Found (reference (list_of z) (size (list_of z) e)) (here (spot ((i + h.digits) + suc h.more) mid) (added (list_of z) (later_prefix (reference N k) (name_core (i + h.digits) ((i + h.digits) + suc h.more))) e))
  one_turn f i [] p mid e k z h a b c = absurd (omega (arith, shorter [] p mid h))
  one_turn f i (d ∷ bs) p mid e k z h a b c =
      turn_read (suc (suc (suc f))) false i d bs e N k (name_core (i + h.digits) ((i + h.digits) + suc h.more)) (here (spot ((i + h.digits) + suc h.more) mid) e) z h.stands.digit b c
      (unqualified_is f i (d ∷ bs) p mid e h a)

  unlike : (m n : ℕ) → m < n → (m == n) ≡ false
  unlike m n h = grind (arith, h)

  turned : (f i : ℕ) (bs p mid : List ℕ) (e : Table) (k : ℕ) (z : Bool) (h : IsSource bs p mid) → Lacks 66 mid → Lacks 77 mid → next_is (these "E") mid ≡ z
      → turns_of (cread (suc (suc (suc (suc f))))) false Row.prefix_turn (here (spot i bs) e) (reference N k ∷ [])
      ≡ turns_of (cread (suc (suc (suc (suc f))))) false Row.prefix_turn (here (spot ((i + h.digits) + suc h.more) mid) (added (list_of z) (later_prefix (reference N k) (name_core (i + h.digits) ((i + h.digits) + suc h.more))) e)) (reference (list_of z) (size (list_of z) e) ∷ [])
  turned f i bs p mid e k z h a b c =
      turns_again (suc (suc (suc (suc f)))) false (here (spot i bs) e) (here (spot ((i + h.digits) + suc h.more) mid) (added (list_of z) (later_prefix (reference N k) (name_core (i + h.digits) ((i + h.digits) + suc h.more))) e)) (reference N k ∷ []) _
      (one_turn f i bs p mid e k z h a b c) (unlike (length mid) (length bs) (shorter bs p mid h))

  pub digit_lacks_all : (bs p mid : List ℕ) → IsSource bs p mid → Lacks 66 bs × Lacks 77 bs × Lacks 69 bs
  digit_lacks_all [] p mid h = (refl, refl, refl)
  digit_lacks_all (d ∷ bs) p mid h = (rw (digit_lacks 66 refl d h.stands.digit) refl, rw (digit_lacks 77 refl d h.stands.digit) refl, rw (digit_lacks 69 refl d h.stands.digit) refl)

  pub looped : (f i : ℕ) (bs q rest : List ℕ) (qs ps : Path) (e : Table) (k : ℕ) (es : List PlainType) → Sources bs (q ∷ qs) (69 ∷ rest) → drop i input ≡ bs → Known input e es → ShowsLater input e (reference N k) (class ps)
      → Looped (suc (suc (suc (suc f)))) (here (spot i bs) e) k rest ps (q ∷ qs) es
  looped f i bs q rest [] ps e k es g d kn s =
      let h : IsSource bs q (69 ∷ rest) = subst (λ z. IsSource bs q z) g.2 g.1 in
      let a = (i + h.digits) + suc h.more in
      let y = later_prefix (reference N k) (name_core (i + h.digits) a) in
      record {
        last = size U e;
        scope = k;
        start = i + h.digits;
        stop = a;
        index = a;
        table = added U y e;
        path = ps;
        name = q;
        is = turned f i bs q (69 ∷ rest) e k true h refl refl refl ∙ turns_end (suc (suc (suc f))) false a 0 rest (added U y e) (reference U (size U e));
        entry = entry_added U y e;
        named = place_is i bs q (69 ∷ rest) h d;
        whole = refl;
        shows = λ u w b. s u (later_added U y e u w) b;
        stands = stands_behind i bs q (69 ∷ rest) h d;
        known = subst (λ z. Known input (added U y e) z) (sym (append-nil es)) (known_other input e es y kn);
        later = λ u w. later_added U y e u w;
      }
  looped f i bs q rest (r ∷ qs) ps e k es (mid, h, m) d kn s =
      let a = (i + h.digits) + suc h.more in
      let x = name_core (i + h.digits) a in
      let y = later_prefix (reference N k) x in
      let l = digit_lacks_all mid r m.0 m.1 in
      let sh = later_prefix_shows input e k (i + h.digits) a ps q (place_is i bs q mid h d) s in
      let g = looped f a mid r rest qs (ps ++ q ∷ []) (added N y e) (size N e) (es ++ class (ps ++ q ∷ []) ∷ []) m (stands_behind i bs q mid h d) (known_more input e es y (class (ps ++ q ∷ [])) kn sh) sh in
      record {
        last = g.last;
        scope = g.scope;
        start = g.start;
        stop = g.stop;
        index = g.index;
        table = g.table;
        path = g.path;
        name = g.name;
        is = turned f i bs q mid e k false h l.0 l.1 l.2 ∙ g.is;
        entry = g.entry;
        named = g.named;
        whole = g.whole ∙ append_assoc ps (q ∷ []) (r ∷ qs);
        shows = g.shows;
        stands = g.stands;
        known = subst (λ z. Known input g.table z) (append_assoc es (class (ps ++ q ∷ []) ∷ []) (proper (fronts_behind (ps ++ q ∷ []) (r ∷ qs)))) g.known;
        later = λ u w. later_added N y e u (g.later u w);
      }

  -- ---- nested names, behind their first turn
  abbrev pub IsNestedStart : List ℕ → Type 0
  IsNestedStart bs = IsPrefixStart bs × Lacks 72 bs × Lacks 114 bs × Lacks 86 bs × Lacks 75 bs

  module _ (f i k a : ℕ) (bs rest behind : List ℕ) (ps qs : Path) (e t : Table) (es : List PlainType) (st : IsNestedStart bs)
      (first : cread (suc (suc (suc (suc f)))) Row.first_turn false (here (spot (i + 1) bs) e) [] ≡ Found (reference N k) (here (spot a behind) t))
      (g : Looped (suc (suc (suc (suc f)))) (here (spot a behind) t) k rest ps qs es) where
    abbrev whole_name : Core
    whole_name = nested_name (reference N g.scope) (name_core g.start g.stop)

    nested_read : cread (suc (suc (suc (suc (suc (suc f)))))) Row.nested_name false (here (spot i (78 ∷ bs)) e) [] ≡ Found whole_name (here (spot (g.index + 1) rest) g.table)
    nested_read =
        nested_name_read (suc (suc (suc (suc f)))) false i g.last g.scope g.index bs rest e g.table (name_core g.start g.stop) (omega arith) st.0 st.1 st.2 st.3 st.4
        (prefix_handle_read (suc (suc (suc (suc f)))) false (here (spot (i + 1) bs) e) (here (spot a behind) t) (here (spot g.index (69 ∷ rest)) g.table) (reference N k) (reference U g.last) first g.is)
        g.entry

    pub name_is : cread (suc (suc (suc (suc (suc (suc (suc f))))))) Row.name false (here (spot i (78 ∷ bs)) e) [] ≡ Found (core.node Tag.NameNested whole_name core.end) (here (spot (g.index + 1) rest) g.table)
    name_is = nested_is_name (suc (suc (suc (suc (suc (suc f)))))) false (here (spot i (78 ∷ bs)) e) (here (spot (g.index + 1) rest) g.table) whole_name nested_read

    type_is : cread (suc (suc (suc (suc (suc (suc (suc (suc (suc f))))))))) Row.type_handle false (here (spot i (78 ∷ bs)) e) [] ≡ Found (reference N (size N g.table)) (here (spot (g.index + 1) rest) (added N (class_of input (core.node Tag.NameNested whole_name core.end)) g.table))
    type_is =
        class_type (suc (suc (suc (suc (suc (suc (suc (suc f)))))))) false (here (spot i (78 ∷ bs)) e) (here (spot (g.index + 1) rest) g.table) (core.node Tag.ClassEnumTypeNamed (core.node Tag.NameNested whole_name core.end) core.end) (omega arith) refl
        (named_class (suc (suc (suc (suc (suc (suc (suc f))))))) false (here (spot i (78 ∷ bs)) e) (here (spot (g.index + 1) rest) g.table) (core.node Tag.NameNested whole_name core.end) name_is)

    class_entry : Core
    class_entry = class_of input (core.node Tag.NameNested whole_name core.end)

    class_shown : ShowsLater input (added N (class_of input (core.node Tag.NameNested whole_name core.end)) g.table) (reference N (size N g.table)) (class (ps ++ qs))
    class_shown = subst (λ z. ShowsLater input (added N (class_of input (core.node Tag.NameNested whole_name core.end)) g.table) (reference N (size N g.table)) (class z)) g.whole
        (nested_class_shows input g.table g.scope g.start g.stop g.path g.name g.named g.shows)

    pub nested_reads : ((u : Table) → Later t u → Later e u) → Reads (suc (suc (suc (suc (suc (suc (suc (suc (suc f))))))))) (here (spot i (78 ∷ bs)) e) rest (class (ps ++ qs)) ((es ++ proper (fronts_behind ps qs)) ++ class (ps ++ qs) ∷ [])
    nested_reads l = record {
      tag = Tag.BackReference;
      inside = core.ref N (size N g.table) core.end;
      index = g.index + 1;
      table = added N (class_of input (core.node Tag.NameNested whole_name core.end)) g.table;
      is = type_is;
      stands = sym (drop-drop 1 g.index input) ∙ ap (drop 1) g.stands;
      known = known_more input g.table (es ++ proper (fronts_behind ps qs)) (class_of input (core.node Tag.NameNested whole_name core.end)) (class (ps ++ qs)) g.known class_shown;
      later = λ u w. l u (g.later u (later_added N (class_of input (core.node Tag.NameNested whole_name core.end)) g.table u w));
      shows = class_shown;
    }

  -- ---- the first turn: a name, or a reference
  pub digit_nested : (bs p mid : List ℕ) → IsSource bs p mid → IsNestedStart bs
  digit_nested [] p mid h = absurd (omega (arith, shorter [] p mid h))
  digit_nested (d ∷ bs) p mid h =
      let g = h.stands.digit in (
        digit_has (λ b. end_or_one (codes "0123456789S") (b ∷ [])) refl d g,
        rw (digit_lacks 72 refl d g) refl,
        rw (digit_lacks 114 refl d g) refl,
        rw (digit_lacks 86 refl d g) refl,
        rw (digit_lacks 75 refl d g) refl,
      )

  pub first_is : (f i : ℕ) (bs p mid : List ℕ) (e : Table) (h : IsSource bs p mid) → Lacks 66 mid → Lacks 77 mid → Lacks 69 mid
      → cread (suc (suc (suc (suc f)))) Row.first_turn false (here (spot i bs) e) [] ≡ Found (reference N (size N e)) (here (spot ((i + h.digits) + suc h.more) mid) (added N (first_prefix (name_core (i + h.digits) ((i + h.digits) + suc h.more))) e))
  first_is f i [] p mid e h a b c = absurd (omega (arith, shorter [] p mid h))
  first_is f i (d ∷ bs) p mid e h a b c =
      first_turn_read (suc (suc (suc f))) false i d bs e (name_core (i + h.digits) ((i + h.digits) + suc h.more)) (here (spot ((i + h.digits) + suc h.more) mid) e) h.stands.digit b c (unqualified_is f i (d ∷ bs) p mid e h a)

  -- a class of several parts, of which no front is in the list
  pub path_reads : (f i : ℕ) (bs p q rest : List ℕ) (qs : Path) (e : Table) (es : List PlainType) → Sources bs (p ∷ q ∷ qs) (69 ∷ rest) → drop (i + 1) input ≡ bs → Known input e es
      → Reads (suc (suc (suc (suc (suc (suc (suc (suc (suc f))))))))) (here (spot i (78 ∷ bs)) e) rest (class (p ∷ q ∷ qs)) (((es ++ class (p ∷ []) ∷ []) ++ proper (fronts_behind (p ∷ []) (q ∷ qs))) ++ class (p ∷ q ∷ qs) ∷ [])
  path_reads f i bs p q rest qs e es m d kn =
      let h : IsSource bs p m.0 = m.1 in
      let a = ((i + 1) + h.digits) + suc h.more in
      let y = first_prefix (name_core ((i + 1) + h.digits) a) in
      let l = digit_lacks_all m.0 q m.2.0 m.2.1 in
      let sh = first_prefix_shows input e ((i + 1) + h.digits) a p (place_is (i + 1) bs p m.0 h d) in
      nested_reads f i (size N e) a bs rest m.0 (p ∷ []) (q ∷ qs) e (added N y e) (es ++ class (p ∷ []) ∷ []) (digit_nested bs p m.0 h)
      (first_is f (i + 1) bs p m.0 e h l.0 l.1 l.2)
      (looped f a m.0 q rest qs (p ∷ []) (added N y e) (size N e) (es ++ class (p ∷ []) ∷ []) m.2 (stands_behind (i + 1) bs p m.0 h d) (known_more input e es y (class (p ∷ [])) kn sh) sh)
      (λ u w. later_added N y e u w)

  -- ---- builtin types
  pub builtin_reads : (f i n k : ℕ) (bs rest : List ℕ) (e : Table) (es : List PlainType) → table_from builtin_words (spot i bs) ≡ Ok (k, spot (i + n) rest) → drop (i + n) input ≡ rest → Known input e es
      → Reads (suc (suc (suc f))) (here (spot i bs) e) rest (decl.builtin k) es
  builtin_reads f i n k bs rest e es q d kn = record {
    tag = Tag.TypeHandleBuiltin;
    inside = core.node Tag.BuiltinTypeStandard (core.chosen 1 k core.end) core.end;
    index = i + n;
    table = e;
    is = builtin_read f false i k (i + n) bs rest e q;
    stands = d;
    known = kn;
    later = λ u w. w;
    shows = λ u w b. (printed.builtin k, refl, builtin_expands u input k);
  }

  -- ---- references
  pub record IsReference (bs : List ℕ) (k : ℕ) (rest : List ℕ) : Type 0 where
    pub second : ℕ
    pub more : List ℕ
    pub bytes : bs ≡ 83 ∷ second ∷ more
    pub no_std : (116 == second) ≡ false
    pub long : ℕ
    pub behind : drop long bs ≡ rest
    pub is : (f i : ℕ) (e : Table) → nat_lt k (size N e) ≡ true → cread (suc (suc f)) Row.substitution false (here (spot i bs) e) [] ≡ Found (reference N k) (here (spot (i + long) rest) e)

  pub referred_reads : (f i k : ℕ) (bs rest : List ℕ) (e : Table) (t : PlainType) (es : List PlainType) → IsReference bs k rest → Lacks 73 rest → slice_get es k ≡ Some t → drop i input ≡ bs → Known input e es
      → Reads (suc (suc (suc (suc (suc (suc (suc (suc (suc f))))))))) (here (spot i bs) e) rest t es
  referred_reads f i k bs rest e t es r b g d kn =
      let there : nat_lt k (size N e) ≡ true = rw kn.count (lt_true k (length es) (slice_get_within es k t g)) in
      record {
        tag = Tag.BackReference;
        inside = core.ref N k core.end;
        index = i + r.long;
        table = e;
        is = subst (λ z. cread (suc (suc (suc (suc (suc (suc (suc (suc f)))))))) Row.substitution false (here (spot i z) e) [] ≡ Found (reference N k) (here (spot (i + r.long) rest) e)
            → cread (suc (suc (suc (suc (suc (suc (suc (suc (suc f))))))))) Row.type_handle false (here (spot i z) e) [] ≡ Found (reference N k) (here (spot (i + r.long) rest) e)) (sym r.bytes)
            (λ q. referred_type_read (suc (suc (suc (suc (suc (suc (suc (suc f)))))))) false i r.second r.more e (reference N k) (here (spot (i + r.long) rest) e) (omega arith) r.no_std b q)
            (r.is (suc (suc (suc (suc (suc (suc f)))))) i e there);
        stands = sym (drop-drop r.long i input) ∙ (ap (drop r.long) d ∙ r.behind);
        known = kn;
        later = λ u w. w;
        shows = kn.shows k t g;
      }
    where
      lt_true : (k n : ℕ) → k < n → nat_lt k n ≡ true
      lt_true k n h = grind (arith, h)

  -- a class of several parts behind a front that is in the list
  pub path_refers : (f i k : ℕ) (bs mid q rest : List ℕ) (ps qs : Path) (e : Table) (es : List PlainType) → IsReference bs k mid → slice_get es k ≡ Some (class ps) → Sources mid (q ∷ qs) (69 ∷ rest) → drop (i + 1) input ≡ bs → Known input e es
      → Reads (suc (suc (suc (suc (suc (suc (suc (suc (suc f))))))))) (here (spot i (78 ∷ bs)) e) rest (class (ps ++ q ∷ qs)) ((es ++ proper (fronts_behind ps (q ∷ qs))) ++ class (ps ++ q ∷ qs) ∷ [])
  path_refers f i k bs mid q rest ps qs e es r g m d kn =
      let there : nat_lt k (size N e) ≡ true = rw kn.count (lt_true k (length es) (slice_get_within es k (class ps) g)) in
      nested_reads f i k ((i + 1) + r.long) bs rest mid ps (q ∷ qs) e e es (subst IsNestedStart (sym r.bytes) (refl, refl, refl, refl, refl))
      (subst (λ z. cread (suc (suc (suc f))) Row.substitution false (here (spot (i + 1) z) e) [] ≡ Found (reference N k) (here (spot ((i + 1) + r.long) mid) e)
      → cread (suc (suc (suc (suc f)))) Row.first_turn false (here (spot (i + 1) z) e) [] ≡ Found (reference N k) (here (spot ((i + 1) + r.long) mid) e)) (sym r.bytes)
      (λ w. first_turn_refers (suc (suc (suc f))) false (i + 1) 0 (r.second ∷ r.more) e (reference N k) (here (spot ((i + 1) + r.long) mid) e) w)
      (r.is (suc f) (i + 1) e there))
      (looped f ((i + 1) + r.long) mid q rest qs ps e k es m (sym (drop-drop r.long (i + 1) input) ∙ (ap (drop r.long) d ∙ r.behind)) kn (kn.shows k (class ps) g))
      (λ u w. w)
    where
      lt_true : (k n : ℕ) → k < n → nat_lt k n ≡ true
      lt_true k n h = grind (arith, h)

  -- ---- the bytes of a type, behind which the rest stands: the entities before them, and those behind them
  pub data Spelled : PlainType → List ℕ → List ℕ → List PlainType → List PlainType → Type 0 where
    a_builtin : {k : ℕ} {bs rest : List ℕ} {es : List PlainType} → (n : ℕ) → ((i : ℕ) → table_from builtin_words (spot i bs) ≡ Ok (k, spot (i + n) rest)) → drop n bs ≡ rest → Spelled (decl.builtin k) bs rest es es
    a_reference : {t : PlainType} {bs rest : List ℕ} {es : List PlainType} → (k : ℕ) → IsReference bs k rest → Lacks 73 rest → slice_get es k ≡ Some t → Spelled t bs rest es es
    a_modifier : {m : Modifier} {t : PlainType} {bs rest : List ℕ} {es fs : List PlainType} → NoFunction m bs → Spelled t bs rest es fs → Spelled (of m t) (letter m ∷ bs) rest es (fs ++ of m t ∷ [])
    a_class : {p bs rest : List ℕ} {es : List PlainType} → IsSource bs p rest → Lacks 66 rest → Lacks 73 rest → Spelled (class (p ∷ [])) bs rest es (es ++ class (p ∷ []) ∷ [])
    a_path : {p q bs rest : List ℕ} {qs : Path} {es : List PlainType} → Sources bs (p ∷ q ∷ qs) (69 ∷ rest)
        → Spelled (class (p ∷ q ∷ qs)) (78 ∷ bs) rest es (((es ++ class (p ∷ []) ∷ []) ++ proper (fronts_behind (p ∷ []) (q ∷ qs))) ++ class (p ∷ q ∷ qs) ∷ [])
    a_path_behind : {t : PlainType} {bs rest : List ℕ} {es : List PlainType} → (k : ℕ) (mid q : List ℕ) (ps qs : Path) → t ≡ class (ps ++ q ∷ qs) → IsReference bs k mid → slice_get es k ≡ Some (class ps) → Sources mid (q ∷ qs) (69 ∷ rest)
        → Spelled t (78 ∷ bs) rest es ((es ++ proper (fronts_behind ps (q ∷ qs))) ++ class (ps ++ q ∷ qs) ∷ [])

  at_nine : (P : ℕ → Type 0) → ((g : ℕ) → P (suc (suc (suc (suc (suc (suc (suc (suc (suc g)))))))))) → (f : ℕ) → 9 ≤ f → P f
  at_nine P h (suc (suc (suc (suc (suc (suc (suc (suc (suc g))))))))) l = h g
  at_nine P h f l = absurd (omega (arith, l))

  -- its levels are those of a class, and one for each modifier
  abbrev pub steps : {t : PlainType} {bs rest : List ℕ} {es fs : List PlainType} → Spelled t bs rest es fs → ℕ
  steps (a_builtin n q d) = 9
  steps (a_reference k r l g) = 9
  steps (a_modifier n h) = suc (steps h)
  steps (a_class h a b) = 9
  steps (a_path h) = 9
  steps (a_path_behind k mid q ps qs e r g h) = 9

  nine_at_least : {t : PlainType} {bs rest : List ℕ} {es fs : List PlainType} → (h : Spelled t bs rest es fs) → 9 ≤ steps h
  nine_at_least (a_builtin n q d) = omega arith
  nine_at_least (a_reference k r l g) = omega arith
  nine_at_least (a_modifier n h) = omega (arith, nine_at_least h)
  nine_at_least (a_class h a b) = omega arith
  nine_at_least (a_path h) = omega arith
  nine_at_least (a_path_behind k mid q ps qs e r g h) = omega arith

  pub spelled_reads : {t : PlainType} {bs rest : List ℕ} {es fs : List PlainType} → (h : Spelled t bs rest es fs) → (f i : ℕ) (e : Table) → steps h ≤ f → drop i input ≡ bs → Known input e es
      → Reads f (here (spot i bs) e) rest t fs
  spelled_reads {bs = bs} {rest = rest} {es = es} (a_builtin {k = k} n q d) f i e l g kn =
      at_nine (λ f. Reads f (here (spot i bs) e) rest (decl.builtin k) es) (λ f. builtin_reads (suc (suc (suc (suc (suc (suc f)))))) i n k bs rest e es (q i) (sym (drop-drop n i input) ∙ (ap (drop n) g ∙ d)) kn) f l
  spelled_reads {t = t} {bs = bs} {rest = rest} {es = es} (a_reference k r n p) f i e l g kn =
      at_nine (λ f. Reads f (here (spot i bs) e) rest t es) (λ f. referred_reads f i k bs rest e t es r n p g kn) f l
  spelled_reads (a_modifier n h) zero i e l g kn = absurd (omega (arith, l))
  spelled_reads (a_modifier n h) (suc zero) i e l g kn = absurd (omega (arith, l, nine_at_least h))
  spelled_reads {rest = rest} {es = es} (a_modifier {m = m} {t = t} {bs = bs} {fs = fs} n h) (suc (suc f)) i e l g kn =
      modifier_reads m f i bs rest e t fs (omega (arith, l, nine_at_least h)) n
      (spelled_reads h (suc f) (i + 1) e (omega (arith, l)) (sym (drop-drop 1 i input) ∙ ap (drop 1) g) kn)
  spelled_reads {bs = bs} {rest = rest} {es = es} (a_class {p = p} h a b) f i e l g kn =
      at_nine (λ f. Reads f (here (spot i bs) e) rest (class (p ∷ [])) (es ++ class (p ∷ []) ∷ [])) (λ f. class_reads f i bs p rest e es h a b g kn) f l
  spelled_reads {rest = rest} {es = es} (a_path {p = p} {q = q} {bs = bs} {qs = qs} h) f i e l g kn =
      at_nine (λ f. Reads f (here (spot i (78 ∷ bs)) e) rest (class (p ∷ q ∷ qs)) (((es ++ class (p ∷ []) ∷ []) ++ proper (fronts_behind (p ∷ []) (q ∷ qs))) ++ class (p ∷ q ∷ qs) ∷ []))
      (λ f. path_reads f i bs p q rest qs e es h (sym (drop-drop 1 i input) ∙ ap (drop 1) g) kn) f l
  spelled_reads {rest = rest} {es = es} (a_path_behind {bs = bs} k mid q ps qs t r p h) f i e l g kn =
      subst (λ t. Reads f (here (spot i (78 ∷ bs)) e) rest t ((es ++ proper (fronts_behind ps (q ∷ qs))) ++ class (ps ++ q ∷ qs) ∷ [])) (sym t)
      (at_nine (λ f. Reads f (here (spot i (78 ∷ bs)) e) rest (class (ps ++ q ∷ qs)) ((es ++ proper (fronts_behind ps (q ∷ qs))) ++ class (ps ++ q ∷ qs) ∷ []))
      (λ f. path_refers f i k bs mid q rest ps qs e es r p h (sym (drop-drop 1 i input) ∙ ap (drop 1) g) kn) f l)
