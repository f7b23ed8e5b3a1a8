-- What is read of a whole name.
use Rattle.std.specs.Prelude.{◌≤◌, drop}
use Rattle.std.proofs.Common.{◌≡◌, refl, sym, ap, subst, ◌∙◌, arith, ℕ, suc, ◌+◌, Bool, false, List, [], ◌∷◌, ◌++◌, append_assoc, append-nil}
use Rattle.std.proofs.lemmas.List.{drop-drop}
use Rattle.demangle_core.specs.Core.{Core, Tag, Which, N, U, trees, ◌⊕◌}
use Rattle.demangle_core.specs.Core as core
use Rattle.demangle_core.specs.Table.{Table, added, size, empty_table}
use Rattle.demangle_core.specs.Sound.{ReferBack}
use Rattle.demangle_text.specs.Kind.{Unread}
use Rattle.demangle_grammar.specs.Rule.{Row}
use Rattle.demangle_grammar.specs.Rows.{rule}
use Rattle.demangle_grammar.specs.First.{takes_in, first_in, idle_in, first, Misses}
use Rattle.demangle_grammar.specs.Parts.{listed}
use Rattle.demangle_grammar.specs.Code.{Here, here, Found, Yes, cread, rows_at}
use Rattle.demangle_forms.proofs.Missed.{IsMissed, row_missed}
use Rattle.demangle_forms.proofs.Loops.{types_again, rows_stop}
use Rattle.cpp_mangle.specs.Declarations.{PlainType, Path, class, fronts_behind, proper}
use Rattle.cpp_mangle.proofs.Rows.{spot, missed_is, Lacks, name_read}
use Rattle.cpp_mangle.proofs.Prefixes.{first_prefix, nested_name, function_read, encoding_read, mangled_read}
use Rattle.cpp_mangle.proofs.Tables.{Later, later_same, Known, ShowsLater, known_more, plain, parts, name_core, expand_node, expand_end, expand_next, with_next, expand_name, first_prefix_shows, scoped_of, nested_expands}
use Rattle.cpp_mangle.proofs.Printed.{row, Named, alone, within, named_tree, Typed, typed}
use Rattle.demangle_grammar.specs.Expand.{Expanded, end, node, expand}
use Rattle.demangle_grammar.specs.Tree.{reference}
use Rattle.cpp_mangle.proofs.Types.{Spelled, steps, spelled_reads, IsSource, Sources, place_is, stands_behind, digit_lacks_all, looped, name_is, digit_nested, first_is}

no_type : (f : ℕ) (c : Bool) (s : Here) → 9 ≤ f → s.spot.left ≡ [] → IsMissed (cread f Row.type_handle c s [])
unfolding rule takes_in first_in idle_in
no_type f c s l h = row_missed Row.type_handle f c s refl (omega (arith, l)) (subst (λ bs. Misses (first Row.type_handle) bs) (sym h) tt)

-- a handle of a type: its tag and its part
abbrev pub Handle : Type 0
Handle = Tag × Core

abbrev pub tag_in : Handle → Tag
tag_in x = x.0

abbrev pub part_in : Handle → Core
part_in x = x.1

module _ (input : List ℕ) where
  -- the bytes of types, behind which nothing stands
  pub data SpelledAll : List PlainType → List ℕ → List PlainType → List PlainType → Type 0 where
    no_more : {es : List PlainType} → SpelledAll [] [] es es
    one_more : {t : PlainType} {ts : List PlainType} {bs mid : List ℕ} {es fs gs : List PlainType} → Spelled input t bs mid es fs → SpelledAll ts mid fs gs → SpelledAll (t ∷ ts) bs es gs

  abbrev pub StepsFit : ℕ → {ts : List PlainType} {bs : List ℕ} {es fs : List PlainType} → SpelledAll ts bs es fs → Type 0
  StepsFit f no_more = Unit {0}
  StepsFit f (one_more h more) = (steps input h ≤ f) × StepsFit f more

  abbrev pub ShowAll : Table → List Handle → List PlainType → Type 0
  ShowAll e [] [] = Unit {0}
  ShowAll e (x ∷ xs) (t ∷ ts) = ShowsLater input e (core.node x.0 x.1 core.end) t × ShowAll e xs ts
  ShowAll e _ _ = ⊥

  show_later : (e g : Table) → ((u : Table) → Later g u → Later e u) → (x : Core) (t : PlainType) → ShowsLater input e x t → ShowsLater input g x t
  show_later e g l x t s u w b = s u (l u w) b

  pub record ReadsAll (f : ℕ) (s : Here) (before : List Handle) (ts es : List PlainType) : Type 0 where
    pub handles : List Handle
    pub index : ℕ
    pub table : Table
    pub is : rows_at (cread f) false Row.type_handle s (listed tag_in part_in before) ≡ Yes (here (spot index []) table) (core.node Tag.Several (trees tag_in part_in (before ++ handles)) core.end ∷ [])
    pub known : Known input table es
    pub later : (u : Table) → Later table u → Later s.table u
    pub shows : ShowAll table handles ts

  pub all_read : {ts : List PlainType} {bs : List ℕ} {es fs : List PlainType} → (h : SpelledAll ts bs es fs) → (f i : ℕ) (e : Table) (before : List Handle) → 9 ≤ f → StepsFit f h → drop i input ≡ bs → Known input e es
      → ReadsAll f (here (spot i bs) e) before ts fs
  all_read no_more f i e before l m d kn =
      let z = missed_is (cread f Row.type_handle false (here (spot i []) e) []) (no_type f false (here (spot i []) e) l refl) in
      record {
        handles = [];
        index = i;
        table = e;
        is = rows_stop (cread f) false Row.type_handle (here (spot i []) e) tag_in part_in before (Unread z.0) z.1 refl
            ∙ ap (λ xs. Yes (here (spot i []) e) (core.node Tag.Several (trees tag_in part_in xs) core.end ∷ [])) (sym (append-nil before));
        known = kn;
        later = λ u w. w;
        shows = tt;
      }
  all_read (one_more {t = t} {bs = bs} {mid = mid} {fs = fs} h more) f i e before l m d kn =
      let r = spelled_reads input h f i e m.0 d kn in
      let x : Handle = (r.tag, r.inside) in
      let g = all_read more f r.index r.table (before ++ x ∷ []) l m.1 r.stands r.known in
      record {
        handles = x ∷ g.handles;
        index = g.index;
        table = g.table;
        is = types_again f false (spot i bs) (spot r.index mid) e r.table tag_in part_in before (before ++ x ∷ []) x r.is refl
            ∙ g.is ∙ ap (λ xs. Yes (here (spot g.index []) g.table) (core.node Tag.Several (trees tag_in part_in xs) core.end ∷ [])) (append_assoc before (x ∷ []) g.handles);
        known = g.known;
        later = λ u w. r.later u (g.later u w);
        shows = (show_later r.table g.table g.later (core.node r.tag r.inside core.end) t r.shows, g.shows);
      }

  -- ---- the types of a function, expanded
  abbrev pub plain_all : List Typed → List PlainType
  plain_all [] = []
  plain_all (T ∷ Ts) = plain T ∷ plain_all Ts

  pub row_shown : (e u : Table) (xs : List Handle) (ts : List PlainType) → ShowAll e xs ts → Later e u → ReferBack [] u
      → (Ts : List Typed) × (plain_all Ts ≡ ts) × (expand u input (trees tag_in part_in xs) ≡ row Ts)
  row_shown e u [] [] s l b = ([], refl, expand_end u input)
  row_shown e u [] (t ∷ ts) s l b = absurd s
  row_shown e u (x ∷ xs) [] s l b = absurd s
  row_shown e u (x ∷ xs) (t ∷ ts) s l b =
      let g = s.0 u l b in
      let r = row_shown e u xs ts s.1 l b in (
        g.0 ∷ r.0,
        (λ i. g.1 i ∷ r.1 i),
        expand_next u input x.0 x.1 (trees tag_in part_in xs)
            ∙ ap (λ z. with_next z (expand u input (trees tag_in part_in xs))) g.2
            ∙ ap (λ z. typed g.0 z) r.2,
      )

  -- ---- the name of a function
  abbrev pub named_path : Named → Path
  named_path (alone p) = p ∷ []
  named_path (within q p) = parts q ++ p ∷ []

  pub record NameRead (bs mid : List ℕ) (path : Path) (es : List PlainType) : Type 0 where
    pub tag : Tag
    pub inside : Core
    pub index : ℕ
    pub table : Table
    pub is : cread 93 Row.name false (here (spot 2 bs) empty_table) [] ≡ Found (core.node tag inside core.end) (here (spot index mid) table)
    pub stands : drop index input ≡ mid
    pub known : Known input table es
    pub shows : (u : Table) → Later table u → ReferBack [] u → (n : Named) × (named_path n ≡ path) × (expand u input (core.node tag inside core.end) ≡ named_tree n end)

  nothing_known : Known input empty_table []
  unfolding empty_table size
  nothing_known = record { count = refl; shows = λ k q e. absurd (cc) }

  pub alone_read : (bs p mid : List ℕ) → IsSource bs p mid → Lacks 66 mid → Lacks 73 mid → drop 2 input ≡ bs → NameRead bs mid (p ∷ []) []
  alone_read bs p mid h a b d = record {
    tag = Tag.NameUnscoped;
    inside = core.node Tag.UnscopedNameUnqualified (name_core (2 + h.digits) ((2 + h.digits) + suc h.more)) core.end;
    index = (2 + h.digits) + suc h.more;
    table = empty_table;
    is = subst (λ r. Lacks 66 r → Lacks 73 r → cread 93 Row.name false (here (spot 2 bs) empty_table) [] ≡ Found (core.node Tag.NameUnscoped (core.node Tag.UnscopedNameUnqualified (name_core (2 + h.digits) ((2 + h.digits) + suc h.more)) core.end) core.end) (here (spot ((2 + h.digits) + suc h.more) r) empty_table))
        h.behind (λ x y. name_read false 2 h.digits h.more bs empty_table h.stands 87 x y) a b;
    stands = stands_behind input 2 bs p mid h d;
    known = nothing_known;
    shows = λ u l r. (
      alone p,
      refl,
      rw (
        expand_node u input Tag.NameUnscoped (core.node Tag.UnscopedNameUnqualified (name_core (2 + h.digits) ((2 + h.digits) + suc h.more)) core.end) core.end refl,
        expand_node u input Tag.UnscopedNameUnqualified (name_core (2 + h.digits) ((2 + h.digits) + suc h.more)) core.end refl,
        expand_name u input (2 + h.digits) ((2 + h.digits) + suc h.more),
        place_is input 2 bs p mid h d,
        expand_end u input,
      ) refl,
    );
  }

  pub within_read : (bs p q mid : List ℕ) (qs : Path) → Sources input bs (p ∷ q ∷ qs) (69 ∷ mid) → drop 3 input ≡ bs
      → NameRead (78 ∷ bs) mid (p ∷ q ∷ qs) (class (p ∷ []) ∷ proper (fronts_behind (p ∷ []) (q ∷ qs)))
  within_read bs p q mid qs m d =
      let h : IsSource bs p m.0 = m.1 in
      let a = (3 + h.digits) + suc h.more in
      let y = first_prefix (name_core (3 + h.digits) a) in
      let l = digit_lacks_all input m.0 q m.2.0 m.2.1 in
      let sh = first_prefix_shows input empty_table (3 + h.digits) a p (place_is input 3 bs p m.0 h d) in
      let g = looped input 86 a m.0 q mid qs (p ∷ []) (added N y empty_table) (size N empty_table) (class (p ∷ []) ∷ []) m.2 (stands_behind input 3 bs p m.0 h d) (known_more input empty_table [] y (class (p ∷ [])) nothing_known sh) sh in
      let x = nested_name (reference N g.scope) (name_core g.start g.stop) in
      record {
        tag = Tag.NameNested;
        inside = x;
        index = g.index + 1;
        table = g.table;
        is = name_is input 86 2 (size N empty_table) a bs mid m.0 (p ∷ []) (q ∷ qs) empty_table (added N y empty_table) (class (p ∷ []) ∷ []) (digit_nested input bs p m.0 h)
            (first_is input 86 3 bs p m.0 empty_table h l.0 l.1 l.2) g;
        stands = sym (drop-drop 1 g.index input) ∙ ap (drop 1) g.stands;
        known = g.known;
        shows = λ u w b. let s = g.shows u w b in let z = scoped_of input s.0 g.path s.1 in (
          within z.0 g.name,
          ap (λ v. v ++ g.name ∷ []) z.1 ∙ g.whole,
          rw (expand_node u input Tag.NameNested x core.end refl, nested_expands input u g.scope g.start g.stop g.path g.name g.named s, expand_end u input) refl,
        );
      }

  -- ---- a whole name, of a function with one type at least in its bytes
  pub record WholeRead (name_path : Path) (ts es : List PlainType) : Type 0 where
    pub tree : Core
    pub index : ℕ
    pub table : Table
    pub is : cread 95 Row.mangled_name false (here (spot 0 input) empty_table) [] ≡ Found tree (here (spot index []) table)
    pub known : Known input table es
    pub shows : ReferBack [] table → (n : Named) × (named_path n ≡ name_path) × ((Ts : List Typed) × (plain_all Ts ≡ ts)
        × (expand table input tree ≡ node Tag.MangledNameEncoding (node Tag.EncodingFunction (named_tree n (node Tag.BareFunctionType (node Tag.Several (row Ts) end) end)) (node Tag.Several end end)) end))

  named_next : (n : Named) (x : Expanded) → with_next (named_tree n end) x ≡ named_tree n x
  named_next (alone p) x = refl
  named_next (within q p) x = refl

  pub whole_read : {ts : List PlainType} {t : PlainType} {rest bs mid : List ℕ} {es fs gs : List PlainType} {path : Path} → input ≡ 95 ∷ 90 ∷ bs → (n : NameRead bs mid path es) → (h : Spelled input t mid rest es fs) → (more : SpelledAll ts rest fs gs)
      → steps input h ≤ 92 → StepsFit 92 more → WholeRead path (t ∷ ts) gs
  unfolding listed
  whole_read {ts = ts} {t = t} {rest = rest} {bs = bs} {mid = mid} {path = path} e n h more l m =
      let r = spelled_reads input h 92 n.index n.table l n.stands n.known in
      let x : Handle = (r.tag, r.inside) in
      let g = all_read more 92 r.index r.table (x ∷ []) (omega arith) m r.stands r.known in
      let f = core.node Tag.BareFunctionType (core.node Tag.Several (trees tag_in part_in (x ∷ g.handles)) core.end) core.end in
      let y = core.node Tag.EncodingFunction (core.node n.tag n.inside f) core.end in
      record {
        tree = core.node Tag.MangledNameEncoding (core.node Tag.EncodingFunction (core.node n.tag n.inside f) (core.node Tag.Several core.end core.end)) core.end;
        index = g.index;
        table = g.table;
        is = whole_is bs mid rest n.index n.tag n.inside n.table r.tag r.inside r.index r.table g.index g.table g.handles e n.is r.is g.is;
        known = g.known;
        shows = λ b.
            let z = n.shows g.table (r.later g.table (g.later g.table (later_same g.table))) b in
            let v = row_shown g.table g.table (x ∷ g.handles) (t ∷ ts) (show_later r.table g.table g.later (core.node r.tag r.inside core.end) t r.shows, g.shows) (later_same g.table) b in (
              z.0,
              z.1,
              (
                v.0,
                v.1,
                (rw (
                  expand_node g.table input Tag.MangledNameEncoding (core.node Tag.EncodingFunction (core.node n.tag n.inside f) (core.node Tag.Several core.end core.end)) core.end refl,
                  expand_node g.table input Tag.EncodingFunction (core.node n.tag n.inside f) (core.node Tag.Several core.end core.end) refl,
                  expand_node g.table input Tag.Several core.end core.end refl,
                  expand_next g.table input n.tag n.inside f,
                  z.2,
                  named_next z.0 (expand g.table input f),
                  expand_node g.table input Tag.BareFunctionType (core.node Tag.Several (trees tag_in part_in (x ∷ g.handles)) core.end) core.end refl,
                  expand_node g.table input Tag.Several (trees tag_in part_in (x ∷ g.handles)) core.end refl,
                  v.2,
                  expand_end g.table input,
                ) refl),
              ),
            );
      }
    where
      whole_is : (bs mid rest : List ℕ) (i : ℕ) (t : Tag) (c : Core) (a : Table) (u : Tag) (d : Core) (j : ℕ) (b : Table) (k : ℕ) (g : Table) (hs : List Handle) → input ≡ 95 ∷ 90 ∷ bs
          → cread 93 Row.name false (here (spot 2 bs) empty_table) [] ≡ Found (core.node t c core.end) (here (spot i mid) a)
          → cread 92 Row.type_handle false (here (spot i mid) a) [] ≡ Found (core.node u d core.end) (here (spot j rest) b)
          → rows_at (cread 92) false Row.type_handle (here (spot j rest) b) (listed tag_in part_in ((u, d) ∷ [])) ≡ Yes (here (spot k []) g) (core.node Tag.Several (trees tag_in part_in ((u, d) ∷ hs)) core.end ∷ [])
          → cread 95 Row.mangled_name false (here (spot 0 input) empty_table) [] ≡ Found (core.node Tag.MangledNameEncoding (core.node Tag.EncodingFunction (core.node t c (core.node Tag.BareFunctionType (core.node Tag.Several (trees tag_in part_in ((u, d) ∷ hs)) core.end) core.end)) (core.node Tag.Several core.end core.end)) core.end) (here (spot k []) g)
      whole_is bs mid rest i t c a u d j b k g hs e p q r =
          subst (λ z. cread 95 Row.mangled_name false (here (spot 0 z) empty_table) [] ≡ Found (core.node Tag.MangledNameEncoding (core.node Tag.EncodingFunction (core.node t c (core.node Tag.BareFunctionType (core.node Tag.Several (trees tag_in part_in ((u, d) ∷ hs)) core.end) core.end)) (core.node Tag.Several core.end core.end)) core.end) (here (spot k []) g)) (sym e)
          (mangled_read 93 false 0 bs empty_table (here (spot k []) g) (core.node Tag.EncodingFunction (core.node t c (core.node Tag.BareFunctionType (core.node Tag.Several (trees tag_in part_in ((u, d) ∷ hs)) core.end) core.end)) core.end) refl
          (encoding_read 93 false (here (spot 2 bs) empty_table) (here (spot i mid) a) (here (spot k []) g) (core.node t c core.end) (core.node Tag.BareFunctionType (core.node Tag.Several (trees tag_in part_in ((u, d) ∷ hs)) core.end) core.end) p
          (function_read 92 false (here (spot i mid) a) (here (spot j rest) b) (here (spot k []) g) (core.node u d core.end) (core.node Tag.Several (trees tag_in part_in ((u, d) ∷ hs)) core.end ∷ []) q (listed_is r))))
        where
          listed_is : rows_at (cread 92) false Row.type_handle (here (spot j rest) b) (listed tag_in part_in ((u, d) ∷ [])) ≡ Yes (here (spot k []) g) (core.node Tag.Several (trees tag_in part_in ((u, d) ∷ hs)) core.end ∷ [])
              → rows_at (cread 92) false Row.type_handle (here (spot j rest) b) (core.node u d core.end ∷ []) ≡ Yes (here (spot k []) g) (core.node Tag.Several (trees tag_in part_in ((u, d) ∷ hs)) core.end ∷ [])
          listed_is r = r
