-- Laws on what a builder keeps, and on the index that is made of it.
use Rattle.std.proofs.Common.{◌≡◌, ◌∙◌, ℕ, ◌+◌, Bool, true, false, cond, ◌||◌, List, [], ◌∷◌, ◌++◌, length, map}
use Rattle.std.proofs.Common.{Option, Some, None, Result, Ok, Err, OnOk, OnErr, refl, sym, ap, subst, arith}
use Rattle.std.proofs.Common.{String, Vec, string_bytes, is_some}
use Rattle.std.proofs.lemmas.List.{append-nil}
use Rattle.std.proofs.lemmas.List.Elements.{All-append, All-cons, All-map, All-nil, All-weaker}
use Rattle.std.proofs.lemmas.List.Folds.{list_any-append}
use Rattle.std.proofs.lemmas.Map.Text.{is_eq-slice_cmp}
use Rattle.std.proofs.lemmas.Map.Views.{All-found}
use Rattle.std.specs.BTreeMap.{IsOrdered, get, is_at}
use Rattle.std.specs.Cmp.Lexicographic.{slice_cmp}
use Rattle.std.specs.List.{All, AllByRecursion, list_any}
use Rattle.std.specs.List.Sorted.{IsStrictlySortedBy}
use Rattle.std.specs.Map.{keys_of, lookup}
use Rattle.std.specs.Option.{option_eq, option_map_or}
use Rattle.std.specs.Ordering.{nat_cmp}
use Rattle.std.specs.Str.{bytes_eq}
use Rattle.std.specs.String.{string_cmp, string_cmp_total}
use Rattle.std.specs.declared.alloc.Global.{Global}
use Rattle.std.specs.declared.cmp.Ordering.TheVariants.{Less}
use Rattle.demangle_groups.specs.Kept.{Adds, Keeps, Stays, Within, first_groups, first_of, group_at, has_at, has_within}
use Rattle.demangle_groups.specs.Kept.{is_some_of, positions_at, positions_within}
use Rattle.demangle_groups.specs.Places.{Entry, IsIndexOf, Scope, is_in, is_refused}
use Rattle.demangle_groups.specs.Places.{positions, positions_from, scope_cmp}
use Rattle.demangle_groups.specs.Shown.{positions_of, scope_of, shown, shown_group}
use Rattle.demangle_groups.specs.declared.builder.IndexBuilder.{IndexBuilder}
use Rattle.demangle_groups.specs.declared.index.Group.{Group}
use Rattle.demangle_groups.specs.declared.index.Index.{Index}

-- ---- one more entry
positions_from-push : {A : Type 0} (n : ℕ) (test : A → Bool) (xs : List A) (x : A)
    → positions_from n test (xs ++ x ∷ []) ≡ positions_from n test xs ++ cond (test x) ((n + length xs) ∷ []) []
positions_from-push n test [] x =
    let same : n ≡ n + 0 = omega arith in
    elim (test x) as (λ b. cond b (n ∷ []) [] ≡ cond b ((n + 0) ∷ []) [])
    [ true ↦ ap (λ k. k ∷ []) same | false ↦ refl ]
positions_from-push n test (y ∷ ys) x =
    let rest = positions_from-push (n + 1) test ys x in
    let same : (n + 1) + length ys ≡ n + length (y ∷ ys) = omega arith in
    let e = ap (λ k. positions_from (n + 1) test ys ++ cond (test x) (k ∷ []) []) same in
    elim (test y) as (λ b.
    cond b (n ∷ positions_from (n + 1) test (ys ++ x ∷ [])) (positions_from (n + 1) test (ys ++ x ∷ []))
    ≡ cond b (n ∷ positions_from (n + 1) test ys) (positions_from (n + 1) test ys)
    ++ cond (test x) ((n + length (y ∷ ys)) ∷ []) []) [
      | true ↦ ap (λ l. n ∷ l) (rest ∙ e)
      | false ↦ rest ∙ e
    ]

positions-push : {A : Type 0} (test : A → Bool) (xs : List A) (x : A) (n : ℕ) → length xs ≡ n
    → positions test (xs ++ x ∷ []) ≡ positions test xs ++ cond (test x) (n ∷ []) []
positions-push test xs x n e =
    let same : 0 + length xs ≡ n = omega arith in
    positions_from-push 0 test xs x ∙ ap (λ k. positions test xs ++ cond (test x) (k ∷ []) []) same

or-false : (b : Bool) → (b || false) ≡ b
or-false true = refl
or-false false = refl

any-push : {A : Type 0} (test : A → Bool) (xs : List A) (x : A)
    → list_any test (xs ++ x ∷ []) ≡ (list_any test xs || test x)
any-push test xs x = list_any-append test xs (x ∷ []) ∙ ap (λ b. list_any test xs || b) (or-false (test x))

-- what a builder keeps once it has one position more, at the scope of the entry
pub keeps-more : (b n : IndexBuilder) (es : List Entry) (e : Entry) (p : ℕ) → length es ≡ p → Keeps b es
    → ((q : Scope) → positions_at n q ≡ positions_at b q ++ cond (is_in q e) (p ∷ []) [])
    → ((q : Scope) → has_at n q ≡ (has_at b q || is_in q e))
    → n.refused.items ≡ b.refused.items ++ cond (is_refused e) (p ∷ []) []
    → Keeps n (es ++ e ∷ [])
keeps-more b n es e p at k places has refused = record {
  positions_are = λ q. places q
      ∙ ap (λ l. l ++ cond (is_in q e) (p ∷ []) []) (k.positions_are q)
      ∙ sym (positions-push (is_in q) es e p at);
  has_are = λ q. has q ∙ ap (λ x. x || is_in q e) (k.has_are q) ∙ sym (any-push (is_in q) es e);
  refused_are = refused
      ∙ ap (λ l. l ++ cond (is_refused e) (p ∷ []) []) k.refused_are
      ∙ sym (positions-push is_refused es e p at);
}

has-push : (ps : List ℕ) (p : ℕ) → is_some_of (ps ++ p ∷ []) ≡ (is_some_of ps || true)
has-push [] p = refl
has-push (x ∷ ps) p = refl

pub keeps-without : (b : IndexBuilder) (v : Vec ℕ Global) (es : List Entry) (p : ℕ) → length es ≡ p → Keeps b es
    → v.items ≡ b.without.items ++ p ∷ [] → Keeps (record b { without = v }) (es ++ Some None ∷ [])
keeps-without b v es p at k e = keeps-more b (record b { without = v }) es (Some None) p at k places has
    (sym (append-nil b.refused.items))
  where
    places : (q : Scope) → positions_at (record b { without = v }) q
        ≡ positions_at b q ++ cond (is_in q (Some None)) (p ∷ []) []
    places None = e
    places (Some s) = sym (append-nil (positions_within b.within s))

    has : (q : Scope) → has_at (record b { without = v }) q ≡ (has_at b q || is_in q (Some None))
    has None = ap is_some_of e ∙ has-push b.without.items p
    has (Some s) = sym (or-false (has_within b.within s))

pub keeps-within : (b : IndexBuilder) (m : Within) (s : List ℕ) (es : List Entry) (p : ℕ) → length es ≡ p
    → Keeps b es → Adds s p b.within m → Keeps (record b { within = m }) (es ++ Some (Some s) ∷ [])
keeps-within b m s es p at k adds = keeps-more b (record b { within = m }) es (Some (Some s)) p at k places has
    (sym (append-nil b.refused.items))
  where
    places : (q : Scope) → positions_at (record b { within = m }) q
        ≡ positions_at b q ++ cond (is_in q (Some (Some s))) (p ∷ []) []
    places None = sym (append-nil b.without.items)
    places (Some q) = adds.positions q

    has : (q : Scope) → has_at (record b { within = m }) q ≡ (has_at b q || is_in q (Some (Some s)))
    has None = sym (or-false (is_some_of b.without.items))
    has (Some q) = adds.has q

pub keeps-refused : (b : IndexBuilder) (v : Vec ℕ Global) (es : List Entry) (p : ℕ) → length es ≡ p → Keeps b es
    → v.items ≡ b.refused.items ++ p ∷ [] → Keeps (record b { refused = v }) (es ++ None ∷ [])
keeps-refused b v es p at k e = keeps-more b (record b { refused = v }) es None p at k
    (λ q. sym (append-nil (positions_at b q))) (λ q. sym (or-false (has_at b q))) e

-- ---- no entry more
pub still-without : (b : IndexBuilder) (v : Vec ℕ Global) (es : List Entry) → Keeps b es → v.items ≡ b.without.items
    → Keeps (record b { without = v }) es
still-without b v es k e = record {
  positions_are = places;
  has_are = has;
  refused_are = k.refused_are;
}
  where
    places : (q : Scope) → positions_at (record b { without = v }) q ≡ positions (is_in q) es
    places None = e ∙ k.positions_are None
    places (Some s) = k.positions_are (Some s)

    has : (q : Scope) → has_at (record b { without = v }) q ≡ list_any (is_in q) es
    has None = ap is_some_of e ∙ k.has_are None
    has (Some s) = k.has_are (Some s)

pub still-within : (b : IndexBuilder) (m : Within) (es : List Entry) → Keeps b es → Stays b.within m
    → Keeps (record b { within = m }) es
still-within b m es k h = record {
  positions_are = places;
  has_are = has;
  refused_are = k.refused_are;
}
  where
    places : (q : Scope) → positions_at (record b { within = m }) q ≡ positions (is_in q) es
    places None = k.positions_are None
    places (Some s) = h.positions s ∙ k.positions_are (Some s)

    has : (q : Scope) → has_at (record b { within = m }) q ≡ list_any (is_in q) es
    has None = k.has_are None
    has (Some s) = h.has s ∙ k.has_are (Some s)

-- ---- the index
abbrev Entries : Type 0
Entries = List (String Global × Vec ℕ Global)

abbrev group_scopes : List Group → List Scope
group_scopes gs = map (λ g. g.scope) (map shown_group gs)

below-all : (k : String Global) (m : Entries) → AllByRecursion (λ y. string_cmp k y ≡ Less) (keys_of m)
    → AllByRecursion (λ y. scope_cmp (Some (string_bytes k)) y ≡ Less) (group_scopes (map group_at m))
below-all k [] h = tt
below-all k (e ∷ m) h = (h.0, below-all k m h.1)

none-below-all : (m : Entries) → AllByRecursion (λ y. scope_cmp None y ≡ Less) (group_scopes (map group_at m))
none-below-all [] = tt
none-below-all (e ∷ m) = (refl, none-below-all m)

rises-within : (m : Entries) → IsStrictlySortedBy string_cmp (keys_of m)
    → IsStrictlySortedBy scope_cmp (group_scopes (map group_at m))
unfolding IsStrictlySortedBy
rises-within [] h = tt
rises-within (e ∷ m) h = (below-all e.0 m h.0, rises-within m h.1)

rises-behind : (v : Vec ℕ Global) (ps : List ℕ) (m : Entries) → IsStrictlySortedBy string_cmp (keys_of m)
    → IsStrictlySortedBy scope_cmp (group_scopes (first_of v ps ++ map group_at m))
unfolding IsStrictlySortedBy
rises-behind v [] m h = rises-within m h
rises-behind v (p ∷ ps) m h = (none-below-all m, rises-within m h)

is_some-cond : {A : Type 0} (b : Bool) (a : A) (o : Option A) → is_some (cond b (Some a) o) ≡ (b || is_some o)
is_some-cond true a o = refl
is_some-cond false a o = refl

has-scope : (s : List ℕ) (m : Entries)
    → list_any (option_eq bytes_eq (Some s)) (group_scopes (map group_at m))
    ≡ is_some (lookup (is_at (λ k. slice_cmp nat_cmp s (string_bytes k))) m)
has-scope s [] = refl
has-scope s (e ∷ m) =
    ap (λ b. bytes_eq s (string_bytes e.0) || b) (has-scope s m)
    ∙ ap (λ b. b || is_some (lookup (is_at (λ k. slice_cmp nat_cmp s (string_bytes k))) m))
    (sym (is_eq-slice_cmp s (string_bytes e.0)))
    ∙ sym (is_some-cond (is_at (λ k. slice_cmp nat_cmp s (string_bytes k)) e.0) e.1
    (lookup (is_at (λ k. slice_cmp nat_cmp s (string_bytes k))) m))

has-none : (m : Entries) → list_any (option_eq bytes_eq None) (group_scopes (map group_at m)) ≡ false
has-none [] = refl
has-none (e ∷ m) = has-none m

has-scopes : (b : IndexBuilder) (ps : List ℕ) (q : Scope) → b.without.items ≡ ps
    → list_any (option_eq bytes_eq q) (group_scopes (first_of b.without ps ++ map group_at b.within.entries))
    ≡ has_at b q
has-scopes b [] None e = has-none b.within.entries ∙ sym (ap is_some_of e)
has-scopes b [] (Some s) e = has-scope s b.within.entries
has-scopes b (p ∷ ps) None e = sym (ap is_some_of e)
has-scopes b (p ∷ ps) (Some s) e = has-scope s b.within.entries

gathers-first : (es : List Entry) (v : Vec ℕ Global) (ps : List ℕ) → v.items ≡ positions (is_in None) es
    → All (λ g. positions_of g ≡ positions (is_in (scope_of g)) es) (first_of v ps)
gathers-first es v [] e = All-nil (λ g. positions_of g ≡ positions (is_in (scope_of g)) es)
gathers-first es v (p ∷ ps) e =
    let P : Group → Type 0 = λ g. positions_of g ≡ positions (is_in (scope_of g)) es in
    All-cons P (record { scope = None; positions = v }) [] e (All-nil P)

gathers-within : (b : IndexBuilder) (es : List Entry) → Keeps b es → IsOrdered string_cmp b.within
    → All (λ e. e.1.items ≡ positions (is_in (Some (string_bytes e.0))) es) b.within.entries
gathers-within b es k o =
    All-weaker (λ e. get string_cmp b.within e.0 ≡ Some e.1)
    (λ e. e.1.items ≡ positions (is_in (Some (string_bytes e.0))) es)
    (λ e h. sym (ap (λ v. option_map_or (λ x. x.items) v []) h) ∙ k.positions_are (Some (string_bytes e.0)))
    b.within.entries (All-found string_cmp_total b.within o)

pub is-index : (b : IndexBuilder) (es : List Entry) (i : Index) → Keeps b es → IsOrdered string_cmp b.within
    → i.groups.items ≡ first_groups b.without ++ map group_at b.within.entries
    → i.refused.items ≡ b.refused.items
    → IsIndexOf es (shown i)
is-index b es i k o gs r =
    let P : Group → Type 0 = λ g. positions_of g ≡ positions (is_in (scope_of g)) es in
    let Sorted : List Group → Type 0 = λ l. IsStrictlySortedBy scope_cmp (group_scopes l) in
    let Gathered : List Group → Type 0 = λ l. All P l in
    record {
      rises = subst Sorted (sym gs) (rises-behind b.without b.without.items b.within.entries o);
      gathers = All-map (λ g. g.positions ≡ positions (is_in g.scope) es) shown_group i.groups.items
          (subst Gathered (sym gs)
          (All-append P (first_groups b.without) (map group_at b.within.entries)
          (gathers-first es b.without b.without.items (k.positions_are None))
          (All-map P group_at b.within.entries (gathers-within b es k o))));
      has_scopes = λ q. ap (λ l. list_any (option_eq bytes_eq q) (group_scopes l)) gs
          ∙ has-scopes b b.without.items q refl ∙ k.has_are q;
      refuses = r ∙ k.refused_are;
    }

-- ---- answers that were given
pub on-ok : {T E : Type 0} (r : Result T E) (P Q : Type 0) → (P → Q) → OnOk r P → OnOk r Q
on-ok (Ok x) P Q f h = f h
on-ok (Err e) P Q f h = h

pub on-err : {T E : Type 0} (r : Result T E) (P : Type 0) → P → OnErr r P
on-err (Ok x) P h = tt
on-err (Err e) P h = h

pub on-err-weaker : {T E : Type 0} (r : Result T E) (P Q : Type 0) → (P → Q) → OnErr r P → OnErr r Q
on-err-weaker (Ok x) P Q f h = h
on-err-weaker (Err e) P Q f h = f h
