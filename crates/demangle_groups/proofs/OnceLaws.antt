-- Each position of a list stands once in its index.
use Rattle.std.proofs.Common.{◌≡◌, ◌∙◌, ◌≤◌, ◌<◌, ℕ, ◌+◌, Bool, true, false, cond, ◌||◌, List, [], ◌∷◌, length, map}
use Rattle.std.proofs.Common.{Some, None, refl, sym, ap, arith, tests, nat_eq}
use Rattle.std.proofs.lemmas.List.Elements.{recursion_from_All}
use Rattle.std.proofs.lemmas.Map.Text.{is_eq-slice_cmp}
use Rattle.std.proofs.lemmas.Slice.Eq.{bytes_eq-Decides}
use Rattle.std.specs.List.{AllByRecursion, list_any}
use Rattle.std.specs.List.Sorted.{IsStrictlySortedBy}
use Rattle.std.specs.Option.{option_eq}
use Rattle.std.specs.Ordering.{is_eq}
use Rattle.std.specs.Str.{bytes_eq}
use Rattle.std.specs.declared.cmp.Ordering.TheVariants.{Less}
use Rattle.demangle_groups.specs.Laws.{StandsOnce, one_more_if, times, times_in_groups}
use Rattle.demangle_groups.specs.Places.{Entry, Group, Scope, is_in, is_refused}
use Rattle.demangle_groups.specs.Places.{positions, positions_from, scope_cmp}

abbrev bit : Bool → ℕ
bit b = one_more_if b 0

-- ---- the scopes that an entry is in
scope-same : (s t : Scope) → option_eq bytes_eq s t ≡ true → s ≡ t
scope-same None None e = refl
scope-same None (Some t) e = absurd cc
scope-same (Some s) None e = absurd cc
scope-same (Some s) (Some t) e = ap Some ((bytes_eq-Decides s t).0 e)

scope-apart : (s t : Scope) → scope_cmp s t ≡ Less → option_eq bytes_eq s t ≡ false
scope-apart None None e = absurd cc
scope-apart None (Some t) e = refl
scope-apart (Some s) None e = absurd cc
scope-apart (Some s) (Some t) e = sym (is_eq-slice_cmp s t) ∙ ap is_eq e

-- in how many of these scopes
abbrev number_in : Entry → List Scope → ℕ
number_in e [] = 0
number_in e (s ∷ ss) = bit (is_in s e) + number_in e ss

none-behind : (s t : Scope) (ss : List Scope) → t ≡ s → AllByRecursion (λ y. scope_cmp s y ≡ Less) ss
    → number_in (Some t) ss ≡ 0
none-behind s t [] e h = refl
none-behind s t (y ∷ ys) e h =
    ap (λ x. bit (option_eq bytes_eq x y) + number_in (Some t) ys) e
    ∙ ap (λ b. bit b + number_in (Some t) ys) (scope-apart s y h.0)
    ∙ (let rest = none-behind s t ys e h.1 in omega arith)

one-of : (t : Scope) (ss : List Scope) → IsStrictlySortedBy scope_cmp ss
    → list_any (option_eq bytes_eq t) ss ≡ true → number_in (Some t) ss ≡ 1
unfolding IsStrictlySortedBy
one-of t [] h e = absurd cc
one-of t (s ∷ ss) h e = by (one-of t ss h.1) (option_eq bytes_eq t s) refl
  where
    by : (list_any (option_eq bytes_eq t) ss ≡ true → number_in (Some t) ss ≡ 1) → (b : Bool)
        → option_eq bytes_eq t s ≡ b → number_in (Some t) (s ∷ ss) ≡ 1
    by more true f =
        ap (λ x. bit x + number_in (Some t) ss) f
        ∙ (let rest = none-behind s t ss (scope-same t s f) h.0 in omega arith)
    by more false f =
        ap (λ x. bit x + number_in (Some t) ss) f
        ∙ (let there : list_any (option_eq bytes_eq t) ss ≡ true =
        sym (ap (λ x. x || list_any (option_eq bytes_eq t) ss) f) ∙ e in
        let rest = more there in omega arith)

none-of : (ss : List Scope) → number_in None ss ≡ 0
none-of [] = refl
none-of (s ∷ ss) = let rest = none-of ss in omega arith

-- ---- the positions of one test
times-cons : (k n : ℕ) (b : Bool) (ps : List ℕ) → nat_eq k n ≡ true
    → times k (cond b (n ∷ ps) ps) ≡ bit b + times k ps
times-cons k n true ps e = ap (λ x. one_more_if x (times k ps)) e ∙ omega arith
times-cons k n false ps e = omega arith

times-past : (k n : ℕ) (b : Bool) (ps : List ℕ) → nat_eq k n ≡ false → times k (cond b (n ∷ ps) ps) ≡ times k ps
times-past k n true ps e = ap (λ x. one_more_if x (times k ps)) e
times-past k n false ps e = refl

not-equal : (k n : ℕ) → k < n → nat_eq k n ≡ false
not-equal k n l = grind (arith, tests)

times-below : {A : Type 0} (k n : ℕ) (test : A → Bool) (xs : List A) → k < n → times k (positions_from n test xs) ≡ 0
times-below k n test [] l = refl
times-below k n test (x ∷ xs) l =
    times-past k n (test x) (positions_from (n + 1) test xs) (not-equal k n l)
    ∙ times-below k (n + 1) test xs (omega arith)

-- ---- all together
times_in_scopes : ℕ → ℕ → List Entry → List Scope → ℕ
times_in_scopes k n es [] = 0
times_in_scopes k n es (s ∷ ss) = times k (positions_from n (is_in s) es) + times_in_scopes k n es ss

scopes-below : (k n : ℕ) (es : List Entry) (ss : List Scope) → k < n → times_in_scopes k n es ss ≡ 0
unfolding times_in_scopes
scopes-below k n es [] l = refl
scopes-below k n es (s ∷ ss) l =
    let first = times-below k n (is_in s) es l in
    let rest = scopes-below k n es ss l in
    omega arith

scopes-here : (k n : ℕ) (e : Entry) (es : List Entry) (ss : List Scope) → nat_eq k n ≡ true
    → times_in_scopes k n (e ∷ es) ss ≡ number_in e ss + times_in_scopes k (n + 1) es ss
unfolding times_in_scopes
scopes-here k n e es [] h = refl
scopes-here k n e es (s ∷ ss) h =
    let first = times-cons k n (is_in s e) (positions_from (n + 1) (is_in s) es) h in
    let rest = scopes-here k n e es ss h in
    omega arith

scopes-past : (k n : ℕ) (e : Entry) (es : List Entry) (ss : List Scope) → nat_eq k n ≡ false
    → times_in_scopes k n (e ∷ es) ss ≡ times_in_scopes k (n + 1) es ss
unfolding times_in_scopes
scopes-past k n e es [] h = refl
scopes-past k n e es (s ∷ ss) h =
    let first = times-past k n (is_in s e) (positions_from (n + 1) (is_in s) es) h in
    let rest = scopes-past k n e es ss h in
    omega arith

abbrev IsPlacedOnce : List Scope → Entry → Type 0
IsPlacedOnce ss e = bit (is_refused e) + number_in e ss ≡ 1

placed : (k n : ℕ) (es : List Entry) (ss : List Scope) → AllByRecursion (IsPlacedOnce ss) es → n ≤ k
    → k < n + length es → times k (positions_from n is_refused es) + times_in_scopes k n es ss ≡ 1
placed k n [] ss h a b = absurd (omega arith)
placed k n (e ∷ es) ss h a b = by (placed k (n + 1) es ss h.1) (nat_eq k n) refl
  where
    by : (n + 1 ≤ k → k < (n + 1) + length es
        → times k (positions_from (n + 1) is_refused es) + times_in_scopes k (n + 1) es ss ≡ 1)
        → (q : Bool) → nat_eq k n ≡ q
        → times k (positions_from n is_refused (e ∷ es)) + times_in_scopes k n (e ∷ es) ss ≡ 1
    by more true f =
        let refused = times-cons k n (is_refused e) (positions_from (n + 1) is_refused es) f in
        let scopes = scopes-here k n e es ss f in
        let same : k ≡ n = grind (arith, tests) in
        let none = times-below k (n + 1) is_refused es (omega arith) in
        let nowhere = scopes-below k (n + 1) es ss (omega arith) in
        let once = h.0 in
        omega arith
    by more false f =
        let refused = times-past k n (is_refused e) (positions_from (n + 1) is_refused es) f in
        let scopes = scopes-past k n e es ss f in
        let other : n + 1 ≤ k = grind (arith, tests) in
        let rest = more other (omega arith) in
        omega arith

-- ---- an index
weaken : {X : Type 0} (P Q : X → Type 0) → ((x : X) → P x → Q x) → (xs : List X) → AllByRecursion P xs
    → AllByRecursion Q xs
weaken P Q f [] h = tt
weaken P Q f (x ∷ xs) h = (f x h.0, weaken P Q f xs h.1)

abbrev IsFound : List Entry → Entry → Type 0
IsFound es e = (s : Scope) → e ≡ Some s → list_any (is_in s) es ≡ true

scope-itself : (s : Scope) → option_eq bytes_eq s s ≡ true
scope-itself None = refl
scope-itself (Some s) = (bytes_eq-Decides s s).1 refl

or-true : (b : Bool) → (b || true) ≡ true
or-true true = refl
or-true false = refl

all-found : (es : List Entry) → AllByRecursion (IsFound es) es
all-found [] = tt
all-found (e ∷ es) = (
  λ s same. ap (λ b. b || list_any (is_in s) es) (ap (is_in s) same ∙ scope-itself s),
  weaken (IsFound es) (IsFound (e ∷ es))
      (λ x h s same. ap (λ b. is_in s e || b) (h s same) ∙ or-true (is_in s e)) es (all-found es),
)

once : (es : List Entry) (ss : List Scope) → IsStrictlySortedBy scope_cmp ss
    → ((s : Scope) → list_any (option_eq bytes_eq s) ss ≡ list_any (is_in s) es) → (e : Entry) → IsFound es e
    → IsPlacedOnce ss e
once es ss rises has None h = let none = none-of ss in omega arith
once es ss rises has (Some s) h = let one = one-of s ss rises (has s ∙ h s refl) in omega arith

in-groups : (k : ℕ) (es : List Entry) (gs : List Group)
    → AllByRecursion (λ g. g.positions ≡ positions (is_in g.scope) es) gs
    → times_in_groups k gs ≡ times_in_scopes k 0 es (map (λ g. g.scope) gs)
unfolding times_in_scopes
in-groups k es [] h = refl
in-groups k es (g ∷ gs) h =
    let first = ap (times k) h.0 in
    let rest = in-groups k es gs h.1 in
    omega arith

pub stands-once : StandsOnce
stands-once es i h k l =
    let scopes = map (λ g. g.scope) i.groups in
    let gathers = recursion_from_All (λ g. g.positions ≡ positions (is_in g.scope) es) i.groups h.gathers in
    let groups = in-groups k es i.groups gathers in
    let refused = ap (times k) h.refuses in
    let each = weaken (IsFound es) (IsPlacedOnce scopes) (once es scopes h.rises h.has_scopes) es (all-found es) in
    let sum = placed k 0 es scopes each (omega arith) (omega arith) in
    omega arith
