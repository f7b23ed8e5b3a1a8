-- The list of entities, as it grows.
use Rattle.std.specs.Prelude.{◌<◌, Option, Some, None, slice_get, is_some}
use Rattle.std.proofs.Common.{◌≡◌, refl, sym, ap, subst, ◌∙◌, arith, ℕ, suc, ◌+◌, Bool, true, false, List, [], ◌∷◌, ◌++◌, length, length-append, append-nil, append_assoc}
use Rattle.cpp_mangle.specs.Closed.{has, AllIn, Closed}
use Rattle.cpp_mangle.specs.Same.{types_are, types_same}
use Rattle.cpp_mangle.specs.Declarations.{PlainType, Path, builtin, class, of, same_type, fronts_behind, fronts, proper, mentioned, place, or_place, next_place, with, unless_there, with_all, longest_behind, or_longer}

-- ---- places
some_is : {A : Type 0} (a b : A) → Some a ≡ Some b → a ≡ b
some_is a b e = ap (or_a a) e
  where
    or_a : {A : Type 0} → A → Option A → A
    or_a a None = a
    or_a a (Some b) = b

pub placed : (x : PlainType) (xs : List PlainType) (k : ℕ) → place x xs ≡ Some k → slice_get xs k ≡ Some x
placed x [] k h = absurd (cc)
placed x (y ∷ ys) k h = by (placed x ys) (same_type x y) refl (place x ys) refl h
  where
    by : ((k : ℕ) → place x ys ≡ Some k → slice_get ys k ≡ Some x) → (z : Bool) → same_type x y ≡ z → (o : Option ℕ) → place x ys ≡ o → or_place z o ≡ Some k → slice_get (y ∷ ys) k ≡ Some x
    by more true e o p g = subst (λ k. slice_get (y ∷ ys) k ≡ Some x) (some_is 0 k g) (ap Some (sym (types_are x y e)))
    by more false e None p g = absurd (cc)
    by more false e (Some j) p g = subst (λ k. slice_get (y ∷ ys) k ≡ Some x) (some_is (suc j) k g) (more j p)

-- what is added behind
has_more : (x y : PlainType) (xs : List PlainType) → has x xs ≡ true → place x (xs ++ y ∷ []) ≡ place x xs
has_more x y [] h = absurd (cc)
has_more x y (z ∷ zs) h = by (λ e. has_more x y zs e) (same_type x z) (place x zs) refl h
  where
    by : (has x zs ≡ true → place x (zs ++ y ∷ []) ≡ place x zs) → (b : Bool) (o : Option ℕ) → place x zs ≡ o → is_some (or_place b o) ≡ true → or_place b (place x (zs ++ y ∷ [])) ≡ or_place b o
    by more true o p g = refl
    by more false None p g = absurd (cc)
    by more false (Some j) p g = ap next_place (more (rw p refl) ∙ p)

pub new_more : (x y : PlainType) (xs : List PlainType) → place x xs ≡ None → same_type x y ≡ false → place x (xs ++ y ∷ []) ≡ None
new_more x y [] h e = rw e refl
new_more x y (z ∷ zs) h e = by (λ p. new_more x y zs p e) (same_type x z) (place x zs) refl h
  where
    by : (place x zs ≡ None → place x (zs ++ y ∷ []) ≡ None) → (b : Bool) (o : Option ℕ) → place x zs ≡ o → or_place b o ≡ None → or_place b (place x (zs ++ y ∷ [])) ≡ None
    by more true o p g = absurd (cc)
    by more false None p g = ap next_place (more p)
    by more false (Some j) p g = absurd (cc)

own_place : (y : PlainType) (xs : List PlainType) → has y (xs ++ y ∷ []) ≡ true
own_place y [] = rw (types_same y) refl
own_place y (z ∷ zs) = by (same_type y z) (place y (zs ++ y ∷ [])) (own_place y zs)
  where
    by : (b : Bool) (o : Option ℕ) → is_some o ≡ true → is_some (or_place b o) ≡ true
    by true o h = refl
    by false None h = absurd (cc)
    by false (Some j) h = refl

-- one of both
stays : (x y : PlainType) (xs : List PlainType) → has x xs ≡ true → has x (with y xs) ≡ true
stays x y xs h = by (place y xs)
  where
    by : (o : Option ℕ) → has x (unless_there o y xs) ≡ true
    by None = rw (has_more x y xs h) h
    by (Some k) = h

is_there : (y : PlainType) (xs : List PlainType) → has y (with y xs) ≡ true
is_there y xs = by (place y xs) refl
  where
    by : (o : Option ℕ) → place y xs ≡ o → has y (unless_there o y xs) ≡ true
    by None e = own_place y xs
    by (Some k) e = rw e refl

pub with_new : (y : PlainType) (xs : List PlainType) → place y xs ≡ None → with y xs ≡ xs ++ y ∷ []
with_new y xs e = rw e refl

pub with_old : (y : PlainType) (xs : List PlainType) → has y xs ≡ true → with y xs ≡ xs
with_old y xs h = by (place y xs) h
  where
    by : (o : Option ℕ) → is_some o ≡ true → unless_there o y xs ≡ xs
    by None h = absurd (cc)
    by (Some k) h = refl

-- an entity that is there now was there, or is the one that was added
either_there : {P : Type 0} (x y : PlainType) (xs : List PlainType) → has x (with y xs) ≡ true → (has x xs ≡ true → P) → (x ≡ y → P) → P
either_there {P} x y xs h f g = by (place y xs) h
  where
    new : (o : Option ℕ) → place x xs ≡ o → (b : Bool) → same_type x y ≡ b → has x (xs ++ y ∷ []) ≡ true → P
    new (Some k) e b p h = f (rw e refl)
    new None e true p h = g (types_are x y p)
    new None e false p h = absurd (no (rw (new_more x y xs e p) at h))
      where
        no : false ≡ true → ⊥
        no e = cc

    by : (o : Option ℕ) → has x (unless_there o y xs) ≡ true → P
    by None h = new (place x xs) refl (same_type x y) refl h
    by (Some k) h = f h

-- ---- all of these are there
all_stay : (ys : List PlainType) (y : PlainType) (xs : List PlainType) → AllIn ys xs → AllIn ys (with y xs)
all_stay [] y xs h = tt
all_stay (z ∷ ys) y xs h = (stays z y xs h.0, all_stay ys y xs h.1)

all_behind : (ys : List PlainType) (z : PlainType) (xs : List PlainType) → AllIn ys xs → has z xs ≡ true → AllIn (ys ++ z ∷ []) xs
all_behind [] z xs h g = (g, tt)
all_behind (y ∷ ys) z xs h g = (h.0, all_behind ys z xs h.1 g)

pub all_old : (ys xs : List PlainType) → AllIn ys xs → with_all ys xs ≡ xs
all_old [] xs h = refl
all_old (y ∷ ys) xs h = ap (with_all ys) (with_old y xs h.0) ∙ all_old ys xs h.1

pub with_behind : (ys : List PlainType) (z : PlainType) (xs : List PlainType) → with_all (ys ++ z ∷ []) xs ≡ with z (with_all ys xs)
with_behind [] z xs = refl
with_behind (y ∷ ys) z xs = with_behind ys z (with y xs)

pub with_both : (ys zs xs : List PlainType) → with_all (ys ++ zs) xs ≡ with_all zs (with_all ys xs)
with_both [] zs xs = refl
with_both (y ∷ ys) zs xs = with_both ys zs (with y xs)

-- ---- a list that holds all that its members mention
abbrev pub before : PlainType → List PlainType
before (builtin k) = []
before (class ps) = proper (fronts ps)
before (of m t) = mentioned t

pub closed_none : Closed []
closed_none x h = absurd (cc)

-- what is mentioned is what was mentioned before, and the entity itself
abbrev EndsWithItself : PlainType → Type 0
EndsWithItself y = mentioned y ≡ before y ++ y ∷ []

closed_with : (y : PlainType) (xs : List PlainType) → EndsWithItself y → Closed xs → AllIn (before y) xs → Closed (with y xs)
closed_with y xs e c a x h =
    either_there x y xs h (λ g. all_stay (mentioned x) y xs (c x g))
    (λ g. subst (λ z. AllIn (mentioned z) (with y xs)) (sym g) (subst (λ z. AllIn z (with y xs)) (sym e) (all_behind (before y) y (with y xs) (all_stay (before y) y xs a) (is_there y xs))))

-- ---- fronts of a path
pub fronts_more : (acc qs : Path) (q : List ℕ) → fronts_behind acc (qs ++ q ∷ []) ≡ fronts_behind acc qs ++ class ((acc ++ qs) ++ q ∷ []) ∷ []
fronts_more acc [] q = ap (λ z. class (z ++ q ∷ []) ∷ []) (sym (append-nil acc))
fronts_more acc (p ∷ qs) q = ap (λ z. class (acc ++ p ∷ []) ∷ z) (fronts_more (acc ++ p ∷ []) qs q ∙ ap (λ z. fronts_behind (acc ++ p ∷ []) qs ++ class (z ++ q ∷ []) ∷ []) (append_assoc acc (p ∷ []) qs))

pub proper_more : (xs : List PlainType) (x : PlainType) → proper (xs ++ x ∷ []) ≡ xs
proper_more [] x = refl
proper_more (y ∷ []) x = refl
proper_more (y ∷ z ∷ xs) x = ap (λ w. y ∷ w) (proper_more (z ∷ xs) x)

front_itself : (acc : Path) (q : List ℕ) → EndsWithItself (class (acc ++ q ∷ []))
front_itself acc q = fronts_more [] acc q ∙ ap (λ z. z ++ class (acc ++ q ∷ []) ∷ []) (sym (ap proper (fronts_more [] acc q) ∙ proper_more (fronts acc) (class (acc ++ q ∷ []))))

before_front : (acc : Path) (q : List ℕ) → before (class (acc ++ q ∷ [])) ≡ fronts acc
before_front acc q = ap proper (fronts_more [] acc q) ∙ proper_more (fronts acc) (class (acc ++ q ∷ []))

closed_fronts : (acc qs : Path) (xs : List PlainType) → Closed xs → AllIn (fronts acc) xs → Closed (with_all (fronts_behind acc qs) xs) × AllIn (fronts (acc ++ qs)) (with_all (fronts_behind acc qs) xs)
closed_fronts acc [] xs c a = (c, subst (λ z. AllIn (fronts z) xs) (sym (append-nil acc)) a)
closed_fronts acc (q ∷ qs) xs c a =
    let y = class (acc ++ q ∷ []) in
    let d = closed_with y xs (front_itself acc q) c (subst (λ z. AllIn z xs) (sym (before_front acc q)) a) in
    let b = subst (λ z. AllIn z (with y xs)) (sym (fronts_more [] acc q)) (all_behind (fronts acc) y (with y xs) (all_stay (fronts acc) y xs a) (is_there y xs)) in
    let r = closed_fronts (acc ++ q ∷ []) qs (with y xs) d b in
    (r.0, subst (λ z. AllIn (fronts z) (with_all (fronts_behind (acc ++ q ∷ []) qs) (with y xs))) (append_assoc acc (q ∷ []) qs) r.1)

pub closed_type : (t : PlainType) (xs : List PlainType) → Closed xs → Closed (with_all (mentioned t) xs) × AllIn (mentioned t) (with_all (mentioned t) xs)
closed_type (builtin k) xs c = (c, tt)
closed_type (class ps) xs c = closed_fronts [] ps xs c tt
closed_type (of m t) xs c =
    let r = closed_type t xs c in
    let ys = with_all (mentioned t) xs in
    subst (λ z. Closed z × AllIn (mentioned (of m t)) z) (sym (with_behind (mentioned t) (of m t) xs))
    (closed_with (of m t) ys refl r.0 r.1, all_behind (mentioned t) (of m t) (with (of m t) ys) (all_stay (mentioned t) (of m t) ys r.1) (is_there (of m t) ys))

-- ---- what is new stays new behind lighter entities
abbrev pub weight : PlainType → ℕ
weight (builtin k) = 0
weight (class ps) = length ps
weight (of m t) = suc (weight t)

pub lighter : (x y : PlainType) → weight y < weight x → same_type x y ≡ false
lighter x y l = by (same_type x y) refl
  where
    by : (b : Bool) → same_type x y ≡ b → b ≡ false
    by true e = absurd (omega (arith, l, ap weight (types_are x y e)))
    by false e = refl

abbrev pub AllLess : ℕ → List PlainType → Type 0
AllLess n [] = Unit {0}
AllLess n (y ∷ ys) = (weight y < n) × AllLess n ys

less_behind : (n : ℕ) (ys : List PlainType) (z : PlainType) → AllLess n ys → weight z < n → AllLess n (ys ++ z ∷ [])
less_behind n [] z h l = (l, tt)
less_behind n (y ∷ ys) z h l = (h.0, less_behind n ys z h.1 l)

fronts_less : (n : ℕ) (acc qs : Path) → length acc + length qs < n → AllLess n (fronts_behind acc qs)
fronts_less n acc [] l = tt
fronts_less n acc (q ∷ qs) l =
    (omega (arith, l, length-append acc (q ∷ [])), fronts_less n (acc ++ q ∷ []) qs (omega (arith, l, length-append acc (q ∷ []))))

pub mentioned_less : (n : ℕ) (t : PlainType) → weight t < n → AllLess n (mentioned t)
mentioned_less n (builtin k) l = tt
mentioned_less n (class ps) l = fronts_less n [] ps (omega (arith, l))
mentioned_less n (of m t) l = less_behind n (mentioned t) (of m t) (mentioned_less n t (omega (arith, l))) l

pub still_new : (x : PlainType) (ys xs : List PlainType) → place x xs ≡ None → AllLess (weight x) ys → place x (with_all ys xs) ≡ None
still_new x [] xs e h = e
still_new x (y ∷ ys) xs e h = still_new x ys (with y xs) (by (place y xs)) h.1
  where
    by : (o : Option ℕ) → place x (unless_there o y xs) ≡ None
    by None = new_more x y xs e (lighter x y h.0)
    by (Some k) = e

-- all of these are new
abbrev pub AllNew : List PlainType → List PlainType → Type 0
AllNew [] xs = Unit {0}
AllNew (y ∷ ys) xs = (place y xs ≡ None) × AllNew ys xs

pub new_behind : (ys : List PlainType) (z : PlainType) (xs : List PlainType) → AllNew ys xs → place z xs ≡ None → AllNew (ys ++ z ∷ []) xs
new_behind [] z xs h e = (e, tt)
new_behind (y ∷ ys) z xs h e = (h.0, new_behind ys z xs h.1 e)

-- behind a front of so many parts the longer fronts stay new
fronts_new : (acc qs : Path) (y : PlainType) (xs : List PlainType) → weight y < suc (length acc) → AllNew (fronts_behind acc qs) xs → AllNew (fronts_behind acc qs) (xs ++ y ∷ [])
fronts_new acc [] y xs l h = tt
fronts_new acc (q ∷ qs) y xs l h = (
  new_more (class (acc ++ q ∷ [])) y xs h.0 (lighter (class (acc ++ q ∷ [])) y (omega (arith, l, length-append acc (q ∷ [])))),
  fronts_new (acc ++ q ∷ []) qs y xs (omega (arith, l, length-append acc (q ∷ []))) h.1,
)

pub fronts_added : (acc qs : Path) (xs : List PlainType) → AllNew (fronts_behind acc qs) xs → with_all (fronts_behind acc qs) xs ≡ xs ++ fronts_behind acc qs
fronts_added acc [] xs h = sym (append-nil xs)
fronts_added acc (q ∷ qs) xs h =
    let y = class (acc ++ q ∷ []) in
    ap (with_all (fronts_behind (acc ++ q ∷ []) qs)) (with_new y xs h.0)
    ∙ fronts_added (acc ++ q ∷ []) qs (xs ++ y ∷ []) (fronts_new (acc ++ q ∷ []) qs y xs (omega arith) h.1)
    ∙ append_assoc xs (y ∷ []) (fronts_behind (acc ++ q ∷ []) qs)

pub proper_last : (acc : Path) (q : List ℕ) (qs : Path) → fronts_behind acc (q ∷ qs) ≡ proper (fronts_behind acc (q ∷ qs)) ++ class (acc ++ q ∷ qs) ∷ []
proper_last acc q [] = refl
proper_last acc q (r ∷ qs) =
    ap (λ z. class (acc ++ q ∷ []) ∷ z) (proper_last (acc ++ q ∷ []) r qs ∙ ap (λ z. proper (fronts_behind (acc ++ q ∷ []) (r ∷ qs)) ++ class z ∷ []) (append_assoc acc (q ∷ []) (r ∷ qs)))

pub fronts_split : (acc a b : Path) → fronts_behind acc (a ++ b) ≡ fronts_behind acc a ++ fronts_behind (acc ++ a) b
fronts_split acc [] b = ap (λ z. fronts_behind z b) (sym (append-nil acc))
fronts_split acc (q ∷ a) b = ap (λ z. class (acc ++ q ∷ []) ∷ z) (fronts_split (acc ++ q ∷ []) a b ∙ ap (λ z. fronts_behind (acc ++ q ∷ []) a ++ fronts_behind z b) (append_assoc acc (q ∷ []) a))

-- ---- the longest front
abbrev pub Best : List PlainType → Path → Path → Option (ℕ × Path) → Type 0
Best xs acc qs None = AllNew (fronts acc) xs
Best xs acc qs (Some x) = (ps : Path) × (mid : Path) × (place (class ps) xs ≡ Some x.0) × (ps ++ mid ≡ acc) × (x.1 ≡ mid ++ qs) × AllNew (fronts_behind ps mid) xs

-- up to the last part
pub longest_is : (acc : Path) (q : List ℕ) (qs : Path) (xs : List PlainType) (best : Option (ℕ × Path)) → Best xs acc (q ∷ qs) best
    → (front : Path) × (last : List ℕ) × (front ++ last ∷ [] ≡ acc ++ q ∷ qs) × Best xs front (last ∷ []) (longest_behind acc (q ∷ qs) xs best)
longest_is acc q [] xs best h = (acc, q, refl, h)
longest_is acc q (r ∷ qs) xs best h =
    let g = longest_is (acc ++ q ∷ []) r qs xs (or_longer (place (class (acc ++ q ∷ [])) xs) (r ∷ qs) best) (by (place (class (acc ++ q ∷ [])) xs) refl best h) in
    (g.0, g.1, g.2 ∙ append_assoc acc (q ∷ []) (r ∷ qs), g.3)
  where
    by : (o : Option ℕ) → place (class (acc ++ q ∷ [])) xs ≡ o → (best : Option (ℕ × Path)) → Best xs acc (q ∷ r ∷ qs) best → Best xs (acc ++ q ∷ []) (r ∷ qs) (or_longer o (r ∷ qs) best)
    by None e None h = subst (λ z. AllNew z xs) (sym (fronts_more [] acc q)) (new_behind (fronts acc) (class (acc ++ q ∷ [])) xs h e)
    by None e (Some x) h = (
      h.0,
      h.1 ++ q ∷ [],
      h.2,
      sym (append_assoc h.0 h.1 (q ∷ [])) ∙ ap (λ z. z ++ q ∷ []) h.3,
      h.4 ∙ sym (append_assoc h.1 (q ∷ []) (r ∷ qs)),
      subst (λ z. AllNew z xs) (sym (fronts_more h.0 h.1 q)) (new_behind (fronts_behind h.0 h.1) (class ((h.0 ++ h.1) ++ q ∷ [])) xs h.5 (ap (λ z. place (class (z ++ q ∷ [])) xs) h.3 ∙ e)),
    )
    by (Some k) e best h = (acc ++ q ∷ [], [], e, append-nil (acc ++ q ∷ []), refl, tt)
