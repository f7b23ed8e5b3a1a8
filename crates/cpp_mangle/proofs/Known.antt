-- What functions that look entities up and add them need.
use Rattle.std.specs.Prelude.{◌<◌, ◌≤◌, Option, Some, None, Result, Ok, Err, OnOk}
use Rattle.std.proofs.Common.{◌≡◌, refl, sym, ap, subst, ◌∙◌, arith, ℕ, zero, suc, ◌+◌, ◌-◌, Bool, true, false, List, [], ◌∷◌, ◌++◌, length, length-append, append-nil, map, take, drop, get_or, append_assoc}
use Rattle.std.proofs.lemmas.List.{take_more, map-append, take-append-drop, length-map, length-take-le}
use Rattle.std.proofs.Math.Seq.{drop-cons, take-append_seam, drop-append_seam}
use Rattle.cpp_mangle.specs.Declarations.{PlainType, Path, Modifier, class, of, same_type, place, or_place, next_place, mentioned, with, with_all, with_types, fronts, proper}
use Rattle.cpp_mangle.specs.Declarations.{longest_behind, or_longer, path_bytes, nested_from, types_bytes, type_bytes, params_bytes, mangled, seq_id, base_36}
use Rattle.cpp_mangle.specs.Closed.{Closed}
use Rattle.cpp_mangle.proofs.Lists.{all_old, new_more, with_behind, with_new, with_old, still_new, mentioned_less, fronts_more, proper_more, closed_type, closed_none}

behind_none : (xs ys : List PlainType) (x y : PlainType) (more : place x xs ≡ None → place x (xs ++ y ∷ ys) ≡ Some (length xs))
    (b : Bool) (o : Option ℕ) → place x xs ≡ o → or_place b o ≡ None → or_place b (place x (xs ++ y ∷ ys)) ≡ Some (suc (length xs))
behind_none xs ys x y more true o p g = absurd (cc)
behind_none xs ys x y more false None p g = ap next_place (more p)
behind_none xs ys x y more false (Some k) p g = absurd (cc)

found_behind : (x y : PlainType) (xs ys : List PlainType) → place x xs ≡ None → same_type x y ≡ true
    → place x (xs ++ y ∷ ys) ≡ Some (length xs)
found_behind x y [] ys h e = rw e refl
found_behind x y (z ∷ zs) ys h e =
    behind_none zs ys x y (λ p. found_behind x y zs ys p e) (same_type x z) (place x zs) refl h

module _ {A : Type 0} (plain : A → PlainType) (x : PlainType) (xs : List A) (i : ℕ) (d : A) (l : i < length xs) where
  pub none_more : place x (map plain (take i xs)) ≡ None → same_type x (plain (get_or xs i d)) ≡ false
      → place x (map plain (take (i + 1) xs)) ≡ None
  none_more h e =
      ap (λ z. place x (map plain z)) (take_more xs i d l)
      ∙ ap (place x) (map-append plain (take i xs) (get_or xs i d ∷ []))
      ∙ new_more x (plain (get_or xs i d)) (map plain (take i xs)) h e

  pub found_at : place x (map plain (take i xs)) ≡ None → same_type x (plain (get_or xs i d)) ≡ true
      → place x (map plain xs) ≡ Some i
  found_at h e =
      ap (λ z. place x (map plain z)) (sym (take-append-drop i xs) ∙ ap (λ z. take i xs ++ z) (drop-cons xs i d l))
      ∙ ap (place x) (map-append plain (take i xs) (get_or xs i d ∷ drop (suc i) xs))
      ∙ found_behind x (plain (get_or xs i d)) (map plain (take i xs)) (map plain (drop (suc i) xs)) h e
      ∙ ap Some (length-map (take i xs) plain ∙ length-take-le i xs (omega (arith, l)))

-- an entity that is there already brings nothing new
pub again : (x : PlainType) (xs : List PlainType) (k : ℕ) → Closed xs → place x xs ≡ Some k → with_all (mentioned x) xs ≡ xs
again x xs k c e = all_old (mentioned x) xs (c x (rw e refl))

-- a modified type that isn't there stands behind all that it mentions
pub added : (m : Modifier) (t : PlainType) (xs : List PlainType) → place (of m t) xs ≡ None
    → with_all (mentioned t ++ of m t ∷ []) xs ≡ with_all (mentioned t) xs ++ of m t ∷ []
added m t xs e =
    with_behind (mentioned t) (of m t) xs
    ∙ with_new (of m t) (with_all (mentioned t) xs)
    (still_new (of m t) (mentioned t) xs e (mentioned_less _ t (omega arith)))

pub whenever : {T E : Type 0} (r : Result T E) (P : Type 0) → P → OnOk r P
whenever (Ok v) P p = p
whenever (Err e) P p = tt

-- ---- fronts of a path
pub front_more : (parts : Path) (i : ℕ) (d : List ℕ) (xs : List PlainType) → i < length parts
    → with_all (fronts (take (i + 1) parts)) xs ≡ with (class (take (i + 1) parts)) (with_all (fronts (take i parts)) xs)
front_more parts i d xs l =
    ap (λ z. with_all (fronts z) xs) (take_more parts i d l)
    ∙ ap (λ z. with_all z xs) (fronts_more [] (take i parts) (get_or parts i d))
    ∙ with_behind (fronts (take i parts)) (class (take i parts ++ get_or parts i d ∷ [])) xs
    ∙ ap (λ z. with (class z) (with_all (fronts (take i parts)) xs)) (sym (take_more parts i d l))

front_of : (acc : Path) (q : List ℕ) → take (length (acc ++ q ∷ []) - 1) (acc ++ q ∷ []) ≡ acc
front_of acc q = ap (λ n. take n (acc ++ q ∷ [])) (omega (arith, length-append acc (q ∷ []))) ∙ take-append_seam acc (q ∷ [])

-- the list as its last element and what stands before
last_of : (p : List ℕ) (ps : Path) → (acc : Path) × (q : List ℕ) × (p ∷ ps ≡ acc ++ q ∷ [])
last_of p [] = ([], p, refl)
last_of p (r ∷ ps) = let g = last_of r ps in (p ∷ g.0, g.1, ap (λ z. p ∷ z) g.2)

pub proper_fronts : (parts : Path) → fronts (take (length parts - 1) parts) ≡ proper (fronts parts)
proper_fronts [] = refl
proper_fronts (p ∷ ps) =
    let g = last_of p ps in
    subst (λ z. fronts (take (length z - 1) z) ≡ proper (fronts z)) (sym g.2)
    (ap fronts (front_of g.0 g.1)
    ∙ sym (ap proper (fronts_more [] g.0 g.1) ∙ proper_more (fronts g.0) (class (g.0 ++ g.1 ∷ []))))

pub closed_fronts_of : (parts : Path) → Closed (with_all (proper (fronts parts)) [])
closed_fronts_of parts =
    subst (λ z. Closed (with_all z [])) (proper_fronts parts)
    (closed_type (class (take (length parts - 1) parts)) [] closed_none).0

-- ---- the longest front, from the longest on
abbrev pub longest_of : Path → List PlainType → ℕ → Option (ℕ × Path)
longest_of parts xs zero = None
longest_of parts xs (suc k) =
    or_longer (place (class (take (suc k) parts)) xs) (drop (suc k) parts) (longest_of parts xs k)

one_longer : (ps : Path) (q r : List ℕ) (qs whole : Path) (xs : List PlainType) → ps ++ q ∷ r ∷ qs ≡ whole
    → or_longer (place (class (ps ++ q ∷ [])) xs) (r ∷ qs) (longest_of whole xs (length ps))
    ≡ longest_of whole xs (length (ps ++ q ∷ []))
one_longer ps q r qs whole xs e =
    let n : length (ps ++ q ∷ []) ≡ suc (length ps) = omega (arith, length-append ps (q ∷ [])) in
    let w : (ps ++ q ∷ []) ++ r ∷ qs ≡ whole = append_assoc ps (q ∷ []) (r ∷ qs) ∙ e in
    let t : take (suc (length ps)) whole ≡ ps ++ q ∷ [] =
    ap (λ m. take m whole) (sym n) ∙ ap (take (length (ps ++ q ∷ []))) (sym w) ∙ take-append_seam (ps ++ q ∷ []) (r ∷ qs) in
    let d : drop (suc (length ps)) whole ≡ r ∷ qs =
    ap (λ m. drop m whole) (sym n) ∙ ap (drop (length (ps ++ q ∷ []))) (sym w) ∙ drop-append_seam (ps ++ q ∷ []) (r ∷ qs) in
    sym (ap (longest_of whole xs) n
    ∙ ap (λ z. or_longer (place (class z) xs) (drop (suc (length ps)) whole) (longest_of whole xs (length ps))) t
    ∙ ap (λ z. or_longer (place (class (ps ++ q ∷ [])) xs) z (longest_of whole xs (length ps))) d)

longest_from : (ps : Path) (q : List ℕ) (qs whole : Path) (xs : List PlainType) → ps ++ q ∷ qs ≡ whole
    → longest_behind ps (q ∷ qs) xs (longest_of whole xs (length ps)) ≡ longest_of whole xs (length ps + length qs)
longest_from ps q [] whole xs e = ap (longest_of whole xs) (omega arith)
longest_from ps q (r ∷ qs) whole xs e =
    ap (longest_behind (ps ++ q ∷ []) (r ∷ qs) xs) (one_longer ps q r qs whole xs e)
    ∙ longest_from (ps ++ q ∷ []) r qs whole xs (append_assoc ps (q ∷ []) (r ∷ qs) ∙ e)
    ∙ ap (longest_of whole xs) (omega (arith, length-append ps (q ∷ [])))

pub longest_all : (parts : Path) (xs : List PlainType) → longest_behind [] parts xs None ≡ longest_of parts xs (length parts - 1)
longest_all [] xs = refl
longest_all (q ∷ qs) xs = longest_from [] q qs (q ∷ qs) xs refl ∙ ap (longest_of (q ∷ qs) xs) (omega arith)

pub longest_here : (parts : Path) (xs : List PlainType) (k n : ℕ) → 1 ≤ n → place (class (take n parts)) xs ≡ Some k
    → longest_of parts xs n ≡ Some (k, drop n parts)
longest_here parts xs k zero l e = absurd (omega (arith, l))
longest_here parts xs k (suc n) l e = rw e refl

-- ---- bytes
pub path_long : (parts : Path) (xs : List PlainType) → (length parts ≡ 1 → ⊥)
    → path_bytes parts xs ≡ 78 ∷ (nested_from parts (longest_behind [] parts xs None) ++ 69 ∷ [])
path_long [] xs h = refl
path_long (p ∷ []) xs h = absurd (h refl)
path_long (p ∷ q ∷ ps) xs h = refl

pub types_more : (ts : List PlainType) (t : PlainType) (xs : List PlainType)
    → types_bytes (ts ++ t ∷ []) xs ≡ types_bytes ts xs ++ type_bytes t (with_types ts xs)
types_more [] t xs = append-nil (type_bytes t xs)
types_more (u ∷ ts) t xs =
    ap (λ z. type_bytes u xs ++ z) (types_more ts t (with_all (mentioned u) xs))
    ∙ sym (append_assoc (type_bytes u xs) (types_bytes ts (with_all (mentioned u) xs)) (type_bytes t (with_types (u ∷ ts) xs)))

pub with_more : (ts : List PlainType) (t : PlainType) (xs : List PlainType)
    → with_types (ts ++ t ∷ []) xs ≡ with_all (mentioned t) (with_types ts xs)
with_more [] t xs = refl
with_more (u ∷ ts) t xs = with_more ts t (with_all (mentioned u) xs)

module _ {A : Type 0} (plain : A → PlainType) (ts : List A) (i : ℕ) (d : A) (l : i < length ts) (xs : List PlainType) where
  one_more : map plain (take (i + 1) ts) ≡ map plain (take i ts) ++ plain (get_or ts i d) ∷ []
  one_more = ap (map plain) (take_more ts i d l) ∙ map-append plain (take i ts) (get_or ts i d ∷ [])

  pub types_step : types_bytes (map plain (take (i + 1) ts)) xs
      ≡ types_bytes (map plain (take i ts)) xs ++ type_bytes (plain (get_or ts i d)) (with_types (map plain (take i ts)) xs)
  types_step =
      ap (λ z. types_bytes z xs) one_more ∙ types_more (map plain (take i ts)) (plain (get_or ts i d)) xs

  pub with_step : with_types (map plain (take (i + 1) ts)) xs
      ≡ with_all (mentioned (plain (get_or ts i d))) (with_types (map plain (take i ts)) xs)
  with_step = ap (λ z. with_types z xs) one_more ∙ with_more (map plain (take i ts)) (plain (get_or ts i d)) xs

  pub out_step : (old now new : List ℕ) (ks : List PlainType) (one : A) → one ≡ get_or ts i d
      → now ≡ old ++ types_bytes (map plain (take i ts)) xs → ks ≡ with_types (map plain (take i ts)) xs
      → new ≡ now ++ type_bytes (plain one) ks → new ≡ old ++ types_bytes (map plain (take (i + 1) ts)) xs
  out_step old now new ks one e n k t =
      t ∙ ap (λ z. z ++ type_bytes (plain one) ks) n
      ∙ ap (λ z. (old ++ types_bytes (map plain (take i ts)) xs) ++ type_bytes (plain one) z) k
      ∙ ap (λ z. (old ++ types_bytes (map plain (take i ts)) xs) ++ type_bytes (plain z) (with_types (map plain (take i ts)) xs)) e
      ∙ append_assoc old (types_bytes (map plain (take i ts)) xs) (type_bytes (plain (get_or ts i d)) (with_types (map plain (take i ts)) xs))
      ∙ ap (λ z. old ++ z) (sym types_step)

  pub known_step : (ks new : List PlainType) (one : A) → one ≡ get_or ts i d → ks ≡ with_types (map plain (take i ts)) xs
      → new ≡ with_all (mentioned (plain one)) ks → new ≡ with_types (map plain (take (i + 1) ts)) xs
  known_step ks new one e k t =
      t ∙ ap (with_all (mentioned (plain one))) k
      ∙ ap (λ z. with_all (mentioned (plain z)) (with_types (map plain (take i ts)) xs)) e
      ∙ sym with_step

pub closed_types : (ts xs : List PlainType) → Closed xs → Closed (with_types ts xs)
closed_types [] xs c = c
closed_types (t ∷ ts) xs c = closed_types ts (with_all (mentioned t) xs) (closed_type t xs c).0

pub params_some : (ts xs : List PlainType) → (length ts ≡ 0 → ⊥) → params_bytes ts xs ≡ types_bytes ts xs
params_some [] xs h = absurd (h refl)
params_some (t ∷ ts) xs h = refl

pub seq_is : (k : ℕ) → (k ≡ 0 → ⊥) → seq_id k ≡ base_36 12 (k - 1)
seq_is zero h = absurd (h refl)
seq_is (suc k) h = ap (base_36 12) (less k)
  where
    less : (k : ℕ) → k ≡ suc k - 1
    less k = omega arith

-- ---- a whole name, from what each part of it has written
pub fronts_known : (m : ℕ) (parts path : Path) (before new : List PlainType) → m ≡ length parts - 1 → parts ≡ path → before ≡ []
    → new ≡ with_all (fronts (take m parts)) before → new ≡ with_all (proper (fronts path)) []
fronts_known m parts path before new e p b h =
    h ∙ ap (with_all (fronts (take m parts))) b
    ∙ ap (λ z. with_all (fronts (take z parts)) []) e
    ∙ ap (λ z. with_all z []) (proper_fronts parts)
    ∙ ap (λ z. with_all (proper (fronts z)) []) p

module _ (parts path : Path) (ts before behind : List PlainType) (empty marked named fronted : List ℕ) where
  pub whole_name : parts ≡ path → before ≡ [] → empty ≡ [] → marked ≡ empty ++ 95 ∷ 90 ∷ []
      → named ≡ marked ++ path_bytes parts before → fronted ≡ named → behind ≡ with_all (proper (fronts path)) []
      → fronted ++ params_bytes ts behind ≡ mangled (record { path = path; params = ts })
  unfolding mangled
  whole_name p b e m n f k =
      ap (λ z. z ++ params_bytes ts behind) (f ∙ n ∙ ap (λ z. z ++ path_bytes parts before) (m ∙ ap (λ z. z ++ 95 ∷ 90 ∷ []) e))
      ∙ ap (λ z. 95 ∷ 90 ∷ (path_bytes parts z ++ params_bytes ts behind)) b
      ∙ ap (λ z. 95 ∷ 90 ∷ (path_bytes z [] ++ params_bytes ts behind)) p
      ∙ ap (λ z. 95 ∷ 90 ∷ (path_bytes path [] ++ params_bytes ts z)) k

pub same_name : (a b : Path) (ts us : List PlainType) → a ≡ b → ts ≡ us
    → mangled (record { path = a; params = ts }) ≡ mangled (record { path = b; params = us })
same_name a b ts us e f =
    ap (λ z. mangled (record { path = z; params = ts })) e ∙ ap (λ z. mangled (record { path = b; params = z })) f
