-- Lists in memory, of which the last is the newest.
use Rattle.std.proofs.Common.{◌≡◌, ℕ, zero, suc, ◌+◌, ◌-◌, ◌<◌, ◌≤◌, List, [], ◌∷◌, ◌++◌, map, reverse, length, take}
use Rattle.std.proofs.Common.{drop, get_or, Some, None, refl, sym, ◌∙◌, ap, arith, length-take, length-drop}
use Rattle.std.proofs.lemmas.List.{map-append, reverse-append, length-map, length-reverse, take-append-le}
use Rattle.std.proofs.lemmas.List.{drop-append-le, drop_all, take_all, take_at, drop_at, get_or-reverse, get_or-map}
use Rattle.std.proofs.lemmas.List.{get_or-drop, take-append-drop}
use Rattle.demangle_printing.specs.World.{nth}
use Rattle.demangle_context.specs.ItemsOf.{newest_first}

-- ---- the newest
pub newest_pushed : {A B : Type 0} (f : A → B) (xs : List A) (x : A) →
    newest_first f (xs ++ x ∷ []) ≡ f x ∷ newest_first f xs
newest_pushed f xs x = rw (map-append, reverse-append) refl

pub above_pushed : {A B : Type 0} (f : A → B) (n : ℕ) (xs : List A) (x : A) → n ≤ length xs →
    newest_first f (drop n (xs ++ x ∷ [])) ≡ f x ∷ newest_first f (drop n xs)
above_pushed f n xs x h = rw (drop-append-le n xs (x ∷ []) h) (newest_pushed f (drop n xs) x)

pub below_pushed : {A B : Type 0} (f : A → B) (n : ℕ) (xs : List A) (x : A) → n ≤ length xs →
    newest_first f (take n (xs ++ x ∷ [])) ≡ newest_first f (take n xs)
below_pushed f n xs x h = ap (newest_first f) (take-append-le n xs (x ∷ []) h)

pub above_all : {A B : Type 0} (f : A → B) (n : ℕ) (xs : List A) → length xs ≤ n → newest_first f (drop n xs) ≡ []
above_all f n xs h = ap (newest_first f) (drop_all n xs h)

pub below_all : {A B : Type 0} (f : A → B) (n : ℕ) (xs : List A) → length xs ≤ n →
    newest_first f (take n xs) ≡ newest_first f xs
below_all f n xs h = ap (newest_first f) (take_all n xs h)

pub length_newest : {A B : Type 0} (f : A → B) (xs : List A) → length (newest_first f xs) ≡ length xs
length_newest f xs = rw (length-reverse, length-map) refl

-- ---- above the base and below it
pub newest_parts : {A B : Type 0} (f : A → B) (n : ℕ) (xs : List A) →
    newest_first f xs ≡ newest_first f (drop n xs) ++ newest_first f (take n xs)
newest_parts f n xs =
    ap (newest_first f) (sym (take-append-drop n xs))
    ∙ (ap reverse (map-append f (take n xs) (drop n xs)) ∙ reverse-append (map f (take n xs)) (map f (drop n xs)))

pub length_above : {A B : Type 0} (f : A → B) (n : ℕ) (xs : List A) →
    length (newest_first f (drop n xs)) ≡ length xs - n
length_above f n xs = length_newest f (drop n xs) ∙ length-drop n xs

pub length_below : {A B : Type 0} (f : A → B) (n : ℕ) (xs : List A) → n ≤ length xs →
    length (newest_first f (take n xs)) ≡ n
length_below f n xs h = let a = length_newest f (take n xs) in let b = length-take n xs in omega (arith, a, b)

-- how many are above the base and below it
pub length_parts : {A B : Type 0} (f : A → B) (n : ℕ) (xs : List A) → n ≤ length xs →
    length (newest_first f (take n xs)) + length (newest_first f (drop n xs)) ≡ length xs
length_parts f n xs h = let a = length_below f n xs h in let b = length_above f n xs in omega (arith, a, b)

-- the base moved down
pub above_lower : {A B : Type 0} (f : A → B) (n k : ℕ) (xs : List A) → length xs - n ≡ k →
    newest_first f (drop n xs) ≡ take k (newest_first f xs)
above_lower f n k xs h =
    sym (ap (take k) (newest_parts f n xs)
    ∙ take_at (newest_first f (drop n xs)) (newest_first f (take n xs)) k (length_above f n xs ∙ h))

pub below_lower : {A B : Type 0} (f : A → B) (n k : ℕ) (xs : List A) → length xs - n ≡ k →
    newest_first f (take n xs) ≡ drop k (newest_first f xs)
below_lower f n k xs h =
    sym (ap (drop k) (newest_parts f n xs)
    ∙ drop_at (newest_first f (drop n xs)) (newest_first f (take n xs)) k (length_above f n xs ∙ h))

-- ---- one item
pub nth_there : {A : Type 0} (k : ℕ) (xs : List A) (d : A) → k < length xs → nth k xs ≡ Some (get_or xs k d)
nth_there k [] d h = absurd (omega (arith, h))
nth_there zero (x ∷ xs) d h = refl
nth_there (suc k) (x ∷ xs) d h = nth_there k xs d (let a = h in omega (arith, a))

pub nth_past : {A : Type 0} (k : ℕ) (xs : List A) → length xs ≤ k → nth k xs ≡ None
nth_past k [] h = refl
nth_past zero (x ∷ xs) h = absurd (omega (arith, h))
nth_past (suc k) (x ∷ xs) h = nth_past k xs (let a = h in omega (arith, a))

-- so many from the top, above the base
pub nth_above : {A B : Type 0} (f : A → B) (n k i : ℕ) (xs : List A) (d : A) → k + n < length xs →
    i + (k + 1) ≡ length xs →
    nth k (newest_first f (drop n xs)) ≡ Some (f (get_or xs i d))
nth_above f n k i xs d h e =
    let len : length (drop n xs) ≡ length xs - n = length-drop n xs in
    let len_map : length (map f (drop n xs)) ≡ length xs - n = length-map (drop n xs) f ∙ len in
    let small : k < length (map f (drop n xs)) = omega (arith, len_map, h) in
    let here : k < length (newest_first f (drop n xs)) = omega (arith, length_above f n xs, h) in
    let turned : get_or (newest_first f (drop n xs)) k (f d)
    ≡ get_or (map f (drop n xs)) (length (map f (drop n xs)) - 1 - k) (f d) =
    get_or-reverse (map f (drop n xs)) k (f d) small in
    let place : n + (length (map f (drop n xs)) - 1 - k) ≡ i = omega (arith, len_map, h, e) in
    let inside : length (map f (drop n xs)) - 1 - k < length (drop n xs) = omega (arith, len_map, len, h) in
    let mapped : get_or (map f (drop n xs)) (length (map f (drop n xs)) - 1 - k) (f d)
    ≡ f (get_or (drop n xs) (length (map f (drop n xs)) - 1 - k) d) =
    get_or-map f (drop n xs) (length (map f (drop n xs)) - 1 - k) d (f d) inside in
    let dropped : get_or (drop n xs) (length (map f (drop n xs)) - 1 - k) d
    ≡ get_or xs (n + (length (map f (drop n xs)) - 1 - k)) d =
    get_or-drop n xs (length (map f (drop n xs)) - 1 - k) d in
    nth_there k (newest_first f (drop n xs)) (f d) here
    ∙ ap Some (turned ∙ (mapped ∙ ap f (dropped ∙ ap (λ z. get_or xs z d) place)))
