-- Lists that grow at their end, and are cut there.
use Rattle.std.proofs.Common.{◌≡◌, refl, ap, ◌∙◌, ℕ, suc, zero, ◌≤◌, ◌+◌, List, [], ◌∷◌, ◌++◌, length, take, drop}
use Rattle.std.proofs.Common.{map, arith, ◌-◌, length-drop}

pub take_all : {A : Type 0} (xs : List A) → take (length xs) xs ≡ xs
take_all [] = refl
take_all (x ∷ xs) = ap (λ l. x ∷ l) (take_all xs)

pub take_front : {A : Type 0} (xs ys : List A) → take (length xs) (xs ++ ys) ≡ xs
take_front [] ys = refl
take_front (x ∷ xs) ys = ap (λ l. x ∷ l) (take_front xs ys)

pub append_none : {A : Type 0} (xs : List A) → xs ++ [] ≡ xs
append_none [] = refl
append_none (x ∷ xs) = ap (λ l. x ∷ l) (append_none xs)

-- what was taken of what was taken
pub take_less : {A : Type 0} (xs ys zs : List A) → take (length xs) ys ≡ xs → take (length ys) zs ≡ ys
    → take (length xs) zs ≡ xs
take_less [] ys zs h k = refl
take_less (x ∷ xs) [] zs h k = cc
take_less (x ∷ xs) (y ∷ ys) [] h k = cc
take_less (x ∷ xs) (y ∷ ys) (z ∷ zs) h k =
    let c : take (length xs) ys ≡ xs = cc in
    let d : take (length ys) zs ≡ ys = cc in
    let r : take (length xs) zs ≡ xs = take_less xs ys zs c d in
    cc

pub map_last : {A B : Type 0} (f : A → B) (xs : List A) (y : A) → map f (xs ++ y ∷ []) ≡ map f xs ++ f y ∷ []
map_last f [] y = refl
map_last f (x ∷ xs) y = ap (λ l. f x ∷ l) (map_last f xs y)

pub length_last : {A : Type 0} (xs : List A) (y : A) → length (xs ++ y ∷ []) ≡ length xs + 1
length_last [] y = omega arith
length_last (x ∷ xs) y = let h = length_last xs y in omega arith

pub take_before : {A : Type 0} (n : ℕ) (xs ys : List A) → n ≤ length xs → take n (xs ++ ys) ≡ take n xs
take_before zero xs ys h = refl
take_before (suc n) [] ys h = absurd (omega arith)
take_before (suc n) (x ∷ xs) ys h = ap (λ l. x ∷ l) (take_before n xs ys (omega arith))

-- so many from a place on are the same where the list has grown
pub span_before : {A : Type 0} (start count : ℕ) (xs ys : List A) → start + count ≤ length xs
    → take count (drop start (xs ++ ys)) ≡ take count (drop start xs)
span_before zero count xs ys h = take_before count xs ys (omega arith)
span_before (suc start) zero [] ys h = absurd (omega arith)
span_before (suc start) (suc count) [] ys h = absurd (omega arith)
span_before (suc start) count (x ∷ xs) ys h = span_before start count xs ys (omega arith)

take_none : {A : Type 0} (k : ℕ) (xs : List A) → xs ≡ [] → take k xs ≡ []
take_none zero xs h = refl
take_none (suc k) [] h = refl
take_none (suc k) (x ∷ xs) h = cc

-- all from a place on
pub rest_taken : {A : Type 0} (n m : ℕ) (xs : List A) → m ≡ length xs → take (m - n) (drop n xs) ≡ drop n xs
rest_taken zero m xs h =
    let e : m - zero ≡ length xs = omega (arith, h) in
    ap (λ k. take k xs) e ∙ take_all xs
rest_taken (suc n) m [] h = take_none (m - suc n) [] refl
rest_taken (suc n) zero (x ∷ xs) h = absurd (omega arith)
rest_taken (suc n) (suc m) (x ∷ xs) h =
    let e : suc m - suc n ≡ m - n = omega arith in
    ap (λ k. take k (drop n xs)) e ∙ rest_taken n m xs (omega (arith, h))

-- how many they are, by the length of a list that is the same
pub rest_length : {A : Type 0} (n m : ℕ) (xs ys : List A) → m ≡ length ys → xs ≡ ys
    → m - n ≡ length (take (length xs - n) (drop n xs))
rest_length n m xs ys h e =
    let l : length (take (length xs - n) (drop n xs)) ≡ length (drop n xs) = ap length (rest_taken n _ xs refl) in
    let d : length (drop n xs) ≡ length xs - n = length-drop n xs in
    let x : length xs ≡ length ys = ap length e in
    omega (arith, l, d, x, h)
