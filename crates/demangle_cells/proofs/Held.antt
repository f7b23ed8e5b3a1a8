-- Lists whose room stays.
use Rattle.std.proofs.Common.{◌≡◌, refl, ap, ◌∙◌, sym, ℕ, suc, zero, ◌≤◌, ◌<◌, List, [], ◌∷◌, ◌++◌, length, take, arith}
use Rattle.std.proofs.Common.{append_assoc, get_or, slice_get, Some, None}
use Rattle.demangle_cells.proofs.Lists.{take_before, take_all, length_last, append_none}

pub taken_get : {T : Type 0} (n k : ℕ) (x : T) (xs : List T) → k < n → n ≤ length xs → x ≡ get_or xs k x
    → Some x ≡ slice_get (take n xs) k
taken_get zero k x xs h l e = absurd (omega arith)
taken_get (suc n) k x [] h l e = absurd (omega arith)
taken_get (suc n) zero x (y ∷ xs) h l e = ap Some e
taken_get (suc n) (suc k) x (y ∷ xs) h l e = taken_get n k x xs (omega arith) (omega arith) e

pub taken_none : {T : Type 0} (n k : ℕ) (xs : List T) → n ≤ k → None ≡ slice_get (take n xs) k
taken_none zero k xs h = refl
taken_none (suc n) k [] h = refl
taken_none (suc n) zero (x ∷ xs) h = absurd (omega arith)
taken_none (suc n) (suc k) (x ∷ xs) h = taken_none n k xs (omega arith)

pub ruleset gets = (taken_get, taken_none)

-- ---- more at the end, where `xs` was first
pub more_on : {T : Type 0} (xs us zs ds rest : List T) (y : T) → zs ++ (y ∷ rest) ≡ xs ++ us → ds ≡ zs ++ y ∷ []
    → ds ++ rest ≡ xs ++ us
more_on xs us zs ds rest y a e = ap (λ l. l ++ rest) e ∙ (append_assoc zs (y ∷ []) rest ∙ a)

pub front_on : {T : Type 0} (n : ℕ) (xs zs ds : List T) (y : T) → take n zs ≡ xs → n ≤ length zs → ds ≡ zs ++ y ∷ []
    → take n ds ≡ xs
front_on n xs zs ds y f h e = ap (take n) e ∙ (take_before n zs (y ∷ []) h ∙ f)

pub long_on : {T : Type 0} (n : ℕ) (zs ds : List T) (y : T) → n ≤ length zs → ds ≡ zs ++ y ∷ [] → n ≤ length ds
long_on n zs ds y h e = let l = length_last zs y in let m : length ds ≡ length (zs ++ y ∷ []) = ap length e in
    omega (arith, h, l, m)

pub all_on : {T : Type 0} (xs us zs : List T) → zs ++ [] ≡ xs ++ us → zs ≡ xs ++ us
all_on xs us zs e = sym (append_none zs) ∙ e

pub front_first : {T : Type 0} (n : ℕ) (xs : List T) → n ≡ length xs → take n xs ≡ xs
front_first n xs e = ap (λ n. take n xs) e ∙ take_all xs

pub ruleset more = (more_on, front_on, long_on, all_on, front_first)
