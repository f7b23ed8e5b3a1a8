-- The calls of the table, over its three lists.
use Rattle.std.proofs.Common.{◌≡◌, refl, ap, ◌∙◌, sym, subst, ℕ, suc, zero, ◌≤◌, ◌<◌, ◌+◌, ◌-◌, List, [], ◌∷◌, ◌++◌, length, take, drop, get_or, map, min, arith, length-drop, length-append, ◌⊎◌, inl, inr}
use Rattle.std.proofs.lemmas.Bool.{cases_lt}
use Rattle.std.proofs.Math.ListN.{set}
use Rattle.std.proofs.lemmas.List.{length-take, length-map}
use Rattle.demangle_core.specs.Core.{Core, Which, N, U}
use Rattle.demangle_core.specs.Table.{Entry, count, first_of, listed, cut}
use Rattle.demangle_components.specs.View.{all_of, woven, Rise, Climb}
use Rattle.demangle_core.proofs.Cuts.{entry}

-- ---- lists
all_behind : (w : Which) (xs ys : List Core) → all_of w (xs ++ ys) ≡ all_of w xs ++ all_of w ys
all_behind w [] ys = refl
all_behind w (x ∷ xs) ys = ap (λ l. entry w x ∷ l) (all_behind w xs ys)

take_front : (n : ℕ) (xs ys : List Core) → n ≤ length xs → take n (xs ++ ys) ≡ take n xs
take_front zero xs ys h = refl
take_front (suc n) [] ys h = absurd (omega (arith, h))
take_front (suc n) (x ∷ xs) ys h = ap (λ l. x ∷ l) (take_front n xs ys (omega (arith, h)))

drop_front : (n : ℕ) (xs ys : List Core) → n ≤ length xs → drop n (xs ++ ys) ≡ drop n xs ++ ys
drop_front zero xs ys h = refl
drop_front (suc n) [] ys h = absurd (omega (arith, h))
drop_front (suc n) (x ∷ xs) ys h = drop_front n xs ys (omega (arith, h))

take_all : (n : ℕ) (xs : List Core) → length xs ≤ n → take n xs ≡ xs
take_all zero [] h = refl
take_all zero (x ∷ xs) h = absurd (omega (arith, h))
take_all (suc n) [] h = refl
take_all (suc n) (x ∷ xs) h = ap (λ l. x ∷ l) (take_all n xs (omega (arith, h)))

drop_all : (n : ℕ) (xs : List Core) → length xs ≤ n → drop n xs ≡ []
drop_all zero [] h = refl
drop_all zero (x ∷ xs) h = absurd (omega (arith, h))
drop_all (suc n) [] h = refl
drop_all (suc n) (x ∷ xs) h = drop_all n xs (omega (arith, h))

regroup : (a b c : List Entry) → a ++ (b ++ c) ≡ (a ++ b) ++ c
regroup [] b c = refl
regroup (x ∷ a) b c = ap (λ l. x ∷ l) (regroup a b c)

rise_to : (i n : ℕ) (ks : List ℕ) → Rise i n ks → i ≤ n
rise_to i n [] r = r
rise_to i n (k ∷ ks) r = omega (arith, r.0, rise_to k n ks r.1)

-- ---- a numbered component more
pub numbered_more : (i n : ℕ) (first us : List Core) (ks : List ℕ) (x : Core) → n ≡ i + length first → Rise i n ks
    → woven i (first ++ x ∷ []) us ks ≡ woven i first us ks ++ entry N x ∷ []
numbered_more i n first [] ks x e r = all_behind N first (x ∷ [])
numbered_more i n first (u ∷ us) [] x e r = all_behind N first (x ∷ [])
numbered_more i n first (u ∷ us) (k ∷ ks) x e r =
    let low : i ≤ k = r.0 in
    let high : k ≤ n = rise_to k n ks r.1 in
    let within : k - i ≤ length first = omega arith in
    let left : n ≡ k + length (drop (k - i) first) = omega (arith, length-drop (k - i) first) in
    ap (λ l. all_of N l ++ (entry U u ∷ woven k (drop (k - i) (first ++ x ∷ [])) us ks)) (take_front (k - i) first (x ∷ []) within)
    ∙ ap (λ l. all_of N (take (k - i) first) ++ (entry U u ∷ woven k l us ks)) (drop_front (k - i) first (x ∷ []) within)
    ∙ ap (λ l. all_of N (take (k - i) first) ++ (entry U u ∷ l)) (numbered_more k n (drop (k - i) first) us ks x left r.1)
    ∙ regroup (all_of N (take (k - i) first)) _ _

-- ---- another component more
pub other_more : (i n : ℕ) (first us : List Core) (ks : List ℕ) (x : Core) → n ≡ i + length first → Rise i n ks → length ks ≡ length us
    → woven i first (us ++ x ∷ []) (ks ++ n ∷ []) ≡ woven i first us ks ++ entry U x ∷ []
other_more i n first [] [] x e r p =
    ap (λ l. all_of N l ++ (entry U x ∷ all_of N (drop (n - i) first))) (take_all (n - i) first (omega arith))
    ∙ ap (λ l. all_of N first ++ (entry U x ∷ all_of N l)) (drop_all (n - i) first (omega arith))
other_more i n first [] (k ∷ ks) x e r p = absurd (omega arith)
other_more i n first (u ∷ us) [] x e r p = absurd (omega arith)
other_more i n first (u ∷ us) (k ∷ ks) x e r p =
    let low : i ≤ k = r.0 in
    let high : k ≤ n = rise_to k n ks r.1 in
    let left : n ≡ k + length (drop (k - i) first) = omega (arith, length-drop (k - i) first) in
    ap (λ l. all_of N (take (k - i) first) ++ (entry U u ∷ l)) (other_more k n (drop (k - i) first) us ks x left r.1 (omega arith))
    ∙ regroup (all_of N (take (k - i) first)) _ _

-- ---- a cut
abbrev no_trees : List Core
no_trees = []

take_none : (n : ℕ) → take n no_trees ≡ no_trees
take_none zero = refl
take_none (suc n) = refl

drop_none : (n : ℕ) → drop n no_trees ≡ no_trees
drop_none zero = refl
drop_none (suc n) = refl

first_numbered : (a b : ℕ) (xs : List Core) → first_of a b (all_of N xs) ≡ all_of N (take a xs)
first_numbered zero b [] = refl
first_numbered (suc a) b [] = refl
first_numbered zero b (x ∷ xs) = first_numbered zero b xs
first_numbered (suc a) b (x ∷ xs) = ap (λ l. entry N x ∷ l) (first_numbered a b xs)

first_behind : (a b : ℕ) (xs : List Core) (r : List Entry) (c : ℕ) → c ≡ a - length xs
    → first_of a b (all_of N xs ++ r) ≡ all_of N (take a xs) ++ first_of c b r
first_behind zero b [] r c e = let all : 0 ≡ c = omega arith in ap (λ n. first_of n b r) all
first_behind (suc a) b [] r c e = let all : suc a ≡ c = omega arith in ap (λ n. first_of n b r) all
first_behind zero b (x ∷ xs) r c e = first_behind zero b xs r c (omega arith)
first_behind (suc a) b (x ∷ xs) r c e = ap (λ l. entry N x ∷ l) (first_behind a b xs r c (omega arith))

others_alone : (i : ℕ) (us : List Core) (ks : List ℕ) → length ks ≡ length us → woven i [] us ks ≡ all_of U us
others_alone i [] ks p = refl
others_alone i (u ∷ us) [] p = absurd (omega arith)
others_alone i (u ∷ us) (k ∷ ks) p =
    ap (λ l. all_of N l ++ (entry U u ∷ woven k (drop (k - i) []) us ks)) (take_none (k - i))
    ∙ ap (λ l. entry U u ∷ woven k l us ks) (drop_none (k - i))
    ∙ ap (λ l. entry U u ∷ l) (others_alone k us ks (omega arith))

in_parts : (a m c : ℕ) (xs : List Core) → c ≡ a - length (take m xs) → take a (take m xs) ++ take c (drop m xs) ≡ take a xs
in_parts zero m c xs e = let none : c ≡ 0 = omega arith in ap (λ n. take n (drop m xs)) none
in_parts (suc a) zero c xs e = let all : c ≡ suc a = omega arith in ap (λ n. take n xs) all
in_parts (suc a) (suc m) c [] e = take_none c
in_parts (suc a) (suc m) c (x ∷ xs) e = ap (λ l. x ∷ l) (in_parts a m c xs (omega arith))

take_less : (m a : ℕ) (xs : List Core) → m ≤ a → take m (take a xs) ≡ take m xs
take_less zero a xs h = refl
take_less (suc m) zero xs h = absurd (omega arith)
take_less (suc m) (suc a) [] h = refl
take_less (suc m) (suc a) (x ∷ xs) h = ap (λ l. x ∷ l) (take_less m a xs (omega arith))

drop_less : (m a c : ℕ) (xs : List Core) → m + c ≡ a → drop m (take a xs) ≡ take c (drop m xs)
drop_less zero a c xs h = let all : a ≡ c = omega arith in ap (λ n. take n xs) all
drop_less (suc m) zero c xs h = absurd (omega arith)
drop_less (suc m) (suc a) c [] h = sym (take_none c)
drop_less (suc m) (suc a) c (x ∷ xs) h = drop_less m a c xs (omega arith)

length_taken : (m : ℕ) (xs : List Core) → m ≤ length xs → length (take m xs) ≡ m
length_taken zero xs h = refl
length_taken (suc m) [] h = absurd (omega arith)
length_taken (suc m) (x ∷ xs) h = ap suc (length_taken m xs (omega arith))

lower_lengths : (n b : ℕ) (ks : List ℕ) (us : List Core) → length ks ≡ length us → length (map (min n) (take b ks)) ≡ length (take b us)
lower_lengths n zero ks us p = refl
lower_lengths n (suc b) [] [] p = refl
lower_lengths n (suc b) [] (u ∷ us) p = absurd (omega arith)
lower_lengths n (suc b) (k ∷ ks) [] p = absurd (omega arith)
lower_lengths n (suc b) (k ∷ ks) (u ∷ us) p = ap suc (lower_lengths n b ks us (omega arith))

-- the tables behind the first of the others, where the cut is behind it and before it
cut_behind : (i a k m c b : ℕ) (first us : List Core) (ks : List ℕ) (u : Core) → m ≡ k - i → i ≤ k → m ≤ length first → m ≤ a → c ≡ a - m
    → all_of N (take a (take m first)) ++ (entry U u ∷ woven k (take c (drop m first)) (take b us) (map (min (k + c)) (take b ks)))
    ≡ woven i (take a first) (u ∷ take b us) (min (i + a) k ∷ map (min (i + a)) (take b ks))
cut_behind i a k m c b first us ks u e low within le ce =
    let there : min (i + a) k ≡ k = omega arith in
    let same_sum : k + c ≡ i + a = omega arith in
    let lower = map (min (i + a)) (take b ks) in
    ap (λ l. all_of N l ++ (entry U u ∷ woven k (take c (drop m first)) (take b us) (map (min (k + c)) (take b ks))))
    (take_all a (take m first) (omega (arith, length_taken m first within)) ∙ sym (take_less m a first le))
    ∙ ap (λ l. all_of N (take m (take a first)) ++ (entry U u ∷ woven k l (take b us) (map (min (k + c)) (take b ks)))) (sym (drop_less m a c first (omega arith)))
    ∙ ap (λ n. all_of N (take m (take a first)) ++ (entry U u ∷ woven k (drop m (take a first)) (take b us) (map (min n) (take b ks)))) same_sum
    ∙ ap (λ n. all_of N (take n (take a first)) ++ (entry U u ∷ woven k (drop n (take a first)) (take b us) lower)) e
    ∙ ap (λ n. woven i (take a first) (u ∷ take b us) (n ∷ lower)) (sym there)

cut_before : (i a k m c b : ℕ) (first us : List Core) (ks : List ℕ) (u : Core) → m ≡ k - i → i ≤ k → m ≤ length first → a < m → c ≡ 0 → length ks ≡ length us
    → all_of N (take a (take m first)) ++ (entry U u ∷ woven k (take c (drop m first)) (take b us) (map (min (k + c)) (take b ks)))
    ≡ woven i (take a first) (u ∷ take b us) (min (i + a) k ∷ map (min (i + a)) (take b ks))
cut_before i a k m c b first us ks u e low within lt ce p =
    let there : min (i + a) k ≡ i + a = omega arith in
    let back : i + a - i ≡ a = omega arith in
    let lower = map (min (i + a)) (take b ks) in
    let short : length (take a first) ≤ a = omega (arith, length_taken a first (omega arith)) in
    ap (λ l. all_of N l ++ (entry U u ∷ woven k (take c (drop m first)) (take b us) (map (min (k + c)) (take b ks)))) (take_less a m first (omega arith) ∙ sym (take_all a (take a first) short))
    ∙ ap (λ n. all_of N (take a (take a first)) ++ (entry U u ∷ woven k (take n (drop m first)) (take b us) (map (min (k + c)) (take b ks)))) ce
    ∙ ap (λ l. all_of N (take a (take a first)) ++ (entry U u ∷ l)) (others_alone k (take b us) (map (min (k + c)) (take b ks)) (lower_lengths (k + c) b ks us p) ∙ sym (others_alone (i + a) (take b us) lower (lower_lengths (i + a) b ks us p)))
    ∙ ap (λ l. all_of N (take a (take a first)) ++ (entry U u ∷ woven (i + a) l (take b us) lower)) (sym (drop_all a (take a first) short))
    ∙ ap (λ n. all_of N (take n (take a first)) ++ (entry U u ∷ woven (i + a) (drop n (take a first)) (take b us) lower)) (sym back)
    ∙ ap (λ n. woven i (take a first) (u ∷ take b us) (n ∷ lower)) (sym there)

swapped : {a m : ℕ} → (a < m) ⊎ (m ≤ a) → (m ≤ a) ⊎ (a < m)
swapped (inl lt) = inr lt
swapped (inr le) = inl le

cut_there : (i a k m c b : ℕ) (first us : List Core) (ks : List ℕ) (u : Core) → m ≡ k - i → i ≤ k → m ≤ length first → c ≡ a - length (take m first) → length ks ≡ length us
    → (m ≤ a) ⊎ (a < m)
    → all_of N (take a (take m first)) ++ (entry U u ∷ woven k (take c (drop m first)) (take b us) (map (min (k + c)) (take b ks)))
    ≡ woven i (take a first) (u ∷ take b us) (min (i + a) k ∷ map (min (i + a)) (take b ks))
cut_there i a k m c b first us ks u e low within ce p (inl le) = cut_behind i a k m c b first us ks u e low within le (omega (arith, length_taken m first within))
cut_there i a k m c b first us ks u e low within ce p (inr lt) = cut_before i a k m c b first us ks u e low within lt (omega (arith, length_taken m first within)) p

pub cut_woven : (a b i n : ℕ) (first us : List Core) (ks : List ℕ) → n ≡ i + length first → Rise i n ks → length ks ≡ length us
    → first_of a b (woven i first us ks) ≡ woven i (take a first) (take b us) (map (min (i + a)) (take b ks))
cut_woven a zero i n first [] ks e r p = first_numbered a zero first
cut_woven a (suc b) i n first [] ks e r p = first_numbered a (suc b) first
cut_woven a b i n first (u ∷ us) [] e r p = absurd (omega arith)
cut_woven a zero i n first (u ∷ us) (k ∷ ks) e r p =
    let m = k - i in
    let c = a - length (take m first) in
    let low : i ≤ k = r.0 in
    let high : k ≤ n = rise_to k n ks r.1 in
    let left : n ≡ k + length (drop m first) = omega (arith, length-drop m first) in
    first_behind a zero (take m first) (entry U u ∷ woven k (drop m first) us ks) c refl
    ∙ ap (λ l. all_of N (take a (take m first)) ++ l) (cut_woven c zero k n (drop m first) us ks left r.1 (omega arith))
    ∙ sym (all_behind N (take a (take m first)) (take c (drop m first)))
    ∙ ap (all_of N) (in_parts a m c first refl)
cut_woven a (suc b) i n first (u ∷ us) (k ∷ ks) e r p =
    let m = k - i in
    let c = a - length (take m first) in
    let low : i ≤ k = r.0 in
    let high : k ≤ n = rise_to k n ks r.1 in
    let left : n ≡ k + length (drop m first) = omega (arith, length-drop m first) in
    first_behind a (suc b) (take m first) (entry U u ∷ woven k (drop m first) us ks) c refl
    ∙ ap (λ l. all_of N (take a (take m first)) ++ (entry U u ∷ l)) (cut_woven c b k n (drop m first) us ks left r.1 (omega arith))
    ∙ cut_there i a k m c b first us ks u refl low (omega arith) refl (omega arith) (swapped (cases_lt a m))

-- ---- the two lists
listed_step : (v w : Which) (x : Core) (es fs : List Entry) → listed v (es ++ fs) ≡ listed v es ++ listed v fs
    → listed v (entry w x ∷ (es ++ fs)) ≡ listed v (entry w x ∷ es) ++ listed v fs
listed_step N N x es fs h = ap (λ l. x ∷ l) h
listed_step N U x es fs h = h
listed_step U N x es fs h = h
listed_step U U x es fs h = ap (λ l. x ∷ l) h

pub listed_behind : (v : Which) (es fs : List Entry) → listed v (es ++ fs) ≡ listed v es ++ listed v fs
listed_behind v [] fs = refl
listed_behind v (e ∷ es) fs = listed_step v e.which e.tree es fs (listed_behind v es fs)

listed_all : (xs : List Core) → listed N (all_of N xs) ≡ xs
listed_all [] = refl
listed_all (x ∷ xs) = ap (λ l. x ∷ l) (listed_all xs)

listed_none : (xs : List Core) → listed U (all_of N xs) ≡ []
listed_none [] = refl
listed_none (x ∷ xs) = listed_none xs

take_and_drop : (m : ℕ) (xs : List Core) → take m xs ++ drop m xs ≡ xs
take_and_drop zero xs = refl
take_and_drop (suc m) [] = refl
take_and_drop (suc m) (x ∷ xs) = ap (λ l. x ∷ l) (take_and_drop m xs)

pub first_list : (i : ℕ) (first us : List Core) (ks : List ℕ) → listed N (woven i first us ks) ≡ first
first_list i first [] ks = listed_all first
first_list i first (u ∷ us) [] = listed_all first
first_list i first (u ∷ us) (k ∷ ks) =
    listed_behind N (all_of N (take (k - i) first)) (entry U u ∷ woven k (drop (k - i) first) us ks)
    ∙ ap (λ l. l ++ listed N (woven k (drop (k - i) first) us ks)) (listed_all (take (k - i) first))
    ∙ ap (λ l. take (k - i) first ++ l) (first_list k (drop (k - i) first) us ks)
    ∙ take_and_drop (k - i) first

pub second_list : (i : ℕ) (first us : List Core) (ks : List ℕ) → length ks ≡ length us → listed U (woven i first us ks) ≡ us
second_list i first [] ks p = listed_none first
second_list i first (u ∷ us) [] p = absurd (omega arith)
second_list i first (u ∷ us) (k ∷ ks) p =
    listed_behind U (all_of N (take (k - i) first)) (entry U u ∷ woven k (drop (k - i) first) us ks)
    ∙ ap (λ l. l ++ (u ∷ listed U (woven k (drop (k - i) first) us ks))) (listed_none (take (k - i) first))
    ∙ ap (λ l. u ∷ l) (second_list k (drop (k - i) first) us ks (omega arith))

count_step : (v w : Which) (x : Core) (es : List Entry) → count v es ≡ length (listed v es) → count v (entry w x ∷ es) ≡ length (listed v (entry w x ∷ es))
count_step N N x es h = ap suc h
count_step N U x es h = h
count_step U N x es h = h
count_step U U x es h = ap suc h

pub counted : (v : Which) (es : List Entry) → count v es ≡ length (listed v es)
counted v [] = refl
counted v (e ∷ es) = count_step v e.which e.tree es (counted v es)

-- ---- the counts
pub rise_more : (i n m : ℕ) (ks : List ℕ) → Rise i n ks → n ≤ m → Rise i m ks
rise_more i n m [] r h = omega (arith, r)
rise_more i n m (k ∷ ks) r h = (r.0, rise_more k n m ks r.1 h)

pub rise_push : (i n : ℕ) (ks : List ℕ) → Rise i n ks → Rise i n (ks ++ n ∷ [])
rise_push i n [] r = (r, omega arith)
rise_push i n (k ∷ ks) r = (r.0, rise_push k n ks r.1)

pub rise_cut : (a b i n : ℕ) (ks : List ℕ) → Rise i n ks → Rise (min a i) (min a n) (map (min a) (take b ks))
rise_cut a zero i n ks r = let h : i ≤ n = rise_to i n ks r in omega arith
rise_cut a (suc b) i n [] r = let h : i ≤ n = r in omega arith
rise_cut a (suc b) i n (k ∷ ks) r = let h : i ≤ k = r.0 in (omega arith, rise_cut a b k n ks r.1)

pub rise_down : (a b n : ℕ) (ks : List ℕ) → Rise 0 n ks → Rise 0 (min a n) (map (min a) (take b ks))
rise_down a b n ks r = let low : min a 0 ≡ 0 = omega arith in subst (λ i. Rise i (min a n) (map (min a) (take b ks))) low (rise_cut a b 0 n ks r)

pub climb_part : (i n b : ℕ) (ks : List ℕ) → Rise i n ks → Climb i (take b ks)
climb_part i n zero ks r = tt
climb_part i n (suc b) [] r = tt
climb_part i n (suc b) (k ∷ ks) r = (r.0, climb_part k n b ks r.1)

pub climb_all : (i n : ℕ) (ks : List ℕ) → Rise i n ks → Climb i ks
climb_all i n [] r = tt
climb_all i n (k ∷ ks) r = (r.0, climb_all k n ks r.1)

climb_to : (i j : ℕ) (ks : List ℕ) → Climb i ks → j < length ks → i ≤ get_or ks j 0
climb_to i zero [] r h = absurd (omega arith)
climb_to i zero (k ∷ ks) r h = r.0
climb_to i (suc j) [] r h = absurd (omega arith)
climb_to i (suc j) (k ∷ ks) r h = let up : i ≤ k = r.0 in omega (arith, climb_to k j ks r.1 (omega arith))

front_at : (j : ℕ) (old more : List ℕ) → j < length old → get_or (take (suc j) old ++ more) j 0 ≡ get_or old j 0
front_at j [] more h = absurd (omega arith)
front_at zero (x ∷ old) more h = refl
front_at (suc j) (x ∷ old) more h = front_at j old more (omega arith)

-- ---- lowering the counts from the end: those from `j` on are lowered
pub lowered_more : (m j : ℕ) (old now : List ℕ) → j < length old → now ≡ take (suc j) old ++ map (min m) (drop (suc j) old) → m < get_or now j 0
    → set now j m ≡ take j old ++ map (min m) (drop j old)
lowered_more m j [] now h e l = absurd (omega arith)
lowered_more m zero (x ∷ old) now h e l =
    let above : m < x = subst (λ n. m < get_or n 0 0) e l in
    let least : m ≡ min m x = omega arith in
    ap (λ n. set n 0 m) e ∙ ap (λ n. n ∷ map (min m) old) least
lowered_more m (suc j) (x ∷ old) now h e l =
    ap (λ n. set n (suc j) m) e ∙ ap (λ n. x ∷ n) (lowered_more m j old (take (suc j) old ++ map (min m) (drop (suc j) old)) (omega arith) refl (subst (λ n. m < get_or n (suc j) 0) e l))

-- where a count is low, so are those before it
pub lowered_enough : (i m j : ℕ) (old now : List ℕ) → Climb i old → j < length old → now ≡ take (suc j) old ++ map (min m) (drop (suc j) old) → get_or now j 0 ≤ m
    → now ≡ map (min m) old
lowered_enough i m j [] now r h e l = absurd (omega arith)
lowered_enough i m zero (x ∷ old) now r h e l =
    let low : x ≤ m = subst (λ n. get_or n 0 0 ≤ m) e l in
    let least : x ≡ min m x = omega arith in
    e ∙ ap (λ n. n ∷ map (min m) old) least
lowered_enough i m (suc j) (x ∷ old) now r h e l =
    let rest = take (suc j) old ++ map (min m) (drop (suc j) old) in
    let low : get_or rest j 0 ≤ m = subst (λ n. get_or n (suc j) 0 ≤ m) e l in
    let known : get_or rest j 0 ≡ get_or old j 0 = front_at j old (map (min m) (drop (suc j) old)) (omega arith) in
    let up : x ≤ get_or old j 0 = climb_to x j old r.1 (omega arith) in
    let least : x ≡ min m x = omega (arith, known) in
    e ∙ ap (λ n. x ∷ n) (lowered_enough x m j old rest r.1 (omega arith) refl low) ∙ ap (λ n. n ∷ map (min m) old) least

any_default : (j d : ℕ) (xs : List ℕ) → j < length xs → get_or xs j d ≡ get_or xs j 0
any_default j d [] h = absurd (omega arith)
any_default zero d (x ∷ xs) h = refl
any_default (suc j) d (x ∷ xs) h = any_default j d xs (omega arith)

lowered_length : (m i : ℕ) (old now : List ℕ) → now ≡ take i old ++ map (min m) (drop i old) → i ≤ length old → length now ≡ length old
lowered_length m i old now e h =
    let parts : length now ≡ length (take i old ++ map (min m) (drop i old)) = ap length e in
    omega (arith, length-append (take i old) (map (min m) (drop i old)), length-take i old, length-map (drop i old) (min m), length-drop i old)

pub lowered_step : (m i : ℕ) (old now : List ℕ) (x : ℕ) → 0 < i → i ≤ length old → now ≡ take i old ++ map (min m) (drop i old)
    → x ≡ get_or now (i - 1) x → m < x → set now (i - 1) m ≡ take (i - 1) old ++ map (min m) (drop (i - 1) old)
lowered_step m i old now x above within e at l =
    let j = i - 1 in
    let next : i ≡ suc j = omega arith in
    let long : length now ≡ length old = lowered_length m i old now e within in
    let value : x ≡ get_or now j 0 = at ∙ any_default j x now (omega arith) in
    lowered_more m j old now (omega arith) (subst (λ n. now ≡ take n old ++ map (min m) (drop n old)) next e) (omega (arith, value))

pub lowered_stop : (m i : ℕ) (old now : List ℕ) (x : ℕ) → Climb 0 old → 0 < i → i ≤ length old → now ≡ take i old ++ map (min m) (drop i old)
    → x ≡ get_or now (i - 1) x → x ≤ m → now ≡ map (min m) old
lowered_stop m i old now x r above within e at l =
    let j = i - 1 in
    let next : i ≡ suc j = omega arith in
    let long : length now ≡ length old = lowered_length m i old now e within in
    let value : x ≡ get_or now j 0 = at ∙ any_default j x now (omega arith) in
    lowered_enough 0 m j old now r (omega arith) (subst (λ n. now ≡ take n old ++ map (min m) (drop n old)) next e) (omega (arith, value))
