-- Stamps: what they tell stays, and is told alone.
use Rattle.std.proofs.Common.{◌≡◌, refl, ap, sym, ◌∙◌, subst, ℕ, zero, suc, ◌≤◌, ◌<◌, ◌+◌, ◌-◌, List, [], ◌∷◌, ◌++◌}
use Rattle.std.proofs.Common.{length, take, reverse, arith, Option, Some, None, slice_get, slice_index, ◌⊎◌, inl, inr}
use Rattle.std.proofs.Common.{◌≢◌}
use Rattle.std.proofs.lemmas.List.{reverse-append}
use Rattle.demangle_cells.specs.Ledger.{IsChain, stamp_at, Stamps, Stamped, NotesOnce}
use Rattle.demangle_cells.specs.declared.entry.Entry as made
use Rattle.demangle_cells.specs.declared.asked.Stamp as stamp
use Rattle.demangle_cells.proofs.Lists.{length_last, take_front}

-- ---- lists
pub get_on : {A : Type 0} (xs ys : List A) (i : ℕ) (x : A) → slice_get xs i ≡ Some x → slice_get (xs ++ ys) i ≡ Some x
get_on [] ys i x h = absurd (grind (arith, h))
get_on (x ∷ xs) ys zero y h = h
get_on (x ∷ xs) ys (suc i) y h = get_on xs ys i y h

pub get_end : {A : Type 0} (xs : List A) (x : A) → slice_get (xs ++ x ∷ []) (length xs) ≡ Some x
get_end [] x = refl
get_end (y ∷ xs) x = get_end xs x

pub index_on : (ts us : List ℕ) (k : ℕ) → k < length ts → slice_index (ts ++ us) k ≡ slice_index ts k
index_on [] us k h = absurd (omega arith)
index_on (t ∷ ts) us zero h = refl
index_on (t ∷ ts) us (suc k) h = index_on ts us k (omega arith)

pub index_end : (ts : List ℕ) (t : ℕ) → slice_index (ts ++ t ∷ []) (length ts) ≡ t
index_end [] t = refl
index_end (x ∷ ts) t = index_end ts t

pub index_taken : (n k : ℕ) (ts : List ℕ) → k < n → slice_index (take n ts) k ≡ slice_index ts k
index_taken zero k ts h = absurd (omega arith)
index_taken (suc n) k [] h = refl
index_taken (suc n) zero (t ∷ ts) h = refl
index_taken (suc n) (suc k) (t ∷ ts) h = index_taken n k ts (omega arith)

pub take_taken : {A : Type 0} (k n : ℕ) (xs : List A) → k ≤ n → take k (take n xs) ≡ take k xs
take_taken zero n xs h = refl
take_taken (suc k) zero xs h = absurd (omega arith)
take_taken (suc k) (suc n) [] h = refl
take_taken (suc k) (suc n) (x ∷ xs) h = ap (λ l. x ∷ l) (take_taken k n xs (omega arith))

abbrev option_or : {A : Type 0} → A → Option A → A
option_or x None = x
option_or x (Some y) = y

pub same_some : {A : Type 0} (x y : A) → Some x ≡ Some y → x ≡ y
same_some x y e = ap (λ o. option_or x o) e

le_or_last : (k n : ℕ) → k ≤ n + 1 → (k ≤ n) ⊎ (k ≡ suc n)
le_or_last zero n h = inl (omega arith)
le_or_last (suc k) zero h = inr (omega arith)
le_or_last (suc k) (suc n) h = by (le_or_last k n (omega arith))
  where
    by : (k ≤ n) ⊎ (k ≡ suc n) → (suc k ≤ suc n) ⊎ (suc k ≡ suc (suc n))
    by (inl l) = inl (omega arith)
    by (inr e) = inr (ap suc e)

abbrev entry_of : stamp.Stamp → made.Entry
entry_of x = record { numbered = x.numbered; id = x.id }

index_of : (n s : ℕ) (ts : List ℕ) → Some s ≡ slice_get ts n → s ≡ slice_index ts n
index_of n s [] e = absurd (grind (arith, e))
index_of zero s (t ∷ ts) e = same_some s t e
index_of (suc n) s (t ∷ ts) e = index_of n s ts e

index_missing : (n : ℕ) (ts : List ℕ) → None ≡ slice_get ts n → 0 ≡ slice_index ts n
index_missing n [] e = refl
index_missing zero (t ∷ ts) e = absurd (grind (arith, e))
index_missing (suc n) (t ∷ ts) e = index_missing n ts e

-- ---- chains
pub chain_on : (log more : List stamp.Stamp) (s : ℕ) (es : List made.Entry) → IsChain log s es
    → IsChain (log ++ more) s es
chain_on log more s [] h = h
chain_on log more s (e ∷ es) h =
    (h.0, (h.1.0, (get_on log more _ _ h.1.1), chain_on log more h.0 es h.1.2))

-- a stamp tells one list
pub chain_same : (log : List stamp.Stamp) (s : ℕ) (es ds : List made.Entry) → IsChain log s es → IsChain log s ds
    → es ≡ ds
chain_same log s [] [] h k = refl
chain_same log s [] (d ∷ ds) h k = absurd (omega (arith, h, k.1.0))
chain_same log s (e ∷ es) [] h k = absurd (omega (arith, k, h.1.0))
chain_same log s (e ∷ es) (d ∷ ds) h k =
    let n : record { before = h.0; numbered = e.numbered; id = e.id }
    ≡ record { before = k.0; numbered = d.numbered; id = d.id } =
    same_some _ _ (sym h.1.1 ∙ k.1.1) in
    let b : h.0 ≡ k.0 = ap (λ x. x.before) n in
    let i : e ≡ d = ap (λ x. entry_of x) n in
    let r : es ≡ ds = chain_same log h.0 es ds h.1.2 (subst (λ t. IsChain log t ds) (sym b) k.1.2) in
    ap (λ x. x ∷ es) i ∙ ap (λ l. d ∷ l) r

-- ---- the stamps of a list
pub stamped_none : (l : Stamps) (list : List made.Entry) → l.stamps ≡ [] → Stamped l list
stamped_none l list s = record {
  few = omega (arith, ap length s);
  each = λ k h. first k (omega (arith, h, ap length s));
}
  where
    first : (k : ℕ) → k ≤ 0 → IsChain l.log (stamp_at k l.stamps) (reverse (take k list))
    first zero h = refl
    first (suc k) h = absurd (omega arith)

stamp_taken : (n k : ℕ) (ts : List ℕ) → k ≤ n → stamp_at k (take n ts) ≡ stamp_at k ts
stamp_taken n zero ts h = refl
stamp_taken n (suc k) ts h = index_taken n k ts (omega arith)

taken_le : {A : Type 0} (n : ℕ) (xs : List A) → length (take n xs) ≤ n
taken_le zero xs = omega arith
taken_le (suc n) [] = omega arith
taken_le (suc n) (x ∷ xs) = let r = taken_le n xs in omega arith

taken_less : {A : Type 0} (n : ℕ) (xs : List A) → length (take n xs) ≤ length xs
taken_less zero xs = omega arith
taken_less (suc n) [] = omega arith
taken_less (suc n) (x ∷ xs) = let r = taken_less n xs in omega arith

length_taken : {A B : Type 0} (n : ℕ) (xs : List A) (ys : List B) → length xs ≤ length ys
    → length (take n xs) ≤ length (take n ys)
length_taken zero xs ys h = omega arith
length_taken (suc n) [] ys h = omega arith
length_taken (suc n) (x ∷ xs) [] h = absurd (omega (arith, h))
length_taken (suc n) (x ∷ xs) (y ∷ ys) h =
    let r : length (take n xs) ≤ length (take n ys) = length_taken n xs ys (omega (arith, h)) in
    omega (arith, r)

pub stamped_cut : (l m : Stamps) (list : List made.Entry) (n : ℕ) → m.log ≡ l.log → m.stamps ≡ take n l.stamps
    → Stamped l list → Stamped m (take n list)
stamped_cut l m list n g s h = record {
  few = subst (λ ss. length ss ≤ length (take n list)) (sym s) (length_taken n l.stamps list h.few);
  each = λ k w.
      let j : k ≤ length (take n l.stamps) = subst (λ ss. k ≤ length ss) s w in
      let a : k ≤ n = omega (arith, j, taken_le n l.stamps) in
      let b : k ≤ length l.stamps = omega (arith, j, taken_less n l.stamps) in
      subst (λ lo. IsChain lo (stamp_at k m.stamps) (reverse (take k (take n list)))) (sym g)
      (subst (λ ss. IsChain l.log (stamp_at k ss) (reverse (take k (take n list)))) (sym s)
      (subst (λ i. IsChain l.log i (reverse (take k (take n list)))) (sym (stamp_taken n k l.stamps a))
      (subst (λ es. IsChain l.log (stamp_at k l.stamps) (reverse es)) (sym (take_taken k n list a)) (h.each k b))));
}

pub grown_length : {A : Type 0} (xs more : List A) → take (length xs) more ≡ xs → length xs ≤ length more
grown_length xs more e = subst (λ ys. length ys ≤ length more) e (taken_less (length xs) more)

-- a longer list, of which the last have no stamps yet
pub stamped_grown : (l : Stamps) (list more : List made.Entry) → Stamped l list → take (length list) more ≡ list
    → Stamped l more
stamped_grown l list more h e = record {
  few = omega (arith, h.few, grown_length list more e);
  each = λ k w.
      subst (λ es. IsChain l.log (stamp_at k l.stamps) (reverse es))
      (sym (ap (take k) e) ∙ take_taken k (length list) more (omega (arith, w, h.few))) (h.each k w);
}

stamp_front : (k : ℕ) (ts us : List ℕ) → k ≤ length ts → stamp_at k (ts ++ us) ≡ stamp_at k ts
stamp_front zero ts us h = refl
stamp_front (suc k) ts us h = index_on ts us k (omega arith)

pub inside : {A : Type 0} (xs : List A) (i : ℕ) (x : A) → slice_get xs i ≡ Some x → i < length xs
inside [] i x h = absurd (grind (arith, h))
inside (y ∷ xs) zero x h = omega arith
inside (y ∷ xs) (suc i) x h = let r = inside xs i x h in omega (arith, r)

pub take_next : {A : Type 0} (xs : List A) (i : ℕ) (x : A) → slice_get xs i ≡ Some x
    → take (suc i) xs ≡ take i xs ++ x ∷ []
take_next [] i x h = absurd (grind (arith, h))
take_next (y ∷ xs) zero x h = ap (λ z. z ∷ []) (same_some y x h)
take_next (y ∷ xs) (suc i) x h = ap (λ l. y ∷ l) (take_next xs i x h)

-- the stamp of the first that has none, where the log tells it
pub stamped_more : (l m : Stamps) (list : List made.Entry) (s : ℕ) (e : made.Entry) (more : List stamp.Stamp)
    → Stamped l list → slice_get list (length l.stamps) ≡ Some e → 0 < s → m.log ≡ l.log ++ more
    → m.stamps ≡ l.stamps ++ s ∷ []
    → slice_get m.log (s - 1) ≡ Some (record {
      before = stamp_at (length l.stamps) l.stamps;
      numbered = e.numbered;
      id = e.id;
    })
    → Stamped m list
stamped_more l m list s e more h w p g u t = record {
  few = subst (λ ss. length ss ≤ length list) (sym u)
      (omega (arith, length_last l.stamps s, inside list (length l.stamps) e w));
  each = λ k j. by k (le_or_last k (length l.stamps) (omega (arith, j, ap length u, length_last l.stamps s)));
}
  where
    kept : (k : ℕ) → k ≤ length l.stamps → IsChain m.log (stamp_at k l.stamps) (reverse (take k list))
    kept k j =
        subst (λ lo. IsChain lo (stamp_at k l.stamps) (reverse (take k list))) (sym g)
        (chain_on l.log more _ _ (h.each k j))

    last : IsChain m.log s (reverse (take (suc (length l.stamps)) list))
    last =
        subst (λ es. IsChain m.log s (reverse es)) (sym (take_next list (length l.stamps) e w))
        (subst (λ es. IsChain m.log s es) (sym (reverse-append (take (length l.stamps) list) (e ∷ [])))
        (stamp_at (length l.stamps) l.stamps, (p, t, kept (length l.stamps) (omega arith))))

    by : (k : ℕ) → (k ≤ length l.stamps) ⊎ (k ≡ suc (length l.stamps))
        → IsChain m.log (stamp_at k m.stamps) (reverse (take k list))
    by k (inl j) =
        subst (λ ss. IsChain m.log (stamp_at k ss) (reverse (take k list))) (sym u)
        (subst (λ i. IsChain m.log i (reverse (take k list))) (sym (stamp_front k l.stamps (s ∷ []) j)) (kept k j))
    by k (inr q) =
        subst (λ ss. IsChain m.log (stamp_at k ss) (reverse (take k list))) (sym u)
        (subst (λ n. IsChain m.log (stamp_at n (l.stamps ++ s ∷ [])) (reverse (take n list))) (sym q)
        (subst (λ i. IsChain m.log i (reverse (take (suc (length l.stamps)) list))) (sym (index_end l.stamps s)) last))

told_last : (log longer : List stamp.Stamp) (x : stamp.Stamp) → longer ≡ log ++ x ∷ []
    → slice_get longer (length log + 1 - 1) ≡ Some x
told_last log longer x l =
    let i : length log + 1 - 1 ≡ length log = omega arith in
    ap (λ k. slice_get longer k) i ∙ (ap (λ lo. slice_get lo (length log)) l ∙ get_end log x)

-- a new one
pub stamped_noted : (l m : Stamps) (list : List made.Entry) (e : made.Entry) → Stamped l list
    → slice_get list (length l.stamps) ≡ Some e
    → m.log ≡ l.log ++ record {
      before = stamp_at (length l.stamps) l.stamps;
      numbered = e.numbered;
      id = e.id;
    } ∷ []
    → m.stamps ≡ l.stamps ++ (length l.log + 1) ∷ [] → Stamped m list
stamped_noted l m list e h w g u =
    stamped_more l m list (length l.log + 1) e _ h w (omega arith) g u (told_last l.log m.log _ g)

-- one more in a list, and its stamp
pub stamped_once : (l m : Stamps) (list : List made.Entry) (e : made.Entry) → Stamped l list
    → length list ≡ length l.stamps → NotesOnce l m e → Stamped m (list ++ e ∷ [])
stamped_once l m list e h a n =
    stamped_more l m (list ++ e ∷ []) n.stamp e n.more
    (stamped_grown l list (list ++ e ∷ []) h (take_front list (e ∷ [])))
    (subst (λ i. slice_get (list ++ e ∷ []) i ≡ Some e) a (get_end list e)) n.positive n.log n.stamps n.told

-- those of the first of them, where these have theirs
pub chain_at : (l : Stamps) (list first : List made.Entry) (n : ℕ)
    → Stamped l list → n ≡ length first → length first ≤ length l.stamps
    → take (length first) list ≡ first → IsChain l.log (stamp_at n l.stamps) (reverse first)
chain_at l list first n h e w f =
    subst (λ k. IsChain l.log (stamp_at k l.stamps) (reverse first)) (sym e)
    (subst (λ es. IsChain l.log (stamp_at (length first) l.stamps) (reverse es)) f (h.each (length first) w))

-- ---- the stamp of so many, as it is looked up
pub stamp_found : (n s : ℕ) (ts : List ℕ) → n ≢ 0 → Some s ≡ slice_get ts (n - 1) → s ≡ stamp_at n ts
stamp_found zero s ts h e = absurd (h refl)
stamp_found (suc n) s ts h e =
    let i : suc n - 1 ≡ n = omega arith in
    index_of n s ts (subst (λ k. Some s ≡ slice_get ts k) i e)

pub stamp_missing : (n : ℕ) (ts : List ℕ) → n ≢ 0 → None ≡ slice_get ts (n - 1) → 0 ≡ stamp_at n ts
stamp_missing zero ts h e = absurd (h refl)
stamp_missing (suc n) ts h e =
    let i : suc n - 1 ≡ n = omega arith in
    index_missing n ts (subst (λ k. None ≡ slice_get ts k) i e)

pub ruleset stamps = (stamp_found, stamp_missing)
