-- Two readings side by side: from one place, behind two tables whose later parts have one outline.
use Rattle.std.specs.Prelude.{◌⊎◌, ◌≡◌, ℕ, zero, suc, ◌+◌, Bool, true, false, not, List, [], ◌∷◌, ◌++◌, length, take, drop, ◌==◌, Option, slice_get}
use Rattle.std.proofs.Common.{refl, ap, sym, subst, ◌∙◌, arith, append_assoc, inl, inr}
use Rattle.std.proofs.lemmas.Bool.{eqb-true}
use Rattle.demangle_core.specs.Core.{Core, Which, N, U, same_which}
use Rattle.demangle_core.specs.Table.{Entry, count, count_if, listed, more_if, entry_at}
use Rattle.demangle_text.specs.Word.{starts}
use Rattle.demangle_grammar.specs.Fits.{AllOf}
use Rattle.demangle_grammar.specs.Reading.{State, or_end, entry_of, prefix_entry, is_nestable, kept, ahead_by, widened}
use Rattle.demangle_grammar.proofs.Truth.{both_true}
use Rattle.demangle_outline.specs.Outline.{outline, Agree}
use Rattle.demangle_outline.proofs.Alike.{Both, Alike, Last, last_same}

abbrev pub entry : Which → Core → Entry
entry w x = record { which = w; tree = x }

-- ---- entries of one outline, one beside the other
pub data Same : List Entry → List Entry → Type 0 where
  no_entry : Same [] []
  one_more : (w : Which) (x y : Core) {e f : List Entry} → is_nestable x ≡ is_nestable y → Same e f → Same (entry w x ∷ e) (entry w y ∷ f)

head_or : {A : Type 0} → A → List A → A
head_or d [] = d
head_or d (x ∷ xs) = x

tail_of : {A : Type 0} → List A → List A
tail_of [] = []
tail_of (x ∷ xs) = xs

beside : (v w : Which) (x y : Core) (e f : List Entry) → v ≡ w → is_nestable x ≡ is_nestable y → Same e f → Same (entry v x ∷ e) (entry w y ∷ f)
beside N N x y e f p h s = Same.one_more N x y h s
beside U U x y e f p h s = Same.one_more U x y h s
beside N U x y e f p h s = absurd (cc)
beside U N x y e f p h s = absurd (cc)

pub to_same : (e f : List Entry) → outline e ≡ outline f → Same e f
unfolding head_or tail_of
to_same [] [] h = Same.no_entry
to_same [] (y ∷ f) h = absurd (cc)
to_same (x ∷ e) [] h = absurd (cc)
to_same (x ∷ e) (y ∷ f) h =
    let d : Which × Bool = (N, false) in
    beside x.which y.which x.tree y.tree e f (ap (λ z. (head_or d z).0) h) (ap (λ z. (head_or d z).1) h) (to_same e f (ap tail_of h))

pub of_same : {e f : List Entry} → Same e f → outline e ≡ outline f
of_same Same.no_entry = refl
of_same (Same.one_more w x y h s) = λ i. (w, h i) ∷ of_same s i

pub same_front : {e f : List Entry} (w : Which) (x y : Core) → is_nestable x ≡ is_nestable y → Same e f → Same (e ++ entry w x ∷ []) (f ++ entry w y ∷ [])
same_front w x y h Same.no_entry = Same.one_more w x y h Same.no_entry
same_front w x y h (Same.one_more v a b k s) = Same.one_more v a b k (same_front w x y h s)

pub count_same : {e f : List Entry} → Same e f → (w : Which) → count w e ≡ count w f
count_same Same.no_entry w = refl
count_same (Same.one_more v x y h s) w = ap (count_if (same_which w v)) (count_same s w)

nestable_at : {e f : List Entry} → Same e f → (w : Which) (i : ℕ) → is_nestable (or_end (slice_get (listed w e) i)) ≡ is_nestable (or_end (slice_get (listed w f) i))
nestable_at Same.no_entry w i = refl
nestable_at (Same.one_more v x y {e = e} {f = f} h s) w i = by (same_which w v) i (nestable_at s w)
  where
    by : (b : Bool) (j : ℕ) → ((k : ℕ) → is_nestable (or_end (slice_get (listed w e) k)) ≡ is_nestable (or_end (slice_get (listed w f) k)))
        → is_nestable (or_end (slice_get (more_if b x (listed w e)) j)) ≡ is_nestable (or_end (slice_get (more_if b y (listed w f)) j))
    by true zero q = h
    by true (suc j) q = q j
    by false j q = q j

-- ---- the entries behind those that were there
entry_behind : (t e : List Entry) (w : Which) (i j : ℕ) → j ≡ count w t + i → slice_get (listed w (t ++ e)) j ≡ slice_get (listed w e) i
entry_behind [] e w i j h = ap (slice_get (listed w e)) (let q : j ≡ i = omega (arith, h) in q)
entry_behind (x ∷ t) e w i j h = by (same_which w x.which) j h (λ k p. entry_behind t e w i k p)
  where
    by : (b : Bool) (k : ℕ) → k ≡ count_if b (count w t) + i → ((l : ℕ) → l ≡ count w t + i → slice_get (listed w (t ++ e)) l ≡ slice_get (listed w e) i)
        → slice_get (more_if b x.tree (listed w (t ++ e))) k ≡ slice_get (listed w e) i
    by true zero p q = absurd (omega (arith, p))
    by true (suc k) p q = q k (omega (arith, p))
    by false k p q = q k p

pub count_behind : (t e : List Entry) (w : Which) → count w (t ++ e) ≡ count w t + count w e
count_behind [] e w = omega arith
count_behind (x ∷ t) e w = by (same_which w x.which) (count_behind t e w)
  where
    by : (b : Bool) → count w (t ++ e) ≡ count w t + count w e → count_if b (count w (t ++ e)) ≡ count_if b (count w t) + count w e
    by true h = omega (arith, h)
    by false h = h

-- ---- bytes without an `S`
abbrev pub IsWithout : List ℕ → Type 0
IsWithout bs = AllOf (λ b. not (b == 83)) bs

pub without_drop : (n : ℕ) (bs : List ℕ) → IsWithout bs → IsWithout (drop n bs)
without_drop zero bs h = h
without_drop (suc n) [] h = tt
without_drop (suc n) (b ∷ bs) h = without_drop n bs h.1

pub without_take : (n : ℕ) (bs : List ℕ) → IsWithout bs → IsWithout (take n bs)
without_take zero bs h = tt
without_take (suc n) [] h = tt
without_take (suc n) (b ∷ bs) h = (h.0, without_take n bs h.1)

abbrev pub begins_so : List ℕ → Bool
begins_so [] = false
begins_so (b ∷ bs) = b == 83

is_not : (b : ℕ) → b ≡ 83 → not (b == 83) ≡ true → ⊥
is_not b p h = let q : false ≡ true = subst (λ y. not (y == 83) ≡ true) p h in absurd (cc)

no_such_word : (w bs : List ℕ) → starts w bs ≡ true → begins_so w ≡ true → IsWithout bs → ⊥
no_such_word [] bs p q h = absurd (cc)
no_such_word (x ∷ w) [] p q h = absurd (cc)
no_such_word (x ∷ w) (b ∷ bs) p q h =
    let e : x ≡ b = eqb-true x b (both_true (x == b) (starts w bs) p).0 in
    is_not b (sym e ∙ eqb-true x 83 q) h.0

module _ (t u : List Entry) where
  -- nothing was there before
  abbrev pub Free : Type 0
  Free = (t ≡ []) × (u ≡ [])

  abbrev pub Calm : List ℕ → Type 0
  Calm bs = IsWithout bs ⊎ Free

  calm_drop : (n : ℕ) (bs : List ℕ) → Calm bs → Calm (drop n bs)
  calm_drop n bs (inl h) = inl (without_drop n bs h)
  calm_drop n bs (inr h) = inr h

  calm_take : (n : ℕ) (bs : List ℕ) → Calm bs → Calm (take n bs)
  calm_take n bs (inl h) = inl (without_take n bs h)
  calm_take n bs (inr h) = inr h

  pub free_by : (w bs : List ℕ) → starts w bs ≡ true → begins_so w ≡ true → Calm bs → Free
  free_by w bs p q (inl h) = absurd (no_such_word w bs p q h)
  free_by w bs p q (inr h) = h

  abbrev pub stand : ℕ → List ℕ → List Entry → State
  stand i bs e = record { at = i; rest = bs; entries = e }

  pub data Near : State → State → Type 0 where
    near : (i : ℕ) (bs : List ℕ) (e f : List Entry) → Calm bs → Same e f → Near (stand i bs (t ++ e)) (stand i bs (u ++ f))

  pub ahead_near : (n : ℕ) {s r : State} → Near s r → Near (ahead_by n s) (ahead_by n r)
  ahead_near n (Near.near i bs e f c h) = Near.near (i + length (take n bs)) (drop n bs) e f (calm_drop n bs c) h

  pub front_near : (n : ℕ) {s r : State} → Near s r → Near (stand s.at (take n s.rest) s.entries) (stand r.at (take n r.rest) r.entries)
  front_near n (Near.near i bs e f c h) = Near.near i (take n bs) e f (calm_take n bs c) h

  pub wider_near : (bs : List ℕ) → Calm bs → {s r : State} → Near s r → Near (widened bs s) (widened bs r)
  wider_near bs z (Near.near i cs e f c h) = Near.near i bs e f z h

  pub calm_behind : (n : ℕ) {s r : State} → Near s r → Calm (drop n s.rest)
  calm_behind n (Near.near i bs e f c h) = calm_drop n bs c

  pub kept_near : (w : Which) (x y : Core) → is_nestable x ≡ is_nestable y → {s r : State} → Near s r → Near (kept s (entry w x)) (kept r (entry w y))
  kept_near w x y k (Near.near i bs e f c h) =
      subst (λ a. Near (stand i bs a) (stand i bs ((u ++ f) ++ entry w y ∷ []))) (sym (append_assoc t e (entry w x ∷ [])))
      (subst (λ b. Near (stand i bs (t ++ (e ++ entry w x ∷ []))) (stand i bs b)) (sym (append_assoc u f (entry w y ∷ [])))
      (Near.near i bs (e ++ entry w x ∷ []) (f ++ entry w y ∷ []) c (same_front w x y k h)))

  pub both_new : (w : Which) {s r : State} → Near s r → Both t u w (count w s.entries) (count w r.entries)
  both_new w (Near.near i bs e f c h) = (count w e, count_behind t e w, count_behind u f w ∙ ap (λ n. count w u + n) (sym (count_same h w)))

  -- ---- with nothing before, the counts are the same, and each number is its own
  nothing : (e : List Entry) (w : Which) → e ≡ [] → count w e ≡ 0
  nothing e w p = ap (count w) p

  pub both_free : (w : Which) (k l : ℕ) → Free → k ≡ l → Both t u w k l
  both_free w k l p e = (k, omega (arith, nothing t w p.0), omega (arith, nothing u w p.1, e))

  pub counts_free : Free → (w : Which) {s r : State} → Near s r → count w s.entries ≡ count w r.entries
  counts_free p w (Near.near i bs e f c h) = omega (arith, nothing t w p.0, nothing u w p.1, count_behind t e w, count_behind u f w, count_same h w)

  -- ---- the entry of a prefix
  prefix_of : {e f : List Entry} {o p : Option (Which × ℕ)} → Last t u o p → Same e f → is_nestable (entry_of o (t ++ e)) ≡ is_nestable (entry_of p (u ++ f))
  unfolding entry_at
  prefix_of Last.no_last h = refl
  prefix_of {e} {f} (Last.last w k l b) h =
      ap (λ x. is_nestable (or_end x)) (entry_behind t e w b.0 k b.1) ∙ nestable_at h w b.0 ∙ sym (ap (λ x. is_nestable (or_end x)) (entry_behind u f w b.0 l b.2))

  pub prefix_same : {s r : State} {a b : Core} → Near s r → Alike t u a b → is_nestable (prefix_entry a s.entries) ≡ is_nestable (prefix_entry b r.entries)
  prefix_same (Near.near i bs e f c h) x = prefix_of (last_same t u x) h

  -- ---- the tables agree
  pub agree : {s r : State} → Near s r → Agree s.rest s.entries r.entries
  agree (Near.near i bs e f (inl c) h) = inl c
  agree (Near.near i bs e f (inr c) h) = inr (ap (λ x. outline (x ++ e)) c.0 ∙ of_same h ∙ sym (ap (λ x. outline (x ++ f)) c.1))
