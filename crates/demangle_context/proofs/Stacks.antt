-- The items that are seen of the stacks, when these change.
use Rattle.std.proofs.Common.{◌≡◌, ℕ, zero, suc, ◌+◌, ◌-◌, ◌<◌, ◌≤◌, ◌==◌, min, false, List, [], ◌∷◌, ◌++◌}
use Rattle.std.proofs.Common.{length, take, drop, Option, Some, None, option_map, refl, sym, ◌∙◌, ap, ap₂, arith}
use Rattle.std.proofs.Common.{⊎_elim}
use Rattle.std.proofs.lemmas.Bool.{cases_lt}
use Rattle.std.proofs.lemmas.List.{drop_all, length-take-le}
use Rattle.demangle_core.specs.Core.{Core}
use Rattle.demangle_printing.specs.State.{Held, rest, is_own_item}
use Rattle.demangle_printing.specs.Act.{put_back}
use Rattle.demangle_printing.specs.World.{nth}
use Rattle.demangle_context.specs.Items.{Items, tree_of, item_at, without_top, with_kept, with_top_kept, with_returned}
use Rattle.demangle_context.specs.Items.{set_aside, brought_back, HasRoom}
use Rattle.demangle_context.specs.Room.{reserve}
use Rattle.demangle_context.specs.ItemsOf.{newest_first, stacked}
use Rattle.demangle_context.proofs.Lists.{newest_pushed, above_pushed, below_pushed, above_all, below_all, newest_parts}
use Rattle.demangle_context.proofs.Lists.{length_below, length_parts, length_newest, above_lower, below_lower}

-- ---- an item comes and goes
pub stack_pushed : {A : Type 0} (f : A → Held Core) (b : ℕ) (xs ys ks : List A) (l m : ℕ) (x : A) → b ≤ length xs →
    ys ≡ xs ++ x ∷ [] →
    stacked f b ys ks l m ≡ record (stacked f b xs ks l m) { inner = f x ∷ newest_first f (drop b xs) }
stack_pushed f b xs ys ks l m x h e =
    ap (λ z. stacked f b z ks l m) e
    ∙ ap₂ (λ y z. record (stacked f b xs ks l m) { inner = y; aside = z }) (above_pushed f b xs x h)
    (below_pushed f b xs x h)

pub stack_popped : {A : Type 0} (f : A → Held Core) (b : ℕ) (xs ys ks : List A) (l m : ℕ) (x : A) → b ≤ length ys →
    xs ≡ ys ++ x ∷ [] →
    stacked f b ys ks l m ≡ without_top (stacked f b xs ks l m)
stack_popped f b xs ys ks l m x h e = sym (ap without_top (stack_pushed f b ys xs ks l m x h e))

pub top_popped : {A : Type 0} (f : A → Held Core) (b : ℕ) (xs ys : List A) (x : A) → b ≤ length ys →
    xs ≡ ys ++ x ∷ [] →
    nth 0 (newest_first f (drop b xs)) ≡ Some (f x)
top_popped f b xs ys x h e = ap (λ z. nth 0 (newest_first f (drop b z))) e ∙ ap (nth 0) (above_pushed f b ys x h)

pub stack_empty : {A : Type 0} (f : A → Held Core) (b : ℕ) (xs ks : List A) (l m : ℕ) → length xs ≤ b →
    stacked f b xs ks l m ≡ without_top (stacked f b xs ks l m)
stack_empty f b xs ks l m h =
    let e = above_all f b xs h in
    ap (λ z. record (stacked f b xs ks l m) { inner = z }) e
    ∙ sym (ap (λ z. record (stacked f b xs ks l m) { inner = rest z }) e)

pub top_empty : {A : Type 0} (f : A → Held Core) (b : ℕ) (xs : List A) → length xs ≤ b →
    nth 0 (newest_first f (drop b xs)) ≡ None
top_empty f b xs h = ap (nth 0) (above_all f b xs h)

-- ---- the top item
pub first_own : (n : ℕ) (hs : List (Held Core)) (h : Held Core) → nth 0 hs ≡ Some h → is_own_item n hs ≡ (h.level == n)
first_own n [] h e = absurd (let k : None ≡ Some h = e in cc)
first_own n (g ∷ hs) h e = let k : Some g ≡ Some h = e in let same : g ≡ h = cc in ap (λ z. z.level == n) same

pub none_own : (n : ℕ) (hs : List (Held Core)) → nth 0 hs ≡ None → is_own_item n hs ≡ false
none_own n [] e = refl
none_own n (g ∷ hs) e = absurd (let k : Some g ≡ None = e in cc)

first_kept : (s : Items) (hs : List (Held Core)) (h : Held Core) → nth 0 hs ≡ Some h →
    with_kept hs s ≡ record s { inner = rest hs; kept = h ∷ s.kept }
first_kept s [] h e = absurd (let k : None ≡ Some h = e in cc)
first_kept s (g ∷ hs) h e =
    let k : Some g ≡ Some h = e in let same : g ≡ h = cc in ap (λ z. record s { inner = hs; kept = z ∷ s.kept }) same

pub none_kept : (s : Items) (hs : List (Held Core)) → nth 0 hs ≡ None → with_kept hs s ≡ s
none_kept s [] e = refl
none_kept s (g ∷ hs) e = absurd (let k : Some g ≡ None = e in cc)

pub tree_at : {A : Type 0} (f : A → Held Core) (g : A → Core) → ((x : A) → (f x).item ≡ g x) → (o : Option A) (k : ℕ)
    (hs : List (Held Core)) → option_map f o ≡ nth k hs → option_map g o ≡ item_at k hs
tree_at f g same None k hs e = ap (option_map tree_of) e
tree_at f g same (Some x) k hs e = ap Some (sym (same x)) ∙ ap (option_map tree_of) e

-- The top item is kept, once it stands on the other stack and is popped from this one.
pub stack_kept : {A : Type 0} (f : A → Held Core) (b : ℕ) (xs ks js : List A) (l m : ℕ) (x : A) (new : Items) →
    nth 0 (newest_first f (drop b xs)) ≡ Some (f x) →
    js ≡ ks ++ x ∷ [] →
    new ≡ without_top (stacked f b xs js l m) →
    new ≡ with_top_kept (stacked f b xs ks l m)
stack_kept f b xs ks js l m x new top e after =
    after
    ∙ (ap (λ z. without_top (stacked f b xs z l m)) e
    ∙ (ap (λ z. record (stacked f b xs ks l m) { inner = rest (newest_first f (drop b xs)); kept = z })
    (newest_pushed f ks x)
    ∙ sym (first_kept (stacked f b xs ks l m) (newest_first f (drop b xs)) (f x) top)))

-- ---- items that are returned
put_back_more : {A : Type 0} (n : ℕ) (ks is : List A) →
    put_back (suc n) ks is ≡ put_back n (drop 1 ks) (put_back 1 ks is)
put_back_more zero [] is = refl
put_back_more (suc n) [] is = refl
put_back_more n (k ∷ ks) is = refl

drop_more : {A : Type 0} (n : ℕ) (ks : List A) → drop (suc n) ks ≡ drop n (drop 1 ks)
drop_more zero [] = refl
drop_more (suc n) [] = refl
drop_more n (k ∷ ks) = refl

returned_more : (n : ℕ) (s : Items) → with_returned (suc n) s ≡ with_returned n (with_returned 1 s)
returned_more n s =
    ap₂ (λ y z. record s { inner = y; kept = z }) (put_back_more n s.kept s.inner) (drop_more n s.kept)

pub returned_step : (n : ℕ) (s t u : Items) → 0 < n → t ≡ with_returned 1 s → with_returned n s ≡ u →
    with_returned (n - 1) t ≡ u
returned_step zero s t u h e p = absurd (omega (arith, h))
returned_step (suc n) s t u h e p =
    let k : suc n - 1 ≡ n = omega arith in
    ap (λ z. with_returned z t) k ∙ (ap (with_returned n) e ∙ (sym (returned_more n s) ∙ p))

pub returned_end : (n : ℕ) (s u : Items) → n ≤ 0 → with_returned n s ≡ u → s ≡ u
returned_end n s u h p = let k : 0 ≡ n = omega (arith, h) in ap (λ z. with_returned z s) k ∙ p

-- More than all are all.
put_back_all : {A : Type 0} (n m : ℕ) (ks is : List A) → length ks ≤ n → length ks ≤ m →
    put_back n ks is ≡ put_back m ks is
put_back_all zero zero [] is g h = refl
put_back_all zero (suc m) [] is g h = refl
put_back_all (suc n) zero [] is g h = refl
put_back_all (suc n) (suc m) [] is g h = refl
put_back_all zero m (k ∷ ks) is g h = absurd (omega (arith, g))
put_back_all (suc n) zero (k ∷ ks) is g h = absurd (omega (arith, h))
put_back_all (suc n) (suc m) (k ∷ ks) is g h =
    put_back_all n m ks (k ∷ is) (let a = g in omega (arith, a)) (let a = h in omega (arith, a))

returned_all : (n m : ℕ) (s : Items) → length s.kept ≤ n → length s.kept ≤ m → with_returned n s ≡ with_returned m s
returned_all n m s g h =
    ap₂ (λ y z. record s { inner = y; kept = z }) (put_back_all n m s.kept s.inner g h)
    (drop_all n s.kept g ∙ sym (drop_all m s.kept h))

pub stack_returned : {A : Type 0} (f : A → Held Core) (b : ℕ) (xs ys ks js : List A) (l m : ℕ) (x : A) →
    b ≤ length xs →
    ks ≡ js ++ x ∷ [] →
    ys ≡ xs ++ x ∷ [] →
    stacked f b ys js l m ≡ with_returned 1 (stacked f b xs ks l m)
stack_returned f b xs ys ks js l m x h e g =
    stack_pushed f b xs ys js l m x h g
    ∙ sym (ap (λ z. with_returned 1 (record (stacked f b xs ks l m) { kept = z }))
    (ap (newest_first f) e ∙ newest_pushed f js x))

-- ---- the base moves
pub stack_aside : {A : Type 0} (f : A → Held Core) (b n : ℕ) (xs ks : List A) (l m : ℕ) → n ≡ length xs →
    stacked f n xs ks l m ≡ set_aside (stacked f b xs ks l m)
stack_aside f b n xs ks l m e =
    ap₂ (λ y z. record (stacked f b xs ks l m) { inner = y; aside = z }) (above_all f n xs (omega (arith, e)))
    (below_all f n xs (omega (arith, e)) ∙ newest_parts f b xs)

pub stack_restored : {A : Type 0} (f : A → Held Core) (b before n : ℕ) (xs ys ks : List A) (l m : ℕ) → b ≤ length xs →
    ys ≡ take b xs →
    n ≡ min b before →
    stacked f n ys ks l m ≡ brought_back before (stacked f b xs ks l m)
stack_restored f b before n xs ys ks l m h e g =
    let count : length (newest_first f (take b xs)) ≡ b = length_below f b xs h in
    let same : length (take b xs) ≡ b = length-take-le b xs h in
    let left : length (take b xs) - n ≡ length (newest_first f (take b xs)) - before =
    omega (arith, count, same, g) in
    ap (λ z. stacked f n z ks l m) e
    ∙ ap₂ (λ y z. record (stacked f b xs ks l m) { inner = y; aside = z })
    (above_lower f n (length (newest_first f (take b xs)) - before) (take b xs) left)
    (below_lower f n (length (newest_first f (take b xs)) - before) (take b xs) left)

-- ---- room
pub room_above : {A : Type 0} (f : A → Held Core) (b : ℕ) (xs ks : List A) (l m room : ℕ) → b ≤ length xs →
    reserve m ≤ room →
    HasRoom (stacked f b xs ks l m) →
    length xs + length ks < room
room_above f b xs ks l m room h e r =
    let a = length_parts f b xs h in let c = length_newest f ks in omega (arith, a, c, e, r.is)

-- So many, or all where there are fewer.
pub returned_least : (n k m : ℕ) (s : Items) → m ≡ min n k → length s.kept ≤ k → with_returned m s ≡ with_returned n s
returned_least n k m s e h = ⊎_elim
    (λ less. let same : m ≡ n = omega (arith, e, less) in ap (λ z. with_returned z s) same)
    (λ more. returned_all m n s (omega (arith, e, h, more)) (omega (arith, h, more)))
    (cases_lt n k)
