-- What a reading sees of components, as their stamps tell it.
use Rattle.std.proofs.Common.{◌≡◌, refl, ap, sym, ◌∙◌, subst, ℕ, zero, suc, ◌≤◌, ◌+◌, List, [], ◌∷◌, ◌++◌, length, take}
use Rattle.std.proofs.Common.{Bool, map, reverse, arith, Some, slice_get}
use Rattle.std.proofs.lemmas.List.{reverse-reverse}
use Rattle.demangle_core.specs.Core.{Core, Which}
use Rattle.demangle_grammar.specs.Reading.{is_nestable}
use Rattle.demangle_outline.specs.Outline.{outline}
use Rattle.demangle_cells.specs.Ledger.{IsChain, stamp_at, Stamps, NotesOnce}
use Rattle.demangle_cells.specs.Memo.{Outlined, seen}
use Rattle.demangle_cells.specs.Stored.{View, Holds, table, entry, Grown, KeepsTrees, IsMark, IsCut}
use Rattle.demangle_cells.specs.declared.entry.Entry as made
use Rattle.demangle_cells.specs.declared.entry.Mark as mark
use Rattle.demangle_cells.proofs.Lists.{take_all, map_last, length_last}
use Rattle.demangle_cells.proofs.Grows.{cut_holds}
use Rattle.demangle_cells.proofs.Stamps.{chain_same, chain_at, grown_length, inside, stamped_cut, stamped_none}
use Rattle.demangle_cells.proofs.Stamps.{stamped_once, take_next, take_taken}

-- what a reading sees of so many components of an arena
abbrev sight : (ℕ → Core) → List made.Entry → List (Which × Bool)
sight F es = outline (map (entry F) es)

pub map_taken : {A B : Type 0} (f : A → B) (n : ℕ) (xs : List A) → map f (take n xs) ≡ take n (map f xs)
map_taken f zero xs = refl
map_taken f (suc n) [] = refl
map_taken f (suc n) (x ∷ xs) = ap (λ l. f x ∷ l) (map_taken f n xs)

-- of what is taken of a front as long as another list
taken_of_front : {A B : Type 0} (n : ℕ) (xs : List A) (ys : List B)
    → take n (take (length xs) ys) ≡ take (length (take n xs)) (take n ys)
taken_of_front zero xs ys = refl
taken_of_front (suc n) [] ys = refl
taken_of_front (suc n) (x ∷ xs) [] = refl
taken_of_front (suc n) (x ∷ xs) (y ∷ ys) = ap (λ l. y ∷ l) (taken_of_front n xs ys)

sight_taken : (F : ℕ → Core) (n : ℕ) (es : List made.Entry) → take n (sight F es) ≡ sight F (take n es)
sight_taken F n es =
    sym (map_taken _ n (map (entry F) es)) ∙ ap outline (sym (map_taken (entry F) n es))

short : (l : Stamps) (list : List made.Entry) (n : ℕ) → length list ≡ length l.stamps
    → length (take n list) ≡ length (take n l.stamps)
short l list n e = same n list l.stamps e
  where
    same : {A B : Type 0} (n : ℕ) (xs : List A) (ys : List B) → length xs ≡ length ys
        → length (take n xs) ≡ length (take n ys)
    same zero xs ys h = refl
    same (suc n) [] [] h = refl
    same (suc n) [] (y ∷ ys) h = absurd (omega (arith, h))
    same (suc n) (x ∷ xs) [] h = absurd (omega (arith, h))
    same (suc n) (x ∷ xs) (y ∷ ys) h =
        let r : length (take n xs) ≡ length (take n ys) = same n xs ys (omega (arith, h)) in
        omega (arith, r)

short_of : {A B : Type 0} (n : ℕ) (xs : List A) (ys : List B) → length xs ≤ length ys
    → length (take n xs) ≤ length (take n ys)
short_of zero xs ys h = omega arith
short_of (suc n) [] ys h = omega arith
short_of (suc n) (x ∷ xs) [] h = absurd (omega (arith, h))
short_of (suc n) (x ∷ xs) (y ∷ ys) h =
    let r : length (take n xs) ≤ length (take n ys) = short_of n xs ys (omega (arith, h)) in
    omega (arith, r)

-- ---- they stay true
pub outlined_none : (v : View) (l : Stamps) → l.stamps ≡ [] → Outlined v l
outlined_none v l e = record {
  shapes = [];
  stamped = stamped_none l [] e;
  all = sym (ap length e);
  within = omega arith;
  sees = λ F f. refl;
}

pub outlined_grown : (a b : View) (l : Stamps) → Grown a b → Outlined a l → Outlined b l
outlined_grown a b l g h = record {
  shapes = h.shapes;
  stamped = h.stamped;
  all = h.all;
  within = omega (arith, h.within, grown_length a.entries b.entries g.entries);
  sees = λ F f. h.sees F (g.holds F f) ∙ ap (sight F) (sym (ap (take (length h.shapes)) g.entries)
      ∙ take_taken (length h.shapes) (length a.entries) b.entries h.within);
}

pub outlined_kept : (a b : View) (l : Stamps) → KeepsTrees a b → Outlined a l → Outlined b l
outlined_kept a b l g h = record {
  shapes = h.shapes;
  stamped = h.stamped;
  all = h.all;
  within = subst (λ es. length h.shapes ≤ length es) (sym g.entries) h.within;
  sees = λ F f. h.sees F (g.holds F f) ∙ ap (λ es. sight F (take (length h.shapes) es)) (sym g.entries);
}

pub outlined_cut : (a b : View) (l m : Stamps) (k : mark.Mark) → IsCut k a b → m.log ≡ l.log
    → m.stamps ≡ take k.entries l.stamps → Outlined a l → Outlined b m
outlined_cut a b l m k c g s h = record {
  shapes = take k.entries h.shapes;
  stamped = stamped_cut l m h.shapes k.entries g s h.stamped;
  all = short l h.shapes k.entries h.all ∙ sym (ap length s);
  within =
      subst (λ es. length (take k.entries h.shapes) ≤ length es) (sym c.entries)
      (short_of k.entries h.shapes a.entries h.within);
  sees = λ F f.
      map_taken seen k.entries h.shapes
      ∙ (ap (take k.entries) (h.sees F (cut_holds F a b k c f))
      ∙ (sight_taken F k.entries (take (length h.shapes) a.entries)
      ∙ (ap (sight F) (taken_of_front k.entries h.shapes a.entries)
      ∙ ap (λ es. sight F (take (length (take k.entries h.shapes)) es)) (sym c.entries))));
}

sight_last : (F : ℕ → Core) (es : List made.Entry) (e : made.Entry)
    → sight F (es ++ e ∷ []) ≡ sight F es ++ ((entry F e).which, is_nestable (entry F e).tree) ∷ []
sight_last F es e = ap outline (map_last (entry F) es e) ∙ map_last _ (map (entry F) es) (entry F e)

pub outlined_once : (v : View) (l m : Stamps) (e last : made.Entry)
    → slice_get v.entries (length l.stamps) ≡ Some e
    → ((F : ℕ → Core) → Holds F v → seen last ≡ ((entry F e).which, is_nestable (entry F e).tree))
    → NotesOnce l m last → Outlined v l → Outlined v m
outlined_once v l m e last w s n h = record {
  shapes = h.shapes ++ last ∷ [];
  stamped = stamped_once l m h.shapes last h.stamped h.all n;
  all = length_last h.shapes last ∙ (ap (λ i. i + 1) h.all ∙ (sym (length_last l.stamps n.stamp)
      ∙ sym (ap length n.stamps)));
  within = omega (arith, length_last h.shapes last, h.all, inside v.entries (length l.stamps) e w);
  sees = λ F f.
      map_last seen h.shapes last
      ∙ (ap (λ xs. xs ++ seen last ∷ []) (h.sees F f)
      ∙ (ap (λ x. sight F (take (length h.shapes) v.entries) ++ x ∷ []) (s F f)
      ∙ (sym (sight_last F (take (length h.shapes) v.entries) e) ∙ ap (sight F) (next F))));
}
  where
    at : slice_get v.entries (length h.shapes) ≡ Some e
    at = ap (slice_get v.entries) h.all ∙ w

    long : suc (length h.shapes) ≡ length (h.shapes ++ last ∷ [])
    long = let q = length_last h.shapes last in omega (arith, q)

    next : (F : ℕ → Core) → take (length h.shapes) v.entries ++ e ∷ [] ≡ take (length (h.shapes ++ last ∷ [])) v.entries
    next F = sym (take_next v.entries (length h.shapes) e at) ∙ ap (λ i. take i v.entries) long

-- ---- what they tell of the first components
-- all have theirs
whole_sight : (v : View) (l : Stamps) (F : ℕ → Core) → Holds F v → (h : Outlined v l)
    → length l.stamps ≡ length v.entries → map seen h.shapes ≡ sight F v.entries
whole_sight v l F f h c =
    h.sees F f ∙ ap (sight F) (ap (λ i. take i v.entries) (h.all ∙ c) ∙ take_all v.entries)

pub outline_of : (a v : View) (l : Stamps) (k : mark.Mark) (F : ℕ → Core) → Holds F v → (h : Outlined v l)
    → length l.stamps ≡ length v.entries → IsMark a k → Grown a v
    → outline (table F a) ≡ map seen (take k.entries h.shapes)
unfolding table
outline_of a v l k F f h c i g =
    ap (sight F) (sym g.entries ∙ ap (λ j. take j v.entries) (sym i.entries))
    ∙ (sym (sight_taken F k.entries v.entries)
    ∙ (ap (take k.entries) (sym (whole_sight v l F f h c)) ∙ sym (map_taken seen k.entries h.shapes)))

pub outline_chain : (a v : View) (l : Stamps) (k : mark.Mark) (s : ℕ) → (h : Outlined v l)
    → length l.stamps ≡ length v.entries → IsMark a k → Grown a v → s ≡ stamp_at k.entries l.stamps
    → IsChain l.log s (reverse (take k.entries h.shapes))
outline_chain a v l k s h c i g q =
    subst (λ j. IsChain l.log j (reverse (take k.entries h.shapes))) (sym q)
    (h.stamped.each k.entries (omega (arith, i.entries, c, grown_length a.entries v.entries g.entries)))

pub outline_seen : (v : View) (l : Stamps) (F : ℕ → Core) → Holds F v → (shapes : List made.Entry) (s : ℕ)
    → (h : Outlined v l) → length l.stamps ≡ length v.entries → s ≡ stamp_at (length v.entries) l.stamps
    → IsChain l.log s shapes → map seen (reverse shapes) ≡ outline (table F v)
unfolding table
outline_seen v l F f shapes s h c q w =
    ap (λ es. map seen (reverse es)) same ∙ (ap (map seen) (reverse-reverse h.shapes) ∙ whole_sight v l F f h c)
  where
    same : shapes ≡ reverse h.shapes
    same =
        chain_same l.log s shapes (reverse h.shapes) w
        (subst (λ j. IsChain l.log j (reverse h.shapes)) (sym q)
        (chain_at l h.shapes h.shapes (length v.entries) h.stamped (sym c ∙ sym h.all) (omega (arith, h.all))
        (take_all h.shapes)))
