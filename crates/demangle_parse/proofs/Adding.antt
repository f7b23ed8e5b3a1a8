-- Components that are added, one or several at a time, and those of a table in the order of both lists.
use Rattle.std.proofs.Common.{◌≡◌, refl, ap, ◌∙◌, sym, ℕ, suc, zero, ◌≤◌, ◌<◌, ◌+◌, ◌-◌, List, [], ◌∷◌, ◌++◌, map, take}
use Rattle.std.proofs.Common.{drop, length, get_or, slice_index_or, append_assoc, subst, ◌⊎◌, inl, inr, arith}
use Rattle.std.proofs.lemmas.List.{length-map, map_more, take-map, drop-map, drop_all}
use Rattle.demangle_core.specs.Core.{Core, Which, N, U}
use Rattle.demangle_core.specs.Table.{Table, added}
use Rattle.demangle_components.specs.View.{all_of, woven, table_from}
use Rattle.demangle_cells.specs.View.{View, Holds, Grown, entry, table, which_of}
use Rattle.demangle_cells.specs.declared.entry.Entry as made
use Rattle.demangle_parse.specs.Adds.{Adds, HasTable, Lacks}

abbrev one : Which → Core → Table
one w x = record { which = w; tree = x } ∷ []

pub append_none : {X : Type 0} (xs : List X) → xs ++ [] ≡ xs
append_none [] = refl
append_none (x ∷ xs) = ap (λ l. x ∷ l) (append_none xs)

-- ---- added
pub adds_one : (a b c : View) (w : Which) (id : ℕ) (x : Core) → Grown a b → ((F : ℕ → Core) → table F b ≡ table F a)
    → ((F : ℕ → Core) → Holds F b → F id ≡ x) → Grown b c
    → ((F : ℕ → Core) → table F c ≡ added w (F id) (table F b)) → Adds a c (one w x)
unfolding added
adds_one a b c w id x g t m h u = record {
  holds = λ F k. g.holds F (h.holds F k);
  table = λ F k. u F ∙ (ap (λ y. table F b ++ one w y) (m F (h.holds F k)) ∙ ap (λ s. s ++ one w x) (t F));
}

pub adds_none : (v : View) → Adds v v []
adds_none v = record { holds = λ F k. k; table = λ F k. sym (append_none (table F v)) }

pub adds_both : (a b c : View) (s t : Table) → Adds a b s → Adds b c t → Adds a c (s ++ t)
adds_both a b c s t g h = record {
  holds = λ F k. g.holds F (h.holds F k);
  table = λ F k. h.table F k ∙ (ap (λ e. e ++ t) (g.table F (h.holds F k)) ∙ append_assoc (table F a) s t);
}

-- ---- numbered ones, one behind the other
all_last : (w : Which) (xs : List Core) (x : Core) → all_of w (xs ++ x ∷ []) ≡ all_of w xs ++ one w x
all_last w [] x = refl
all_last w (y ∷ ys) x = ap (λ l. record { which = w; tree = y } ∷ l) (all_last w ys x)

pub adds_next : {T : Type 0} (tree : T → Core) (xs : List T) (i : ℕ) (x : T) (a b c : View) → i < length xs
    → x ≡ get_or xs i x → Adds a b (all_of N (map tree (take i xs))) → Adds b c (one N (tree x))
    → Adds a c (all_of N (map tree (take (i + 1) xs)))
adds_next tree xs i x a b c h e g k =
    let m = map_more tree xs i x h in
    let l : all_of N (map tree (take (i + 1) xs)) ≡ all_of N (map tree (take i xs)) ++ one N (tree x) =
    ap (all_of N) m ∙ (all_last N (map tree (take i xs)) (tree (get_or xs i x))
    ∙ ap (λ y. all_of N (map tree (take i xs)) ++ one N (tree y)) (sym e)) in
    rw l (adds_both a b c _ _ g k)

-- ---- a front of a list
pub take_short : {T : Type 0} (n : ℕ) (xs : List T) → length xs ≤ n → take n xs ≡ xs
take_short zero [] h = refl
take_short zero (x ∷ xs) h = absurd (omega arith)
take_short (suc n) [] h = refl
take_short (suc n) (x ∷ xs) h = ap (λ l. x ∷ l) (take_short n xs (omega arith))

pub ruleset fronts = (take_short, drop_all)

-- ---- components of the arena in the table
pub entries_next : (F : ℕ → Core) (es : List made.Entry) (i : ℕ) (d : made.Entry) (a b c : Table) → i < length es
    → b ≡ a ++ map (entry F) (take i es) → c ≡ added (which_of (get_or es i d).numbered) (F (get_or es i d).id) b
    → c ≡ a ++ map (entry F) (take (i + 1) es)
unfolding added
entries_next F es i d a b c h old new =
    let e : made.Entry = get_or es i d in
    new ∙ (ap (λ t. t ++ entry F e ∷ []) old ∙ (append_assoc a (map (entry F) (take i es)) (entry F e ∷ [])
    ∙ ap (λ t. a ++ t) (sym (map_more (entry F) es i d h))))

-- ---- the whole table
abbrev after_first : {T : Type 0} → List T → List T
after_first xs = take (length xs - 1) (drop 1 xs)

first_gone : {T : Type 0} (x : T) (xs : List T) → after_first (x ∷ xs) ≡ xs
first_gone x xs = take_short (length (x ∷ xs) - 1) xs (omega arith)

pub lacks_all : {T : Type 0} (tree : T → Core) (v : View) (whole : Table) (ns us : List T) (ks : List ℕ)
    → v.entries ≡ [] → table_from tree ns us ks ≡ whole → Lacks v (woven 0 (map tree ns) (map tree us) ks) whole
unfolding table table_from
lacks_all tree v whole ns us ks n e F h =
    ap (λ es. map (entry F) es ++ woven 0 (map tree ns) (map tree us) ks) n ∙ e

lacks_less : (a b : View) (s more whole : Table) → Lacks a (s ++ more) whole → Adds a b s → Lacks b more whole
lacks_less a b s more whole l g F h =
    ap (λ e. e ++ more) (g.table F h) ∙ (append_assoc (table F a) s more ∙ l F (g.holds F h))

woven_on : {T : Type 0} (tree : T → Core) (i n : ℕ) (ns us front rest : List T) (ks : List ℕ) (u : T)
    → 1 ≤ length us → 1 ≤ length ks → u ≡ get_or us 0 u → n ≡ slice_index_or ks 0 0 - i → front ≡ take n ns
    → rest ≡ drop n ns → woven i (map tree ns) (map tree us) ks
    ≡ all_of N (map tree front) ++ (one U (tree u) ++ woven (slice_index_or ks 0 0) (map tree rest)
    (map tree (after_first us)) (after_first ks))
woven_on tree i n ns [] front rest ks u a b is e f r = absurd (omega arith)
woven_on tree i n ns (x ∷ xs) front rest [] u a b is e f r = absurd (omega arith)
woven_on tree i n ns (x ∷ xs) front rest (k ∷ ks) u a b is e f r =
    ap (λ l. all_of N l ++ (one U (tree x) ++ woven k (drop (k - i) (map tree ns)) (map tree xs) ks)) p
    ∙ (ap (λ l. all_of N (map tree front) ++ (one U (tree x) ++ woven k l (map tree xs) ks)) q
    ∙ (ap (λ y. all_of N (map tree front) ++ (one U (tree y) ++ woven k (map tree rest) (map tree xs) ks)) (sym is)
    ∙ (ap (λ l. all_of N (map tree front) ++ (one U (tree u) ++ woven k (map tree rest) (map tree l) ks))
    (sym (first_gone x xs))
    ∙ ap (λ l. all_of N (map tree front) ++ (one U (tree u) ++ woven k (map tree rest) (map tree (after_first (x ∷ xs))) l))
    (sym (first_gone k ks)))))
  where
    p : take (k - i) (map tree ns) ≡ map tree front
    p = take-map tree (k - i) ns ∙ ap (map tree) (ap (λ m. take m ns) (sym e) ∙ sym f)

    q : drop (k - i) (map tree ns) ≡ map tree rest
    q = drop-map tree (k - i) ns ∙ ap (map tree) (ap (λ m. drop m ns) (sym e) ∙ sym r)

pub lacks_next : {T : Type 0} (tree : T → Core) (a b c : View) (whole : Table) (i n : ℕ) (ns us front rest : List T)
    (ks : List ℕ) (u : T) → 1 ≤ length us → 1 ≤ length ks → u ≡ get_or us 0 u → n ≡ slice_index_or ks 0 0 - i
    → front ≡ take n ns → rest ≡ drop n ns → Lacks a (woven i (map tree ns) (map tree us) ks) whole
    → Adds a b (all_of N (map tree front)) → Adds b c (one U (tree u))
    → Lacks c (woven (slice_index_or ks 0 0) (map tree rest) (map tree (after_first us)) (after_first ks)) whole
lacks_next tree a b c whole i n ns us front rest ks u p q is e f r l g h =
    lacks_less b c (one U (tree u)) _ whole
    (lacks_less a b (all_of N (map tree front)) _ whole
    (subst (λ t. Lacks a t whole) (woven_on tree i n ns us front rest ks u p q is e f r) l) g) h

no_others : (i : ℕ) (ns us : List Core) (ks : List ℕ) → length us < 1 → woven i ns us ks ≡ all_of N ns
no_others i ns [] ks h = refl
no_others i ns (u ∷ us) ks h = absurd (omega arith)

no_counts : (i : ℕ) (ns us : List Core) (ks : List ℕ) → length ks < 1 → woven i ns us ks ≡ all_of N ns
no_counts i ns [] ks h = refl
no_counts i ns (u ∷ us) [] h = refl
no_counts i ns (u ∷ us) (k ∷ ks) h = absurd (omega arith)

pub lacks_none : {T : Type 0} (tree : T → Core) (a b : View) (whole : Table) (i : ℕ) (ns us : List T) (ks : List ℕ)
    → (length us < 1) ⊎ (length ks < 1) → Lacks a (woven i (map tree ns) (map tree us) ks) whole
    → Adds a b (all_of N (map tree ns)) → HasTable b whole
lacks_none tree a b whole i ns us ks (inl h) l g F k =
    let m : length (map tree us) ≡ length us = length-map us tree in
    g.table F k ∙ (ap (λ t. table F a ++ t) (sym (no_others i (map tree ns) (map tree us) ks (omega (arith, h, m))))
    ∙ l F (g.holds F k))
lacks_none tree a b whole i ns us ks (inr h) l g F k =
    g.table F k ∙ (ap (λ t. table F a ++ t) (sym (no_counts i (map tree ns) (map tree us) ks h))
    ∙ l F (g.holds F k))

pub ruleset adding = (adds_one, adds_none, adds_both)
