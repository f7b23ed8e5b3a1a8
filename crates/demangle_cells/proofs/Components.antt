-- Components: how many there are, and the references to them.
use Rattle.std.proofs.Common.{◌≡◌, refl, ap, ◌∙◌, sym, ℕ, suc, zero, ◌<◌, ◌+◌, ◌-◌, Bool, true, false, List, []}
use Rattle.std.proofs.Common.{◌∷◌, ◌++◌}
use Rattle.std.proofs.Common.{length, take, map, arith, nat_lt, option_map, slice_get}
use Rattle.demangle_core.specs.Core.{Core, N, U}
use Rattle.demangle_core.specs.Table.{size, added, count, listed, entry_at}
use Rattle.demangle_grammar.specs.Tree.{reference}
use Rattle.demangle_cells.specs.Fixed.{fixed, first_cell, first_reference, first_other}
use Rattle.demangle_cells.specs.Entries.{ids_of, more_if, same_kind}
use Rattle.demangle_cells.specs.Stored.{View, Holds, table, entry, which_of}
use Rattle.demangle_cells.specs.declared.entry.Entry as made
use Rattle.demangle_cells.proofs.Lists.{map_last, append_none}

pub ids_last : (b : Bool) (es : List made.Entry) (e : made.Entry)
    → ids_of b (es ++ e ∷ []) ≡ ids_of b es ++ more_if (same_kind b e.numbered) e.id []
ids_last b [] e = refl
ids_last b (x ∷ es) e = by (same_kind b x.numbered) (ids_last b es e)
  where
    by : (s : Bool) → ids_of b (es ++ e ∷ []) ≡ ids_of b es ++ more_if (same_kind b e.numbered) e.id []
        → more_if s x.id (ids_of b (es ++ e ∷ [])) ≡ more_if s x.id (ids_of b es) ++ more_if
        (same_kind b e.numbered) e.id []
    by true h = ap (λ l. x.id ∷ l) h
    by false h = h

-- one component more, in its list and in the other one
pub numbered_more : (ns ms : List ℕ) (es ds : List made.Entry) (k : ℕ) → ns ≡ ids_of true es
    → ds ≡ es ++ record { numbered = true; id = k } ∷ [] → ms ≡ ns ++ k ∷ [] → ms ≡ ids_of true ds
numbered_more ns ms es ds k h d m =
    m ∙ (ap (λ l. l ++ k ∷ []) h ∙ sym (ap (ids_of true) d ∙ ids_last true es (record { numbered = true; id = k })))

pub numbered_same : (ns : List ℕ) (es ds : List made.Entry) (k : ℕ) → ns ≡ ids_of true es
    → ds ≡ es ++ record { numbered = false; id = k } ∷ [] → ns ≡ ids_of true ds
numbered_same ns es ds k h d =
    h ∙ sym (ap (ids_of true) d ∙
    (ids_last true es (record { numbered = false; id = k }) ∙ append_none (ids_of true es)))

pub others_more : (ns ms : List ℕ) (es ds : List made.Entry) (k : ℕ) → ns ≡ ids_of false es
    → ds ≡ es ++ record { numbered = false; id = k } ∷ [] → ms ≡ ns ++ k ∷ [] → ms ≡ ids_of false ds
others_more ns ms es ds k h d m =
    m ∙ (ap (λ l. l ++ k ∷ []) h ∙ sym (ap (ids_of false) d ∙ ids_last false es (record { numbered = false; id = k })))

pub others_same : (ns : List ℕ) (es ds : List made.Entry) (k : ℕ) → ns ≡ ids_of false es
    → ds ≡ es ++ record { numbered = true; id = k } ∷ [] → ns ≡ ids_of false ds
others_same ns es ds k h d =
    h ∙ sym (ap (ids_of false) d ∙
    (ids_last false es (record { numbered = true; id = k }) ∙ append_none (ids_of false es)))

-- those of the first entries are the first of them
pub ids_taken : (b : Bool) (n : ℕ) (es : List made.Entry)
    → take (length (ids_of b (take n es))) (ids_of b es) ≡ ids_of b (take n es)
ids_taken b zero es = refl
ids_taken b (suc n) [] = refl
ids_taken b (suc n) (x ∷ es) = by (same_kind b x.numbered) (ids_taken b n es)
  where
    by : (s : Bool) → take (length (ids_of b (take n es))) (ids_of b es) ≡ ids_of b (take n es)
        → take (length (more_if s x.id (ids_of b (take n es)))) (more_if s x.id (ids_of b es)) ≡ more_if s x.id
        (ids_of b (take n es))
    by true h = ap (λ l. x.id ∷ l) h
    by false h = h

counts : (F : ℕ → Core) (b : Bool) (es : List made.Entry) → count (which_of b) (map (entry F) es) ≡ length (ids_of b es)
counts F true [] = refl
counts F false [] = refl
counts F true (e ∷ es) = by e.numbered (counts F true es)
  where
    by : (s : Bool) → count N (map (entry F) es) ≡ length (ids_of true es)
        → count N (record { which = which_of s; tree = F e.id } ∷ map (entry F) es) ≡ length (more_if
        (same_kind true s) e.id (ids_of true es))
    by true h = ap suc h
    by false h = h
counts F false (e ∷ es) = by e.numbered (counts F false es)
  where
    by : (s : Bool) → count U (map (entry F) es) ≡ length (ids_of false es)
        → count U (record { which = which_of s; tree = F e.id } ∷ map (entry F) es) ≡ length (more_if
        (same_kind false s) e.id (ids_of false es))
    by true h = h
    by false h = ap suc h

pub size_is : (F : ℕ → Core) (b : Bool) (v : View) (n : ℕ) → n ≡ length (ids_of b v.entries)
    → n ≡ size (which_of b) (table F v)
unfolding table size
size_is F b v n e = e ∙ sym (counts F b v.entries)

pub has_of_size : (F : ℕ → Core) (v : View) (k n : ℕ) (ns : List ℕ) → ns ≡ ids_of true v.entries → n ≡ length ns
    → nat_lt k n ≡ nat_lt k (size N (table F v))
has_of_size F v k n ns e l = ap (nat_lt k) (size_is F true v n (l ∙ ap length e))

pub added_numbered : (F : ℕ → Core) (a b : View) (k : ℕ)
    → b.entries ≡ a.entries ++ record { numbered = true; id = k } ∷ []
    → table F b ≡ added N (F k) (table F a)
unfolding table added
added_numbered F a b k h = ap (map (entry F)) h ∙ map_last (entry F) a.entries (record { numbered = true; id = k })

pub added_other : (F : ℕ → Core) (a b : View) (k : ℕ)
    → b.entries ≡ a.entries ++ record { numbered = false; id = k } ∷ []
    → table F b ≡ added U (F k) (table F a)
unfolding table added
added_other F a b k h = ap (map (entry F)) h ∙ map_last (entry F) a.entries (record { numbered = false; id = k })

-- ---- the index of a reference
numbered_fixed : (n : ℕ) → n < first_reference → fixed (first_reference + n) ≡ reference N n
unfolding fixed
numbered_fixed n h =
    let a : nat_lt (first_reference + n) first_cell ≡ false = grind arith in
    let b : nat_lt (first_reference + n) first_other ≡ true = grind (arith, h) in
    let c : (first_reference + n) - first_reference ≡ n = omega arith in
    rw (a, b, c) refl

other_fixed : (n : ℕ) → fixed (first_other + n) ≡ reference U n
unfolding fixed
other_fixed n =
    let a : nat_lt (first_other + n) first_cell ≡ false = grind arith in
    let b : nat_lt (first_other + n) first_other ≡ false = grind arith in
    let c : (first_other + n) - first_other ≡ n = omega arith in
    rw (a, b, c) refl

pub numbered_reference : (F : ℕ → Core) (a v : View) (n : ℕ) (ns : List ℕ) → ns ≡ ids_of true a.entries → n ≡ length ns
    → n < first_reference → Holds F v → F (first_reference + n) ≡ reference N (size N (table F a))
numbered_reference F a v n ns e l s h =
    h.references (first_reference + n) (omega arith)
    ∙ (numbered_fixed n s ∙ ap (reference N) (size_is F true a n (l ∙ ap length e)))

pub other_reference : (F : ℕ → Core) (a v : View) (n : ℕ) (ns : List ℕ) → ns ≡ ids_of false a.entries → n ≡ length ns
    → Holds F v → F (first_other + n) ≡ reference U (size U (table F a))
other_reference F a v n ns e l h =
    h.references (first_other + n) (omega arith)
    ∙ (other_fixed n ∙ ap (reference U) (size_is F false a n (l ∙ ap length e)))

-- ---- a component by its number
listed_are : (F : ℕ → Core) (b : Bool) (es : List made.Entry)
    → listed (which_of b) (map (entry F) es) ≡ map F (ids_of b es)
listed_are F true [] = refl
listed_are F false [] = refl
listed_are F true (e ∷ es) = by e.numbered (listed_are F true es)
  where
    by : (s : Bool) → listed N (map (entry F) es) ≡ map F (ids_of true es)
        → listed N (record { which = which_of s; tree = F e.id } ∷ map (entry F) es) ≡ map F (more_if
        (same_kind true s) e.id (ids_of true es))
    by true h = ap (λ l. F e.id ∷ l) h
    by false h = h
listed_are F false (e ∷ es) = by e.numbered (listed_are F false es)
  where
    by : (s : Bool) → listed U (map (entry F) es) ≡ map F (ids_of false es)
        → listed U (record { which = which_of s; tree = F e.id } ∷ map (entry F) es) ≡ map F (more_if
        (same_kind false s) e.id (ids_of false es))
    by true h = h
    by false h = ap (λ l. F e.id ∷ l) h

mapped_get : (F : ℕ → Core) (ks : List ℕ) (n : ℕ) → option_map F (slice_get ks n) ≡ slice_get (map F ks) n
mapped_get F [] n = refl
mapped_get F (k ∷ ks) zero = refl
mapped_get F (k ∷ ks) (suc n) = mapped_get F ks n

component_tree : (F : ℕ → Core) (b : Bool) (v : View) (ns : List ℕ) (n : ℕ) → ns ≡ ids_of b v.entries
    → option_map F (slice_get ns n) ≡ entry_at (which_of b) n (table F v)
unfolding table entry_at
component_tree F b v ns n e =
    ap (λ l. option_map F (slice_get l n)) e
    ∙ (mapped_get F (ids_of b v.entries) n ∙ sym (ap (λ l. slice_get l n) (listed_are F b v.entries)))

pub numbered_tree : (F : ℕ → Core) (v : View) (ns : List ℕ) (n : ℕ) → ns ≡ ids_of true v.entries
    → option_map F (slice_get ns n) ≡ entry_at N n (table F v)
numbered_tree F v ns n e = component_tree F true v ns n e

pub other_tree : (F : ℕ → Core) (v : View) (ns : List ℕ) (n : ℕ) → ns ≡ ids_of false v.entries
    → option_map F (slice_get ns n) ≡ entry_at U n (table F v)
other_tree F v ns n e = component_tree F false v ns n e

pub ruleset parts =
    (numbered_more, numbered_same, others_more, others_same, has_of_size, added_numbered, added_other, numbered_reference, other_reference)

pub ruleset by_number = (numbered_tree, other_tree)
