-- The format's bytes of a type are a type's bytes.
use Rattle.std.specs.List.{list_all}
use Rattle.std.specs.Prelude.{◌≤◌, ◌<◌, ◌&&◌, ◌==◌, not, codes, Option, Some, None, Ok}
use Rattle.std.proofs.Common.{◌≡◌, refl, sym, ap, subst, ◌∙◌, arith, ℕ, ◌+◌, Bool, true, false, List, [], ◌∷◌, ◌++◌, length, append_assoc}
use Rattle.std.proofs.lemmas.Bool.{eqb-true}
use Rattle.std.proofs.lemmas.Option.{slice_get_within}
use Rattle.std.proofs.Math.Seq.{drop-append_seam}
use Rattle.demangle_text.specs.Found.{Found, took, none}
use Rattle.demangle_vocab.specs.WordTable.{table_at, table_from, word_read, words}
use Rattle.demangle_vocab.specs.Builtins.{builtins, builtin_words}
use Rattle.demangle_grammar.specs.Rule.{Class}
use Rattle.demangle_grammar.specs.Reading.{next_is, any_starts}
use Rattle.demangle_grammar.proofs.Truth.{both_true}
use Rattle.cpp_mangle.specs.Declarations.{PlainType, Path, Ident, Modifier, builtin, class, of, pointer, lvalue, rvalue, const, fronts_behind, fronts, proper, mentioned, place, with, with_all, is_ident, type_bytes, path_bytes, reference_or, modifier_word, word_of, source_name, source_names, longest_behind, nested_from}
use Rattle.cpp_mangle.specs.Declarations as format
use Rattle.cpp_mangle.proofs.Rows.{spot, Lacks}
use Rattle.cpp_mangle.proofs.Marks.{letter, NoFunction}
use Rattle.cpp_mangle.proofs.Prefixes.{below_true, digit_lacks}
use Rattle.cpp_mangle.proofs.Types.{Spelled, a_builtin, a_reference, a_modifier, a_class, a_path, a_path_behind, IsSource}
use Rattle.cpp_mangle.proofs.Bytes.{source_is, sources_are, reference_is}
use Rattle.cpp_mangle.specs.Closed.{Closed}
use Rattle.cpp_mangle.proofs.Lists.{placed, all_old, with_new, weight, still_new, mentioned_less, AllNew, new_behind, fronts_added, proper_last, fronts_split, Best, longest_is, with_behind, with_both, fronts_more}

-- ---- words of builtin types
abbrev pub count : ℕ
count = length (words builtins)

abbrev is_found : ℕ → ℕ → Found ℕ → Bool
is_found n k (took m j) = (m == n) && (j == k)
is_found n k (none c) = false

found_is : (n k : ℕ) (x : Found ℕ) → is_found n k x ≡ true → x ≡ took n k
found_is n k (took m j) h = let g = both_true (m == n) (j == k) h in λ i. took (eqb-true m n g.0 i) (eqb-true j k g.1 i)
found_is n k (none c) h = absurd (cc)

word_found : (k : ℕ) (rest : List ℕ) → k < count → table_at builtin_words (word_of (words builtins) k ++ rest) ≡ took (length (word_of (words builtins) k)) k
word_found k rest l =
    found_is (length (word_of (words builtins) k)) k (table_at builtin_words (word_of (words builtins) k ++ rest))
    (below_true count (λ k. is_found (length (word_of (words builtins) k)) k (table_at builtin_words (word_of (words builtins) k ++ rest))) refl k l)

word_from : (k i : ℕ) (rest : List ℕ) → k < count → table_from builtin_words (spot i (word_of (words builtins) k ++ rest)) ≡ Ok (k, spot (i + length (word_of (words builtins) k)) rest)
unfolding table_from word_read
word_from k i rest l = rw (word_found k rest l, drop-append_seam (word_of (words builtins) k) rest) refl

-- what no type begins with
abbrev begins_well : List ℕ → Bool
begins_well bs = not (next_is (Class.these (66 ∷ [])) bs) && (not (next_is (Class.these (73 ∷ [])) bs) && not (any_starts (codes "F" ∷ codes "Do" ∷ codes "DO" ∷ codes "Dx" ∷ codes "Dw" ∷ []) bs))

word_begins : (k : ℕ) (rest : List ℕ) → k < count → begins_well (word_of (words builtins) k ++ rest) ≡ true
word_begins k rest l = below_true count (λ k. begins_well (word_of (words builtins) k ++ rest)) refl k l

abbrev pub BeginsWell : List ℕ → Type 0
BeginsWell bs = Lacks 66 bs × Lacks 73 bs × NoFunction const bs

not_true : (z : Bool) → not z ≡ true → z ≡ false
not_true true h = absurd (cc)
not_true false h = refl

begins_is : (bs : List ℕ) → begins_well bs ≡ true → BeginsWell bs
begins_is bs h =
    let a = both_true (not (next_is (Class.these (66 ∷ [])) bs)) (not (next_is (Class.these (73 ∷ [])) bs) && not (any_starts (codes "F" ∷ codes "Do" ∷ codes "DO" ∷ codes "Dx" ∷ codes "Dw" ∷ []) bs)) h in
    let b = both_true (not (next_is (Class.these (73 ∷ [])) bs)) (not (any_starts (codes "F" ∷ codes "Do" ∷ codes "DO" ∷ codes "Dx" ∷ codes "Dw" ∷ []) bs)) a.1 in
    (not_true (next_is (Class.these (66 ∷ [])) bs) a.0, not_true (next_is (Class.these (73 ∷ [])) bs) b.0, not_true (any_starts (codes "F" ∷ codes "Do" ∷ codes "DO" ∷ codes "Dx" ∷ codes "Dw" ∷ []) bs) b.1)

-- ---- which types are meant
abbrev pub Fine : PlainType → Type 0
Fine (builtin k) = k < count
Fine (class ps) = (1 ≤ length ps) × (list_all is_ident ps ≡ true)
Fine (of m t) = Fine t

source_begins : (bs p rest : List ℕ) → IsSource bs p rest → BeginsWell bs
source_begins [] p rest h = (refl, refl, refl)
source_begins (d ∷ bs) p rest h =
    let g = h.stands.digit in
    (rw (digit_lacks 66 refl d g) refl, rw (digit_lacks 73 refl d g) refl, rw (digit_lacks 70 refl d g, digit_lacks 68 refl d g) refl)

letter_begins : (m : Modifier) (bs : List ℕ) → BeginsWell (letter m ∷ bs)
letter_begins pointer bs = (refl, refl, refl)
letter_begins lvalue bs = (refl, refl, refl)
letter_begins rvalue bs = (refl, refl, refl)
letter_begins const bs = (refl, refl, refl)

letter_is : (m : Modifier) (bs : List ℕ) → modifier_word m ++ bs ≡ letter m ∷ bs
letter_is pointer bs = refl
letter_is lvalue bs = refl
letter_is rvalue bs = refl
letter_is const bs = refl

reference_begins : (k : ℕ) (rest : List ℕ) → BeginsWell (format.reference k ++ rest)
reference_begins k rest = (refl, refl, refl)

path_begins : (ps : Path) (xs : List PlainType) (rest : List ℕ) → Fine (class ps) → BeginsWell (path_bytes ps xs ++ rest)
path_begins [] xs rest h = (refl, refl, refl)
path_begins (p ∷ []) xs rest h = source_begins (source_name p ++ rest) p rest (source_is p rest (both_true (is_ident p) true h.1).0)
path_begins (p ∷ q ∷ ps) xs rest h = (refl, refl, refl)

pub type_begins : (t : PlainType) (xs : List PlainType) (rest : List ℕ) → Fine t → BeginsWell (type_bytes t xs ++ rest)
type_begins (builtin k) xs rest h = begins_is (word_of (words builtins) k ++ rest) (word_begins k rest h)
type_begins (class ps) xs rest h = by (place (class ps) xs)
  where
    by : (o : Option ℕ) → BeginsWell (reference_or o (path_bytes ps xs) ++ rest)
    by None = path_begins ps xs rest h
    by (Some k) = reference_begins k rest
type_begins (of m t) xs rest h = by (place (of m t) xs)
  where
    by : (o : Option ℕ) → BeginsWell (reference_or o (modifier_word m ++ type_bytes t xs) ++ rest)
    by None = subst BeginsWell (sym (ap (λ z. z ++ rest) (letter_is m (type_bytes t xs)))) (letter_begins m (type_bytes t xs ++ rest))
    by (Some k) = reference_begins k rest

no_function : (m : Modifier) (bs : List ℕ) → NoFunction const bs → NoFunction m bs
no_function pointer bs h = tt
no_function lvalue bs h = tt
no_function rvalue bs h = tt
no_function const bs h = h

module _ (input : List ℕ) where
  all_suffix : (a b : Path) → list_all is_ident (a ++ b) ≡ true → list_all is_ident b ≡ true
  all_suffix [] b h = h
  all_suffix (p ∷ a) b h = all_suffix a b (both_true (is_ident p) (list_all is_ident (a ++ b)) h).1

  some_first : (mid : Path) (last : Ident) → (q : Ident) × (qs : Path) × (mid ++ last ∷ [] ≡ q ∷ qs)
  some_first [] last = (last, [], refl)
  some_first (m ∷ mid) last = (m, mid ++ last ∷ [], refl)

  three : (xs : List PlainType) (a : PlainType) (b : List PlainType) (c : PlainType) → ((xs ++ a ∷ []) ++ b) ++ c ∷ [] ≡ xs ++ a ∷ (b ++ c ∷ [])
  three xs a b c = append_assoc (xs ++ a ∷ []) b (c ∷ []) ∙ append_assoc xs (a ∷ []) (b ++ c ∷ [])

  -- a path of several parts that isn't in the list
  module _ (p q : Ident) (ps : Path) (xs : List PlainType) (rest : List ℕ) (i : list_all is_ident (p ∷ q ∷ ps) ≡ true) (l : length xs ≤ 2199) (c : Closed xs) (n : place (class (p ∷ q ∷ ps)) xs ≡ None) where
    abbrev whole : Path
    whole = p ∷ q ∷ ps

    abbrev spelled_as : List ℕ → Type 0
    spelled_as bs = Spelled input (class (p ∷ q ∷ ps)) bs rest xs (with_all (fronts (p ∷ q ∷ ps)) xs)

    none_known : AllNew (fronts (p ∷ q ∷ ps)) xs → spelled_as ((78 ∷ (source_names (p ∷ q ∷ ps) ++ codes "E")) ++ rest)
    none_known h =
        subst (λ z. spelled_as (78 ∷ z)) (sym (append_assoc (source_names (p ∷ q ∷ ps)) (codes "E") rest))
        (subst (λ z. Spelled input (class (p ∷ q ∷ ps)) (78 ∷ (source_names (p ∷ q ∷ ps) ++ 69 ∷ rest)) rest xs z)
        (three xs (class (p ∷ [])) (proper (fronts_behind (p ∷ []) (q ∷ ps))) (class (p ∷ q ∷ ps))
        ∙ ap (λ z. xs ++ class (p ∷ []) ∷ z) (sym (proper_last (p ∷ []) q ps)) ∙ sym (fronts_added [] (p ∷ q ∷ ps) xs h))
        (a_path (sources_are input (p ∷ q ∷ ps) (69 ∷ rest) i)))

    one_known : (k : ℕ) (fs : Path) (r : Ident) (rs : Path) → fs ++ r ∷ rs ≡ p ∷ q ∷ ps → place (class fs) xs ≡ Some k → AllNew (fronts_behind fs (r ∷ rs)) xs
        → spelled_as ((78 ∷ ((format.reference k ++ source_names (r ∷ rs)) ++ codes "E")) ++ rest)
    one_known k fs r rs e g h =
        let m = source_names (r ∷ rs) ++ 69 ∷ rest in
        let bytes : ((format.reference k ++ source_names (r ∷ rs)) ++ codes "E") ++ rest ≡ format.reference k ++ m =
        append_assoc (format.reference k ++ source_names (r ∷ rs)) (codes "E") rest ∙ append_assoc (format.reference k) (source_names (r ∷ rs)) (69 ∷ rest) in
        let list : (xs ++ proper (fronts_behind fs (r ∷ rs))) ++ class (fs ++ r ∷ rs) ∷ [] ≡ with_all (fronts (p ∷ q ∷ ps)) xs =
        append_assoc xs (proper (fronts_behind fs (r ∷ rs))) (class (fs ++ r ∷ rs) ∷ [])
        ∙ ap (λ z. xs ++ z) (sym (proper_last fs r rs)) ∙ sym (fronts_added fs (r ∷ rs) xs h)
        ∙ ap (with_all (fronts_behind fs (r ∷ rs))) (sym (all_old (fronts fs) xs (c (class fs) (rw g refl))))
        ∙ sym (with_both (fronts fs) (fronts_behind fs (r ∷ rs)) xs) ∙ ap (λ z. with_all z xs) (sym (fronts_split [] fs (r ∷ rs))) ∙ ap (λ z. with_all (fronts z) xs) e in
        subst (λ z. spelled_as (78 ∷ z)) (sym bytes)
        (subst (λ z. Spelled input (class (p ∷ q ∷ ps)) (78 ∷ (format.reference k ++ m)) rest xs z) list
        (a_path_behind k m r fs rs (ap class (sym e)) (reference_is input k m (omega (arith, l, slice_get_within xs k (class fs) (placed (class fs) xs k g)))) (placed (class fs) xs k g)
        (sources_are input (r ∷ rs) (69 ∷ rest) (all_suffix fs (r ∷ rs) (subst (λ z. list_all is_ident z ≡ true) (sym e) i)))))

    path_spelled : spelled_as (path_bytes (p ∷ q ∷ ps) xs ++ rest)
    path_spelled =
        let g = longest_is [] p (q ∷ ps) xs None tt in
        by g.0 g.1 g.2 (longest_behind [] (p ∷ q ∷ ps) xs None) g.3
      where
        by : (front : Path) (last : Ident) → front ++ last ∷ [] ≡ p ∷ q ∷ ps → (o : Option (ℕ × Path)) → Best xs front (last ∷ []) o → spelled_as ((78 ∷ (nested_from (p ∷ q ∷ ps) o ++ codes "E")) ++ rest)
        by front last e None h =
            none_known (subst (λ z. AllNew (fronts z) xs) e (subst (λ z. AllNew z xs) (sym (fronts_more [] front last)) (new_behind (fronts front) (class (front ++ last ∷ [])) xs h (ap (λ z. place (class z) xs) e ∙ n))))
        by front last e (Some x) h =
            let s = some_first h.1 last in
            let w : h.0 ++ (h.1 ++ last ∷ []) ≡ p ∷ q ∷ ps = sym (append_assoc h.0 h.1 (last ∷ [])) ∙ ap (λ z. z ++ last ∷ []) h.3 ∙ e in
            subst (λ z. spelled_as ((78 ∷ ((format.reference x.0 ++ source_names z) ++ codes "E")) ++ rest)) (sym (h.4 ∙ s.2))
            (one_known x.0 h.0 s.0 s.1 (ap (λ z. h.0 ++ z) (sym s.2) ∙ w) h.2
            (subst (λ z. AllNew (fronts_behind h.0 z) xs) s.2
            (subst (λ z. AllNew z xs) (sym (fronts_more h.0 h.1 last)) (new_behind (fronts_behind h.0 h.1) (class ((h.0 ++ h.1) ++ last ∷ [])) xs h.5 (ap (λ z. place (class z) xs) (append_assoc h.0 h.1 (last ∷ []) ∙ w) ∙ n)))))

  pub type_spelled : (t : PlainType) (xs : List PlainType) (rest : List ℕ) → Fine t → BeginsWell rest → length xs ≤ 2199 → Closed xs → Spelled input t (type_bytes t xs ++ rest) rest xs (with_all (mentioned t) xs)
  type_spelled (builtin k) xs rest h b l c = a_builtin (length (word_of (words builtins) k)) (λ i. word_from k i rest h) (drop-append_seam (word_of (words builtins) k) rest)
  type_spelled (class ps) xs rest h b l c = by ps h (place (class ps) xs) refl
    where
      by : (ps : Path) → Fine (class ps) → (o : Option ℕ) → place (class ps) xs ≡ o → Spelled input (class ps) (reference_or o (path_bytes ps xs) ++ rest) rest xs (with_all (fronts ps) xs)
      by ps h (Some k) e = subst (λ z. Spelled input (class ps) (format.reference k ++ rest) rest xs z) (sym (all_old (fronts ps) xs (c (class ps) (rw e refl))))
          (a_reference k (reference_is input k rest (omega (arith, l, slice_get_within xs k (class ps) (placed (class ps) xs k e)))) b.1 (placed (class ps) xs k e))
      by [] h None e = absurd (omega (arith, h.0))
      by (p ∷ []) h None e = subst (λ z. Spelled input (class (p ∷ [])) (source_name p ++ rest) rest xs z) (sym (with_new (class (p ∷ [])) xs e))
          (a_class (source_is p rest (both_true (is_ident p) true h.1).0) b.0 b.1)
      by (p ∷ q ∷ qs) h None e = path_spelled p q qs xs rest h.1 l c e
  type_spelled (of m t) xs rest h b l c = by (type_spelled t xs rest h b l c) (place (of m t) xs) refl
    where
      by : Spelled input t (type_bytes t xs ++ rest) rest xs (with_all (mentioned t) xs) → (o : Option ℕ) → place (of m t) xs ≡ o → Spelled input (of m t) (reference_or o (modifier_word m ++ type_bytes t xs) ++ rest) rest xs (with_all (mentioned t ++ of m t ∷ []) xs)
      by s (Some k) e = subst (λ z. Spelled input (of m t) (format.reference k ++ rest) rest xs z) (sym (all_old (mentioned (of m t)) xs (c (of m t) (rw e refl))))
          (a_reference k (reference_is input k rest (omega (arith, l, slice_get_within xs k (of m t) (placed (of m t) xs k e)))) b.1 (placed (of m t) xs k e))
      by s None e =
          subst (λ z. Spelled input (of m t) z rest xs (with_all (mentioned t ++ of m t ∷ []) xs)) (sym (ap (λ z. z ++ rest) (letter_is m (type_bytes t xs))))
          (subst (λ z. Spelled input (of m t) (letter m ∷ (type_bytes t xs ++ rest)) rest xs z)
          (sym (with_behind (mentioned t) (of m t) xs ∙ with_new (of m t) (with_all (mentioned t) xs) (still_new (of m t) (mentioned t) xs e (mentioned_less (weight (of m t)) t (omega arith)))))
          (a_modifier (no_function m (type_bytes t xs ++ rest) (type_begins t xs rest h).2) s))
