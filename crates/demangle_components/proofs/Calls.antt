-- The calls of the table over the words of its contracts.
use Rattle.std.proofs.Common.{◌≡◌, refl, ap, ◌∙◌, sym, subst, ℕ, suc, zero, ◌≤◌, ◌<◌, ◌+◌, ◌-◌, List, [], ◌∷◌, ◌++◌, length, take, get_or, map, min, arith}
use Rattle.std.proofs.lemmas.List.{map-append, length-map, length-append, length-take}
use Rattle.std.proofs.lemmas.Option.{slice_get-map}
use Rattle.std.specs.List.{take-map}
use Rattle.std.specs.Prelude.{slice_get, Option, Some, None, option_map, IfSome, MatchOption}
use Rattle.demangle_core.specs.Core.{Core, N, U}
use Rattle.demangle_core.specs.Table.{listed, added, size, sizes, cut, entry_at, empty_table, numbered}
use Rattle.demangle_components.specs.View.{table_from, woven, Rise, Climb}
use Rattle.demangle_components.proofs.Woven.{numbered_more, other_more, cut_woven, first_list, second_list, counted, rise_more, rise_push, rise_down, climb_all, climb_part}

got_is : {A : Type 0} (k : ℕ) (x : A) (ns : List A) → k < length ns → x ≡ get_or ns k x → slice_get ns k ≡ Some x
got_is k x [] h e = absurd (omega arith)
got_is zero x (y ∷ ns) h e = ap Some (sym e)
got_is (suc k) x (y ∷ ns) h e = got_is k x ns (omega arith) e

front_taken : {A : Type 0} (ms xs : List A) → take (length ms) (ms ++ xs) ≡ ms
front_taken [] xs = refl
front_taken (m ∷ ms) xs = ap (λ l. m ∷ l) (front_taken ms xs)

whole_taken : {A : Type 0} (n : ℕ) (xs : List A) → n ≡ length xs → take n xs ≡ xs
whole_taken zero [] h = refl
whole_taken zero (x ∷ xs) h = absurd (omega arith)
whole_taken (suc n) [] h = refl
whole_taken (suc n) (x ∷ xs) h = ap (λ l. x ∷ l) (whole_taken n xs (omega arith))

last_is : {A : Type 0} (ms : List A) (x : A) → slice_get (ms ++ x ∷ []) (length ms) ≡ Some x
last_is [] x = refl
last_is (m ∷ ms) x = last_is ms x

as_many : {A : Type 0} (tree : A → Core) (ns : List A) → length ns ≡ 0 + length (map tree ns)
as_many tree ns = let e : length (map tree ns) ≡ length ns = length-map ns tree in omega arith

module _ {A : Type 0} (tree : A → Core) (ns us : List A) (ks : List ℕ) where
  pub inserted : (x : A) → length ks ≡ length us → Rise 0 (length ns) ks → table_from tree (ns ++ x ∷ []) us ks ≡ added N (tree x) (table_from tree ns us ks)
  unfolding table_from added
  inserted x paired rising =
      ap (λ l. woven 0 l (map tree us) ks) (map-append tree ns (x ∷ []))
      ∙ numbered_more 0 (length ns) (map tree ns) (map tree us) ks (tree x) (as_many tree ns) rising

  pub other_inserted : (x : A) → length ks ≡ length us → Rise 0 (length ns) ks
      → table_from tree ns (us ++ x ∷ []) (ks ++ length ns ∷ []) ≡ added U (tree x) (table_from tree ns us ks)
  unfolding table_from added
  other_inserted x paired rising =
      ap (λ l. woven 0 (map tree ns) l (ks ++ length ns ∷ [])) (map-append tree us (x ∷ []))
      ∙ other_more 0 (length ns) (map tree ns) (map tree us) ks (tree x) (as_many tree ns) rising
      (paired ∙ sym (length-map us tree))

  pub cut_short : (a b : ℕ) → length ks ≡ length us → Rise 0 (length ns) ks
      → table_from tree (take a ns) (take b us) (map (min a) (take b ks)) ≡ cut (a, b) (table_from tree ns us ks)
  unfolding table_from cut
  cut_short a b paired rising =
      let whole : a ≡ 0 + a = omega arith in
      ap (λ l. woven 0 l (map tree (take b us)) (map (min a) (take b ks))) (sym (take-map tree a ns))
      ∙ ap (λ l. woven 0 (take a (map tree ns)) l (map (min a) (take b ks))) (sym (take-map tree b us))
      ∙ ap (λ n. woven 0 (take a (map tree ns)) (take b (map tree us)) (map (min n) (take b ks))) whole
      ∙ sym (cut_woven a b 0 (length ns) (map tree ns) (map tree us) ks (as_many tree ns) rising
      (paired ∙ sym (length-map us tree)))

  pub numbered_size : size N (table_from tree ns us ks) ≡ length ns
  unfolding size table_from
  numbered_size = counted N (woven 0 (map tree ns) (map tree us) ks) ∙ ap length (first_list 0 (map tree ns) (map tree us) ks) ∙ length-map ns tree

  pub others_size : length ks ≡ length us → Rise 0 (length ns) ks → size U (table_from tree ns us ks) ≡ length us
  unfolding size table_from
  others_size paired rising =
      counted U (woven 0 (map tree ns) (map tree us) ks)
      ∙ ap length (second_list 0 (map tree ns) (map tree us) ks (paired ∙ sym (length-map us tree)))
      ∙ length-map us tree

  pub both_sizes : length ks ≡ length us → Rise 0 (length ns) ks → sizes (table_from tree ns us ks) ≡ (length ns, length us)
  unfolding sizes size
  both_sizes paired rising = ap (λ n. (n, size U (table_from tree ns us ks))) numbered_size ∙ ap (λ n. (length ns, n)) (others_size paired rising)

  pub numbered_at : (k : ℕ) → entry_at N k (table_from tree ns us ks) ≡ slice_get (map tree ns) k
  unfolding entry_at table_from
  numbered_at k = ap (λ l. slice_get l k) (first_list 0 (map tree ns) (map tree us) ks)

  pub other_at : (k : ℕ) → length ks ≡ length us → Rise 0 (length ns) ks → entry_at U k (table_from tree ns us ks) ≡ slice_get (map tree us) k
  unfolding entry_at table_from
  other_at k paired rising = ap (λ l. slice_get l k) (second_list 0 (map tree ns) (map tree us) ks (paired ∙ sym (length-map us tree)))

  pub numbered_is : (k : ℕ) (x : A) → slice_get ns k ≡ Some x → entry_at N k (table_from tree ns us ks) ≡ Some (tree x)
  numbered_is k x e = numbered_at k ∙ slice_get-map tree ns k ∙ ap (option_map tree) e

  pub other_is : (k : ℕ) (x : A) → length ks ≡ length us → Rise 0 (length ns) ks → slice_get us k ≡ Some x → entry_at U k (table_from tree ns us ks) ≡ Some (tree x)
  other_is k x paired rising e = other_at k paired rising ∙ slice_get-map tree us k ∙ ap (option_map tree) e

  pub climbs : Rise 0 (length ns) ks → Climb 0 ks
  climbs rising = climb_all 0 (length ns) ks rising

  pub climbs_short : (b : ℕ) → Rise 0 (length ns) ks → Climb 0 (take b ks)
  climbs_short b rising = climb_part 0 (length ns) b ks rising

  pub rising_more : (x : A) → Rise 0 (length ns) ks → Rise 0 (length (ns ++ x ∷ [])) ks
  rising_more x rising = rise_more 0 (length ns) (length (ns ++ x ∷ [])) ks rising (omega (arith, length-append ns (x ∷ [])))

  pub paired_other : (x : A) → length ks ≡ length us → length (ks ++ length ns ∷ []) ≡ length (us ++ x ∷ [])
  paired_other x paired = omega (arith, paired, length-append us (x ∷ []), length-append ks (length ns ∷ []))

  pub rising_other : Rise 0 (length ns) ks → Rise 0 (length ns) (ks ++ length ns ∷ [])
  rising_other rising = rise_push 0 (length ns) ks rising

  pub paired_cut : (a b : ℕ) → length ks ≡ length us → length (map (min a) (take b ks)) ≡ length (take b us)
  paired_cut a b paired = length-map (take b ks) (min a) ∙ length-take b ks ∙ ap (min b) paired ∙ sym (length-take b us)

  pub rising_cut : (a b : ℕ) → Rise 0 (length ns) ks → Rise 0 (length (take a ns)) (map (min a) (take b ks))
  rising_cut a b rising = subst (λ n. Rise 0 n (map (min a) (take b ks))) (sym (length-take a ns)) (rise_down a b (length ns) ks rising)

-- ---- what the calls need of their steps
none_there : {A : Type 0} (tree : A → Core) (k : ℕ) (ns : List A) → length ns ≤ k → slice_get (map tree ns) k ≡ None
none_there tree k [] h = refl
none_there tree zero (x ∷ ns) h = absurd (omega arith)
none_there tree (suc k) (x ∷ ns) h = none_there tree k ns (omega arith)

one_there : {A : Type 0} (tree : A → Core) (k : ℕ) (x : A) (ns : List A) → slice_get ns k ≡ Some x → slice_get (map tree ns) k ≡ Some (tree x)
one_there tree k x ns e = slice_get-map tree ns k ∙ ap (option_map tree) e

got : {A : Type 0} (tree : A → Core) {R : Type 0} (now : R → A) (r : Option R) (k : ℕ) (ls ns : List A) (Q : R → Type 0) → ls ≡ ns
    → IfSome r (λ x. now x ≡ get_or ls k (now x)) → MatchOption r (length ls ≤ k) (λ x. (k < length ls) × Q x)
    → option_map (λ x. tree (now x)) r ≡ slice_get (map tree ns) k
got tree now None k ls ns Q e at there = sym (none_there tree k ns (subst (λ l. length l ≤ k) e there))
got tree now (Some x) k ls ns Q e at there = sym (one_there tree k (now x) ns (subst (λ l. slice_get l k ≡ Some (now x)) e (got_is k (now x) ls there.0 at)))

module _ {A : Type 0} (tree : A → Core) {R : Type 0} (now : R → A) (r : Option R) (k : ℕ) (ls ns us : List A) (ks : List ℕ) (Q : R → Type 0) where
  pub got_numbered : ls ≡ ns → IfSome r (λ x. now x ≡ get_or ls k (now x)) → MatchOption r (length ls ≤ k) (λ x. (k < length ls) × Q x)
      → option_map (λ x. tree (now x)) r ≡ entry_at N k (table_from tree ns us ks)
  got_numbered e at there = got tree now r k ls ns Q e at there ∙ sym (numbered_at tree ns us ks k)

  pub got_other : ls ≡ us → length ks ≡ length us → Rise 0 (length ns) ks → IfSome r (λ x. now x ≡ get_or ls k (now x)) → MatchOption r (length ls ≤ k) (λ x. (k < length ls) × Q x)
      → option_map (λ x. tree (now x)) r ≡ entry_at U k (table_from tree ns us ks)
  got_other e paired rising at there = got tree now r k ls us Q e at there ∙ sym (other_at tree ns us ks k paired rising)

pub other_there : {A : Type 0} (tree : A → Core) (ns us : List A) (ks : List ℕ) (k : ℕ) (x : A) → length ks ≡ length us → Rise 0 (length ns) ks → k < length us → x ≡ get_or us k x
    → entry_at U k (table_from tree ns us ks) ≡ Some (tree x)
other_there tree ns us ks k x paired rising h e = other_is tree ns us ks k x paired rising (got_is k x us h e)

module _ {A : Type 0} (tree : A → Core) (ns us ms : List A) (ks : List ℕ) (x : A) (paired : length ks ≡ length us) (rising : Rise 0 (length ns) ks) (e : ns ≡ ms ++ x ∷ []) where
  shorter_by_one : length ms ≡ length ns - 1
  shorter_by_one = let l : length ns ≡ length (ms ++ x ∷ []) = ap length e in omega (arith, length-append ms (x ∷ []))

  front_left : take (length ms) ns ≡ ms
  front_left = ap (take (length ms)) e ∙ front_taken ms (x ∷ [])

  pub popped_rising : Rise 0 (length ms) (map (min (length ms)) ks)
  popped_rising =
      let low : min (length ms) (length ns) ≡ length ms = omega (arith, shorter_by_one) in
      subst (λ n. Rise 0 n (map (min (length ms)) ks)) low
      (subst (λ l. Rise 0 (min (length ms) (length ns)) (map (min (length ms)) l)) (whole_taken (length ks) ks refl) (rise_down (length ms) (length ks) (length ns) ks rising))

  pub popped_paired : length (map (min (length ms)) ks) ≡ length us
  popped_paired = length-map ks (min (length ms)) ∙ paired

  pub popped_table : table_from tree ms us (map (min (length ms)) ks) ≡ cut (size N (table_from tree ns us ks) - 1, size U (table_from tree ns us ks)) (table_from tree ns us ks)
  popped_table =
      let t = table_from tree ns us ks in
      let n : length ms ≡ size N t - 1 = shorter_by_one ∙ ap (λ m. m - 1) (sym (numbered_size tree ns us ks)) in
      let u : length us ≡ size U t = sym (others_size tree ns us ks paired rising) in
      ap (λ l. table_from tree l us (map (min (length ms)) ks)) (sym front_left)
      ∙ ap (λ l. table_from tree (take (length ms) ns) l (map (min (length ms)) ks)) (sym (whole_taken (length us) us refl))
      ∙ ap (λ l. table_from tree (take (length ms) ns) (take (length us) us) (map (min (length ms)) l)) (sym (whole_taken (length us) ks (sym paired)))
      ∙ cut_short tree ns us ks (length ms) (length us) paired rising
      ∙ ap (λ m. cut (m, length us) t) n ∙ ap (λ m. cut (size N t - 1, m) t) u

  pub popped_last : entry_at N (size N (table_from tree ns us ks) - 1) (table_from tree ns us ks) ≡ Some (tree x)
  popped_last =
      let t = table_from tree ns us ks in
      let n : size N t - 1 ≡ length ms = ap (λ m. m - 1) (numbered_size tree ns us ks) ∙ sym shorter_by_one in
      ap (λ k. entry_at N k t) n ∙ numbered_is tree ns us ks (length ms) x (ap (λ l. slice_get l (length ms)) e ∙ last_is ms x)

pub numbered_alone : {A : Type 0} (tree : A → Core) (ns : List A) → table_from tree ns [] [] ≡ numbered (map tree ns)
unfolding table_from numbered
numbered_alone tree ns = refl

pub listed_numbered : {A : Type 0} (tree : A → Core) (ns us : List A) (ks : List ℕ) → listed N (table_from tree ns us ks) ≡ map tree ns
unfolding table_from
listed_numbered tree ns us ks = first_list 0 (map tree ns) (map tree us) ks

pub listed_others : {A : Type 0} (tree : A → Core) (ns us : List A) (ks : List ℕ) → length ks ≡ length us → listed U (table_from tree ns us ks) ≡ map tree us
unfolding table_from
listed_others tree ns us ks paired = second_list 0 (map tree ns) (map tree us) ks (paired ∙ sym (length-map us tree))

pub nothing : {A : Type 0} (tree : A → Core) → table_from tree [] [] [] ≡ empty_table
unfolding table_from empty_table
nothing tree = refl

pub ruleset calls = (nothing, numbered_alone, listed_numbered, listed_others, other_there, climbs, climbs_short, inserted, other_inserted, cut_short, numbered_size, others_size, both_sizes, numbered_at, other_at, rising_more, paired_other, rising_other, paired_cut, rising_cut)
