-- Equality of the table.
use Rattle.std.proofs.Common.{◌≡◌, ◌∙◌, ap, sym, ℕ, Bool, List, length, map, ◌&&◌}
use Rattle.std.proofs.lemmas.List.{length-map}
use Rattle.std.specs.Cmp.Lexicographic.{pointwise}
use Rattle.std.specs.Cmp.Derive.Mapped.{pointwise-map}
use Rattle.demangle_core.specs.Core.{Core, same}
use Rattle.demangle_core.specs.Table.{same_tables}
use Rattle.demangle_components.specs.View.{table_from}
use Rattle.demangle_components.proofs.Woven.{first_list, second_list}

module _ {A : Type 0} (tree : A → Core) (eq : A → A → Bool) (compares : (a b : A) → eq a b ≡ same (tree a) (tree b)) where
  by_trees : (xs ys : List A) → pointwise eq xs ys ≡ pointwise same (map tree xs) (map tree ys)
  by_trees xs ys = ap (λ f. pointwise f xs ys) (λ i. λ a b. compares a b i) ∙ sym (pointwise-map tree same xs ys)

  pub tables_equal : (ns us ms vs : List A) (ks js : List ℕ) → length ks ≡ length us → length js ≡ length vs
      → pointwise eq ns ms && pointwise eq us vs ≡ same_tables (table_from tree ns us ks) (table_from tree ms vs js)
  unfolding same_tables table_from
  tables_equal ns us ms vs ks js one other =
      let first_one = first_list 0 (map tree ns) (map tree us) ks in
      let first_other = first_list 0 (map tree ms) (map tree vs) js in
      let second_one = second_list 0 (map tree ns) (map tree us) ks (one ∙ sym (length-map us tree)) in
      let second_other = second_list 0 (map tree ms) (map tree vs) js (other ∙ sym (length-map vs tree)) in
      let firsts = by_trees ns ms in
      let seconds = by_trees us vs in
      (λ i. firsts i && seconds i)
      ∙ (λ i. pointwise same (sym first_one i) (sym first_other i) && pointwise same (sym second_one i) (sym second_other i))
