-- Copies of the table: where the trees of both lists and the counts are the same, the table is.
use Rattle.std.proofs.Common.{◌≡◌, ap, ◌∙◌, sym, subst, ℕ, List, length, map}
use Rattle.demangle_core.specs.Core.{Core}
use Rattle.std.proofs.lemmas.List.{length-map}
use Rattle.demangle_components.specs.View.{table_from, woven, Rise}

long : {A : Type 0} (tree : A → Core) (xs ys : List A) → map tree xs ≡ map tree ys → length xs ≡ length ys
long tree xs ys e = sym (length-map xs tree) ∙ ap length e ∙ length-map ys tree

module _ {A : Type 0} (tree : A → Core) (ns us ms vs : List A) (ks js : List ℕ) where
  pub copy_equal : map tree ms ≡ map tree ns → map tree vs ≡ map tree us → js ≡ ks → table_from tree ms vs js ≡ table_from tree ns us ks
  unfolding table_from
  copy_equal n u k = ap (λ l. woven 0 l (map tree vs) js) n ∙ ap (λ l. woven 0 (map tree ns) l js) u ∙ ap (woven 0 (map tree ns) (map tree us)) k

  pub copy_paired : map tree vs ≡ map tree us → js ≡ ks → length ks ≡ length us → length js ≡ length vs
  copy_paired u k paired = ap length k ∙ paired ∙ sym (long tree vs us u)

  pub copy_rising : map tree ms ≡ map tree ns → js ≡ ks → Rise 0 (length ns) ks → Rise 0 (length ms) js
  copy_rising n k rising = subst (λ m. Rise 0 m js) (sym (long tree ms ns n)) (subst (Rise 0 (length ns)) (sym k) rising)

pub ruleset copies = (copy_equal, copy_paired, copy_rising)
