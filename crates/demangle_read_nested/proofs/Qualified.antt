-- What stands before the prefix of a nested name is a word, or two nodes.
use Rattle.std.proofs.Common.{◌≡◌, refl, ap, sym, subst, ℕ, zero, suc, Bool, true, false, List, [], ◌∷◌, Result, Ok, Err}
use Rattle.demangle_core.specs.Core.{Core, Tag, node, end, chosen}
use Rattle.demangle_text.specs.Kind.{Kind, ends}
use Rattle.demangle_text.specs.Spot.{Spot}
use Rattle.demangle_grammar.specs.Rule.{Row}
use Rattle.demangle_grammar.specs.Rows.{rule}
use Rattle.demangle_grammar.specs.Code.{at, close, Here, Reply, Found, Refused, Out, Yes, No, or_else, from_row}
use Rattle.demangle_grammar.specs.Code.{optional_at, read_leaf, cread}
use Rattle.demangle_vocab.specs.Qualifiers.{explicit_object_words}
use Rattle.demangle_vocab.specs.WordTable.{table_from}
use Rattle.demangle_read_nested.specs.Shapes.{is_node, is_word}

abbrev first_of : List Core → Core → Core
first_of [] d = d
first_of (x ∷ xs) d = x

abbrev tree_in : Reply → Core → Core
tree_in (Found t m) d = t
tree_in (Refused k) d = d

abbrev parts_in : Out → Core → Core
parts_in (Yes m b) d = first_of b d
parts_in (No h k) d = d

pub qualifiers_node : (f : ℕ) (c : Bool) (s m : Here) (t : Core) → cread f Row.cv_qualifiers c s [] ≡ Found t m
    → is_node t ≡ true
unfolding cread rule
qualifiers_node zero c s m t h = absurd (cc)
qualifiers_node (suc f) c s m t h = subst (λ x. is_node (tree_in x t) ≡ true) h refl

pub object_word : (f : ℕ) (c : Bool) (s m : Here) (t : Core) → cread f Row.explicit_object_parameter c s [] ≡ Found t m
    → is_word t ≡ true
unfolding cread rule
object_word zero c s m t h = absurd (cc)
object_word (suc f) c s m t h = by (table_from explicit_object_words s.spot) h
  where
    by : (a : Result (ℕ × Spot) Kind) → close (read_leaf a (λ k p. Yes (at s p) (chosen 4 k end ∷ []))) ≡ Found t m
        → is_word t ≡ true
    by (Ok x) e = subst (λ y. is_word (tree_in y t) ≡ true) e refl
    by (Err k) e = absurd (cc)

pub optional_node : (f : ℕ) (c : Bool) (r : Row) (s m : Here) (t : Core) → optional_at (cread f) c r s ≡ Yes m (t ∷ [])
    → is_node t ≡ true
unfolding optional_at
optional_node f c r s m t h = by (cread f r c s []) h
  where
    ended : (z : Bool) (k : Kind) → or_else (No z k) (λ u. Yes s (node Tag.Absent end end ∷ [])) ≡ Yes m (t ∷ [])
        → is_node t ≡ true
    ended true k e = absurd (cc)
    ended false k e = subst (λ x. is_node (parts_in x t) ≡ true) e refl

    by : (a : Reply)
        → or_else (from_row a (λ q x. Yes q (node Tag.Present x end ∷ []))) (λ u. Yes s (node Tag.Absent end end ∷ []))
        ≡ Yes m (t ∷ [])
        → is_node t ≡ true
    by (Found x q) e = subst (λ y. is_node (parts_in y t) ≡ true) e refl
    by (Refused k) e = ended (ends k) k e

pub ruleset qualified = (qualifiers_node, object_word, optional_node)
