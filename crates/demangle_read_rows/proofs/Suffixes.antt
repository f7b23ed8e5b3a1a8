-- The row of a clone's suffix is its parts.
use Rattle.std.proofs.Common.{◌≡◌, refl, ap, sym, ℕ, zero, suc, Bool, List, [], ◌∷◌, codes, Result, Ok, Err}
use Rattle.demangle_core.specs.Core.{Core, Tag, node, end}
use Rattle.demangle_text.specs.Kind.{Kind}
use Rattle.demangle_text.specs.Spot.{Spot}
use Rattle.demangle_text.specs.Word.{word_at}
use Rattle.demangle_grammar.specs.Rule.{Row}
use Rattle.demangle_grammar.specs.Rows.{rule}
use Rattle.demangle_grammar.specs.Code.{Here, Out, Yes, No, Reply, Found, Refused, at, all_of, and_then, close, cread, from_row}
use Rattle.demangle_grammar.specs.Code.{joined, read_spot}
use Rattle.demangle_read_rows.specs.Lists.{number_turn, numbers_at, suffix_at}

numbers_then : (o : Out) (f : Here → List Core → Out)
    → and_then (and_then o (λ m b. Yes m (node Tag.Several (joined b) end ∷ []))) f
    ≡ and_then o (λ m b. f m (node Tag.Several (joined b) end ∷ []))
numbers_then (Yes m b) f = refl
numbers_then (No h k) f = refl

module _ (f : ℕ) (c : Bool) (s : Here) where
  abbrev row_out : Here → Core → Out
  row_out m t =
      and_then (all_of number_turn m [])
      (λ n b. Yes n (node Tag.CloneSuffix (joined (t ∷ node Tag.Several (joined b) end ∷ [])) end ∷ []))

  abbrev parts_out : Here → Core → Out
  parts_out m t = and_then (numbers_at [] m) (λ n b. Yes n (node Tag.CloneSuffix (joined (t ∷ b)) end ∷ []))

  same_out : (a : Reply) → close (from_row a row_out) ≡ close (from_row a parts_out)
  unfolding numbers_at
  same_out (Found t m) =
      ap close (sym (numbers_then (all_of number_turn m []) (λ n b. Yes n (node Tag.CloneSuffix (joined (t ∷ b)) end ∷ []))))
  same_out (Refused k) = refl

  same_row : (w : Result Spot Kind)
      → close (read_spot w (λ p. from_row (cread f Row.clone_type_identifier c (at s p) []) row_out))
      ≡ close (read_spot w (λ p. from_row (cread f Row.clone_type_identifier c (at s p) []) parts_out))
  same_row (Ok p) = same_out (cread f Row.clone_type_identifier c (at s p) [])
  same_row (Err k) = refl

pub suffix_is : (f : ℕ) (c : Bool) (s : Here) → cread f Row.clone_suffix c s [] ≡ suffix_at f c s
unfolding cread rule suffix_at
suffix_is zero c s = refl
suffix_is (suc f) c s = same_row f c s (word_at (codes ".") s.spot)
