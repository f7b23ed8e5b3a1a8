-- The row of whole mangled names is its parts.
use Rattle.std.specs.Prelude.{codes, pos}
use Rattle.std.proofs.Common.{◌≡◌, refl, ℕ, zero, suc, Bool, List, [], ◌∷◌, ◌++◌, Result, Ok, Err}
use Rattle.demangle_core.specs.Core.{Core, Tag, node, number, end, ◌⊕◌}
use Rattle.demangle_text.specs.Kind.{Kind}
use Rattle.demangle_text.specs.Number.{natural_from}
use Rattle.demangle_text.specs.Spot.{Spot}
use Rattle.demangle_text.specs.Word.{word_at}
use Rattle.demangle_grammar.specs.Rule.{Row}
use Rattle.demangle_grammar.specs.Items.{Item, ◌·◌, ◌//◌, r, w, t, num10, vec, opt, present, made, commit}
use Rattle.demangle_grammar.specs.Rows.{rule}
use Rattle.demangle_grammar.specs.Code.{joined, at, Go, Here, Out, Yes, close, committed, or_else, and_then, read_spot}
use Rattle.demangle_grammar.specs.Code.{read_leaf, cread}
use Rattle.demangle_grammar.specs.Parts.{alone, behind}
use Rattle.demangle_forms.specs.WordForms.{either, number_or_none}
use Rattle.demangle_forms.specs.MangledForms.{encoding_word_at, block_word_at, encoding_and_clones_at}
use Rattle.demangle_forms.specs.MangledForms.{number_behind, number_present}
use Rattle.demangle_forms.specs.MangledForms.{block_number_at, block_invoke_at, mangled_name_at, mangled_name_row}
use Rattle.demangle_forms.proofs.Alternatives.{row_behind, spot_behind}
use Rattle.demangle_forms.proofs.WordLaws.{spot_then, either_then}

-- ---- the number of a block
abbrev digits : Result (ℕ × Spot) Kind → Here → List Core → Out
digits z m acc =
    and_then (read_leaf z (λ v p. Yes (at m p) (number (pos v) end ∷ [])))
    (λ n b. Yes n (acc ++ node Tag.Present (joined b) end ∷ []))

abbrev block_made : Here → List Core → Out
block_made m b = Yes m (node Tag.MangledNameBlockInvoke (joined b) end ∷ [])

-- behind what stands before a number that is asked for
abbrev asked : (a b : Result Spot Kind) → Here → List Core → Out
asked a b m acc =
    and_then (or_else (read_spot a (λ p. Yes (at m p) acc)) (λ u. read_spot b (λ p. Yes (at m p) acc)))
    (λ n acc. committed (digits (natural_from 10 n.spot) n acc))

abbrev block_number : (a b : Result Spot Kind) → Here → List Core → Out
block_number a b m acc =
    or_else (asked a b m acc)
    (λ u. or_else (digits (natural_from 10 m.spot) m acc) (λ u. Yes m (acc ++ node Tag.Absent end end ∷ [])))

module _ (x : Core) (m : Here) where
  abbrev block_from : Core → Spot → Out
  block_from n q = Yes (at m q) (node Tag.MangledNameBlockInvoke (x ⊕ n) end ∷ [])

  asked_is : (p : Spot) (z : Result (ℕ × Spot) Kind) (g : Unit {0} → Out)
      → close (and_then (or_else (committed (digits z (at m p) (x ∷ []))) g) block_made)
      ≡ close (read_leaf (number_present z) block_from)
  asked_is p (Ok v) g = refl
  asked_is p (Err k) g = refl

  none_or_digits : (z : Result (ℕ × Spot) Kind)
      → close (and_then (or_else (digits z m (x ∷ []))
      (λ u. Yes m ((x ∷ []) ++ node Tag.Absent end end ∷ []))) block_made)
      ≡ close (read_leaf (Ok (number_or_none z m.spot)) block_from)
  none_or_digits (Ok v) = refl
  none_or_digits (Err k) = refl

  block_number_is : (a b : Result Spot Kind) → close (and_then (block_number a b m (x ∷ [])) block_made)
      ≡ close (read_leaf (number_behind (either a b) m.spot) block_from)
  block_number_is (Ok p) b = asked_is p (natural_from 10 p) _
  block_number_is (Err j) (Ok p) = asked_is p (natural_from 10 p) _
  block_number_is (Err j) (Err i) = none_or_digits (natural_from 10 m.spot)

-- ---- the alternatives
abbrev from_encoding : Item
from_encoding k = (r Row.encoding · vec (r Row.clone_suffix) · made Tag.MangledNameEncoding) k

abbrev from_block : Item
from_block k =
    (r Row.encoding · w "_block_invoke" · ((w "_" // w ".") · commit · present num10 // opt num10)
    · made Tag.MangledNameBlockInvoke) k

abbrev global_or_type : Item
global_or_type k =
    (w "_GLOBAL_" · commit · r Row.global_ctor_dtor · made Tag.MangledNameGlobalCtorDtor
    // t · made Tag.MangledNameTopLevelType) k

abbrev block_or_others : Item
block_or_others k = ((w "___Z" // w "____Z") · commit · from_block // global_or_type) k

module _ (go : Go) (c : Bool) where
  block_is : (m : Here) → close (alone from_block go c m) ≡ block_invoke_at go c m
  unfolding block_invoke_at block_number_at
  block_is m =
      row_behind (go Row.encoding c m []) _ _ (λ n x. spot_behind (word_at (codes "_block_invoke") n.spot) _ _
      (λ p. block_number_is x (at n p) (word_at (codes "_") p) (word_at (codes ".") p)))

  mangled_is : (s : Here)
      → close (alone ((w "_Z" // w "__Z") · commit · from_encoding // block_or_others) go c s) ≡ mangled_name_at go c s
  unfolding encoding_word_at block_word_at encoding_and_clones_at
  mangled_is s =
      either_then (word_at (codes "_Z") s.spot) (word_at (codes "__Z") s.spot) s (λ m b. behind from_encoding go c m b)
      (λ u. alone block_or_others go c s) (λ p. encoding_and_clones_at go c (at s p)) _ (λ p. refl)
      (either_then (word_at (codes "___Z") s.spot) (word_at (codes "____Z") s.spot) s
      (λ m b. behind from_block go c m b) (λ u. alone global_or_type go c s) (λ p. block_invoke_at go c (at s p)) _
      (λ p. block_is (at s p))
      (spot_then (word_at (codes "_GLOBAL_") s.spot)
      (λ p. alone (r Row.global_ctor_dtor · made Tag.MangledNameGlobalCtorDtor) go c (at s p))
      (λ u. alone (t · made Tag.MangledNameTopLevelType) go c s) _ _ (λ p. refl) refl))

pub mangled_name_row_is : (f : ℕ) (c : Bool) (s : Here)
    → cread f Row.mangled_name c s [] ≡ mangled_name_row f c s
unfolding cread rule mangled_name_row
mangled_name_row_is zero c s = refl
mangled_name_row_is (suc f) c s = mangled_is (cread f) c s
