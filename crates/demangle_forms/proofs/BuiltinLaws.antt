-- The row of a builtin type with a width is its parts.
use Rattle.std.specs.Prelude.{codes}
use Rattle.std.proofs.Common.{◌≡◌, refl, ℕ, zero, suc, Bool, List, [], ◌∷◌}
use Rattle.demangle_core.specs.Core.{Tag}
use Rattle.demangle_text.specs.Word.{word_at}
use Rattle.demangle_grammar.specs.Rule.{Row, Eat}
use Rattle.demangle_grammar.specs.Items.{◌·◌, ◌//◌, w, eat, these, commit}
use Rattle.demangle_grammar.specs.Rows.{rule, bits}
use Rattle.demangle_grammar.specs.Code.{at, Go, Here, Refused, close, eat_at, cread}
use Rattle.demangle_grammar.specs.Parts.{alone}
use Rattle.demangle_forms.specs.BuiltinForms.{float, float_at, bits_at, no_letter}
use Rattle.demangle_forms.specs.BuiltinForms.{parametric_at, parametric_row}
use Rattle.demangle_forms.proofs.Alternatives.{marked_is}
use Rattle.demangle_forms.proofs.WordLaws.{word_before}

module _ (go : Go) (c : Bool) (s : Here) where
  no_letter_is : close (alone (eat (Eat.byte (these ""))) go c s) ≡ Refused (no_letter s.spot.left)
  unfolding eat_at
  no_letter_is = by s.spot.left
    where
      by : (bs : List ℕ)
          → close (alone (eat (Eat.byte (these ""))) go c (at s (record { index = s.spot.index; left = bs })))
          ≡ Refused (no_letter bs)
      by [] = refl
      by (b ∷ bs) = refl

  parametric_is : close (alone (w "F" · commit · float
      // bits "B" Tag.ParametricBuiltinTypeSignedBitInt Tag.ParametricBuiltinTypeSignedBitIntExpression
      // bits "U" Tag.ParametricBuiltinTypeUnsignedBitInt Tag.ParametricBuiltinTypeUnsignedBitIntExpression
      // eat (Eat.byte (these ""))) go c s) ≡ parametric_at go c s
  unfolding parametric_at float_at bits_at
  parametric_is =
      marked_is (word_at (codes "F") s.spot) _ _ _ (marked_is (word_at (codes "B") s.spot) _ _ _
      (marked_is (word_at (codes "U") s.spot) _ _ _ no_letter_is))

pub parametric_row_is : (f : ℕ) (c : Bool) (s : Here)
    → cread f Row.parametric_builtin_type c s [] ≡ parametric_row f c s
unfolding cread rule parametric_row
parametric_row_is zero c s = refl
parametric_row_is (suc f) c s = word_before (word_at (codes "D") s.spot) _ _ (λ p. parametric_is (cread f) c (at s p))
