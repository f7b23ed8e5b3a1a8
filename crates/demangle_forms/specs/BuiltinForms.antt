-- The row of a builtin type with a width, in parts.
use Rattle.std.specs.Prelude.{ℕ, zero, suc, Bool, List, [], ◌∷◌, codes}
use Rattle.demangle_core.specs.Core.{Tag}
use Rattle.demangle_text.specs.Kind.{Kind, Unread, End, Text, Deep}
use Rattle.demangle_text.specs.Word.{word_at}
use Rattle.demangle_grammar.specs.Rule.{Class, Cond, Mark}
use Rattle.demangle_grammar.specs.Items.{Item, ◌·◌, ◌//◌, w, e, commit, fail, made, more, need, num10, plus}
use Rattle.demangle_grammar.specs.Code.{at, Go, Here, Reply, Refused, close, cread}
use Rattle.demangle_grammar.specs.Parts.{alone, else_spot}
use Rattle.demangle_forms.specs.WordForms.{behind_word}

-- a number, and what closes it
abbrev pub float : Item
float k =
    (more 1 · (need (Cond.next Class.digits) · commit · num10
    · (w "x" · made Tag.ParametricBuiltinTypeFloatNx // w "_" · made Tag.ParametricBuiltinTypeFloatN) // fail)) k

-- a width in bits, of a type that has the first tag where it is a number, and the second where it is an expression
abbrev pub bits_behind : Tag → Tag → Item
bits_behind x y k =
    (more 1 · (need (Cond.next Class.digits) · commit · num10 · w "_" · made x
    // need (Cond.not_next Class.digits) · e · w "_"
    · made Tag.SubstitutableExpression · plus Mark.unnumbered' · made y)) k

unfoldable pub float_at : Go → Bool → Here → Reply
float_at go c s = close (alone float go c s)

unfoldable pub bits_at : Tag → Tag → Go → Bool → Here → Reply
bits_at x y go c s = close (alone (bits_behind x y) go c s)

-- why none of several letters is there
abbrev pub no_letter : List ℕ → Kind
no_letter [] = Unread End
no_letter (b ∷ bs) = Unread Text

unfoldable pub parametric_at : Go → Bool → Here → Reply
parametric_at go c s =
    else_spot (word_at (codes "F") s.spot) (λ p. float_at go c (at s p)) (λ u.
    else_spot (word_at (codes "B") s.spot)
    (λ p. bits_at Tag.ParametricBuiltinTypeSignedBitInt Tag.ParametricBuiltinTypeSignedBitIntExpression go c (at s p))
    (λ u. else_spot (word_at (codes "U") s.spot)
    (λ p. bits_at Tag.ParametricBuiltinTypeUnsignedBitInt Tag.ParametricBuiltinTypeUnsignedBitIntExpression
    go c (at s p))
    (λ u. Refused (no_letter s.spot.left))))

unfoldable pub parametric_row : ℕ → Bool → Here → Reply
parametric_row zero c s = Refused Deep
parametric_row (suc f) c s =
    behind_word (word_at (codes "D") s.spot) (λ p. parametric_at (cread f) c (at s p))
