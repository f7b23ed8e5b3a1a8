-- The row of a template argument (ABI section 5.1.2, <template-arg>) in the parts that functions read.
use Rattle.std.specs.Prelude.{ℕ, zero, suc, Bool, List, [], ◌∷◌, codes, Result, if◌then◌else◌}
use Rattle.demangle_core.specs.Core.{Core, Tag, node, end}
use Rattle.demangle_text.specs.Kind.{Kind, Deep}
use Rattle.demangle_text.specs.Spot.{Spot}
use Rattle.demangle_text.specs.Word.{word_at}
use Rattle.demangle_grammar.specs.Rule.{Row, Class}
use Rattle.demangle_grammar.specs.Items.{◌·◌, r, w, t, e, made, commit}
use Rattle.demangle_grammar.specs.Reading.{next_is}
use Rattle.demangle_grammar.specs.Code.{joined, at, Go, Here, Reply, Refused, Out, Yes, close, and_then, read_spot}
use Rattle.demangle_grammar.specs.Code.{all_at, cread}
use Rattle.demangle_grammar.specs.Parts.{alone, else_row}
use Rattle.demangle_forms.specs.WordForms.{either}

-- the word before a pack: J, or I
unfoldable pub pack_mark_at : Spot → Result Spot Kind
pack_mark_at p = either (word_at (codes "J") p) (word_at (codes "I") p)

-- what stands in a pack: where `E` is next, nothing is tried
unfoldable pub pack_list_at : Go → Bool → Here → Out
pack_list_at go c s =
    if next_is (Class.these (codes "E")) s.spot.left then Yes s (node Tag.Several end end ∷ [])
    else all_at go c Row.template_arg s

abbrev pub pack_closed : Here → List Core → Out
pack_closed m b =
    read_spot (word_at (codes "E") m.spot) (λ q. Yes (at m q) (node Tag.TemplateArgArgPack (joined b) end ∷ []))

unfoldable pub pack_at : Go → Bool → Here → Reply
pack_at go c s =
    close (read_spot (pack_mark_at s.spot) (λ p. and_then (pack_list_at go c (at s p)) (λ m b. pack_closed m b)))

unfoldable pub template_arg_at : Go → Bool → Here → Reply
template_arg_at go c s =
    else_row (alone (w "X" · commit · e · w "E" · made Tag.TemplateArgExpression) go c s) (λ u.
    else_row (alone (r Row.expr_primary · made Tag.TemplateArgSimpleExpression) go c s) (λ u.
    else_row (alone (t · made Tag.TemplateArgTypeArg) go c s) (λ u. pack_at go c s)))

unfoldable pub template_arg_row : ℕ → Bool → Here → Reply
template_arg_row zero c s = Refused Deep
template_arg_row (suc f) c s = template_arg_at (cread f) c s
