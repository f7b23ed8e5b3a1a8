-- The row of a template argument is its parts.
use Rattle.std.specs.Prelude.{codes, not, if◌then◌else◌}
use Rattle.std.proofs.Common.{◌≡◌, refl, ap, subst, ◌∙◌, ℕ, zero, suc, Bool, true, false, List, [], ◌∷◌}
use Rattle.std.proofs.Common.{Result, Ok, Err}
use Rattle.std.proofs.Math.Path.{fun_ext}
use Rattle.demangle_core.specs.Core.{Core, Tag, node, end}
use Rattle.demangle_core.specs.Table.{Table, sizes, cut}
use Rattle.demangle_text.specs.Kind.{Kind, Unread, Text}
use Rattle.demangle_text.specs.Spot.{Spot}
use Rattle.demangle_text.specs.Word.{word_at}
use Rattle.demangle_grammar.specs.Rule.{Row, Class, Given}
use Rattle.demangle_grammar.specs.Items.{◌·◌, ◌//◌, r, w, t, e, made, commit, next, not_next, give, vec}
use Rattle.demangle_grammar.specs.Reading.{next_is}
use Rattle.demangle_grammar.specs.Rows.{rule}
use Rattle.demangle_grammar.specs.Code.{at, Go, Here, here, Out, Yes, No, close, or_else, and_then, read_spot}
use Rattle.demangle_grammar.specs.Code.{all_at, cread}
use Rattle.demangle_grammar.specs.Parts.{alone}
use Rattle.demangle_grammar.proofs.CodeParts.{and_yes}
use Rattle.demangle_forms.specs.WordForms.{either}
use Rattle.demangle_forms.specs.ArgForms.{pack_mark_at, pack_list_at, pack_closed, pack_at, template_arg_at}
use Rattle.demangle_forms.specs.ArgForms.{template_arg_row}
use Rattle.demangle_forms.proofs.Alternatives.{or_last}
use Rattle.demangle_forms.proofs.Lasting.{all_next}

pub either_word : (a b : Result Spot Kind) (s : Here) (f : Here → List Core → Out)
    → and_then (or_else (read_spot a (λ p. Yes (at s p) [])) (λ u. read_spot b (λ p. Yes (at s p) []))) f
    ≡ read_spot (either a b) (λ p. f (at s p) [])
either_word (Ok p) b s f = refl
either_word (Err k) (Ok p) s f = refl
either_word (Err k) (Err j) s f = refl

list_or_none : (z : Bool) (s : Here) (x : List Core) (o : Out)
    → or_else (if z then Yes s x else No false (Unread Text))
    (λ u. if not z then and_then o (λ m b. Yes m b) else No false (Unread Text))
    ≡ (if z then Yes s x else o)
list_or_none true s x o = refl
list_or_none false s x o = and_yes o

module _ (go : Go) (c : Bool) (s : Here) where
  abbrev pack_row : Out
  pack_row =
      alone
      ((w "J" // w "I") · (next "E" · give Given.empty // not_next "E" · vec (r Row.template_arg)) · w "E"
      · made Tag.TemplateArgArgPack)
      go c s

  pack_is : close pack_row ≡ pack_at go c s
  unfolding pack_at pack_mark_at pack_list_at
  pack_is =
      ap close (either_word (word_at (codes "J") s.spot) (word_at (codes "I") s.spot) s _)
      ∙ ap (λ f. close (read_spot (either (word_at (codes "J") s.spot) (word_at (codes "I") s.spot)) f))
      (fun_ext (λ p. ap (λ o. and_then o (λ m b. pack_closed m b))
      (list_or_none (next_is (Class.these (codes "E")) p.left) (at s p) (node Tag.Several end end ∷ [])
      (all_at go c Row.template_arg (at s p)))))

  arg_is : close (alone (w "X" · commit · e · w "E" · made Tag.TemplateArgExpression
      // r Row.expr_primary · made Tag.TemplateArgSimpleExpression // t · made Tag.TemplateArgTypeArg
      // (w "J" // w "I") · (next "E" · give Given.empty // not_next "E" · vec (r Row.template_arg)) · w "E"
      · made Tag.TemplateArgArgPack) go c s)
      ≡ template_arg_at go c s
  unfolding template_arg_at
  arg_is =
      or_last (alone (w "X" · commit · e · w "E" · made Tag.TemplateArgExpression) go c s) _ _
      (or_last (alone (r Row.expr_primary · made Tag.TemplateArgSimpleExpression) go c s) _ _
      (or_last (alone (t · made Tag.TemplateArgTypeArg) go c s) _ _ pack_is))

pub template_arg_row_is : (f : ℕ) (c : Bool) (s : Here) → cread f Row.template_arg c s [] ≡ template_arg_row f c s
unfolding cread rule template_arg_row
template_arg_row_is zero c s = refl
template_arg_row_is (suc f) c s = arg_is (cread f) c s

-- what stands in a pack is given back by a cut
pub pack_list_next : (f : ℕ) (c : Bool) (p q : Spot) (x y z : Table) (b : List Core)
    → pack_list_at (cread f) c (here p y) ≡ Yes (here q z) b → cut (sizes x) y ≡ x → cut (sizes x) z ≡ x
unfolding pack_list_at
pack_list_next f c p q x y z b h k = by (next_is (Class.these (codes "E")) p.left) h
  where
    table_in : Table → Out → Table
    table_in d (Yes m b) = m.table
    table_in d (No h k) = d

    by : (n : Bool)
        → (if n then Yes (here p y) (node Tag.Several end end ∷ [])
        else all_at (cread f) c Row.template_arg (here p y)) ≡ Yes (here q z) b
        → cut (sizes x) z ≡ x
    by true e = subst (λ t. cut (sizes x) t ≡ x) (ap (table_in y) e) k
    by false e = all_next f Row.template_arg c p q x y z b e k
