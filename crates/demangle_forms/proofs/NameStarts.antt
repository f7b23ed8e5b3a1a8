-- The alternatives of a name before those with which the next bytes leave it are passed over.
use Rattle.std.specs.Prelude.{◌≤◌, codes}
use Rattle.std.proofs.Common.{◌≡◌, refl, sym, ◌∙◌, arith, ℕ, zero, suc, Bool, true, false, []}
use Rattle.demangle_core.specs.Core.{Tag}
use Rattle.demangle_grammar.specs.Rule.{Row}
use Rattle.demangle_grammar.specs.Items.{◌·◌, ◌//◌, r, made, template_component}
use Rattle.demangle_grammar.specs.Rows.{rule}
use Rattle.demangle_grammar.specs.First.{takes_in, first_in, idle_in}
use Rattle.demangle_grammar.specs.Code.{Go, Here, close, cread}
use Rattle.demangle_grammar.specs.Parts.{alone}
use Rattle.demangle_forms.specs.Starts.{nested, unscoped_template, unscoped, template, local_names_at, refers}
use Rattle.demangle_forms.specs.Starts.{template_names_at, names_at, name_row, NameStart, leaves_name, name_from}
use Rattle.demangle_forms.specs.Starts.{template_references_at, template_handles_at, template_handle_row}
use Rattle.demangle_forms.specs.Starts.{template_handle_from}
use Rattle.demangle_forms.proofs.Alternatives.{or_last}
use Rattle.demangle_forms.proofs.Missed.{IsMissed, apart_missed, row_passed, passed_on}
use Rattle.demangle_forms.proofs.TypeStarts.{reference_next, no_unscoped}

-- ---- the row in these parts
module _ (go : Go) (c : Bool) (s : Here) where
  names_are : close (alone (nested // (unscoped_template // (unscoped // (template
      // r Row.local_name · made Tag.NameLocal)))) go c s) ≡ names_at go c s
  unfolding names_at template_names_at local_names_at
  names_are =
      or_last (alone nested go c s) _ _ (or_last (alone unscoped_template go c s) _ _
      (or_last (alone unscoped go c s) _ _ (or_last (alone template go c s) _ _ refl)))

  handles_are : close (alone (r Row.unscoped_name · template_component // r Row.substitution) go c s)
      ≡ template_handles_at go c s
  unfolding template_handles_at template_references_at
  handles_are = or_last (alone (r Row.unscoped_name · template_component) go c s) _ _ refl

  to_templates : IsMissed (go Row.nested_name c s []) → IsMissed (go Row.unscoped_name c s [])
      → names_at go c s ≡ template_names_at go c s
  unfolding names_at
  to_templates n u =
      passed_on _ _ (row_passed (go Row.nested_name c s []) _ n)
      ∙ passed_on _ _ (row_passed (go Row.unscoped_name c s []) _ u)
      ∙ passed_on _ _ (row_passed (go Row.unscoped_name c s []) _ u)

  to_locals : IsMissed (go Row.unscoped_template_name_handle c s [])
      → template_names_at go c s ≡ local_names_at go c s
  unfolding template_names_at
  to_locals t = passed_on _ _ (row_passed (go Row.unscoped_template_name_handle c s []) _ t)

  to_references : IsMissed (go Row.unscoped_name c s []) → template_handles_at go c s ≡ template_references_at go c s
  unfolding template_handles_at
  to_references u = passed_on _ _ (row_passed (go Row.unscoped_name c s []) _ u)

pub name_row_is : (f : ℕ) (c : Bool) (s : Here) → cread f Row.name c s [] ≡ name_row f c s
unfolding cread rule name_row
name_row_is zero c s = refl
name_row_is (suc f) c s = names_are (cread f) c s

pub template_handle_row_is : (f : ℕ) (c : Bool) (s : Here)
    → cread f Row.unscoped_template_name_handle c s [] ≡ template_handle_row f c s
unfolding cread rule template_handle_row
template_handle_row_is zero c s = refl
template_handle_row_is (suc f) c s = handles_are (cread f) c s

-- ---- where the next bytes leave these alternatives, the name is what they answer
pub name_starts : (x : NameStart) (f : ℕ) (c : Bool) (s : Here) → 5 ≤ f → leaves_name x s.spot.left ≡ true
    → names_at (cread f) c s ≡ name_from x (cread f) c s
unfolding rule takes_in first_in idle_in
name_starts NameStart.all f c s l e = refl
name_starts NameStart.templates zero c s l e = absurd (omega (arith, l))
name_starts NameStart.templates (suc f) c s l e =
    to_templates (cread (suc f)) c s
    (apart_missed Row.nested_name 5 (codes "S") (suc f) c s refl l (reference_next s.spot.left e))
    (no_unscoped f c s (omega (arith, l)) e)
name_starts NameStart.locals f c s l e =
    let xs = codes "ZTGKVE_." in
    to_templates (cread f) c s (apart_missed Row.nested_name 5 xs f c s refl l e)
    (apart_missed Row.unscoped_name 5 xs f c s refl l e)
    ∙ to_locals (cread f) c s (apart_missed Row.unscoped_template_name_handle 5 xs f c s refl l e)

pub handle_starts : (x : Bool) (f : ℕ) (c : Bool) (s : Here) → 4 ≤ f → x ≡ refers s.spot.left
    → template_handles_at (cread f) c s ≡ template_handle_from x (cread f) c s
handle_starts false f c s l e = refl
handle_starts true zero c s l e = absurd (omega (arith, l))
handle_starts true (suc f) c s l e = to_references (cread (suc f)) c s (no_unscoped f c s (omega (arith, l)) (sym e))
