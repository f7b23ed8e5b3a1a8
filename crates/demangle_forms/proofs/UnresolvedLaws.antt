-- The rows of unresolved names are their parts.
use Rattle.std.specs.Prelude.{codes}
use Rattle.std.proofs.Common.{◌≡◌, refl, ℕ, zero, suc, Bool, []}
use Rattle.demangle_core.specs.Core.{Tag}
use Rattle.demangle_text.specs.Word.{word_at}
use Rattle.demangle_grammar.specs.Rule.{Row, Given}
use Rattle.demangle_grammar.specs.Items.{◌·◌, ◌//◌, r, w, made, commit, give}
use Rattle.demangle_grammar.specs.Rows.{rule}
use Rattle.demangle_grammar.specs.Code.{at, Go, Here, Out, close, crun, cread}
use Rattle.demangle_grammar.specs.Parts.{alone}
use Rattle.demangle_forms.specs.UnresolvedForms.{scopes_and_name, global_name_at, type_scopes_at, type_name_at}
use Rattle.demangle_forms.specs.UnresolvedForms.{scopes_name_at, scoped_name_at, unresolved_name_at}
use Rattle.demangle_forms.specs.UnresolvedForms.{unresolved_name_row}
use Rattle.demangle_forms.proofs.Alternatives.{or_last, marked_is}
use Rattle.demangle_forms.proofs.WordLaws.{word_before}

module _ (go : Go) (c : Bool) where
  abbrev scoped : Here → Out
  scoped s =
      alone (w "N" · commit · r Row.unresolved_type_handle · scopes_and_name · made Tag.UnresolvedNameNested1
      // r Row.unresolved_type_handle · commit · give Given.empty · r Row.base_unresolved_name
      · made Tag.UnresolvedNameNested1
      // scopes_and_name · made Tag.UnresolvedNameNested2) go c s

  scoped_is : (s : Here) → close (scoped s) ≡ scoped_name_at go c s
  unfolding scoped_name_at type_scopes_at type_name_at scopes_name_at
  scoped_is s =
      marked_is (word_at (codes "N") s.spot) (λ p. type_scopes_at go c (at s p)) _ _
      (or_last (type_name_at go c s) (λ u. scopes_name_at go c s) _ refl)

  unresolved_is : (s : Here) → close (crun go c (rule Row.unresolved_name) s []) ≡ unresolved_name_at go c s
  unfolding rule unresolved_name_at global_name_at
  unresolved_is s =
      marked_is (word_at (codes "gs") s.spot) (λ p. global_name_at go c (at s p)) _ _
      (or_last (alone (r Row.base_unresolved_name · made Tag.UnresolvedNameName) go c s) _ _
      (word_before (word_at (codes "sr") s.spot) (λ p. scoped (at s p)) (λ p. scoped_name_at go c (at s p))
      (λ p. scoped_is (at s p))))

pub unresolved_name_row_is : (f : ℕ) (c : Bool) (s : Here) → cread f Row.unresolved_name c s []
    ≡ unresolved_name_row f c s
unfolding cread unresolved_name_row
unresolved_name_row_is zero c s = refl
unresolved_name_row_is (suc f) c s = unresolved_is (cread f) c s
