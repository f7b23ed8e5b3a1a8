-- The row of a type is its parts.
use Rattle.std.proofs.Common.{◌≡◌, refl, ℕ, zero, suc, Bool, []}
use Rattle.demangle_core.specs.Core.{Tag}
use Rattle.demangle_grammar.specs.Rule.{Row}
use Rattle.demangle_grammar.specs.Items.{◌·◌, ◌//◌, r, made, type_component}
use Rattle.demangle_grammar.specs.Rows.{rule, type_extension, type_qualified, type_substitution, type_class}
use Rattle.demangle_grammar.specs.Rows.{type_function, type_shapes, type_marks}
use Rattle.demangle_grammar.specs.Code.{Go, Here, Out, close, or_else, cread}
use Rattle.demangle_grammar.specs.Parts.{alone}
use Rattle.demangle_forms.specs.TypeForms.{type_marks_words, type_mark_at, type_from, type_marks_at}
use Rattle.demangle_forms.specs.TypeForms.{type_extension_at, type_qualified_at, type_substitution_at, type_param_at}
use Rattle.demangle_forms.specs.TypeForms.{type_template_at, type_templates_at, type_shapes_at, type_names_at}
use Rattle.demangle_forms.specs.TypeForms.{type_handle_at, type_handle_row}
use Rattle.demangle_forms.proofs.Alternatives.{words_are, or_last, or_then}

module _ (go : Go) (c : Bool) (s : Here) where
  marks_are : close (alone type_marks go c s) ≡ type_marks_at go c s
  unfolding type_marks_at type_mark_at
  marks_are = words_are (λ x p. type_from go c s x p) type_marks_words s.spot

  abbrev param_at : Out
  param_at = type_param_at go c s

  abbrev template_at : Out
  template_at = type_template_at go c s

  abbrev decltype_at : Out
  decltype_at = alone (r Row.decltype · type_component Tag.TypeNodeDecltype) go c s

  abbrev array_at : Out
  array_at = alone (r Row.array_type · type_component Tag.TypeNodeArray) go c s

  abbrev vector_at : Out
  vector_at = alone (r Row.vector_type · type_component Tag.TypeNodeVector) go c s

  abbrev member_at : Out
  member_at = alone (r Row.pointer_to_member_type · type_component Tag.TypeNodePointerToMember) go c s

  shapes_are : close (or_else (alone type_shapes go c s) (λ u. alone type_marks go c s)) ≡ type_shapes_at go c s
  unfolding type_shapes_at type_templates_at type_param_at type_template_at
  shapes_are =
      or_then array_at _ _ _ (or_then vector_at _ _ _ (or_then member_at _ _ _ (or_then param_at _ _ _
      (or_then template_at _ _ _ (or_last decltype_at _ _ marks_are)))))

  names_are : close (or_else (alone type_class go c s) (λ u. or_else (type_substitution_at go c s) (λ u.
      or_else (alone type_function go c s) (λ u. or_else (alone type_shapes go c s) (λ u. alone type_marks go c s)))))
      ≡ type_names_at go c s
  unfolding type_names_at
  names_are =
      or_last (alone type_class go c s) _ _ (or_last (type_substitution_at go c s) _ _
      (or_last (alone type_function go c s) _ _ shapes_are))

  handle_is : close (alone (r Row.builtin_type · made Tag.TypeHandleBuiltin // (type_extension // (type_qualified
      // (type_class // (type_substitution // (type_function // (type_shapes // type_marks))))))) go c s)
      ≡ type_handle_at go c s
  unfolding type_handle_at type_extension_at type_qualified_at type_substitution_at
  handle_is =
      or_last (alone (r Row.builtin_type · made Tag.TypeHandleBuiltin) go c s) _ _
      (or_last (type_extension_at go c s) _ _ (or_last (type_qualified_at go c s) _ _ names_are))

pub type_handle_row_is : (f : ℕ) (c : Bool) (s : Here) → cread f Row.type_handle c s [] ≡ type_handle_row f c s
unfolding cread rule type_handle_row
type_handle_row_is zero c s = refl
type_handle_row_is (suc f) c s = handle_is (cread f) c s
