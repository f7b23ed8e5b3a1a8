-- The row of a type (ABI section 5.1.5, <type>) in the parts that functions read.
use Rattle.std.specs.Prelude.{ℕ, zero, suc, Bool, List, [], ◌∷◌, codes, Result}
use Rattle.demangle_core.specs.Core.{Tag}
use Rattle.demangle_text.specs.Kind.{Kind, Deep}
use Rattle.demangle_text.specs.Spot.{Spot}
use Rattle.demangle_grammar.specs.Rule.{Row, Rule}
use Rattle.demangle_grammar.specs.Items.{◌·◌, r, made, type_component}
use Rattle.demangle_grammar.specs.Rows.{type_extension, type_qualified, type_class, type_substitution, type_function}
use Rattle.demangle_grammar.specs.Code.{at, Go, Here, Reply, Refused, Out, close, from_row, read_leaf, crun, cread}
use Rattle.demangle_grammar.specs.Parts.{alone, else_row, first_word}

-- ---- the marks before a type: P, R, O, C, G, Dp
abbrev pub type_marks_words : List (List ℕ × Tag)
type_marks_words =
    (codes "P", Tag.TypeNodePointerTo) ∷ (codes "R", Tag.TypeNodeLvalueRef) ∷ (codes "O", Tag.TypeNodeRvalueRef)
    ∷ (codes "C", Tag.TypeNodeComplex) ∷ (codes "G", Tag.TypeNodeImaginary)
    ∷ (codes "Dp", Tag.TypeNodePackExpansion) ∷ []

-- which of them stands at the front, as the tag of its node
unfoldable pub type_mark_at : Spot → Result (Tag × Spot) Kind
type_mark_at p = first_word type_marks_words p

-- the type behind the mark
abbrev pub type_from : Go → Bool → Here → Tag → Spot → Out
type_from go c s x p =
    from_row (go Row.type_handle c (at s p) []) (λ m y. crun go c (type_component x Rule.done) m (y ∷ []))

unfoldable pub type_marks_at : Go → Bool → Here → Reply
type_marks_at go c s = close (read_leaf (type_mark_at s.spot) (λ x p. type_from go c s x p))

-- ---- alternatives with a mark in them
unfoldable pub type_extension_at : Go → Bool → Here → Out
type_extension_at go c s = alone type_extension go c s

unfoldable pub type_qualified_at : Go → Bool → Here → Out
type_qualified_at go c s = alone type_qualified go c s

unfoldable pub type_substitution_at : Go → Bool → Here → Out
type_substitution_at go c s = alone type_substitution go c s

unfoldable pub type_param_at : Go → Bool → Here → Out
type_param_at go c s =
    alone (r Row.template_param · (λ k. Rule.trial Row.template_args k) · type_component Tag.TypeNodeTemplateParam)
    go c s

unfoldable pub type_template_at : Go → Bool → Here → Out
type_template_at go c s =
    alone
    (r Row.template_template_param_handle · (λ k. Rule.commit k) · r Row.template_args
    · type_component Tag.TypeNodeTemplateTemplate)
    go c s

-- ---- the last alternatives, each group with those behind it
-- parameters, templates with arguments, `decltype`, and the marks
unfoldable pub type_templates_at : Go → Bool → Here → Reply
type_templates_at go c s =
    else_row (type_param_at go c s) (λ u.
    else_row (type_template_at go c s) (λ u.
    else_row (alone (r Row.decltype · type_component Tag.TypeNodeDecltype) go c s) (λ u. type_marks_at go c s)))

-- arrays, vectors, pointers to members
unfoldable pub type_shapes_at : Go → Bool → Here → Reply
type_shapes_at go c s =
    else_row (alone (r Row.array_type · type_component Tag.TypeNodeArray) go c s) (λ u.
    else_row (alone (r Row.vector_type · type_component Tag.TypeNodeVector) go c s) (λ u.
    else_row (alone (r Row.pointer_to_member_type · type_component Tag.TypeNodePointerToMember) go c s) (λ u.
    type_templates_at go c s)))

-- classes and enumerations, references, functions
unfoldable pub type_names_at : Go → Bool → Here → Reply
type_names_at go c s =
    else_row (alone type_class go c s) (λ u.
    else_row (type_substitution_at go c s) (λ u.
    else_row (alone type_function go c s) (λ u. type_shapes_at go c s)))

-- all of them
unfoldable pub type_handle_at : Go → Bool → Here → Reply
type_handle_at go c s =
    else_row (alone (r Row.builtin_type · made Tag.TypeHandleBuiltin) go c s) (λ u.
    else_row (type_extension_at go c s) (λ u.
    else_row (type_qualified_at go c s) (λ u. type_names_at go c s)))

unfoldable pub type_handle_row : ℕ → Bool → Here → Reply
type_handle_row zero c s = Refused Deep
type_handle_row (suc f) c s = type_handle_at (cread f) c s
