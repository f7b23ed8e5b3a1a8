-- With which of its alternatives the next bytes leave a type, a name, or a name without its scope: those before can't
-- begin with them, and aren't tried where levels enough are left.
use Rattle.std.specs.Prelude.{ℕ, zero, suc, Bool, true, false, ◌&&◌, ◌||◌, not, List, drop}
use Rattle.demangle_core.specs.Core.{Tag}
use Rattle.demangle_text.specs.Kind.{Deep}
use Rattle.demangle_grammar.specs.Rule.{Class, Row}
use Rattle.demangle_grammar.specs.Items.{Item, ◌·◌, r, made, commit, next, not_next, these, template_component}
use Rattle.demangle_grammar.specs.Reading.{next_is, is_empty}
use Rattle.demangle_grammar.specs.Rows.{type_function}
use Rattle.demangle_grammar.specs.Code.{joined, Go, Here, Reply, Found, Refused, Out, Yes, No, close, cread}
use Rattle.demangle_grammar.specs.Parts.{alone, else_row}
use Rattle.demangle_forms.specs.TypeForms.{type_qualified_at, type_substitution_at, type_names_at, type_shapes_at}
use Rattle.demangle_forms.specs.TypeForms.{type_templates_at, type_marks_at, type_handle_at}
use Rattle.demangle_forms.specs.NameForms.{operator_at, unqualified_rest_at}
use Rattle.demangle_forms.specs.UnqualifiedForms.{local_alternative, source_alternative, unnamed_at}

-- a reference follows, and no name of `std`
abbrev pub refers : List ℕ → Bool
refers bs = next_is (these "S") bs && not (next_is (these "t") (drop 1 bs))

-- ---- types
-- from the first alternative on, from that of qualifiers, of names, of references (with names behind it), of functions,
-- of arrays, of parameters, or with marks alone
pub data TypeStart : Type 0 where
  all qualified names references functions shapes templates marks : TypeStart

-- whether the bytes leave these alternatives
abbrev pub leaves_type : TypeStart → List ℕ → Bool
leaves_type TypeStart.all bs = true
leaves_type TypeStart.qualified bs = next_is (these "rVK") bs
leaves_type TypeStart.names bs = next_is Class.digits bs || next_is (these "NZLCS") bs
leaves_type TypeStart.references bs = refers bs
leaves_type TypeStart.functions bs = next_is (these "F") bs
leaves_type TypeStart.shapes bs = next_is (these "AM") bs
leaves_type TypeStart.templates bs =
    next_is (these "T") bs && (next_is Class.digits (drop 1 bs) || next_is (these "_") (drop 1 bs))
leaves_type TypeStart.marks bs = is_empty bs || next_is (these "PROGEJIX_.") bs

-- an alternative that is found, and anything else for one that isn't, whatever its failure
abbrev pub found_or : Out → (Unit {0} → Reply) → Reply
found_or (Yes s acc) f = Found (joined acc) s
found_or (No h k) f = f tt

unfoldable pub qualified_types_at : Go → Bool → Here → Reply
qualified_types_at go c s = else_row (type_qualified_at go c s) (λ u. type_names_at go c s)

-- a reference where no arguments follow is no class's name, so it may be tried first
unfoldable pub referred_types_at : Go → Bool → Here → Reply
referred_types_at go c s = found_or (type_substitution_at go c s) (λ u. type_names_at go c s)

unfoldable pub function_types_at : Go → Bool → Here → Reply
function_types_at go c s = else_row (alone type_function go c s) (λ u. type_shapes_at go c s)

abbrev pub type_from : TypeStart → Go → Bool → Here → Reply
type_from TypeStart.all go c s = type_handle_at go c s
type_from TypeStart.qualified go c s = qualified_types_at go c s
type_from TypeStart.names go c s = type_names_at go c s
type_from TypeStart.references go c s = referred_types_at go c s
type_from TypeStart.functions go c s = function_types_at go c s
type_from TypeStart.shapes go c s = type_shapes_at go c s
type_from TypeStart.templates go c s = type_templates_at go c s
type_from TypeStart.marks go c s = type_marks_at go c s

-- ---- names without a scope
-- from operators on, from constructors, from names of the source, or with closures and unnamed types alone
pub data UnqualifiedStart : Type 0 where
  all constructors sources unnamed : UnqualifiedStart

abbrev pub leaves_unqualified : UnqualifiedStart → List ℕ → Bool
leaves_unqualified UnqualifiedStart.all bs = true
leaves_unqualified UnqualifiedStart.constructors bs = next_is (these "CD") bs
leaves_unqualified UnqualifiedStart.sources bs = next_is Class.digits bs || next_is (these "L") bs
leaves_unqualified UnqualifiedStart.unnamed bs = is_empty bs || next_is (these "USTGNZE_") bs

unfoldable pub unqualified_names_at : Go → Bool → Here → Reply
unqualified_names_at go c s = else_row (operator_at go c s) (λ u. unqualified_rest_at go c s)

unfoldable pub source_names_at : Go → Bool → Here → Reply
source_names_at go c s =
    else_row (alone local_alternative go c s) (λ u.
    else_row (alone source_alternative go c s) (λ u. unnamed_at go c s))

abbrev pub unqualified_from : UnqualifiedStart → Go → Bool → Here → Reply
unqualified_from UnqualifiedStart.all go c s = unqualified_names_at go c s
unqualified_from UnqualifiedStart.constructors go c s = unqualified_rest_at go c s
unqualified_from UnqualifiedStart.sources go c s = source_names_at go c s
unqualified_from UnqualifiedStart.unnamed go c s = unnamed_at go c s

-- ---- names
abbrev pub nested : Item
nested k = (r Row.nested_name · made Tag.NameNested) k

-- an unscoped name before arguments is a template's, and becomes a component
abbrev pub unscoped_template : Item
unscoped_template k =
    (r Row.unscoped_name · next "I" · template_component · commit · r Row.template_args
    · made Tag.NameUnscopedTemplate) k

abbrev pub unscoped : Item
unscoped k = (r Row.unscoped_name · not_next "I" · made Tag.NameUnscoped) k

abbrev pub template : Item
template k =
    (r Row.unscoped_template_name_handle · commit · r Row.template_args · made Tag.NameUnscopedTemplate) k

unfoldable pub local_names_at : Go → Bool → Here → Reply
local_names_at go c s = close (alone (r Row.local_name · made Tag.NameLocal) go c s)

unfoldable pub template_names_at : Go → Bool → Here → Reply
template_names_at go c s = else_row (alone template go c s) (λ u. local_names_at go c s)

unfoldable pub names_at : Go → Bool → Here → Reply
names_at go c s =
    else_row (alone nested go c s) (λ u. else_row (alone unscoped_template go c s) (λ u.
    else_row (alone unscoped go c s) (λ u. template_names_at go c s)))

unfoldable pub name_row : ℕ → Bool → Here → Reply
name_row zero c s = Refused Deep
name_row (suc f) c s = names_at (cread f) c s

-- from nested names on, from templates that are references, or with local names alone
pub data NameStart : Type 0 where
  all templates locals : NameStart

abbrev pub leaves_name : NameStart → List ℕ → Bool
leaves_name NameStart.all bs = true
leaves_name NameStart.templates bs = refers bs
leaves_name NameStart.locals bs = is_empty bs || next_is (these "ZTGKVE_.") bs

abbrev pub name_from : NameStart → Go → Bool → Here → Reply
name_from NameStart.all go c s = names_at go c s
name_from NameStart.templates go c s = template_names_at go c s
name_from NameStart.locals go c s = local_names_at go c s

-- ---- names of templates
unfoldable pub template_references_at : Go → Bool → Here → Reply
template_references_at go c s = close (alone (r Row.substitution) go c s)

unfoldable pub template_handles_at : Go → Bool → Here → Reply
template_handles_at go c s =
    else_row (alone (r Row.unscoped_name · template_component) go c s) (λ u. template_references_at go c s)

unfoldable pub template_handle_row : ℕ → Bool → Here → Reply
template_handle_row zero c s = Refused Deep
template_handle_row (suc f) c s = template_handles_at (cread f) c s

-- a reference alone, where one follows
abbrev pub template_handle_from : Bool → Go → Bool → Here → Reply
template_handle_from true go c s = template_references_at go c s
template_handle_from false go c s = template_handles_at go c s
