-- The rows of prefixes, nested names and unqualified names (ABI section 5.1.2) in the parts that functions read.
use Rattle.std.specs.Prelude.{ℕ, zero, suc, Bool, true, false, ◌&&◌, ◌||◌, List, [], ◌∷◌, codes, if◌then◌else◌}
use Rattle.std.specs.Prelude.{Result, Ok, Err}
use Rattle.demangle_core.specs.Core.{Core, Tag}
use Rattle.demangle_text.specs.Kind.{Kind, Unread, End, Text, Deep}
use Rattle.demangle_text.specs.Spot.{Spot}
use Rattle.demangle_text.specs.Word.{word_at}
use Rattle.demangle_grammar.specs.Rule.{Row, Rule, Cond, Make, Mark, Leaf}
use Rattle.demangle_grammar.specs.Items.{Item, ◌·◌, ◌//◌, r, w, made, make, plus, commit, need, next, not_next, these}
use Rattle.demangle_grammar.specs.Items.{opt, prefix_component}
use Rattle.demangle_grammar.specs.Reading.{next_is, is_one_of, is_numbered, is_member, is_empty}
use Rattle.demangle_grammar.specs.Tree.{data_member_of}
use Rattle.demangle_grammar.specs.Rows.{name_first, prefix_param, prefix_decltype, replaced}
use Rattle.demangle_grammar.specs.Code.{joined, at, Go, Here, Reply, Found, Refused, Out, Yes, close, and_then}
use Rattle.demangle_grammar.specs.Code.{read_spot, taken_word, cread}
use Rattle.demangle_grammar.specs.Parts.{alone, behind, else_row}

-- ---- turns of a prefix: what one begins with tells which of the alternatives it is
pub data Turn : Type 0 where
  substitution parameter decltype template name none : Turn

-- of the tests for S, T, D, for I behind a numbered prefix, and for the first byte of a name
abbrev pub turn_of : (s t d i n : Bool) → Turn
turn_of true t d i n = Turn.substitution
turn_of false true d i n = Turn.parameter
turn_of false false true i n = Turn.decltype
turn_of false false false true n = Turn.template
turn_of false false false false true = Turn.name
turn_of false false false false false = Turn.none

-- whether a byte is the first of a name in a prefix: opaque, so that no goal carries the list of these bytes
unfoldable pub is_name_first : ℕ → Bool
is_name_first b = is_one_of (codes name_first) b

abbrev pub names_next : List ℕ → Bool
names_next [] = false
names_next (b ∷ bs) = is_name_first b

-- a later turn, behind the prefix p
unfoldable pub turn_at : Core → List ℕ → Turn
turn_at p bs =
    turn_of (next_is (these "S") bs) (next_is (these "T") bs) (next_is (these "D") bs)
    (next_is (these "I") bs && is_numbered p) (names_next bs)

abbrev pub turn_member : Item
turn_member k =
    (next "M" · commit · need Cond.member · make Make.data_member · made Tag.SubstitutablePrefix · plus Mark.by_end
    · w "M") k

-- a name behind a prefix, which may be that of a data member
unfoldable pub turn_name_at : Go → Bool → Here → List Core → Out
turn_name_at go c s acc =
    behind (r Row.unqualified_name · (turn_member // not_next "M" · prefix_component Tag.PrefixNested)) go c s acc

-- `decltype` in the prefix's place, or the name of a destructor behind it
unfoldable pub turn_decltype_at : Go → Bool → Here → List Core → Reply
turn_decltype_at go c s acc =
    else_row (behind (replaced · prefix_decltype) go c s acc) (λ u.
    close (behind (r Row.unqualified_name · prefix_component Tag.PrefixNested) go c s acc))

abbrev pub turn_by : Turn → Go → Bool → Here → List Core → Reply
turn_by Turn.substitution go c s acc = close (behind (replaced · r Row.substitution) go c s acc)
turn_by Turn.parameter go c s acc = close (behind (replaced · prefix_param) go c s acc)
turn_by Turn.decltype go c s acc = turn_decltype_at go c s acc
turn_by Turn.template go c s acc =
    close (behind (r Row.template_args · prefix_component Tag.PrefixTemplate) go c s acc)
turn_by Turn.name go c s acc = close (turn_name_at go c s acc)
turn_by Turn.none go c s acc = Found (joined acc) s

unfoldable pub prefix_turn_row : ℕ → Bool → Here → List Core → Reply
prefix_turn_row zero c s acc = Refused Deep
prefix_turn_row (suc f) c s acc = turn_by (turn_at (joined acc) s.spot.left) (cread f) c s acc

-- ---- the first turn
-- no prefix begins with template arguments
unfoldable pub first_turn_at : List ℕ → Turn
first_turn_at bs =
    turn_of (next_is (these "S") bs) (next_is (these "T") bs) (next_is (these "D") bs) false (names_next bs)

-- why no prefix begins here
unfoldable pub no_prefix_kind : List ℕ → Kind
no_prefix_kind bs = if next_is (these "E") bs || is_empty bs then Unread End else Unread Text

-- `decltype`, or the name of a destructor
unfoldable pub first_decltype_at : Go → Bool → Here → Reply
first_decltype_at go c s =
    else_row (alone prefix_decltype go c s) (λ u.
    close (alone (r Row.unqualified_name · prefix_component Tag.PrefixUnqualified) go c s))

-- a name; an `M` behind it, which makes it that of a data member, is read and not kept
unfoldable pub first_name_at : Go → Bool → Here → Reply
first_name_at go c s =
    close (and_then (alone (r Row.unqualified_name · prefix_component Tag.PrefixUnqualified) go c s) (λ m b.
    Yes (at m (taken_word (codes "M") m.spot).1) b))

abbrev pub first_turn_by : Turn → Go → Bool → Here → Reply
first_turn_by Turn.substitution go c s = close (alone (r Row.substitution) go c s)
first_turn_by Turn.parameter go c s = close (alone prefix_param go c s)
first_turn_by Turn.decltype go c s = first_decltype_at go c s
first_turn_by Turn.template go c s = Refused (no_prefix_kind s.spot.left)
first_turn_by Turn.name go c s = first_name_at go c s
first_turn_by Turn.none go c s = Refused (no_prefix_kind s.spot.left)

unfoldable pub first_turn_row : ℕ → Bool → Here → Reply
first_turn_row zero c s = Refused Deep
first_turn_row (suc f) c s = first_turn_by (first_turn_at s.spot.left) (cread f) c s

-- ---- the name of a data member behind a prefix
abbrev pub member_at : Core → Result Core Kind
member_at x = if is_member x then Ok (data_member_of x) else Err (Unread Text)

-- ---- nested names
-- `H`, or qualifiers
unfoldable pub nested_qualifiers_at : Go → Bool → Here → Out
nested_qualifiers_at go c s =
    alone (next "H" · r Row.explicit_object_parameter // r Row.cv_qualifiers · opt (r Row.ref_qualifier)) go c s

abbrev pub nested_rest : Go → Bool → Here → List Core → Out
nested_rest go c s acc = behind (r Row.prefix_handle · w "E" · Rule.leaf Leaf.take_over) go c s acc

unfoldable pub nested_name_row : ℕ → Bool → Here → Reply
nested_name_row zero c s = Refused Deep
nested_name_row (suc f) c s =
    close (read_spot (word_at (codes "N") s.spot) (λ p.
    and_then (nested_qualifiers_at (cread f) c (at s p)) (λ m b. nested_rest (cread f) c m b)))

-- ---- names without a scope
-- behind `on`, where it stands there
unfoldable pub behind_on_at : Spot → Spot
behind_on_at p = (taken_word (codes "on") p).1

abbrev pub operator_name : Item
operator_name k = (r Row.operator_name · commit · r Row.abi_tags · made Tag.UnqualifiedNameOperator) k

abbrev pub unqualified_rest : Item
unqualified_rest k =
    (r Row.ctor_dtor_name · commit · r Row.abi_tags · made Tag.UnqualifiedNameCtorDtor
    // w "L" · commit · r Row.source_name · opt (r Row.discriminator) · r Row.abi_tags
    · made Tag.UnqualifiedNameLocalSourceName
    // r Row.source_name · commit · r Row.abi_tags · made Tag.UnqualifiedNameSource
    // r Row.closure_type_name · commit · r Row.abi_tags · made Tag.UnqualifiedNameClosureType
    // r Row.unnamed_type_name · r Row.abi_tags · made Tag.UnqualifiedNameUnnamedType) k

abbrev pub operator_at : Go → Bool → Here → Out
operator_at go c s = alone operator_name go c (at s (behind_on_at s.spot))

-- the alternatives behind operators
unfoldable pub unqualified_rest_at : Go → Bool → Here → Reply
unqualified_rest_at go c s = close (alone unqualified_rest go c s)

unfoldable pub unqualified_name_row : ℕ → Bool → Here → Reply
unqualified_name_row zero c s = Refused Deep
unqualified_name_row (suc f) c s = else_row (operator_at (cread f) c s) (λ u. unqualified_rest_at (cread f) c s)
