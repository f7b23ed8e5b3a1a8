-- What is looked up in a name or a type: its leaf name, its template arguments, and whether it is a constructor, a
-- destructor or a conversion. For trees of any kind X, one line a node says what the node has, where that of its parts
-- is known; behind these lines stand the look-ups of a tree with its table.
use Rattle.std.specs.Prelude.{ℕ, zero, suc, ◌+◌, Bool, true, false, List, [], ◌∷◌, Option, Some, None, is_some}
use Rattle.demangle_core.specs.Core.{Tag, Core, Which, N, U, end, node, place, number, flag, chosen, ref, mark}
use Rattle.demangle_core.specs.Table.{Table, entry_at, size}

-- Where a look-up comes to in one tree.
pub data Next (X : Type 0) : Type 0 where
  -- to the answer
  answer : X → Next X
  -- to an end without an answer
  nothing : Next X
  -- to a component, whose answer is the answer
  at : Which → ℕ → Next X
  -- the same where the component stands in the place of the reference: to its answer
  through : Option X → Next X

abbrev pub answer_of : {X : Type 0} → Next X → Option X
answer_of (answer x) = Some x
answer_of (through o) = o
answer_of _ = None

abbrev pub refers : {X : Type 0} → Next X → Bool
refers (at w k) = true
refers _ = false

-- The first where it comes to an answer or a component, else the second. A component ends the choice even where it
-- turns out to have no answer: what is tried first is an unqualified name, and none of these is a reference.
abbrev pub else_next : {X : Type 0} → Next X → Next X → Next X
else_next nothing b = b
else_next a b = a

abbrev pub first_step : {X : Type 0} → List (Next X) → Next X
first_step [] = nothing
first_step (s ∷ ss) = s

-- ---- the leaf name
-- Of a word x: a well-known component, a word of table 2, is its own leaf name, but `std`, the first of them, has none.
abbrev pub leaf_word : {X : Type 0} → (table word : ℕ) → X → Next X
leaf_word (suc (suc zero)) (suc word) x = answer x
leaf_word _ _ x = nothing

-- Of a node x, where `steps` are those of its parts: the node itself, what one part has, or what the name has and else
-- the prefix.
abbrev pub leaf_node : {X : Type 0} → Tag → X → (steps : List (Next X)) → Next X
leaf_node Tag.SourceName x steps = answer x
leaf_node Tag.ClosureTypeName x steps = answer x
leaf_node Tag.UnnamedTypeName x steps = answer x
leaf_node Tag.BackReference x (part ∷ others) = part
leaf_node Tag.NonSubstitution x (part ∷ others) = part
leaf_node Tag.Present x (part ∷ others) = part
leaf_node Tag.WellKnown x (part ∷ others) = part
leaf_node Tag.DataMemberPrefix x (part ∷ others) = part
leaf_node Tag.UnqualifiedNameSource x (part ∷ others) = part
leaf_node Tag.UnqualifiedNameLocalSourceName x (part ∷ others) = part
leaf_node Tag.UnqualifiedNameClosureType x (part ∷ others) = part
leaf_node Tag.UnqualifiedNameUnnamedType x (part ∷ others) = part
leaf_node Tag.UnscopedNameUnqualified x (part ∷ others) = part
leaf_node Tag.UnscopedNameStd x (part ∷ others) = part
leaf_node Tag.UnscopedTemplateName x (part ∷ others) = part
leaf_node Tag.NestedNameTemplateExplicitObject x (prefix ∷ others) = prefix
leaf_node Tag.NameNested x (part ∷ others) = part
leaf_node Tag.NameUnscoped x (part ∷ others) = part
leaf_node Tag.NameUnscopedTemplate x (template ∷ others) = template
leaf_node Tag.NameLocal x (part ∷ others) = part
leaf_node Tag.PrefixUnqualified x (part ∷ others) = part
leaf_node Tag.PrefixTemplate x (prefix ∷ others) = prefix
leaf_node Tag.ClassEnumTypeNamed x (part ∷ others) = part
leaf_node Tag.ClassEnumTypeElaboratedStruct x (part ∷ others) = part
leaf_node Tag.ClassEnumTypeElaboratedUnion x (part ∷ others) = part
leaf_node Tag.ClassEnumTypeElaboratedEnum x (part ∷ others) = part
leaf_node Tag.TypeNodeClassEnum x (part ∷ others) = part
leaf_node Tag.SubstitutableUnscopedTemplateName x (part ∷ others) = part
leaf_node Tag.SubstitutableTypeNode x (part ∷ others) = part
leaf_node Tag.SubstitutablePrefix x (part ∷ others) = part
leaf_node Tag.NestedNameUnqualified x (qualifiers ∷ reference ∷ prefix ∷ name ∷ others) = else_next name prefix
leaf_node Tag.NestedNameTemplate x (qualifiers ∷ reference ∷ prefix ∷ others) = prefix
leaf_node Tag.NestedNameUnqualifiedExplicitObject x (prefix ∷ name ∷ others) = else_next name prefix
leaf_node Tag.LocalNameRelative x (encoding ∷ name ∷ others) = name
leaf_node Tag.LocalNameDefault x (encoding ∷ index ∷ name ∷ others) = name
leaf_node Tag.PrefixNested x (prefix ∷ name ∷ others) = else_next name prefix
leaf_node Tag.PrefixDataMember x (prefix ∷ member ∷ others) = member
leaf_node _ x steps = nothing

-- ---- template arguments
abbrev pub args_node : {X : Type 0} → Tag → X → (steps : List (Next X)) → Next X
args_node Tag.TemplateArgs x steps = answer x
args_node Tag.BackReference x (part ∷ others) = part
args_node Tag.NonSubstitution x (part ∷ others) = part
args_node Tag.Present x (part ∷ others) = part
args_node Tag.NameNested x (part ∷ others) = part
args_node Tag.NameLocal x (part ∷ others) = part
args_node Tag.NameUnscopedTemplate x (template ∷ args ∷ others) = args
args_node Tag.NestedNameTemplate x (qualifiers ∷ reference ∷ prefix ∷ others) = prefix
args_node Tag.NestedNameTemplateExplicitObject x (prefix ∷ others) = prefix
args_node Tag.LocalNameRelative x (encoding ∷ name ∷ others) = name
args_node Tag.LocalNameDefault x (encoding ∷ index ∷ name ∷ others) = name
args_node Tag.PrefixTemplate x (prefix ∷ args ∷ others) = args
args_node Tag.TypeNodeTemplateTemplate x (template ∷ args ∷ others) = args
args_node Tag.TypeNodeVendorExtension x (name ∷ args ∷ others) = args
args_node Tag.TypeNodePointerTo x (type ∷ others) = type
args_node Tag.TypeNodeLvalueRef x (type ∷ others) = type
args_node Tag.TypeNodeRvalueRef x (type ∷ others) = type
args_node _ x steps = nothing

-- Arguments are looked up for a prefix or for a type.
pub data Sort : Type 0 where
  as_prefix : Sort
  as_type : Sort

-- Of a component, where `part` is what its one part has: for a prefix it must be a prefix, for a type a type.
abbrev pub args_component : {X : Type 0} → Sort → Tag → (part : Next X) → Next X
args_component as_prefix Tag.SubstitutablePrefix part = part
args_component as_type Tag.SubstitutableTypeNode part = part
args_component _ _ part = nothing

-- ---- a constructor, a destructor or a conversion: an answer where it is one
-- Of a nested name its prefix decides, and the name behind the prefix is left out.
abbrev pub special_node : {X : Type 0} → Tag → X → (steps : List (Next X)) → Next X
special_node Tag.UnqualifiedNameCtorDtor x steps = answer x
special_node Tag.OperatorNameConversion x steps = answer x
special_node Tag.BackReference x (part ∷ others) = part
special_node Tag.NonSubstitution x (part ∷ others) = part
special_node Tag.Present x (part ∷ others) = part
special_node Tag.UnqualifiedNameOperator x (operator ∷ others) = operator
special_node Tag.NameNested x (part ∷ others) = part
special_node Tag.NameUnscoped x (part ∷ others) = part
special_node Tag.UnscopedNameUnqualified x (part ∷ others) = part
special_node Tag.UnscopedNameStd x (part ∷ others) = part
special_node Tag.PrefixUnqualified x (part ∷ others) = part
special_node Tag.PrefixNested x (prefix ∷ name ∷ others) = name
special_node Tag.PrefixTemplate x (prefix ∷ others) = prefix
special_node Tag.NestedNameUnqualified x (qualifiers ∷ reference ∷ prefix ∷ others) = prefix
special_node Tag.NestedNameTemplate x (qualifiers ∷ reference ∷ prefix ∷ others) = prefix
special_node Tag.NestedNameUnqualifiedExplicitObject x (prefix ∷ others) = prefix
special_node Tag.NestedNameTemplateExplicitObject x (prefix ∷ others) = prefix
special_node Tag.SubstitutablePrefix x (part ∷ others) = part
special_node _ x steps = nothing

-- no word has what is looked up
abbrev pub no_word : {X : Type 0} → (table word : ℕ) → X → Next X
no_word table word x = nothing

-- ---- in a tree with its table
-- The steps of the trees of a row: of a node by `of`, of a word by `known`. The place where a list began is no tree.
abbrev pub steps_of : (of : Tag → Core → List (Next Core) → Next Core) → (known : (table word : ℕ) → Core → Next Core)
    → Core → List (Next Core)
steps_of of known end = []
steps_of of known (node t c n) = of t (node t c end) (steps_of of known c) ∷ steps_of of known n
steps_of of known (place i j n) = nothing ∷ steps_of of known n
steps_of of known (number v n) = nothing ∷ steps_of of known n
steps_of of known (flag b n) = nothing ∷ steps_of of known n
steps_of of known (chosen t k n) = known t k (chosen t k end) ∷ steps_of of known n
steps_of of known (ref w k n) = at w k ∷ steps_of of known n
steps_of of known (mark i n) = steps_of of known n

abbrev pub leaf_step : Core → Next Core
leaf_step c = first_step (steps_of leaf_node leaf_word c)

abbrev pub args_step : Core → Next Core
args_step c = first_step (steps_of args_node no_word c)

abbrev pub component_args : Sort → Core → Next Core
component_args s (node t c n) = args_component s t (args_step c)
component_args s (mark i n) = component_args s n
component_args s _ = nothing

abbrev pub special_step : Core → Next Core
special_step c = first_step (steps_of special_node no_word c)

abbrev pub step_from : (Core → Next Core) → Option Core → Next Core
step_from step None = nothing
step_from step (Some c) = step c

-- One turn: a component gives way to where its own step comes to.
abbrev pub after : (Core → Next Core) → Table → Next Core → Next Core
after step t (at w k) = step_from step (entry_at w k t)
after step t s = s

-- The answer, by at most so many turns.
abbrev pub resolve : (Core → Next Core) → ℕ → Table → Next Core → Option Core
resolve step zero t s = answer_of s
resolve step (suc more) t s = resolve step more t (after step t s)

-- The answer from where a look-up stands. A table has only so many components, so only so many are asked.
abbrev pub settled : (Core → Next Core) → Table → Next Core → Option Core
settled step t s = resolve step (size N t + size U t) t s

unfoldable pub leaf_name : Table → Core → Option Core
leaf_name t c = settled leaf_step t (leaf_step c)

unfoldable pub template_args : Sort → Table → Core → Option Core
template_args s t c = settled (component_args s) t (args_step c)

unfoldable pub is_special : Table → Core → Bool
is_special t c = is_some (settled special_step t (special_step c))
