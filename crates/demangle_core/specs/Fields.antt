-- Single fields of trees.
use Rattle.std.specs.Prelude.{ℕ, Bool, true, false, Option, Some, None}
use Rattle.demangle_core.specs.Core.{Tag, Core, node, ref, end, N}

-- The position of a numbered component that a handle refers to.
abbrev pub reference_of : Core → Option ℕ
reference_of (node Tag.BackReference (ref N k more) next) = Some k
reference_of _ = None

-- The qualifiers of a nested name; the explicit-object forms have none.
abbrev pub qualifiers_of : Core → Option Core
qualifiers_of (node Tag.NestedNameUnqualified (node t c more) next) = Some (node t c end)
qualifiers_of (node Tag.NestedNameTemplate (node t c more) next) = Some (node t c end)
qualifiers_of _ = None

abbrev pub held_in : Core → Option Core
held_in (node Tag.Present c more) = Some c
held_in _ = None

-- The ref-qualifier of a nested name, where it has one.
abbrev pub ref_qualifier_of : Core → Option Core
ref_qualifier_of (node Tag.NestedNameUnqualified (node t c rest) next) = held_in rest
ref_qualifier_of (node Tag.NestedNameTemplate (node t c rest) next) = held_in rest
ref_qualifier_of _ = None

-- Whether a nested name has an explicit object parameter.
abbrev pub explicit_object_of : Core → Bool
explicit_object_of (node Tag.NestedNameUnqualifiedExplicitObject c next) = true
explicit_object_of (node Tag.NestedNameTemplateExplicitObject c next) = true
explicit_object_of _ = false
