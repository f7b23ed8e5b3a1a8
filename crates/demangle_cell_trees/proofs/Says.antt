-- What a look-up finds in a node is what its parts have, by where in the node it is.
use Rattle.std.proofs.Common.{◌≡◌, refl, List, [], ◌∷◌}
use Rattle.demangle_core.specs.Core.{Core}
use Rattle.demangle_core.specs.Lookups.{Next, leaf_node, args_node, special_node}
use Rattle.demangle_cells.specs.Tags.{tag_of}
use Rattle.demangle_cells.specs.declared.tag.Tag.{Tag}
use Rattle.demangle_cells.specs.declared.tag.Tag.TheVariants as of_tag
use Rattle.demangle_cell_trees.specs.Roles.{leaf_role, arguments_role, special_role, role_in}
use Rattle.demangle_cell_trees.specs.Steps.{role_says, node_of}
use Rattle.demangle_cell_trees.specs.declared.roles.Sought.{Sought}
use Rattle.demangle_cell_trees.specs.declared.roles.Sought.TheVariants as of_sought

leaf_says : (t : Tag) (x : Core) (steps : List (Next Core)) → leaf_node (tag_of t) x steps
    ≡ role_says (leaf_role t) x steps
leaf_says of_tag.SourceName x steps = refl
leaf_says of_tag.ClosureTypeName x steps = refl
leaf_says of_tag.UnnamedTypeName x steps = refl
leaf_says of_tag.BackReference x [] = refl
leaf_says of_tag.BackReference x (a0 ∷ steps) = refl
leaf_says of_tag.NonSubstitution x [] = refl
leaf_says of_tag.NonSubstitution x (a0 ∷ steps) = refl
leaf_says of_tag.Present x [] = refl
leaf_says of_tag.Present x (a0 ∷ steps) = refl
leaf_says of_tag.WellKnown x [] = refl
leaf_says of_tag.WellKnown x (a0 ∷ steps) = refl
leaf_says of_tag.DataMemberPrefix x [] = refl
leaf_says of_tag.DataMemberPrefix x (a0 ∷ steps) = refl
leaf_says of_tag.UnqualifiedNameSource x [] = refl
leaf_says of_tag.UnqualifiedNameSource x (a0 ∷ steps) = refl
leaf_says of_tag.UnqualifiedNameLocalSourceName x [] = refl
leaf_says of_tag.UnqualifiedNameLocalSourceName x (a0 ∷ steps) = refl
leaf_says of_tag.UnqualifiedNameClosureType x [] = refl
leaf_says of_tag.UnqualifiedNameClosureType x (a0 ∷ steps) = refl
leaf_says of_tag.UnqualifiedNameUnnamedType x [] = refl
leaf_says of_tag.UnqualifiedNameUnnamedType x (a0 ∷ steps) = refl
leaf_says of_tag.UnscopedNameUnqualified x [] = refl
leaf_says of_tag.UnscopedNameUnqualified x (a0 ∷ steps) = refl
leaf_says of_tag.UnscopedNameStd x [] = refl
leaf_says of_tag.UnscopedNameStd x (a0 ∷ steps) = refl
leaf_says of_tag.UnscopedTemplateName x [] = refl
leaf_says of_tag.UnscopedTemplateName x (a0 ∷ steps) = refl
leaf_says of_tag.NestedNameTemplateExplicitObject x [] = refl
leaf_says of_tag.NestedNameTemplateExplicitObject x (a0 ∷ steps) = refl
leaf_says of_tag.NameNested x [] = refl
leaf_says of_tag.NameNested x (a0 ∷ steps) = refl
leaf_says of_tag.NameUnscoped x [] = refl
leaf_says of_tag.NameUnscoped x (a0 ∷ steps) = refl
leaf_says of_tag.NameUnscopedTemplate x [] = refl
leaf_says of_tag.NameUnscopedTemplate x (a0 ∷ steps) = refl
leaf_says of_tag.NameLocal x [] = refl
leaf_says of_tag.NameLocal x (a0 ∷ steps) = refl
leaf_says of_tag.PrefixUnqualified x [] = refl
leaf_says of_tag.PrefixUnqualified x (a0 ∷ steps) = refl
leaf_says of_tag.PrefixTemplate x [] = refl
leaf_says of_tag.PrefixTemplate x (a0 ∷ steps) = refl
leaf_says of_tag.ClassEnumTypeNamed x [] = refl
leaf_says of_tag.ClassEnumTypeNamed x (a0 ∷ steps) = refl
leaf_says of_tag.ClassEnumTypeElaboratedStruct x [] = refl
leaf_says of_tag.ClassEnumTypeElaboratedStruct x (a0 ∷ steps) = refl
leaf_says of_tag.ClassEnumTypeElaboratedUnion x [] = refl
leaf_says of_tag.ClassEnumTypeElaboratedUnion x (a0 ∷ steps) = refl
leaf_says of_tag.ClassEnumTypeElaboratedEnum x [] = refl
leaf_says of_tag.ClassEnumTypeElaboratedEnum x (a0 ∷ steps) = refl
leaf_says of_tag.TypeNodeClassEnum x [] = refl
leaf_says of_tag.TypeNodeClassEnum x (a0 ∷ steps) = refl
leaf_says of_tag.SubstitutableUnscopedTemplateName x [] = refl
leaf_says of_tag.SubstitutableUnscopedTemplateName x (a0 ∷ steps) = refl
leaf_says of_tag.SubstitutableTypeNode x [] = refl
leaf_says of_tag.SubstitutableTypeNode x (a0 ∷ steps) = refl
leaf_says of_tag.SubstitutablePrefix x [] = refl
leaf_says of_tag.SubstitutablePrefix x (a0 ∷ steps) = refl
leaf_says of_tag.NestedNameUnqualified x [] = refl
leaf_says of_tag.NestedNameUnqualified x (a0 ∷ []) = refl
leaf_says of_tag.NestedNameUnqualified x (a0 ∷ a1 ∷ []) = refl
leaf_says of_tag.NestedNameUnqualified x (a0 ∷ a1 ∷ a2 ∷ []) = refl
leaf_says of_tag.NestedNameUnqualified x (a0 ∷ a1 ∷ a2 ∷ a3 ∷ steps) = refl
leaf_says of_tag.NestedNameTemplate x [] = refl
leaf_says of_tag.NestedNameTemplate x (a0 ∷ []) = refl
leaf_says of_tag.NestedNameTemplate x (a0 ∷ a1 ∷ []) = refl
leaf_says of_tag.NestedNameTemplate x (a0 ∷ a1 ∷ a2 ∷ steps) = refl
leaf_says of_tag.NestedNameUnqualifiedExplicitObject x [] = refl
leaf_says of_tag.NestedNameUnqualifiedExplicitObject x (a0 ∷ []) = refl
leaf_says of_tag.NestedNameUnqualifiedExplicitObject x (a0 ∷ a1 ∷ steps) = refl
leaf_says of_tag.LocalNameRelative x [] = refl
leaf_says of_tag.LocalNameRelative x (a0 ∷ []) = refl
leaf_says of_tag.LocalNameRelative x (a0 ∷ a1 ∷ steps) = refl
leaf_says of_tag.LocalNameDefault x [] = refl
leaf_says of_tag.LocalNameDefault x (a0 ∷ []) = refl
leaf_says of_tag.LocalNameDefault x (a0 ∷ a1 ∷ []) = refl
leaf_says of_tag.LocalNameDefault x (a0 ∷ a1 ∷ a2 ∷ steps) = refl
leaf_says of_tag.PrefixNested x [] = refl
leaf_says of_tag.PrefixNested x (a0 ∷ []) = refl
leaf_says of_tag.PrefixNested x (a0 ∷ a1 ∷ steps) = refl
leaf_says of_tag.PrefixDataMember x [] = refl
leaf_says of_tag.PrefixDataMember x (a0 ∷ []) = refl
leaf_says of_tag.PrefixDataMember x (a0 ∷ a1 ∷ steps) = refl
leaf_says _ x steps = refl

arguments_say : (t : Tag) (x : Core) (steps : List (Next Core)) → args_node (tag_of t) x steps
    ≡ role_says (arguments_role t) x steps
arguments_say of_tag.TemplateArgs x steps = refl
arguments_say of_tag.BackReference x [] = refl
arguments_say of_tag.BackReference x (a0 ∷ steps) = refl
arguments_say of_tag.NonSubstitution x [] = refl
arguments_say of_tag.NonSubstitution x (a0 ∷ steps) = refl
arguments_say of_tag.Present x [] = refl
arguments_say of_tag.Present x (a0 ∷ steps) = refl
arguments_say of_tag.NameNested x [] = refl
arguments_say of_tag.NameNested x (a0 ∷ steps) = refl
arguments_say of_tag.NameLocal x [] = refl
arguments_say of_tag.NameLocal x (a0 ∷ steps) = refl
arguments_say of_tag.NameUnscopedTemplate x [] = refl
arguments_say of_tag.NameUnscopedTemplate x (a0 ∷ []) = refl
arguments_say of_tag.NameUnscopedTemplate x (a0 ∷ a1 ∷ steps) = refl
arguments_say of_tag.NestedNameTemplate x [] = refl
arguments_say of_tag.NestedNameTemplate x (a0 ∷ []) = refl
arguments_say of_tag.NestedNameTemplate x (a0 ∷ a1 ∷ []) = refl
arguments_say of_tag.NestedNameTemplate x (a0 ∷ a1 ∷ a2 ∷ steps) = refl
arguments_say of_tag.NestedNameTemplateExplicitObject x [] = refl
arguments_say of_tag.NestedNameTemplateExplicitObject x (a0 ∷ steps) = refl
arguments_say of_tag.LocalNameRelative x [] = refl
arguments_say of_tag.LocalNameRelative x (a0 ∷ []) = refl
arguments_say of_tag.LocalNameRelative x (a0 ∷ a1 ∷ steps) = refl
arguments_say of_tag.LocalNameDefault x [] = refl
arguments_say of_tag.LocalNameDefault x (a0 ∷ []) = refl
arguments_say of_tag.LocalNameDefault x (a0 ∷ a1 ∷ []) = refl
arguments_say of_tag.LocalNameDefault x (a0 ∷ a1 ∷ a2 ∷ steps) = refl
arguments_say of_tag.PrefixTemplate x [] = refl
arguments_say of_tag.PrefixTemplate x (a0 ∷ []) = refl
arguments_say of_tag.PrefixTemplate x (a0 ∷ a1 ∷ steps) = refl
arguments_say of_tag.TypeNodeTemplateTemplate x [] = refl
arguments_say of_tag.TypeNodeTemplateTemplate x (a0 ∷ []) = refl
arguments_say of_tag.TypeNodeTemplateTemplate x (a0 ∷ a1 ∷ steps) = refl
arguments_say of_tag.TypeNodeVendorExtension x [] = refl
arguments_say of_tag.TypeNodeVendorExtension x (a0 ∷ []) = refl
arguments_say of_tag.TypeNodeVendorExtension x (a0 ∷ a1 ∷ steps) = refl
arguments_say of_tag.TypeNodePointerTo x [] = refl
arguments_say of_tag.TypeNodePointerTo x (a0 ∷ steps) = refl
arguments_say of_tag.TypeNodeLvalueRef x [] = refl
arguments_say of_tag.TypeNodeLvalueRef x (a0 ∷ steps) = refl
arguments_say of_tag.TypeNodeRvalueRef x [] = refl
arguments_say of_tag.TypeNodeRvalueRef x (a0 ∷ steps) = refl
arguments_say _ x steps = refl

special_says : (t : Tag) (x : Core) (steps : List (Next Core)) → special_node (tag_of t) x steps
    ≡ role_says (special_role t) x steps
special_says of_tag.UnqualifiedNameCtorDtor x steps = refl
special_says of_tag.OperatorNameConversion x steps = refl
special_says of_tag.BackReference x [] = refl
special_says of_tag.BackReference x (a0 ∷ steps) = refl
special_says of_tag.NonSubstitution x [] = refl
special_says of_tag.NonSubstitution x (a0 ∷ steps) = refl
special_says of_tag.Present x [] = refl
special_says of_tag.Present x (a0 ∷ steps) = refl
special_says of_tag.UnqualifiedNameOperator x [] = refl
special_says of_tag.UnqualifiedNameOperator x (a0 ∷ steps) = refl
special_says of_tag.NameNested x [] = refl
special_says of_tag.NameNested x (a0 ∷ steps) = refl
special_says of_tag.NameUnscoped x [] = refl
special_says of_tag.NameUnscoped x (a0 ∷ steps) = refl
special_says of_tag.UnscopedNameUnqualified x [] = refl
special_says of_tag.UnscopedNameUnqualified x (a0 ∷ steps) = refl
special_says of_tag.UnscopedNameStd x [] = refl
special_says of_tag.UnscopedNameStd x (a0 ∷ steps) = refl
special_says of_tag.PrefixUnqualified x [] = refl
special_says of_tag.PrefixUnqualified x (a0 ∷ steps) = refl
special_says of_tag.PrefixNested x [] = refl
special_says of_tag.PrefixNested x (a0 ∷ []) = refl
special_says of_tag.PrefixNested x (a0 ∷ a1 ∷ steps) = refl
special_says of_tag.PrefixTemplate x [] = refl
special_says of_tag.PrefixTemplate x (a0 ∷ steps) = refl
special_says of_tag.NestedNameUnqualified x [] = refl
special_says of_tag.NestedNameUnqualified x (a0 ∷ []) = refl
special_says of_tag.NestedNameUnqualified x (a0 ∷ a1 ∷ []) = refl
special_says of_tag.NestedNameUnqualified x (a0 ∷ a1 ∷ a2 ∷ steps) = refl
special_says of_tag.NestedNameTemplate x [] = refl
special_says of_tag.NestedNameTemplate x (a0 ∷ []) = refl
special_says of_tag.NestedNameTemplate x (a0 ∷ a1 ∷ []) = refl
special_says of_tag.NestedNameTemplate x (a0 ∷ a1 ∷ a2 ∷ steps) = refl
special_says of_tag.NestedNameUnqualifiedExplicitObject x [] = refl
special_says of_tag.NestedNameUnqualifiedExplicitObject x (a0 ∷ steps) = refl
special_says of_tag.NestedNameTemplateExplicitObject x [] = refl
special_says of_tag.NestedNameTemplateExplicitObject x (a0 ∷ steps) = refl
special_says of_tag.SubstitutablePrefix x [] = refl
special_says of_tag.SubstitutablePrefix x (a0 ∷ steps) = refl
special_says _ x steps = refl

pub says : (s : Sought) (t : Tag) (x : Core) (steps : List (Next Core)) → node_of s (tag_of t) x steps
    ≡ role_says (role_in s t) x steps
says of_sought.LeafName t x steps = leaf_says t x steps
says of_sought.PrefixArguments t x steps = arguments_say t x steps
says of_sought.TypeArguments t x steps = arguments_say t x steps
says of_sought.Special t x steps = special_says t x steps
