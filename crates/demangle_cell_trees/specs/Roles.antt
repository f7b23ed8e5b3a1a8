-- Where in a node it is that is looked up.
use Rattle.std.specs.Prelude.{Option, Some, None}
use Rattle.demangle_core.specs.Core as core
use Rattle.demangle_core.specs.Core.{Core, node}
use Rattle.demangle_cells.specs.declared.tag.Tag.{Tag}
use Rattle.demangle_cells.specs.declared.tag.Tag.TheVariants as of_tag
use Rattle.demangle_cell_trees.specs.declared.roles.Role.{Role}
use Rattle.demangle_cell_trees.specs.declared.roles.Role.TheVariants as of_role
use Rattle.demangle_cell_trees.specs.declared.roles.Sought.{Sought}
use Rattle.demangle_cell_trees.specs.declared.roles.Sought.TheVariants as of_sought

abbrev pub leaf_role : Tag → Role
leaf_role of_tag.SourceName = of_role.Itself
leaf_role of_tag.ClosureTypeName = of_role.Itself
leaf_role of_tag.UnnamedTypeName = of_role.Itself
leaf_role of_tag.BackReference = of_role.First
leaf_role of_tag.NonSubstitution = of_role.First
leaf_role of_tag.Present = of_role.First
leaf_role of_tag.WellKnown = of_role.First
leaf_role of_tag.DataMemberPrefix = of_role.First
leaf_role of_tag.UnqualifiedNameSource = of_role.First
leaf_role of_tag.UnqualifiedNameLocalSourceName = of_role.First
leaf_role of_tag.UnqualifiedNameClosureType = of_role.First
leaf_role of_tag.UnqualifiedNameUnnamedType = of_role.First
leaf_role of_tag.UnscopedNameUnqualified = of_role.First
leaf_role of_tag.UnscopedNameStd = of_role.First
leaf_role of_tag.UnscopedTemplateName = of_role.First
leaf_role of_tag.NestedNameTemplateExplicitObject = of_role.First
leaf_role of_tag.NameNested = of_role.First
leaf_role of_tag.NameUnscoped = of_role.First
leaf_role of_tag.NameUnscopedTemplate = of_role.First
leaf_role of_tag.NameLocal = of_role.First
leaf_role of_tag.PrefixUnqualified = of_role.First
leaf_role of_tag.PrefixTemplate = of_role.First
leaf_role of_tag.ClassEnumTypeNamed = of_role.First
leaf_role of_tag.ClassEnumTypeElaboratedStruct = of_role.First
leaf_role of_tag.ClassEnumTypeElaboratedUnion = of_role.First
leaf_role of_tag.ClassEnumTypeElaboratedEnum = of_role.First
leaf_role of_tag.TypeNodeClassEnum = of_role.First
leaf_role of_tag.SubstitutableUnscopedTemplateName = of_role.First
leaf_role of_tag.SubstitutableTypeNode = of_role.First
leaf_role of_tag.SubstitutablePrefix = of_role.First
leaf_role of_tag.NestedNameUnqualified = of_role.FourthElseThird
leaf_role of_tag.NestedNameTemplate = of_role.Third
leaf_role of_tag.NestedNameUnqualifiedExplicitObject = of_role.SecondElseFirst
leaf_role of_tag.LocalNameRelative = of_role.Second
leaf_role of_tag.LocalNameDefault = of_role.Third
leaf_role of_tag.PrefixNested = of_role.SecondElseFirst
leaf_role of_tag.PrefixDataMember = of_role.Second
leaf_role _ = of_role.Nothing

abbrev pub arguments_role : Tag → Role
arguments_role of_tag.TemplateArgs = of_role.Itself
arguments_role of_tag.BackReference = of_role.First
arguments_role of_tag.NonSubstitution = of_role.First
arguments_role of_tag.Present = of_role.First
arguments_role of_tag.NameNested = of_role.First
arguments_role of_tag.NameLocal = of_role.First
arguments_role of_tag.NameUnscopedTemplate = of_role.Second
arguments_role of_tag.NestedNameTemplate = of_role.Third
arguments_role of_tag.NestedNameTemplateExplicitObject = of_role.First
arguments_role of_tag.LocalNameRelative = of_role.Second
arguments_role of_tag.LocalNameDefault = of_role.Third
arguments_role of_tag.PrefixTemplate = of_role.Second
arguments_role of_tag.TypeNodeTemplateTemplate = of_role.Second
arguments_role of_tag.TypeNodeVendorExtension = of_role.Second
arguments_role of_tag.TypeNodePointerTo = of_role.First
arguments_role of_tag.TypeNodeLvalueRef = of_role.First
arguments_role of_tag.TypeNodeRvalueRef = of_role.First
arguments_role _ = of_role.Nothing

abbrev pub special_role : Tag → Role
special_role of_tag.UnqualifiedNameCtorDtor = of_role.Itself
special_role of_tag.OperatorNameConversion = of_role.Itself
special_role of_tag.BackReference = of_role.First
special_role of_tag.NonSubstitution = of_role.First
special_role of_tag.Present = of_role.First
special_role of_tag.UnqualifiedNameOperator = of_role.First
special_role of_tag.NameNested = of_role.First
special_role of_tag.NameUnscoped = of_role.First
special_role of_tag.UnscopedNameUnqualified = of_role.First
special_role of_tag.UnscopedNameStd = of_role.First
special_role of_tag.PrefixUnqualified = of_role.First
special_role of_tag.PrefixNested = of_role.Second
special_role of_tag.PrefixTemplate = of_role.First
special_role of_tag.NestedNameUnqualified = of_role.Third
special_role of_tag.NestedNameTemplate = of_role.Third
special_role of_tag.NestedNameUnqualifiedExplicitObject = of_role.First
special_role of_tag.NestedNameTemplateExplicitObject = of_role.First
special_role of_tag.SubstitutablePrefix = of_role.First
special_role _ = of_role.Nothing

abbrev pub role_in : Sought → Tag → Role
role_in of_sought.LeafName t = leaf_role t
role_in of_sought.PrefixArguments t = arguments_role t
role_in of_sought.TypeArguments t = arguments_role t
role_in of_sought.Special t = special_role t

-- the tag of a tree, where it is a node
abbrev pub tag_in : Core → Option core.Tag
tag_in (node t c n) = Some t
tag_in _ = None
