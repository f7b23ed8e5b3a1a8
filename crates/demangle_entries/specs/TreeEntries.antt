-- The trees of types, prefixes, the entries of the table and leaf names.
use Rattle.std.specs.Prelude.{pos}
use Rattle.demangle_core.specs.Core.{Tag, Core, end, node, number, flag, ◌⊕◌}
use Rattle.demangle_entries.specs.declared.entries.Decltype.{Decltype}
use Rattle.demangle_entries.specs.declared.entries.Decltype.TheVariants as of_decltype
use Rattle.demangle_entries.specs.declared.entries.Prefix.{Prefix}
use Rattle.demangle_entries.specs.declared.entries.Prefix.TheVariants as of_prefix
use Rattle.demangle_entries.specs.declared.entries.ArrayType.{ArrayType}
use Rattle.demangle_entries.specs.declared.entries.ArrayType.TheVariants as of_array_type
use Rattle.demangle_entries.specs.declared.entries.VectorType.{VectorType}
use Rattle.demangle_entries.specs.declared.entries.VectorType.TheVariants as of_vector_type
use Rattle.demangle_entries.specs.declared.entries.ClassEnumType.{ClassEnumType}
use Rattle.demangle_entries.specs.declared.entries.ClassEnumType.TheVariants as of_class_enum_type
use Rattle.demangle_entries.specs.declared.entries.ExceptionSpec.{ExceptionSpec}
use Rattle.demangle_entries.specs.declared.entries.ExceptionSpec.TheVariants as of_exception_spec
use Rattle.demangle_entries.specs.declared.entries.FunctionType.{FunctionType}
use Rattle.demangle_entries.specs.declared.entries.TypeNode.{TypeNode}
use Rattle.demangle_entries.specs.declared.entries.TypeNode.TheVariants as of_type_node
use Rattle.demangle_entries.specs.declared.entries.UnresolvedType.{UnresolvedType}
use Rattle.demangle_entries.specs.declared.entries.UnresolvedType.TheVariants as of_unresolved_type
use Rattle.demangle_entries.specs.declared.entries.Substitutable.{Substitutable}
use Rattle.demangle_entries.specs.declared.entries.Substitutable.TheVariants as of_substitutable
use Rattle.demangle_leaf_nodes.specs.TreeLeaves.{tree_of_option, tree_of_ref_qualifier, tree_of_template_param}
use Rattle.demangle_leaf_nodes.specs.TreeLeaves.{tree_of_source_name, tree_of_data_member_prefix, tree_of_cv_qualifiers}
use Rattle.demangle_leaf_nodes.specs.TreeLeaves.{tree_of_template_template_param, tree_of_prefix_handle}
use Rattle.demangle_leaf_nodes.specs.TreeLeaves.{tree_of_template_template_param_handle, tree_of_type_handle}
use Rattle.demangle_leaf_nodes.specs.TreeLeaves.{tree_of_bare_function_type, tree_of_pointer_to_member_type}
use Rattle.demangle_leaf_nodes.specs.TreeLeaves.{tree_of_unqualified_name, tree_of_unscoped_template_name}
use Rattle.demangle_nodes.specs.TreeNodes.{tree_of_name, tree_of_template_args, tree_of_expression}

abbrev pub tag_of_decltype : Decltype → Tag
tag_of_decltype (of_decltype.IdExpression _) = Tag.DecltypeIdExpression
tag_of_decltype (of_decltype.Expression _) = Tag.DecltypeExpression

abbrev pub parts_of_decltype : Decltype → Core
parts_of_decltype (of_decltype.IdExpression a) = tree_of_expression a.value
parts_of_decltype (of_decltype.Expression a) = tree_of_expression a.value

abbrev pub tree_of_decltype : Decltype → Core
tree_of_decltype x = node (tag_of_decltype x) (parts_of_decltype x) end

abbrev pub tag_of_prefix : Prefix → Tag
tag_of_prefix (of_prefix.Unqualified _) = Tag.PrefixUnqualified
tag_of_prefix (of_prefix.Nested _ _) = Tag.PrefixNested
tag_of_prefix (of_prefix.Template _ _) = Tag.PrefixTemplate
tag_of_prefix (of_prefix.TemplateParam _) = Tag.PrefixTemplateParam
tag_of_prefix (of_prefix.Decltype _) = Tag.PrefixDecltype
tag_of_prefix (of_prefix.DataMember _ _) = Tag.PrefixDataMember

abbrev pub parts_of_prefix : Prefix → Core
parts_of_prefix (of_prefix.Unqualified a) = tree_of_unqualified_name a
parts_of_prefix (of_prefix.Nested a b) = tree_of_prefix_handle a ⊕ (tree_of_unqualified_name b)
parts_of_prefix (of_prefix.Template a b) = tree_of_prefix_handle a ⊕ (tree_of_template_args b)
parts_of_prefix (of_prefix.TemplateParam a) = tree_of_template_param a
parts_of_prefix (of_prefix.Decltype a) = tree_of_decltype a
parts_of_prefix (of_prefix.DataMember a b) = tree_of_prefix_handle a ⊕ (tree_of_data_member_prefix b)

abbrev pub tree_of_prefix : Prefix → Core
tree_of_prefix x = node (tag_of_prefix x) (parts_of_prefix x) end

abbrev pub tag_of_array_type : ArrayType → Tag
tag_of_array_type (of_array_type.DimensionNumber _ _) = Tag.ArrayTypeDimensionNumber
tag_of_array_type (of_array_type.DimensionExpression _ _) = Tag.ArrayTypeDimensionExpression
tag_of_array_type (of_array_type.NoDimension _) = Tag.ArrayTypeNoDimension

abbrev pub parts_of_array_type : ArrayType → Core
parts_of_array_type (of_array_type.DimensionNumber a b) = number (pos a) (tree_of_type_handle b)
parts_of_array_type (of_array_type.DimensionExpression a b) = tree_of_expression a.value ⊕ (tree_of_type_handle b)
parts_of_array_type (of_array_type.NoDimension a) = tree_of_type_handle a

abbrev pub tree_of_array_type : ArrayType → Core
tree_of_array_type x = node (tag_of_array_type x) (parts_of_array_type x) end

abbrev pub tag_of_vector_type : VectorType → Tag
tag_of_vector_type (of_vector_type.DimensionNumber _ _) = Tag.VectorTypeDimensionNumber
tag_of_vector_type (of_vector_type.DimensionExpression _ _) = Tag.VectorTypeDimensionExpression

abbrev pub parts_of_vector_type : VectorType → Core
parts_of_vector_type (of_vector_type.DimensionNumber a b) = number (pos a) (tree_of_type_handle b)
parts_of_vector_type (of_vector_type.DimensionExpression a b) = tree_of_expression a.value ⊕ (tree_of_type_handle b)

abbrev pub tree_of_vector_type : VectorType → Core
tree_of_vector_type x = node (tag_of_vector_type x) (parts_of_vector_type x) end

abbrev pub tag_of_class_enum_type : ClassEnumType → Tag
tag_of_class_enum_type (of_class_enum_type.Named _) = Tag.ClassEnumTypeNamed
tag_of_class_enum_type (of_class_enum_type.ElaboratedStruct _) = Tag.ClassEnumTypeElaboratedStruct
tag_of_class_enum_type (of_class_enum_type.ElaboratedUnion _) = Tag.ClassEnumTypeElaboratedUnion
tag_of_class_enum_type (of_class_enum_type.ElaboratedEnum _) = Tag.ClassEnumTypeElaboratedEnum

abbrev pub parts_of_class_enum_type : ClassEnumType → Core
parts_of_class_enum_type (of_class_enum_type.Named a) = tree_of_name a.value
parts_of_class_enum_type (of_class_enum_type.ElaboratedStruct a) = tree_of_name a.value
parts_of_class_enum_type (of_class_enum_type.ElaboratedUnion a) = tree_of_name a.value
parts_of_class_enum_type (of_class_enum_type.ElaboratedEnum a) = tree_of_name a.value

abbrev pub tree_of_class_enum_type : ClassEnumType → Core
tree_of_class_enum_type x = node (tag_of_class_enum_type x) (parts_of_class_enum_type x) end

abbrev pub tag_of_exception_spec : ExceptionSpec → Tag
tag_of_exception_spec of_exception_spec.NoExcept = Tag.ExceptionSpecNoExcept
tag_of_exception_spec (of_exception_spec.Computed _) = Tag.ExceptionSpecComputed

abbrev pub parts_of_exception_spec : ExceptionSpec → Core
parts_of_exception_spec of_exception_spec.NoExcept = end
parts_of_exception_spec (of_exception_spec.Computed a) = tree_of_expression a.value

abbrev pub tree_of_exception_spec : ExceptionSpec → Core
tree_of_exception_spec x = node (tag_of_exception_spec x) (parts_of_exception_spec x) end

abbrev pub tag_of_function_type : FunctionType → Tag
tag_of_function_type _ = Tag.FunctionType

abbrev pub parts_of_function_type : FunctionType → Core
parts_of_function_type x = tree_of_cv_qualifiers x.cv_qualifiers ⊕
    (tree_of_option tree_of_exception_spec x.exception_spec ⊕ (flag x.transaction_safe (flag x.extern_c
    (tree_of_bare_function_type x.bare ⊕ (tree_of_option tree_of_ref_qualifier x.ref_qualifier)))))

abbrev pub tree_of_function_type : FunctionType → Core
tree_of_function_type x = node (tag_of_function_type x) (parts_of_function_type x) end

abbrev pub tag_of_type_node : TypeNode → Tag
tag_of_type_node (of_type_node.Function _) = Tag.TypeNodeFunction
tag_of_type_node (of_type_node.ClassEnum _) = Tag.TypeNodeClassEnum
tag_of_type_node (of_type_node.Array _) = Tag.TypeNodeArray
tag_of_type_node (of_type_node.Vector _) = Tag.TypeNodeVector
tag_of_type_node (of_type_node.PointerToMember _) = Tag.TypeNodePointerToMember
tag_of_type_node (of_type_node.TemplateParam _) = Tag.TypeNodeTemplateParam
tag_of_type_node (of_type_node.TemplateTemplate _ _) = Tag.TypeNodeTemplateTemplate
tag_of_type_node (of_type_node.Decltype _) = Tag.TypeNodeDecltype
tag_of_type_node (of_type_node.Qualified _ _) = Tag.TypeNodeQualified
tag_of_type_node (of_type_node.VendorExtension _ _ _) = Tag.TypeNodeVendorExtension
tag_of_type_node (of_type_node.PointerTo _) = Tag.TypeNodePointerTo
tag_of_type_node (of_type_node.LvalueRef _) = Tag.TypeNodeLvalueRef
tag_of_type_node (of_type_node.RvalueRef _) = Tag.TypeNodeRvalueRef
tag_of_type_node (of_type_node.Complex _) = Tag.TypeNodeComplex
tag_of_type_node (of_type_node.Imaginary _) = Tag.TypeNodeImaginary
tag_of_type_node (of_type_node.PackExpansion _) = Tag.TypeNodePackExpansion

abbrev pub parts_of_type_node : TypeNode → Core
parts_of_type_node (of_type_node.Function a) = tree_of_function_type a
parts_of_type_node (of_type_node.ClassEnum a) = tree_of_class_enum_type a
parts_of_type_node (of_type_node.Array a) = tree_of_array_type a
parts_of_type_node (of_type_node.Vector a) = tree_of_vector_type a
parts_of_type_node (of_type_node.PointerToMember a) = tree_of_pointer_to_member_type a
parts_of_type_node (of_type_node.TemplateParam a) = tree_of_template_param a
parts_of_type_node (of_type_node.TemplateTemplate a b) = tree_of_template_template_param_handle a ⊕
    (tree_of_template_args b)
parts_of_type_node (of_type_node.Decltype a) = tree_of_decltype a
parts_of_type_node (of_type_node.Qualified a b) = tree_of_cv_qualifiers a ⊕ (tree_of_type_handle b)
parts_of_type_node (of_type_node.VendorExtension a b c) = tree_of_source_name a ⊕
    (tree_of_option tree_of_template_args b ⊕ (tree_of_type_handle c))
parts_of_type_node (of_type_node.PointerTo a) = tree_of_type_handle a
parts_of_type_node (of_type_node.LvalueRef a) = tree_of_type_handle a
parts_of_type_node (of_type_node.RvalueRef a) = tree_of_type_handle a
parts_of_type_node (of_type_node.Complex a) = tree_of_type_handle a
parts_of_type_node (of_type_node.Imaginary a) = tree_of_type_handle a
parts_of_type_node (of_type_node.PackExpansion a) = tree_of_type_handle a

abbrev pub tree_of_type_node : TypeNode → Core
tree_of_type_node x = node (tag_of_type_node x) (parts_of_type_node x) end

abbrev pub tag_of_unresolved_type : UnresolvedType → Tag
tag_of_unresolved_type (of_unresolved_type.Template _ _) = Tag.UnresolvedTypeTemplate
tag_of_unresolved_type (of_unresolved_type.Decltype _) = Tag.UnresolvedTypeDecltype

abbrev pub parts_of_unresolved_type : UnresolvedType → Core
parts_of_unresolved_type (of_unresolved_type.Template a b) = tree_of_template_param a ⊕
    (tree_of_option tree_of_template_args b)
parts_of_unresolved_type (of_unresolved_type.Decltype a) = tree_of_decltype a

abbrev pub tree_of_unresolved_type : UnresolvedType → Core
tree_of_unresolved_type x = node (tag_of_unresolved_type x) (parts_of_unresolved_type x) end

abbrev pub tag_of_substitutable : Substitutable → Tag
tag_of_substitutable (of_substitutable.UnscopedTemplateName _) = Tag.SubstitutableUnscopedTemplateName
tag_of_substitutable (of_substitutable.TypeNode _) = Tag.SubstitutableTypeNode
tag_of_substitutable (of_substitutable.TemplateTemplateParam _) = Tag.SubstitutableTemplateTemplateParam
tag_of_substitutable (of_substitutable.UnresolvedType _) = Tag.SubstitutableUnresolvedType
tag_of_substitutable (of_substitutable.Prefix _) = Tag.SubstitutablePrefix
tag_of_substitutable (of_substitutable.Expression _) = Tag.SubstitutableExpression

abbrev pub parts_of_substitutable : Substitutable → Core
parts_of_substitutable (of_substitutable.UnscopedTemplateName a) = tree_of_unscoped_template_name a
parts_of_substitutable (of_substitutable.TypeNode a) = tree_of_type_node a
parts_of_substitutable (of_substitutable.TemplateTemplateParam a) = tree_of_template_template_param a
parts_of_substitutable (of_substitutable.UnresolvedType a) = tree_of_unresolved_type a
parts_of_substitutable (of_substitutable.Prefix a) = tree_of_prefix a
parts_of_substitutable (of_substitutable.Expression a) = tree_of_expression a.value

abbrev pub tree_of_substitutable : Substitutable → Core
tree_of_substitutable x = node (tag_of_substitutable x) (parts_of_substitutable x) end

-- that of what it borrows
