-- The trees of the types that hold no name, type or expression by value: the name of the node, its parts in the order
-- of the fields, and the tree of both.
use Rattle.std.specs.Prelude.{ℕ, ℤ, pos}
use Rattle.std.specs.declared.option.Option.{Option}
use Rattle.std.specs.declared.option.Option.TheVariants as of_option
use Rattle.demangle_core.specs.Core.{Tag, Core, Which, end, node, place, number, flag, chosen, ref, ◌⊕◌, trees, numbers}
use Rattle.demangle_vocab.specs.declared.operator.SimpleOperatorName.{SimpleOperatorName}
use Rattle.demangle_vocab.specs.declared.builtin.StandardBuiltinType.{StandardBuiltinType}
use Rattle.demangle_vocab.specs.declared.component.WellKnownComponent.{WellKnownComponent}
use Rattle.demangle_vocab.specs.declared.qualifier.RefQualifier.{RefQualifier}
use Rattle.demangle_vocab.specs.declared.qualifier.ExplicitObjectParameter.{ExplicitObjectParameter}
use Rattle.demangle_vocab.specs.Operators.{number_of_operator}
use Rattle.demangle_vocab.specs.Builtins.{number_of_builtin}
use Rattle.demangle_vocab.specs.Components.{number_of_component}
use Rattle.demangle_vocab.specs.Qualifiers.{number_of_ref_qualifier, number_of_explicit_object}
use Rattle.demangle_leaf_nodes.specs.declared.leaves.NonSubstitution.{NonSubstitution}
use Rattle.demangle_leaf_nodes.specs.declared.leaves.SeqId.{SeqId}
use Rattle.demangle_leaf_nodes.specs.declared.leaves.TemplateParam.{TemplateParam}
use Rattle.demangle_leaf_nodes.specs.declared.leaves.Discriminator.{Discriminator}
use Rattle.demangle_leaf_nodes.specs.declared.leaves.Identifier.{Identifier}
use Rattle.demangle_leaf_nodes.specs.declared.leaves.CloneTypeIdentifier.{CloneTypeIdentifier}
use Rattle.demangle_leaf_nodes.specs.declared.leaves.ResourceName.{ResourceName}
use Rattle.demangle_leaf_nodes.specs.declared.leaves.SourceName.{SourceName}
use Rattle.demangle_leaf_nodes.specs.declared.leaves.AbiTag.{AbiTag}
use Rattle.demangle_leaf_nodes.specs.declared.leaves.AbiTags.{AbiTags}
use Rattle.demangle_leaf_nodes.specs.declared.leaves.DataMemberPrefix.{DataMemberPrefix}
use Rattle.demangle_leaf_nodes.specs.declared.leaves.CloneSuffix.{CloneSuffix}
use Rattle.demangle_leaf_nodes.specs.declared.leaves.CvQualifiers.{CvQualifiers}
use Rattle.demangle_leaf_nodes.specs.declared.leaves.NvOffset.{NvOffset}
use Rattle.demangle_leaf_nodes.specs.declared.leaves.VOffset.{VOffset}
use Rattle.demangle_leaf_nodes.specs.declared.leaves.CallOffset.{CallOffset}
use Rattle.demangle_leaf_nodes.specs.declared.leaves.CallOffset.TheVariants as of_call_offset
use Rattle.demangle_leaf_nodes.specs.declared.leaves.FunctionParam.{FunctionParam}
use Rattle.demangle_leaf_nodes.specs.declared.leaves.TemplateTemplateParam.{TemplateTemplateParam}
use Rattle.demangle_leaf_nodes.specs.declared.leaves.UnnamedTypeName.{UnnamedTypeName}
use Rattle.demangle_leaf_nodes.specs.declared.leaves.Substitution.{Substitution}
use Rattle.demangle_leaf_nodes.specs.declared.leaves.Substitution.TheVariants as of_substitution
use Rattle.demangle_leaf_nodes.specs.declared.leaves.PrefixHandle.{PrefixHandle}
use Rattle.demangle_leaf_nodes.specs.declared.leaves.PrefixHandle.TheVariants as of_prefix_handle
use Rattle.demangle_leaf_nodes.specs.declared.leaves.UnscopedTemplateNameHandle.{UnscopedTemplateNameHandle}
use Rattle.demangle_leaf_nodes.specs.declared.leaves.UnscopedTemplateNameHandle.TheVariants as of_template_name_handle
use Rattle.demangle_leaf_nodes.specs.declared.leaves.TemplateTemplateParamHandle.{TemplateTemplateParamHandle}
use Rattle.demangle_leaf_nodes.specs.declared.leaves.TemplateTemplateParamHandle.TheVariants as of_param_handle
use Rattle.demangle_leaf_nodes.specs.declared.leaves.UnresolvedTypeHandle.{UnresolvedTypeHandle}
use Rattle.demangle_leaf_nodes.specs.declared.leaves.UnresolvedTypeHandle.TheVariants as of_unresolved_type_handle
use Rattle.demangle_leaf_nodes.specs.declared.leaves.ParametricBuiltinType.{ParametricBuiltinType}
use Rattle.demangle_leaf_nodes.specs.declared.leaves.ParametricBuiltinType.TheVariants as of_parametric_builtin_type
use Rattle.demangle_leaf_nodes.specs.declared.leaves.BuiltinType.{BuiltinType}
use Rattle.demangle_leaf_nodes.specs.declared.leaves.BuiltinType.TheVariants as of_builtin_type
use Rattle.demangle_leaf_nodes.specs.declared.leaves.QualifiedBuiltin.{QualifiedBuiltin}
use Rattle.demangle_leaf_nodes.specs.declared.leaves.TypeHandle.{TypeHandle}
use Rattle.demangle_leaf_nodes.specs.declared.leaves.TypeHandle.TheVariants as of_type_handle
use Rattle.demangle_leaf_nodes.specs.declared.leaves.OperatorName.{OperatorName}
use Rattle.demangle_leaf_nodes.specs.declared.leaves.OperatorName.TheVariants as of_operator_name
use Rattle.demangle_leaf_nodes.specs.declared.leaves.CtorDtorName.{CtorDtorName}
use Rattle.demangle_leaf_nodes.specs.declared.leaves.CtorDtorName.TheVariants as of_ctor_dtor_name
use Rattle.demangle_leaf_nodes.specs.declared.leaves.BareFunctionType.{BareFunctionType}
use Rattle.demangle_leaf_nodes.specs.declared.leaves.LambdaSig.{LambdaSig}
use Rattle.demangle_leaf_nodes.specs.declared.leaves.ClosureTypeName.{ClosureTypeName}
use Rattle.demangle_leaf_nodes.specs.declared.leaves.PointerToMemberType.{PointerToMemberType}
use Rattle.demangle_leaf_nodes.specs.declared.leaves.UnqualifiedName.{UnqualifiedName}
use Rattle.demangle_leaf_nodes.specs.declared.leaves.UnqualifiedName.TheVariants as of_unqualified_name
use Rattle.demangle_leaf_nodes.specs.declared.leaves.UnscopedName.{UnscopedName}
use Rattle.demangle_leaf_nodes.specs.declared.leaves.UnscopedName.TheVariants as of_unscoped_name
use Rattle.demangle_leaf_nodes.specs.declared.leaves.UnscopedTemplateName.{UnscopedTemplateName}
use Rattle.demangle_leaf_nodes.specs.declared.leaves.NestedName.{NestedName}
use Rattle.demangle_leaf_nodes.specs.declared.leaves.NestedName.TheVariants as of_nested_name
use Rattle.demangle_leaf_nodes.specs.declared.leaf_name.LeafName.{LeafName}
use Rattle.demangle_leaf_nodes.specs.declared.leaf_name.LeafName.TheVariants as of_leaf_name

-- ---- what a field holds besides nodes
abbrev pub tree_of_number : ℕ → Core
tree_of_number n = number (pos n) end

abbrev pub tree_of_signed : ℤ → Core
tree_of_signed n = number n end

abbrev pub tag_of_option : {A : Type 0} → Option A → Tag
tag_of_option of_option.None = Tag.Absent
tag_of_option (of_option.Some a) = Tag.Present

abbrev pub parts_of_option : {A : Type 0} → (A → Core) → Option A → Core
parts_of_option f of_option.None = end
parts_of_option f (of_option.Some a) = f a

abbrev pub tree_of_option : {A : Type 0} → (A → Core) → Option A → Core
tree_of_option f x = node (tag_of_option x) (parts_of_option f x) end

-- ---- words: the table, and the number of the word in it
abbrev pub tree_of_simple_operator_name : SimpleOperatorName → Core
tree_of_simple_operator_name x = chosen 0 (number_of_operator x) end

abbrev pub tree_of_standard_builtin_type : StandardBuiltinType → Core
tree_of_standard_builtin_type x = chosen 1 (number_of_builtin x) end

abbrev pub tree_of_well_known_component : WellKnownComponent → Core
tree_of_well_known_component x = chosen 2 (number_of_component x) end

abbrev pub tree_of_ref_qualifier : RefQualifier → Core
tree_of_ref_qualifier x = chosen 3 (number_of_ref_qualifier x) end

abbrev pub tree_of_explicit_object_parameter : ExplicitObjectParameter → Core
tree_of_explicit_object_parameter x = chosen 4 (number_of_explicit_object x) end

-- ---- nodes
abbrev pub tag_of_non_substitution : NonSubstitution → Tag
tag_of_non_substitution _ = Tag.NonSubstitution

abbrev pub parts_of_non_substitution : NonSubstitution → Core
parts_of_non_substitution x = ref Which.U x.0 end

abbrev pub tree_of_non_substitution : NonSubstitution → Core
tree_of_non_substitution x = node (tag_of_non_substitution x) (parts_of_non_substitution x) end

abbrev pub tag_of_seq_id : SeqId → Tag
tag_of_seq_id _ = Tag.SeqId

abbrev pub parts_of_seq_id : SeqId → Core
parts_of_seq_id x = number (pos x.0) end

abbrev pub tree_of_seq_id : SeqId → Core
tree_of_seq_id x = node (tag_of_seq_id x) (parts_of_seq_id x) end

abbrev pub tag_of_template_param : TemplateParam → Tag
tag_of_template_param _ = Tag.TemplateParam

abbrev pub parts_of_template_param : TemplateParam → Core
parts_of_template_param x = number (pos x.0) end

abbrev pub tree_of_template_param : TemplateParam → Core
tree_of_template_param x = node (tag_of_template_param x) (parts_of_template_param x) end

abbrev pub tag_of_discriminator : Discriminator → Tag
tag_of_discriminator _ = Tag.Discriminator

abbrev pub parts_of_discriminator : Discriminator → Core
parts_of_discriminator x = number (pos x.0) end

abbrev pub tree_of_discriminator : Discriminator → Core
tree_of_discriminator x = node (tag_of_discriminator x) (parts_of_discriminator x) end

abbrev pub tag_of_identifier : Identifier → Tag
tag_of_identifier _ = Tag.Identifier

abbrev pub parts_of_identifier : Identifier → Core
parts_of_identifier x = place x.start x.end end

abbrev pub tree_of_identifier : Identifier → Core
tree_of_identifier x = node (tag_of_identifier x) (parts_of_identifier x) end

abbrev pub tag_of_clone_type_identifier : CloneTypeIdentifier → Tag
tag_of_clone_type_identifier _ = Tag.CloneTypeIdentifier

abbrev pub parts_of_clone_type_identifier : CloneTypeIdentifier → Core
parts_of_clone_type_identifier x = place x.start x.end end

abbrev pub tree_of_clone_type_identifier : CloneTypeIdentifier → Core
tree_of_clone_type_identifier x = node (tag_of_clone_type_identifier x) (parts_of_clone_type_identifier x) end

abbrev pub tag_of_resource_name : ResourceName → Tag
tag_of_resource_name _ = Tag.ResourceName

abbrev pub parts_of_resource_name : ResourceName → Core
parts_of_resource_name x = place x.start x.end end

abbrev pub tree_of_resource_name : ResourceName → Core
tree_of_resource_name x = node (tag_of_resource_name x) (parts_of_resource_name x) end

abbrev pub tag_of_source_name : SourceName → Tag
tag_of_source_name _ = Tag.SourceName

abbrev pub parts_of_source_name : SourceName → Core
parts_of_source_name x = tree_of_identifier x.0

abbrev pub tree_of_source_name : SourceName → Core
tree_of_source_name x = node (tag_of_source_name x) (parts_of_source_name x) end

abbrev pub tag_of_abi_tag : AbiTag → Tag
tag_of_abi_tag _ = Tag.AbiTag

abbrev pub parts_of_abi_tag : AbiTag → Core
parts_of_abi_tag x = tree_of_source_name x.0

abbrev pub tree_of_abi_tag : AbiTag → Core
tree_of_abi_tag x = node (tag_of_abi_tag x) (parts_of_abi_tag x) end

abbrev pub tag_of_abi_tags : AbiTags → Tag
tag_of_abi_tags _ = Tag.AbiTags

abbrev pub parts_of_abi_tags : AbiTags → Core
parts_of_abi_tags x = node Tag.Several (trees tag_of_abi_tag parts_of_abi_tag x.0.items) end

abbrev pub tree_of_abi_tags : AbiTags → Core
tree_of_abi_tags x = node (tag_of_abi_tags x) (parts_of_abi_tags x) end

abbrev pub tag_of_data_member_prefix : DataMemberPrefix → Tag
tag_of_data_member_prefix _ = Tag.DataMemberPrefix

abbrev pub parts_of_data_member_prefix : DataMemberPrefix → Core
parts_of_data_member_prefix x = tree_of_source_name x.0

abbrev pub tree_of_data_member_prefix : DataMemberPrefix → Core
tree_of_data_member_prefix x = node (tag_of_data_member_prefix x) (parts_of_data_member_prefix x) end

abbrev pub tag_of_clone_suffix : CloneSuffix → Tag
tag_of_clone_suffix _ = Tag.CloneSuffix

abbrev pub parts_of_clone_suffix : CloneSuffix → Core
parts_of_clone_suffix x = tree_of_clone_type_identifier x.0 ⊕ (node Tag.Several (numbers x.1.items) end)

abbrev pub tree_of_clone_suffix : CloneSuffix → Core
tree_of_clone_suffix x = node (tag_of_clone_suffix x) (parts_of_clone_suffix x) end

abbrev pub tag_of_cv_qualifiers : CvQualifiers → Tag
tag_of_cv_qualifiers _ = Tag.CvQualifiers

abbrev pub parts_of_cv_qualifiers : CvQualifiers → Core
parts_of_cv_qualifiers x = flag x.restrict (flag x.volatile (flag x.const_ end))

abbrev pub tree_of_cv_qualifiers : CvQualifiers → Core
tree_of_cv_qualifiers x = node (tag_of_cv_qualifiers x) (parts_of_cv_qualifiers x) end

abbrev pub tag_of_nv_offset : NvOffset → Tag
tag_of_nv_offset _ = Tag.NvOffset

abbrev pub parts_of_nv_offset : NvOffset → Core
parts_of_nv_offset x = number x.0 end

abbrev pub tree_of_nv_offset : NvOffset → Core
tree_of_nv_offset x = node (tag_of_nv_offset x) (parts_of_nv_offset x) end

abbrev pub tag_of_v_offset : VOffset → Tag
tag_of_v_offset _ = Tag.VOffset

abbrev pub parts_of_v_offset : VOffset → Core
parts_of_v_offset x = number x.0 (number x.1 end)

abbrev pub tree_of_v_offset : VOffset → Core
tree_of_v_offset x = node (tag_of_v_offset x) (parts_of_v_offset x) end

abbrev pub tag_of_call_offset : CallOffset → Tag
tag_of_call_offset (of_call_offset.NonVirtual _) = Tag.CallOffsetNonVirtual
tag_of_call_offset (of_call_offset.Virtual _) = Tag.CallOffsetVirtual

abbrev pub parts_of_call_offset : CallOffset → Core
parts_of_call_offset (of_call_offset.NonVirtual a) = tree_of_nv_offset a
parts_of_call_offset (of_call_offset.Virtual a) = tree_of_v_offset a

abbrev pub tree_of_call_offset : CallOffset → Core
tree_of_call_offset x = node (tag_of_call_offset x) (parts_of_call_offset x) end

abbrev pub tag_of_function_param : FunctionParam → Tag
tag_of_function_param _ = Tag.FunctionParam

abbrev pub parts_of_function_param : FunctionParam → Core
parts_of_function_param x = number (pos x.0) (tree_of_cv_qualifiers x.1 ⊕ (tree_of_option tree_of_number x.2))

abbrev pub tree_of_function_param : FunctionParam → Core
tree_of_function_param x = node (tag_of_function_param x) (parts_of_function_param x) end

abbrev pub tag_of_template_template_param : TemplateTemplateParam → Tag
tag_of_template_template_param _ = Tag.TemplateTemplateParam

abbrev pub parts_of_template_template_param : TemplateTemplateParam → Core
parts_of_template_template_param x = tree_of_template_param x.0

abbrev pub tree_of_template_template_param : TemplateTemplateParam → Core
tree_of_template_template_param x = node (tag_of_template_template_param x) (parts_of_template_template_param x) end

abbrev pub tag_of_unnamed_type_name : UnnamedTypeName → Tag
tag_of_unnamed_type_name _ = Tag.UnnamedTypeName

abbrev pub parts_of_unnamed_type_name : UnnamedTypeName → Core
parts_of_unnamed_type_name x = tree_of_option tree_of_number x.0

abbrev pub tree_of_unnamed_type_name : UnnamedTypeName → Core
tree_of_unnamed_type_name x = node (tag_of_unnamed_type_name x) (parts_of_unnamed_type_name x) end

abbrev pub tag_of_substitution : Substitution → Tag
tag_of_substitution (of_substitution.BackReference _) = Tag.BackReference
tag_of_substitution (of_substitution.WellKnown _) = Tag.WellKnown

abbrev pub parts_of_substitution : Substitution → Core
parts_of_substitution (of_substitution.BackReference a) = ref Which.N a end
parts_of_substitution (of_substitution.WellKnown a) = tree_of_well_known_component a

abbrev pub tree_of_substitution : Substitution → Core
tree_of_substitution x = node (tag_of_substitution x) (parts_of_substitution x) end

abbrev pub tag_of_prefix_handle : PrefixHandle → Tag
tag_of_prefix_handle (of_prefix_handle.WellKnown _) = Tag.WellKnown
tag_of_prefix_handle (of_prefix_handle.BackReference _) = Tag.BackReference
tag_of_prefix_handle (of_prefix_handle.NonSubstitution _) = Tag.NonSubstitution

abbrev pub parts_of_prefix_handle : PrefixHandle → Core
parts_of_prefix_handle (of_prefix_handle.WellKnown a) = tree_of_well_known_component a
parts_of_prefix_handle (of_prefix_handle.BackReference a) = ref Which.N a end
parts_of_prefix_handle (of_prefix_handle.NonSubstitution a) = parts_of_non_substitution a

abbrev pub tree_of_prefix_handle : PrefixHandle → Core
tree_of_prefix_handle x = node (tag_of_prefix_handle x) (parts_of_prefix_handle x) end

abbrev pub tag_of_unscoped_template_name_handle : UnscopedTemplateNameHandle → Tag
tag_of_unscoped_template_name_handle (of_template_name_handle.WellKnown _) = Tag.WellKnown
tag_of_unscoped_template_name_handle (of_template_name_handle.BackReference _) = Tag.BackReference
tag_of_unscoped_template_name_handle (of_template_name_handle.NonSubstitution _) = Tag.NonSubstitution

abbrev pub parts_of_unscoped_template_name_handle : UnscopedTemplateNameHandle → Core
parts_of_unscoped_template_name_handle (of_template_name_handle.WellKnown a) = tree_of_well_known_component a
parts_of_unscoped_template_name_handle (of_template_name_handle.BackReference a) = ref Which.N a end
parts_of_unscoped_template_name_handle (of_template_name_handle.NonSubstitution a) =
    parts_of_non_substitution a

abbrev pub tree_of_unscoped_template_name_handle : UnscopedTemplateNameHandle → Core
tree_of_unscoped_template_name_handle x = node (tag_of_unscoped_template_name_handle x)
    (parts_of_unscoped_template_name_handle x) end

abbrev pub tag_of_template_template_param_handle : TemplateTemplateParamHandle → Tag
tag_of_template_template_param_handle (of_param_handle.WellKnown _) = Tag.WellKnown
tag_of_template_template_param_handle (of_param_handle.BackReference _) = Tag.BackReference

abbrev pub parts_of_template_template_param_handle : TemplateTemplateParamHandle → Core
parts_of_template_template_param_handle (of_param_handle.WellKnown a) = tree_of_well_known_component a
parts_of_template_template_param_handle (of_param_handle.BackReference a) = ref Which.N a end

abbrev pub tree_of_template_template_param_handle : TemplateTemplateParamHandle → Core
tree_of_template_template_param_handle x = node (tag_of_template_template_param_handle x)
    (parts_of_template_template_param_handle x) end

abbrev pub tag_of_unresolved_type_handle : UnresolvedTypeHandle → Tag
tag_of_unresolved_type_handle (of_unresolved_type_handle.WellKnown _) = Tag.WellKnown
tag_of_unresolved_type_handle (of_unresolved_type_handle.BackReference _) = Tag.BackReference

abbrev pub parts_of_unresolved_type_handle : UnresolvedTypeHandle → Core
parts_of_unresolved_type_handle (of_unresolved_type_handle.WellKnown a) = tree_of_well_known_component a
parts_of_unresolved_type_handle (of_unresolved_type_handle.BackReference a) = ref Which.N a end

abbrev pub tree_of_unresolved_type_handle : UnresolvedTypeHandle → Core
tree_of_unresolved_type_handle x = node (tag_of_unresolved_type_handle x) (parts_of_unresolved_type_handle x) end

abbrev pub tag_of_parametric_builtin_type : ParametricBuiltinType → Tag
tag_of_parametric_builtin_type (of_parametric_builtin_type.FloatN _) = Tag.ParametricBuiltinTypeFloatN
tag_of_parametric_builtin_type (of_parametric_builtin_type.FloatNx _) = Tag.ParametricBuiltinTypeFloatNx
tag_of_parametric_builtin_type (of_parametric_builtin_type.SignedBitInt _) = Tag.ParametricBuiltinTypeSignedBitInt
tag_of_parametric_builtin_type (of_parametric_builtin_type.UnsignedBitInt _) = Tag.ParametricBuiltinTypeUnsignedBitInt
tag_of_parametric_builtin_type (of_parametric_builtin_type.SignedBitIntExpression _) =
    Tag.ParametricBuiltinTypeSignedBitIntExpression
tag_of_parametric_builtin_type (of_parametric_builtin_type.UnsignedBitIntExpression _) =
    Tag.ParametricBuiltinTypeUnsignedBitIntExpression

abbrev pub parts_of_parametric_builtin_type : ParametricBuiltinType → Core
parts_of_parametric_builtin_type (of_parametric_builtin_type.FloatN a) = number a end
parts_of_parametric_builtin_type (of_parametric_builtin_type.FloatNx a) = number a end
parts_of_parametric_builtin_type (of_parametric_builtin_type.SignedBitInt a) = number a end
parts_of_parametric_builtin_type (of_parametric_builtin_type.UnsignedBitInt a) = number a end
parts_of_parametric_builtin_type (of_parametric_builtin_type.SignedBitIntExpression a) = tree_of_non_substitution a
parts_of_parametric_builtin_type (of_parametric_builtin_type.UnsignedBitIntExpression a) = tree_of_non_substitution a

abbrev pub tree_of_parametric_builtin_type : ParametricBuiltinType → Core
tree_of_parametric_builtin_type x = node (tag_of_parametric_builtin_type x) (parts_of_parametric_builtin_type x) end

abbrev pub tag_of_builtin_type : BuiltinType → Tag
tag_of_builtin_type (of_builtin_type.Standard _) = Tag.BuiltinTypeStandard
tag_of_builtin_type (of_builtin_type.Parametric _) = Tag.BuiltinTypeParametric
tag_of_builtin_type (of_builtin_type.Extension _) = Tag.BuiltinTypeExtension

abbrev pub parts_of_builtin_type : BuiltinType → Core
parts_of_builtin_type (of_builtin_type.Standard a) = tree_of_standard_builtin_type a
parts_of_builtin_type (of_builtin_type.Parametric a) = tree_of_parametric_builtin_type a
parts_of_builtin_type (of_builtin_type.Extension a) = tree_of_source_name a

abbrev pub tree_of_builtin_type : BuiltinType → Core
tree_of_builtin_type x = node (tag_of_builtin_type x) (parts_of_builtin_type x) end

abbrev pub tag_of_qualified_builtin : QualifiedBuiltin → Tag
tag_of_qualified_builtin _ = Tag.QualifiedBuiltin

abbrev pub parts_of_qualified_builtin : QualifiedBuiltin → Core
parts_of_qualified_builtin x = tree_of_cv_qualifiers x.0 ⊕ (tree_of_builtin_type x.1)

abbrev pub tree_of_qualified_builtin : QualifiedBuiltin → Core
tree_of_qualified_builtin x = node (tag_of_qualified_builtin x) (parts_of_qualified_builtin x) end

abbrev pub tag_of_type_handle : TypeHandle → Tag
tag_of_type_handle (of_type_handle.WellKnown _) = Tag.WellKnown
tag_of_type_handle (of_type_handle.BackReference _) = Tag.BackReference
tag_of_type_handle (of_type_handle.Builtin _) = Tag.TypeHandleBuiltin
tag_of_type_handle (of_type_handle.QualifiedBuiltin _) = Tag.TypeHandleQualifiedBuiltin

abbrev pub parts_of_type_handle : TypeHandle → Core
parts_of_type_handle (of_type_handle.WellKnown a) = tree_of_well_known_component a
parts_of_type_handle (of_type_handle.BackReference a) = ref Which.N a end
parts_of_type_handle (of_type_handle.Builtin a) = tree_of_builtin_type a
parts_of_type_handle (of_type_handle.QualifiedBuiltin a) = tree_of_qualified_builtin a

abbrev pub tree_of_type_handle : TypeHandle → Core
tree_of_type_handle x = node (tag_of_type_handle x) (parts_of_type_handle x) end

abbrev pub tag_of_operator_name : OperatorName → Tag
tag_of_operator_name (of_operator_name.Simple _) = Tag.OperatorNameSimple
tag_of_operator_name (of_operator_name.Cast _) = Tag.OperatorNameCast
tag_of_operator_name (of_operator_name.Conversion _) = Tag.OperatorNameConversion
tag_of_operator_name (of_operator_name.Literal _) = Tag.OperatorNameLiteral
tag_of_operator_name (of_operator_name.VendorExtension _ _) = Tag.OperatorNameVendorExtension

abbrev pub parts_of_operator_name : OperatorName → Core
parts_of_operator_name (of_operator_name.Simple a) = tree_of_simple_operator_name a
parts_of_operator_name (of_operator_name.Cast a) = tree_of_type_handle a
parts_of_operator_name (of_operator_name.Conversion a) = tree_of_type_handle a
parts_of_operator_name (of_operator_name.Literal a) = tree_of_source_name a
parts_of_operator_name (of_operator_name.VendorExtension a b) = number (pos a) (tree_of_source_name b)

abbrev pub tree_of_operator_name : OperatorName → Core
tree_of_operator_name x = node (tag_of_operator_name x) (parts_of_operator_name x) end

abbrev pub tag_of_ctor_dtor_name : CtorDtorName → Tag
tag_of_ctor_dtor_name (of_ctor_dtor_name.CompleteConstructor _) = Tag.CtorDtorNameCompleteConstructor
tag_of_ctor_dtor_name (of_ctor_dtor_name.BaseConstructor _) = Tag.CtorDtorNameBaseConstructor
tag_of_ctor_dtor_name (of_ctor_dtor_name.CompleteAllocatingConstructor _) =
    Tag.CtorDtorNameCompleteAllocatingConstructor
tag_of_ctor_dtor_name (of_ctor_dtor_name.MaybeInChargeConstructor _) = Tag.CtorDtorNameMaybeInChargeConstructor
tag_of_ctor_dtor_name of_ctor_dtor_name.DeletingDestructor = Tag.CtorDtorNameDeletingDestructor
tag_of_ctor_dtor_name of_ctor_dtor_name.CompleteDestructor = Tag.CtorDtorNameCompleteDestructor
tag_of_ctor_dtor_name of_ctor_dtor_name.BaseDestructor = Tag.CtorDtorNameBaseDestructor
tag_of_ctor_dtor_name of_ctor_dtor_name.MaybeInChargeDestructor = Tag.CtorDtorNameMaybeInChargeDestructor

abbrev pub parts_of_ctor_dtor_name : CtorDtorName → Core
parts_of_ctor_dtor_name (of_ctor_dtor_name.CompleteConstructor a) = tree_of_option tree_of_type_handle a
parts_of_ctor_dtor_name (of_ctor_dtor_name.BaseConstructor a) = tree_of_option tree_of_type_handle a
parts_of_ctor_dtor_name (of_ctor_dtor_name.CompleteAllocatingConstructor a) = tree_of_option tree_of_type_handle a
parts_of_ctor_dtor_name (of_ctor_dtor_name.MaybeInChargeConstructor a) = tree_of_option tree_of_type_handle a
parts_of_ctor_dtor_name of_ctor_dtor_name.DeletingDestructor = end
parts_of_ctor_dtor_name of_ctor_dtor_name.CompleteDestructor = end
parts_of_ctor_dtor_name of_ctor_dtor_name.BaseDestructor = end
parts_of_ctor_dtor_name of_ctor_dtor_name.MaybeInChargeDestructor = end

abbrev pub tree_of_ctor_dtor_name : CtorDtorName → Core
tree_of_ctor_dtor_name x = node (tag_of_ctor_dtor_name x) (parts_of_ctor_dtor_name x) end

abbrev pub tag_of_bare_function_type : BareFunctionType → Tag
tag_of_bare_function_type _ = Tag.BareFunctionType

abbrev pub parts_of_bare_function_type : BareFunctionType → Core
parts_of_bare_function_type x = node Tag.Several (trees tag_of_type_handle parts_of_type_handle x.0.items) end

abbrev pub tree_of_bare_function_type : BareFunctionType → Core
tree_of_bare_function_type x = node (tag_of_bare_function_type x) (parts_of_bare_function_type x) end

abbrev pub tag_of_lambda_sig : LambdaSig → Tag
tag_of_lambda_sig _ = Tag.LambdaSig

abbrev pub parts_of_lambda_sig : LambdaSig → Core
parts_of_lambda_sig x = node Tag.Several (trees tag_of_type_handle parts_of_type_handle x.0.items) end

abbrev pub tree_of_lambda_sig : LambdaSig → Core
tree_of_lambda_sig x = node (tag_of_lambda_sig x) (parts_of_lambda_sig x) end

abbrev pub tag_of_closure_type_name : ClosureTypeName → Tag
tag_of_closure_type_name _ = Tag.ClosureTypeName

abbrev pub parts_of_closure_type_name : ClosureTypeName → Core
parts_of_closure_type_name x = tree_of_lambda_sig x.0 ⊕ (tree_of_option tree_of_number x.1)

abbrev pub tree_of_closure_type_name : ClosureTypeName → Core
tree_of_closure_type_name x = node (tag_of_closure_type_name x) (parts_of_closure_type_name x) end

abbrev pub tag_of_pointer_to_member_type : PointerToMemberType → Tag
tag_of_pointer_to_member_type _ = Tag.PointerToMemberType

abbrev pub parts_of_pointer_to_member_type : PointerToMemberType → Core
parts_of_pointer_to_member_type x = tree_of_type_handle x.0 ⊕ (tree_of_type_handle x.1)

abbrev pub tree_of_pointer_to_member_type : PointerToMemberType → Core
tree_of_pointer_to_member_type x = node (tag_of_pointer_to_member_type x) (parts_of_pointer_to_member_type x) end

abbrev pub tag_of_unqualified_name : UnqualifiedName → Tag
tag_of_unqualified_name (of_unqualified_name.Operator _ _) = Tag.UnqualifiedNameOperator
tag_of_unqualified_name (of_unqualified_name.CtorDtor _ _) = Tag.UnqualifiedNameCtorDtor
tag_of_unqualified_name (of_unqualified_name.Source _ _) = Tag.UnqualifiedNameSource
tag_of_unqualified_name (of_unqualified_name.LocalSourceName _ _ _) = Tag.UnqualifiedNameLocalSourceName
tag_of_unqualified_name (of_unqualified_name.UnnamedType _ _) = Tag.UnqualifiedNameUnnamedType
tag_of_unqualified_name (of_unqualified_name.ClosureType _ _) = Tag.UnqualifiedNameClosureType

abbrev pub parts_of_unqualified_name : UnqualifiedName → Core
parts_of_unqualified_name (of_unqualified_name.Operator a b) = tree_of_operator_name a ⊕ (tree_of_abi_tags b)
parts_of_unqualified_name (of_unqualified_name.CtorDtor a b) = tree_of_ctor_dtor_name a ⊕ (tree_of_abi_tags b)
parts_of_unqualified_name (of_unqualified_name.Source a b) = tree_of_source_name a ⊕ (tree_of_abi_tags b)
parts_of_unqualified_name (of_unqualified_name.LocalSourceName a b c) = tree_of_source_name a ⊕
    (tree_of_option tree_of_discriminator b ⊕ (tree_of_abi_tags c))
parts_of_unqualified_name (of_unqualified_name.UnnamedType a b) = tree_of_unnamed_type_name a ⊕ (tree_of_abi_tags b)
parts_of_unqualified_name (of_unqualified_name.ClosureType a b) = tree_of_closure_type_name a ⊕ (tree_of_abi_tags b)

abbrev pub tree_of_unqualified_name : UnqualifiedName → Core
tree_of_unqualified_name x = node (tag_of_unqualified_name x) (parts_of_unqualified_name x) end

abbrev pub tag_of_unscoped_name : UnscopedName → Tag
tag_of_unscoped_name (of_unscoped_name.Unqualified _) = Tag.UnscopedNameUnqualified
tag_of_unscoped_name (of_unscoped_name.Std _) = Tag.UnscopedNameStd

abbrev pub parts_of_unscoped_name : UnscopedName → Core
parts_of_unscoped_name (of_unscoped_name.Unqualified a) = tree_of_unqualified_name a
parts_of_unscoped_name (of_unscoped_name.Std a) = tree_of_unqualified_name a

abbrev pub tree_of_unscoped_name : UnscopedName → Core
tree_of_unscoped_name x = node (tag_of_unscoped_name x) (parts_of_unscoped_name x) end

abbrev pub tag_of_unscoped_template_name : UnscopedTemplateName → Tag
tag_of_unscoped_template_name _ = Tag.UnscopedTemplateName

abbrev pub parts_of_unscoped_template_name : UnscopedTemplateName → Core
parts_of_unscoped_template_name x = tree_of_unscoped_name x.0

abbrev pub tree_of_unscoped_template_name : UnscopedTemplateName → Core
tree_of_unscoped_template_name x = node (tag_of_unscoped_template_name x) (parts_of_unscoped_template_name x) end

abbrev pub tag_of_nested_name : NestedName → Tag
tag_of_nested_name (of_nested_name.Unqualified _ _ _ _) = Tag.NestedNameUnqualified
tag_of_nested_name (of_nested_name.Template _ _ _) = Tag.NestedNameTemplate
tag_of_nested_name (of_nested_name.UnqualifiedExplicitObject _ _ _) = Tag.NestedNameUnqualifiedExplicitObject
tag_of_nested_name (of_nested_name.TemplateExplicitObject _ _) = Tag.NestedNameTemplateExplicitObject

abbrev pub parts_of_nested_name : NestedName → Core
parts_of_nested_name (of_nested_name.Unqualified a b c d) = tree_of_cv_qualifiers a ⊕
    (tree_of_option tree_of_ref_qualifier b ⊕ (tree_of_option tree_of_prefix_handle c ⊕ (tree_of_unqualified_name d)))
parts_of_nested_name (of_nested_name.Template a b c) = tree_of_cv_qualifiers a ⊕
    (tree_of_option tree_of_ref_qualifier b ⊕ (tree_of_prefix_handle c))
parts_of_nested_name (of_nested_name.UnqualifiedExplicitObject a b c) = tree_of_option tree_of_prefix_handle a ⊕
    (tree_of_unqualified_name b ⊕ (tree_of_explicit_object_parameter c))
parts_of_nested_name (of_nested_name.TemplateExplicitObject a b) = tree_of_prefix_handle a ⊕
    (tree_of_explicit_object_parameter b)

abbrev pub tree_of_nested_name : NestedName → Core
tree_of_nested_name x = node (tag_of_nested_name x) (parts_of_nested_name x) end

abbrev pub tree_of_leaf_name : LeafName → Core
tree_of_leaf_name (of_leaf_name.SourceName x) = tree_of_source_name x.now
tree_of_leaf_name (of_leaf_name.WellKnownComponent x) = tree_of_well_known_component x.now
tree_of_leaf_name (of_leaf_name.Closure x) = tree_of_closure_type_name x.now
tree_of_leaf_name (of_leaf_name.UnnamedType x) = tree_of_unnamed_type_name x.now
