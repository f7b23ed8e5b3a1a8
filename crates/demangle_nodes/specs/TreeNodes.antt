-- The trees of the types that hold each other. The parts are one recursion over the constructors that the checker makes
-- of such types, with a row for each list; that they are the trees of the fields is proved beside it, a variant at a
-- time.
use Rattle.std.specs.Prelude.{pos}
use Rattle.std.specs.declared.boxed.Box.{Box}
use Rattle.std.specs.declared.alloc.Global.{Global}
use Rattle.demangle_core.specs.Core.{Tag, Core, end, node, place, number, mark, ◌⊕◌, trees}
use Rattle.demangle_nodes.specs.declared.nodes.MangledName.{MangledName}
use Rattle.demangle_nodes.specs.declared.nodes.MangledName.TheVariants as of_mangled_name
use Rattle.demangle_nodes.specs.declared.nodes.Encoding.{Encoding}
use Rattle.demangle_nodes.specs.declared.nodes.Encoding.TheVariants as of_encoding
use Rattle.demangle_nodes.specs.declared.nodes.GlobalCtorDtor.{GlobalCtorDtor}
use Rattle.demangle_nodes.specs.declared.nodes.GlobalCtorDtor.TheVariants as of_global_ctor_dtor
use Rattle.demangle_nodes.specs.declared.nodes.Name.{Name}
use Rattle.demangle_nodes.specs.declared.nodes.Name.TheVariants as of_name
use Rattle.demangle_nodes.specs.declared.nodes.TemplateArgs.{TemplateArgs}
use Rattle.demangle_nodes.specs.declared.nodes.TemplateArg.{TemplateArg}
use Rattle.demangle_nodes.specs.declared.nodes.TemplateArg.TheVariants as of_template_arg
use Rattle.demangle_nodes.specs.declared.nodes.MemberName.{MemberName}
use Rattle.demangle_nodes.specs.declared.nodes.Initializer.{Initializer}
use Rattle.demangle_nodes.specs.declared.nodes.Expression.{Expression}
use Rattle.demangle_nodes.specs.declared.nodes.Expression.TheVariants as of_expression
use Rattle.demangle_nodes.specs.declared.nodes.UnresolvedName.{UnresolvedName}
use Rattle.demangle_nodes.specs.declared.nodes.UnresolvedName.TheVariants as of_unresolved_name
use Rattle.demangle_nodes.specs.declared.nodes.UnresolvedQualifierLevel.{UnresolvedQualifierLevel}
use Rattle.demangle_nodes.specs.declared.nodes.SimpleId.{SimpleId}
use Rattle.demangle_nodes.specs.declared.nodes.BaseUnresolvedName.{BaseUnresolvedName}
use Rattle.demangle_nodes.specs.declared.nodes.BaseUnresolvedName.TheVariants as of_base_unresolved_name
use Rattle.demangle_nodes.specs.declared.nodes.DestructorName.{DestructorName}
use Rattle.demangle_nodes.specs.declared.nodes.DestructorName.TheVariants as of_destructor_name
use Rattle.demangle_nodes.specs.declared.nodes.ExprPrimary.{ExprPrimary}
use Rattle.demangle_nodes.specs.declared.nodes.ExprPrimary.TheVariants as of_expr_primary
use Rattle.demangle_nodes.specs.declared.nodes.LocalName.{LocalName}
use Rattle.demangle_nodes.specs.declared.nodes.LocalName.TheVariants as of_local_name
use Rattle.demangle_nodes.specs.declared.nodes.SpecialName.{SpecialName}
use Rattle.demangle_nodes.specs.declared.nodes.SpecialName.TheVariants as of_special_name
use Rattle.demangle_nodes.specs.declared.nodes.SubobjectExpr.{SubobjectExpr}
use Rattle.demangle_nodes.specs.declared.nodes.FoldExpr.{FoldExpr}
use Rattle.demangle_nodes.specs.declared.nodes.FoldExpr.TheVariants as of_fold_expr
use Rattle.demangle_nodes.specs.declared.nodes.SimpleId.{SimpleId'}
use Rattle.demangle_nodes.specs.declared.nodes.UnresolvedQualifierLevel.{UnresolvedQualifierLevel'}
use Rattle.demangle_nodes.specs.declared.nodes.TemplateArgs.{Row_of-TemplateArg, end_of-TemplateArg}
use Rattle.demangle_nodes.specs.declared.nodes.TemplateArgs.{more_of-TemplateArg}
use Rattle.demangle_nodes.specs.declared.nodes.Initializer.{Row_of-Expression, end_of-Expression, more_of-Expression}
use Rattle.demangle_nodes.specs.declared.nodes.UnresolvedName.{Row_of-UnresolvedQualifierLevel}
use Rattle.demangle_nodes.specs.declared.nodes.UnresolvedName.{end_of-UnresolvedQualifierLevel}
use Rattle.demangle_nodes.specs.declared.nodes.UnresolvedName.{more_of-UnresolvedQualifierLevel}
use Rattle.demangle_nodes.specs.declared.nodes.Expression.{Held-Expression-New-2, Expression-New-2-None'}
use Rattle.demangle_nodes.specs.declared.nodes.Expression.{Expression-New-2-Some'}
use Rattle.demangle_nodes.specs.declared.nodes.BaseUnresolvedName.{Held-BaseUnresolvedName-Operator-1}
use Rattle.demangle_nodes.specs.declared.nodes.BaseUnresolvedName.{BaseUnresolvedName-Operator-1-None'}
use Rattle.demangle_nodes.specs.declared.nodes.BaseUnresolvedName.{BaseUnresolvedName-Operator-1-Some'}
use Rattle.demangle_nodes.specs.declared.nodes.LocalName.{Held-LocalName-Relative-1, LocalName-Relative-1-None'}
use Rattle.demangle_nodes.specs.declared.nodes.LocalName.{LocalName-Relative-1-Some'}
use Rattle.demangle_leaf_nodes.specs.TreeLeaves.{tree_of_option, tree_of_signed, tree_of_simple_operator_name}
use Rattle.demangle_leaf_nodes.specs.TreeLeaves.{tree_of_template_param, tree_of_discriminator, tag_of_resource_name}
use Rattle.demangle_leaf_nodes.specs.TreeLeaves.{parts_of_resource_name, tree_of_source_name, tag_of_clone_suffix}
use Rattle.demangle_leaf_nodes.specs.TreeLeaves.{parts_of_clone_suffix, tree_of_call_offset, tree_of_function_param}
use Rattle.demangle_leaf_nodes.specs.TreeLeaves.{tree_of_unscoped_template_name_handle, tree_of_unresolved_type_handle}
use Rattle.demangle_leaf_nodes.specs.TreeLeaves.{tree_of_type_handle, tree_of_operator_name, tree_of_bare_function_type}
use Rattle.demangle_leaf_nodes.specs.TreeLeaves.{tree_of_unscoped_name, tree_of_nested_name}

abbrev pub tag_of_mangled_name : MangledName → Tag
tag_of_mangled_name (of_mangled_name.Encoding _ _) = Tag.MangledNameEncoding
tag_of_mangled_name (of_mangled_name.BlockInvoke _ _) = Tag.MangledNameBlockInvoke
tag_of_mangled_name (of_mangled_name.TopLevelType _) = Tag.MangledNameTopLevelType
tag_of_mangled_name (of_mangled_name.GlobalCtorDtor _) = Tag.MangledNameGlobalCtorDtor

abbrev pub tag_of_encoding : Encoding → Tag
tag_of_encoding (of_encoding.Function _ _) = Tag.EncodingFunction
tag_of_encoding (of_encoding.Data _) = Tag.EncodingData
tag_of_encoding (of_encoding.Special' _ _) = Tag.EncodingSpecial

abbrev pub tag_of_global_ctor_dtor : GlobalCtorDtor → Tag
tag_of_global_ctor_dtor (of_global_ctor_dtor.Ctor' _ _) = Tag.GlobalCtorDtorCtor
tag_of_global_ctor_dtor (of_global_ctor_dtor.Dtor' _ _) = Tag.GlobalCtorDtorDtor

abbrev pub tag_of_name : Name → Tag
tag_of_name (of_name.Nested _) = Tag.NameNested
tag_of_name (of_name.Unscoped _) = Tag.NameUnscoped
tag_of_name (of_name.UnscopedTemplate' _ _ _ _) = Tag.NameUnscopedTemplate
tag_of_name (of_name.Local _) = Tag.NameLocal

abbrev pub tag_of_template_arg : TemplateArg → Tag
tag_of_template_arg (of_template_arg.TypeArg _) = Tag.TemplateArgTypeArg
tag_of_template_arg (of_template_arg.Expression _) = Tag.TemplateArgExpression
tag_of_template_arg (of_template_arg.SimpleExpression _) = Tag.TemplateArgSimpleExpression
tag_of_template_arg (of_template_arg.ArgPack' _ _) = Tag.TemplateArgArgPack

abbrev pub tag_of_expression : Expression → Tag
tag_of_expression (of_expression.Unary' _ _ _) = Tag.ExpressionUnary
tag_of_expression (of_expression.Binary' _ _ _ _ _) = Tag.ExpressionBinary
tag_of_expression (of_expression.Ternary' _ _ _ _ _ _ _) = Tag.ExpressionTernary
tag_of_expression (of_expression.PrefixInc' _ _) = Tag.ExpressionPrefixInc
tag_of_expression (of_expression.PrefixDec' _ _) = Tag.ExpressionPrefixDec
tag_of_expression (of_expression.Call' _ _ _ _) = Tag.ExpressionCall
tag_of_expression (of_expression.ConversionOne' _ _ _) = Tag.ExpressionConversionOne
tag_of_expression (of_expression.ConversionMany' _ _ _) = Tag.ExpressionConversionMany
tag_of_expression (of_expression.ConversionBraced' _ _ _) = Tag.ExpressionConversionBraced
tag_of_expression (of_expression.BracedInitList' _ _) = Tag.ExpressionBracedInitList
tag_of_expression (of_expression.New' _ _ _ _) = Tag.ExpressionNew
tag_of_expression (of_expression.GlobalNew' _ _ _ _) = Tag.ExpressionGlobalNew
tag_of_expression (of_expression.NewArray' _ _ _ _) = Tag.ExpressionNewArray
tag_of_expression (of_expression.GlobalNewArray' _ _ _ _) = Tag.ExpressionGlobalNewArray
tag_of_expression (of_expression.Delete' _ _) = Tag.ExpressionDelete
tag_of_expression (of_expression.GlobalDelete' _ _) = Tag.ExpressionGlobalDelete
tag_of_expression (of_expression.DeleteArray' _ _) = Tag.ExpressionDeleteArray
tag_of_expression (of_expression.GlobalDeleteArray' _ _) = Tag.ExpressionGlobalDeleteArray
tag_of_expression (of_expression.DynamicCast' _ _ _) = Tag.ExpressionDynamicCast
tag_of_expression (of_expression.StaticCast' _ _ _) = Tag.ExpressionStaticCast
tag_of_expression (of_expression.ConstCast' _ _ _) = Tag.ExpressionConstCast
tag_of_expression (of_expression.ReinterpretCast' _ _ _) = Tag.ExpressionReinterpretCast
tag_of_expression (of_expression.TypeidType _) = Tag.ExpressionTypeidType
tag_of_expression (of_expression.TypeidExpr' _ _) = Tag.ExpressionTypeidExpr
tag_of_expression (of_expression.SizeofType _) = Tag.ExpressionSizeofType
tag_of_expression (of_expression.SizeofExpr' _ _) = Tag.ExpressionSizeofExpr
tag_of_expression (of_expression.AlignofType _) = Tag.ExpressionAlignofType
tag_of_expression (of_expression.AlignofExpr' _ _) = Tag.ExpressionAlignofExpr
tag_of_expression (of_expression.Noexcept' _ _) = Tag.ExpressionNoexcept
tag_of_expression (of_expression.Subobject' _ _ _ _) = Tag.ExpressionSubobject
tag_of_expression (of_expression.TemplateParam _) = Tag.ExpressionTemplateParam
tag_of_expression (of_expression.FunctionParam _) = Tag.ExpressionFunctionParam
tag_of_expression (of_expression.Member' _ _ _ _) = Tag.ExpressionMember
tag_of_expression (of_expression.DerefMember' _ _ _ _) = Tag.ExpressionDerefMember
tag_of_expression (of_expression.PointerToMember' _ _ _ _) = Tag.ExpressionPointerToMember
tag_of_expression (of_expression.SizeofTemplatePack _) = Tag.ExpressionSizeofTemplatePack
tag_of_expression (of_expression.SizeofFunctionPack _) = Tag.ExpressionSizeofFunctionPack
tag_of_expression (of_expression.SizeofCapturedTemplatePack' _ _) = Tag.ExpressionSizeofCapturedTemplatePack
tag_of_expression (of_expression.PackExpansion' _ _) = Tag.ExpressionPackExpansion
tag_of_expression (of_expression.Fold _) = Tag.ExpressionFold
tag_of_expression (of_expression.Throw' _ _) = Tag.ExpressionThrow
tag_of_expression of_expression.Rethrow = Tag.ExpressionRethrow
tag_of_expression (of_expression.UnresolvedName _) = Tag.ExpressionUnresolvedName
tag_of_expression (of_expression.Primary _) = Tag.ExpressionPrimary

abbrev pub tag_of_unresolved_name : UnresolvedName → Tag
tag_of_unresolved_name (of_unresolved_name.Name _) = Tag.UnresolvedNameName
tag_of_unresolved_name (of_unresolved_name.Global _) = Tag.UnresolvedNameGlobal
tag_of_unresolved_name (of_unresolved_name.Nested1' _ _ _ _) = Tag.UnresolvedNameNested1
tag_of_unresolved_name (of_unresolved_name.Nested2' _ _ _) = Tag.UnresolvedNameNested2
tag_of_unresolved_name (of_unresolved_name.GlobalNested2' _ _ _) = Tag.UnresolvedNameGlobalNested2

abbrev pub tag_of_unresolved_qualifier_level : UnresolvedQualifierLevel → Tag
tag_of_unresolved_qualifier_level _ = Tag.UnresolvedQualifierLevel

abbrev pub tag_of_simple_id : SimpleId → Tag
tag_of_simple_id _ = Tag.SimpleId

abbrev pub tag_of_base_unresolved_name : BaseUnresolvedName → Tag
tag_of_base_unresolved_name (of_base_unresolved_name.Name _) = Tag.BaseUnresolvedNameName
tag_of_base_unresolved_name (of_base_unresolved_name.Operator' _ _) = Tag.BaseUnresolvedNameOperator
tag_of_base_unresolved_name (of_base_unresolved_name.Destructor _) = Tag.BaseUnresolvedNameDestructor

abbrev pub tag_of_destructor_name : DestructorName → Tag
tag_of_destructor_name (of_destructor_name.Unresolved _) = Tag.DestructorNameUnresolved
tag_of_destructor_name (of_destructor_name.Name _) = Tag.DestructorNameName

abbrev pub tag_of_expr_primary : ExprPrimary → Tag
tag_of_expr_primary (of_expr_primary.Literal _ _ _) = Tag.ExprPrimaryLiteral
tag_of_expr_primary (of_expr_primary.External' _ _) = Tag.ExprPrimaryExternal

abbrev pub tag_of_local_name : LocalName → Tag
tag_of_local_name (of_local_name.Relative' _ _ _ _) = Tag.LocalNameRelative
tag_of_local_name (of_local_name.Default' _ _ _ _ _) = Tag.LocalNameDefault

abbrev pub tag_of_special_name : SpecialName → Tag
tag_of_special_name (of_special_name.VirtualTable _) = Tag.SpecialNameVirtualTable
tag_of_special_name (of_special_name.Vtt _) = Tag.SpecialNameVtt
tag_of_special_name (of_special_name.Typeinfo _) = Tag.SpecialNameTypeinfo
tag_of_special_name (of_special_name.TypeinfoName _) = Tag.SpecialNameTypeinfoName
tag_of_special_name (of_special_name.VirtualOverrideThunk' _ _ _) = Tag.SpecialNameVirtualOverrideThunk
tag_of_special_name (of_special_name.VirtualOverrideThunkCovariant' _ _ _ _) =
    Tag.SpecialNameVirtualOverrideThunkCovariant
tag_of_special_name (of_special_name.Guard _) = Tag.SpecialNameGuard
tag_of_special_name (of_special_name.GuardTemporary _ _) = Tag.SpecialNameGuardTemporary
tag_of_special_name (of_special_name.ConstructionVtable _ _ _) = Tag.SpecialNameConstructionVtable
tag_of_special_name (of_special_name.TypeinfoFunction _) = Tag.SpecialNameTypeinfoFunction
tag_of_special_name (of_special_name.TlsInit _) = Tag.SpecialNameTlsInit
tag_of_special_name (of_special_name.TlsWrapper _) = Tag.SpecialNameTlsWrapper
tag_of_special_name (of_special_name.JavaResource _) = Tag.SpecialNameJavaResource
tag_of_special_name (of_special_name.TransactionClone' _ _) = Tag.SpecialNameTransactionClone
tag_of_special_name (of_special_name.NonTransactionClone' _ _) = Tag.SpecialNameNonTransactionClone

abbrev pub tag_of_fold_expr : FoldExpr → Tag
tag_of_fold_expr (of_fold_expr.UnaryLeft' _ _ _) = Tag.FoldExprUnaryLeft
tag_of_fold_expr (of_fold_expr.UnaryRight' _ _ _) = Tag.FoldExprUnaryRight
tag_of_fold_expr (of_fold_expr.BinaryLeft' _ _ _ _ _) = Tag.FoldExprBinaryLeft
tag_of_fold_expr (of_fold_expr.BinaryRight' _ _ _ _ _) = Tag.FoldExprBinaryRight

abbrev pub tag_of_held_initializer : Held-Expression-New-2 → Tag
tag_of_held_initializer Expression-New-2-None' = Tag.Absent
tag_of_held_initializer (Expression-New-2-Some' _ _) = Tag.Present

abbrev pub tag_of_held_template_args : Held-BaseUnresolvedName-Operator-1 → Tag
tag_of_held_template_args BaseUnresolvedName-Operator-1-None' = Tag.Absent
tag_of_held_template_args (BaseUnresolvedName-Operator-1-Some' _ _ _) = Tag.Present

abbrev pub tag_of_held_name : Held-LocalName-Relative-1 → Tag
tag_of_held_name LocalName-Relative-1-None' = Tag.Absent
tag_of_held_name (LocalName-Relative-1-Some' _ _) = Tag.Present

unfoldable mutual
  pub parts_of_mangled_name : MangledName → Core
  parts_of_mangled_name (of_mangled_name.Encoding a b) = node (tag_of_encoding a) (parts_of_encoding a)
      (node Tag.Several (trees tag_of_clone_suffix parts_of_clone_suffix b.items) end)
  parts_of_mangled_name (of_mangled_name.BlockInvoke a b) = node (tag_of_encoding a) (parts_of_encoding a)
      (tree_of_option tree_of_signed b)
  parts_of_mangled_name (of_mangled_name.TopLevelType a) = tree_of_type_handle a
  parts_of_mangled_name (of_mangled_name.GlobalCtorDtor a) = node (tag_of_global_ctor_dtor a)
      (parts_of_global_ctor_dtor a) end

  pub parts_of_encoding : Encoding → Core
  parts_of_encoding (of_encoding.Function a b) = node (tag_of_name a) (parts_of_name a) (tree_of_bare_function_type b)
  parts_of_encoding (of_encoding.Data a) = node (tag_of_name a) (parts_of_name a) end
  parts_of_encoding (of_encoding.Special' _ a) = node (tag_of_special_name a) (parts_of_special_name a) end

  pub parts_of_global_ctor_dtor : GlobalCtorDtor → Core
  parts_of_global_ctor_dtor (of_global_ctor_dtor.Ctor' _ a) = node (tag_of_mangled_name a) (parts_of_mangled_name a) end
  parts_of_global_ctor_dtor (of_global_ctor_dtor.Dtor' _ a) = node (tag_of_mangled_name a) (parts_of_mangled_name a) end

  pub parts_of_name : Name → Core
  parts_of_name (of_name.Nested a) = tree_of_nested_name a
  parts_of_name (of_name.Unscoped a) = tree_of_unscoped_name a
  parts_of_name (of_name.UnscopedTemplate' a _ b0 b1) = tree_of_unscoped_template_name_handle a ⊕
      (node Tag.TemplateArgs (mark b1 (node Tag.Several (row_of_template_arg b0) end)) end)
  parts_of_name (of_name.Local a) = node (tag_of_local_name a) (parts_of_local_name a) end

  pub parts_of_template_arg : TemplateArg → Core
  parts_of_template_arg (of_template_arg.TypeArg a) = tree_of_type_handle a
  parts_of_template_arg (of_template_arg.Expression a) = node (tag_of_expression a) (parts_of_expression a) end
  parts_of_template_arg (of_template_arg.SimpleExpression a) = node (tag_of_expr_primary a)
      (parts_of_expr_primary a) end
  parts_of_template_arg (of_template_arg.ArgPack' _ a) = node Tag.Several (row_of_template_arg a) end

  pub parts_of_expression : Expression → Core
  parts_of_expression (of_expression.Unary' a _ b) = tree_of_operator_name a ⊕ (node (tag_of_expression b)
      (parts_of_expression b) end)
  parts_of_expression (of_expression.Binary' a _ b _ c) = tree_of_operator_name a ⊕ (node (tag_of_expression b)
      (parts_of_expression b) (node (tag_of_expression c) (parts_of_expression c) end))
  parts_of_expression (of_expression.Ternary' a _ b _ c _ d) = tree_of_operator_name a ⊕ (node (tag_of_expression b)
      (parts_of_expression b) (node (tag_of_expression c) (parts_of_expression c) (node (tag_of_expression d)
      (parts_of_expression d) end)))
  parts_of_expression (of_expression.PrefixInc' _ a) = node (tag_of_expression a) (parts_of_expression a) end
  parts_of_expression (of_expression.PrefixDec' _ a) = node (tag_of_expression a) (parts_of_expression a) end
  parts_of_expression (of_expression.Call' _ a _ b) = node (tag_of_expression a) (parts_of_expression a)
      (node Tag.Several (row_of_expression b) end)
  parts_of_expression (of_expression.ConversionOne' a _ b) = tree_of_type_handle a ⊕ (node (tag_of_expression b)
      (parts_of_expression b) end)
  parts_of_expression (of_expression.ConversionMany' a _ b) = tree_of_type_handle a ⊕ (node Tag.Several
      (row_of_expression b) end)
  parts_of_expression (of_expression.ConversionBraced' a _ b) = tree_of_type_handle a ⊕ (node Tag.Several
      (row_of_expression b) end)
  parts_of_expression (of_expression.BracedInitList' _ a) = node Tag.Several (row_of_expression a) end
  parts_of_expression (of_expression.New' _ a b c) = node Tag.Several (row_of_expression a) (tree_of_type_handle b ⊕
      (node (tag_of_held_initializer c) (parts_of_held_initializer c) end))
  parts_of_expression (of_expression.GlobalNew' _ a b c) = node Tag.Several (row_of_expression a)
      (tree_of_type_handle b ⊕ (node (tag_of_held_initializer c) (parts_of_held_initializer c) end))
  parts_of_expression (of_expression.NewArray' _ a b c) = node Tag.Several (row_of_expression a)
      (tree_of_type_handle b ⊕ (node (tag_of_held_initializer c) (parts_of_held_initializer c) end))
  parts_of_expression (of_expression.GlobalNewArray' _ a b c) = node Tag.Several (row_of_expression a)
      (tree_of_type_handle b ⊕ (node (tag_of_held_initializer c) (parts_of_held_initializer c) end))
  parts_of_expression (of_expression.Delete' _ a) = node (tag_of_expression a) (parts_of_expression a) end
  parts_of_expression (of_expression.GlobalDelete' _ a) = node (tag_of_expression a) (parts_of_expression a) end
  parts_of_expression (of_expression.DeleteArray' _ a) = node (tag_of_expression a) (parts_of_expression a) end
  parts_of_expression (of_expression.GlobalDeleteArray' _ a) = node (tag_of_expression a) (parts_of_expression a) end
  parts_of_expression (of_expression.DynamicCast' a _ b) = tree_of_type_handle a ⊕ (node (tag_of_expression b)
      (parts_of_expression b) end)
  parts_of_expression (of_expression.StaticCast' a _ b) = tree_of_type_handle a ⊕ (node (tag_of_expression b)
      (parts_of_expression b) end)
  parts_of_expression (of_expression.ConstCast' a _ b) = tree_of_type_handle a ⊕ (node (tag_of_expression b)
      (parts_of_expression b) end)
  parts_of_expression (of_expression.ReinterpretCast' a _ b) = tree_of_type_handle a ⊕ (node (tag_of_expression b)
      (parts_of_expression b) end)
  parts_of_expression (of_expression.TypeidType a) = tree_of_type_handle a
  parts_of_expression (of_expression.TypeidExpr' _ a) = node (tag_of_expression a) (parts_of_expression a) end
  parts_of_expression (of_expression.SizeofType a) = tree_of_type_handle a
  parts_of_expression (of_expression.SizeofExpr' _ a) = node (tag_of_expression a) (parts_of_expression a) end
  parts_of_expression (of_expression.AlignofType a) = tree_of_type_handle a
  parts_of_expression (of_expression.AlignofExpr' _ a) = node (tag_of_expression a) (parts_of_expression a) end
  parts_of_expression (of_expression.Noexcept' _ a) = node (tag_of_expression a) (parts_of_expression a) end
  parts_of_expression (of_expression.Subobject' a0 _ a1 a2) = node Tag.SubobjectExpr (tree_of_type_handle a0 ⊕ (node
      (tag_of_expression a1) (parts_of_expression a1) (number a2 end))) end
  parts_of_expression (of_expression.TemplateParam a) = tree_of_template_param a
  parts_of_expression (of_expression.FunctionParam a) = tree_of_function_param a
  parts_of_expression (of_expression.Member' _ a _ b0) = node (tag_of_expression a) (parts_of_expression a)
      (node Tag.MemberName (node (tag_of_name b0) (parts_of_name b0) end) end)
  parts_of_expression (of_expression.DerefMember' _ a _ b0) = node (tag_of_expression a) (parts_of_expression a)
      (node Tag.MemberName (node (tag_of_name b0) (parts_of_name b0) end) end)
  parts_of_expression (of_expression.PointerToMember' _ a _ b) = node (tag_of_expression a) (parts_of_expression a)
      (node (tag_of_expression b) (parts_of_expression b) end)
  parts_of_expression (of_expression.SizeofTemplatePack a) = tree_of_template_param a
  parts_of_expression (of_expression.SizeofFunctionPack a) = tree_of_function_param a
  parts_of_expression (of_expression.SizeofCapturedTemplatePack' _ a) = node Tag.Several (row_of_template_arg a) end
  parts_of_expression (of_expression.PackExpansion' _ a) = node (tag_of_expression a) (parts_of_expression a) end
  parts_of_expression (of_expression.Fold a) = node (tag_of_fold_expr a) (parts_of_fold_expr a) end
  parts_of_expression (of_expression.Throw' _ a) = node (tag_of_expression a) (parts_of_expression a) end
  parts_of_expression of_expression.Rethrow = end
  parts_of_expression (of_expression.UnresolvedName a) = node (tag_of_unresolved_name a)
      (parts_of_unresolved_name a) end
  parts_of_expression (of_expression.Primary a) = node (tag_of_expr_primary a) (parts_of_expr_primary a) end

  pub parts_of_unresolved_name : UnresolvedName → Core
  parts_of_unresolved_name (of_unresolved_name.Name a) = node (tag_of_base_unresolved_name a)
      (parts_of_base_unresolved_name a) end
  parts_of_unresolved_name (of_unresolved_name.Global a) = node (tag_of_base_unresolved_name a)
      (parts_of_base_unresolved_name a) end
  parts_of_unresolved_name (of_unresolved_name.Nested1' a _ b c) = tree_of_unresolved_type_handle a ⊕
      (node Tag.Several (row_of_unresolved_qualifier_level b) (node (tag_of_base_unresolved_name c)
      (parts_of_base_unresolved_name c) end))
  parts_of_unresolved_name (of_unresolved_name.Nested2' _ a b) = node Tag.Several
      (row_of_unresolved_qualifier_level a) (node (tag_of_base_unresolved_name b) (parts_of_base_unresolved_name b) end)
  parts_of_unresolved_name (of_unresolved_name.GlobalNested2' _ a b) = node Tag.Several
      (row_of_unresolved_qualifier_level a) (node (tag_of_base_unresolved_name b) (parts_of_base_unresolved_name b) end)

  pub parts_of_unresolved_qualifier_level : UnresolvedQualifierLevel → Core
  parts_of_unresolved_qualifier_level (UnresolvedQualifierLevel' a) = node (tag_of_simple_id a)
      (parts_of_simple_id a) end

  pub parts_of_simple_id : SimpleId → Core
  parts_of_simple_id (SimpleId' a b) = tree_of_source_name a ⊕ (node (tag_of_held_template_args b)
      (parts_of_held_template_args b) end)

  pub parts_of_base_unresolved_name : BaseUnresolvedName → Core
  parts_of_base_unresolved_name (of_base_unresolved_name.Name a) = node (tag_of_simple_id a) (parts_of_simple_id a) end
  parts_of_base_unresolved_name (of_base_unresolved_name.Operator' a b) = tree_of_operator_name a ⊕ (node
      (tag_of_held_template_args b) (parts_of_held_template_args b) end)
  parts_of_base_unresolved_name (of_base_unresolved_name.Destructor a) = node (tag_of_destructor_name a)
      (parts_of_destructor_name a) end

  pub parts_of_destructor_name : DestructorName → Core
  parts_of_destructor_name (of_destructor_name.Unresolved a) = tree_of_unresolved_type_handle a
  parts_of_destructor_name (of_destructor_name.Name a) = node (tag_of_simple_id a) (parts_of_simple_id a) end

  pub parts_of_expr_primary : ExprPrimary → Core
  parts_of_expr_primary (of_expr_primary.Literal a b c) = tree_of_type_handle a ⊕ (place b c end)
  parts_of_expr_primary (of_expr_primary.External' _ a) = node (tag_of_mangled_name a) (parts_of_mangled_name a) end

  pub parts_of_local_name : LocalName → Core
  parts_of_local_name (of_local_name.Relative' _ a b c) = node (tag_of_encoding a) (parts_of_encoding a) (node
      (tag_of_held_name b) (parts_of_held_name b) (tree_of_option tree_of_discriminator c))
  parts_of_local_name (of_local_name.Default' _ a b _ c) = node (tag_of_encoding a) (parts_of_encoding a)
      (tree_of_option tree_of_signed b ⊕ (node (tag_of_name c) (parts_of_name c) end))

  pub parts_of_special_name : SpecialName → Core
  parts_of_special_name (of_special_name.VirtualTable a) = tree_of_type_handle a
  parts_of_special_name (of_special_name.Vtt a) = tree_of_type_handle a
  parts_of_special_name (of_special_name.Typeinfo a) = tree_of_type_handle a
  parts_of_special_name (of_special_name.TypeinfoName a) = tree_of_type_handle a
  parts_of_special_name (of_special_name.VirtualOverrideThunk' a _ b) = tree_of_call_offset a ⊕ (node
      (tag_of_encoding b) (parts_of_encoding b) end)
  parts_of_special_name (of_special_name.VirtualOverrideThunkCovariant' a b _ c) = tree_of_call_offset a ⊕
      (tree_of_call_offset b ⊕ (node (tag_of_encoding c) (parts_of_encoding c) end))
  parts_of_special_name (of_special_name.Guard a) = node (tag_of_name a) (parts_of_name a) end
  parts_of_special_name (of_special_name.GuardTemporary a b) = node (tag_of_name a) (parts_of_name a) (number
      (pos b) end)
  parts_of_special_name (of_special_name.ConstructionVtable a b c) = tree_of_type_handle a ⊕ (number (pos b)
      (tree_of_type_handle c))
  parts_of_special_name (of_special_name.TypeinfoFunction a) = tree_of_type_handle a
  parts_of_special_name (of_special_name.TlsInit a) = node (tag_of_name a) (parts_of_name a) end
  parts_of_special_name (of_special_name.TlsWrapper a) = node (tag_of_name a) (parts_of_name a) end
  parts_of_special_name (of_special_name.JavaResource a) = node Tag.Several
      (trees tag_of_resource_name parts_of_resource_name a.items) end
  parts_of_special_name (of_special_name.TransactionClone' _ a) = node (tag_of_encoding a) (parts_of_encoding a) end
  parts_of_special_name (of_special_name.NonTransactionClone' _ a) = node (tag_of_encoding a) (parts_of_encoding a) end

  pub parts_of_fold_expr : FoldExpr → Core
  parts_of_fold_expr (of_fold_expr.UnaryLeft' a _ b) = tree_of_simple_operator_name a ⊕ (node (tag_of_expression b)
      (parts_of_expression b) end)
  parts_of_fold_expr (of_fold_expr.UnaryRight' a _ b) = tree_of_simple_operator_name a ⊕ (node (tag_of_expression b)
      (parts_of_expression b) end)
  parts_of_fold_expr (of_fold_expr.BinaryLeft' a _ b _ c) = tree_of_simple_operator_name a ⊕ (node
      (tag_of_expression b) (parts_of_expression b) (node (tag_of_expression c) (parts_of_expression c) end))
  parts_of_fold_expr (of_fold_expr.BinaryRight' a _ b _ c) = tree_of_simple_operator_name a ⊕ (node
      (tag_of_expression b) (parts_of_expression b) (node (tag_of_expression c) (parts_of_expression c) end))

  pub row_of_expression : {n : _} → Row_of-Expression n → Core
  row_of_expression end_of-Expression = end
  row_of_expression (more_of-Expression a rest) = node (tag_of_expression a) (parts_of_expression a)
      (row_of_expression rest)

  pub row_of_template_arg : {n : _} → Row_of-TemplateArg n → Core
  row_of_template_arg end_of-TemplateArg = end
  row_of_template_arg (more_of-TemplateArg a rest) = node (tag_of_template_arg a) (parts_of_template_arg a)
      (row_of_template_arg rest)

  pub row_of_unresolved_qualifier_level : {n : _} → Row_of-UnresolvedQualifierLevel n → Core
  row_of_unresolved_qualifier_level end_of-UnresolvedQualifierLevel = end
  row_of_unresolved_qualifier_level (more_of-UnresolvedQualifierLevel a rest) = node
      (tag_of_unresolved_qualifier_level a) (parts_of_unresolved_qualifier_level a)
      (row_of_unresolved_qualifier_level rest)

  pub parts_of_held_initializer : Held-Expression-New-2 → Core
  parts_of_held_initializer Expression-New-2-None' = end
  parts_of_held_initializer (Expression-New-2-Some' _ a0) = node Tag.Initializer (node Tag.Several
      (row_of_expression a0) end) end

  pub parts_of_held_template_args : Held-BaseUnresolvedName-Operator-1 → Core
  parts_of_held_template_args BaseUnresolvedName-Operator-1-None' = end
  parts_of_held_template_args (BaseUnresolvedName-Operator-1-Some' _ a0 a1) = node Tag.TemplateArgs (mark a1
      (node Tag.Several (row_of_template_arg a0) end)) end

  pub parts_of_held_name : Held-LocalName-Relative-1 → Core
  parts_of_held_name LocalName-Relative-1-None' = end
  parts_of_held_name (LocalName-Relative-1-Some' _ a) = node (tag_of_name a) (parts_of_name a) end

abbrev pub tree_of_mangled_name : MangledName → Core
tree_of_mangled_name x = node (tag_of_mangled_name x) (parts_of_mangled_name x) end

abbrev pub tree_of_encoding : Encoding → Core
tree_of_encoding x = node (tag_of_encoding x) (parts_of_encoding x) end

abbrev pub tree_of_global_ctor_dtor : GlobalCtorDtor → Core
tree_of_global_ctor_dtor x = node (tag_of_global_ctor_dtor x) (parts_of_global_ctor_dtor x) end

abbrev pub tree_of_name : Name → Core
tree_of_name x = node (tag_of_name x) (parts_of_name x) end

abbrev pub tag_of_template_args : TemplateArgs → Tag
tag_of_template_args _ = Tag.TemplateArgs

abbrev pub parts_of_template_args : TemplateArgs → Core
parts_of_template_args x = mark x.1 (node Tag.Several (trees tag_of_template_arg parts_of_template_arg x.0.items) end)

abbrev pub tree_of_template_args : TemplateArgs → Core
tree_of_template_args x = node (tag_of_template_args x) (parts_of_template_args x) end

abbrev pub tree_of_template_arg : TemplateArg → Core
tree_of_template_arg x = node (tag_of_template_arg x) (parts_of_template_arg x) end

abbrev pub tag_of_member_name : MemberName → Tag
tag_of_member_name _ = Tag.MemberName

abbrev pub parts_of_member_name : MemberName → Core
parts_of_member_name x = node (tag_of_name x.0.value) (parts_of_name x.0.value) end

abbrev pub tree_of_member_name : MemberName → Core
tree_of_member_name x = node (tag_of_member_name x) (parts_of_member_name x) end

abbrev pub tag_of_initializer : Initializer → Tag
tag_of_initializer _ = Tag.Initializer

abbrev pub parts_of_initializer : Initializer → Core
parts_of_initializer x = node Tag.Several (trees tag_of_expression parts_of_expression x.0.items) end

abbrev pub tree_of_initializer : Initializer → Core
tree_of_initializer x = node (tag_of_initializer x) (parts_of_initializer x) end

abbrev pub tree_of_expression : Expression → Core
tree_of_expression x = node (tag_of_expression x) (parts_of_expression x) end

abbrev pub tree_of_unresolved_name : UnresolvedName → Core
tree_of_unresolved_name x = node (tag_of_unresolved_name x) (parts_of_unresolved_name x) end

abbrev pub tree_of_unresolved_qualifier_level : UnresolvedQualifierLevel → Core
tree_of_unresolved_qualifier_level x = node (tag_of_unresolved_qualifier_level x)
    (parts_of_unresolved_qualifier_level x) end

abbrev pub tree_of_simple_id : SimpleId → Core
tree_of_simple_id x = node (tag_of_simple_id x) (parts_of_simple_id x) end

abbrev pub tree_of_base_unresolved_name : BaseUnresolvedName → Core
tree_of_base_unresolved_name x = node (tag_of_base_unresolved_name x) (parts_of_base_unresolved_name x) end

abbrev pub tree_of_destructor_name : DestructorName → Core
tree_of_destructor_name x = node (tag_of_destructor_name x) (parts_of_destructor_name x) end

abbrev pub tree_of_expr_primary : ExprPrimary → Core
tree_of_expr_primary x = node (tag_of_expr_primary x) (parts_of_expr_primary x) end

abbrev pub tree_of_local_name : LocalName → Core
tree_of_local_name x = node (tag_of_local_name x) (parts_of_local_name x) end

abbrev pub tree_of_special_name : SpecialName → Core
tree_of_special_name x = node (tag_of_special_name x) (parts_of_special_name x) end

abbrev pub tag_of_subobject_expr : SubobjectExpr → Tag
tag_of_subobject_expr _ = Tag.SubobjectExpr

abbrev pub parts_of_subobject_expr : SubobjectExpr → Core
parts_of_subobject_expr x = tree_of_type_handle x.ty ⊕ (node (tag_of_expression x.expr.value)
    (parts_of_expression x.expr.value) (number x.offset end))

abbrev pub tree_of_subobject_expr : SubobjectExpr → Core
tree_of_subobject_expr x = node (tag_of_subobject_expr x) (parts_of_subobject_expr x) end

abbrev pub tree_of_fold_expr : FoldExpr → Core
tree_of_fold_expr x = node (tag_of_fold_expr x) (parts_of_fold_expr x) end

abbrev pub boxed_name : Box Name Global → Core
boxed_name b = tree_of_name b.value
