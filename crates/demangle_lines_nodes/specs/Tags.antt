-- Tags by their numbers.
use Rattle.std.specs.Prelude.{ℕ, zero, suc, List, [], ◌∷◌}
use Rattle.demangle_core.specs.Core.{Tag}

abbrev pub all_tags : List Tag
all_tags =
    Tag.Present ∷ Tag.Absent ∷ Tag.Several ∷ Tag.WellKnown ∷ Tag.BackReference ∷ Tag.NonSubstitution ∷ Tag.SeqId ∷
    Tag.TemplateParam ∷ Tag.Discriminator ∷ Tag.Identifier ∷ Tag.CloneTypeIdentifier ∷ Tag.ResourceName ∷
    Tag.SourceName ∷ Tag.AbiTag ∷ Tag.AbiTags ∷ Tag.DataMemberPrefix ∷ Tag.CloneSuffix ∷ Tag.CvQualifiers ∷
    Tag.NvOffset ∷ Tag.VOffset ∷ Tag.CallOffsetNonVirtual ∷ Tag.CallOffsetVirtual ∷ Tag.FunctionParam ∷
    Tag.TemplateTemplateParam ∷ Tag.UnnamedTypeName ∷ Tag.TypeHandleBuiltin ∷ Tag.TypeHandleQualifiedBuiltin ∷
    Tag.BuiltinTypeStandard ∷ Tag.BuiltinTypeParametric ∷ Tag.BuiltinTypeExtension ∷ Tag.QualifiedBuiltin ∷
    Tag.ParametricBuiltinTypeFloatN ∷ Tag.ParametricBuiltinTypeFloatNx ∷ Tag.ParametricBuiltinTypeSignedBitInt ∷
    Tag.ParametricBuiltinTypeUnsignedBitInt ∷ Tag.ParametricBuiltinTypeSignedBitIntExpression ∷
    Tag.ParametricBuiltinTypeUnsignedBitIntExpression ∷ Tag.OperatorNameSimple ∷ Tag.OperatorNameCast ∷
    Tag.OperatorNameConversion ∷ Tag.OperatorNameLiteral ∷ Tag.OperatorNameVendorExtension ∷
    Tag.CtorDtorNameCompleteConstructor ∷ Tag.CtorDtorNameBaseConstructor ∷
    Tag.CtorDtorNameCompleteAllocatingConstructor ∷ Tag.CtorDtorNameMaybeInChargeConstructor ∷
    Tag.CtorDtorNameDeletingDestructor ∷ Tag.CtorDtorNameCompleteDestructor ∷ Tag.CtorDtorNameBaseDestructor ∷
    Tag.CtorDtorNameMaybeInChargeDestructor ∷ Tag.BareFunctionType ∷ Tag.LambdaSig ∷ Tag.ClosureTypeName ∷
    Tag.PointerToMemberType ∷ Tag.UnqualifiedNameOperator ∷ Tag.UnqualifiedNameCtorDtor ∷ Tag.UnqualifiedNameSource ∷
    Tag.UnqualifiedNameLocalSourceName ∷ Tag.UnqualifiedNameUnnamedType ∷ Tag.UnqualifiedNameClosureType ∷
    Tag.UnscopedNameUnqualified ∷ Tag.UnscopedNameStd ∷ Tag.UnscopedTemplateName ∷ Tag.NestedNameUnqualified ∷
    Tag.NestedNameTemplate ∷ Tag.NestedNameUnqualifiedExplicitObject ∷ Tag.NestedNameTemplateExplicitObject ∷
    Tag.MangledNameEncoding ∷ Tag.MangledNameBlockInvoke ∷ Tag.MangledNameTopLevelType ∷ Tag.MangledNameGlobalCtorDtor
    ∷ Tag.EncodingFunction ∷ Tag.EncodingData ∷ Tag.EncodingSpecial ∷ Tag.GlobalCtorDtorCtor ∷ Tag.GlobalCtorDtorDtor
    ∷ Tag.NameNested ∷ Tag.NameUnscoped ∷ Tag.NameUnscopedTemplate ∷ Tag.NameLocal ∷ Tag.TemplateArgs ∷
    Tag.TemplateArgTypeArg ∷ Tag.TemplateArgExpression ∷ Tag.TemplateArgSimpleExpression ∷ Tag.TemplateArgArgPack ∷
    Tag.MemberName ∷ Tag.Initializer ∷ Tag.ExpressionUnary ∷ Tag.ExpressionBinary ∷ Tag.ExpressionTernary ∷
    Tag.ExpressionPrefixInc ∷ Tag.ExpressionPrefixDec ∷ Tag.ExpressionCall ∷ Tag.ExpressionConversionOne ∷
    Tag.ExpressionConversionMany ∷ Tag.ExpressionConversionBraced ∷ Tag.ExpressionBracedInitList ∷ Tag.ExpressionNew ∷
    Tag.ExpressionGlobalNew ∷ Tag.ExpressionNewArray ∷ Tag.ExpressionGlobalNewArray ∷ Tag.ExpressionDelete ∷
    Tag.ExpressionGlobalDelete ∷ Tag.ExpressionDeleteArray ∷ Tag.ExpressionGlobalDeleteArray ∷
    Tag.ExpressionDynamicCast ∷ Tag.ExpressionStaticCast ∷ Tag.ExpressionConstCast ∷ Tag.ExpressionReinterpretCast ∷
    Tag.ExpressionTypeidType ∷ Tag.ExpressionTypeidExpr ∷ Tag.ExpressionSizeofType ∷ Tag.ExpressionSizeofExpr ∷
    Tag.ExpressionAlignofType ∷ Tag.ExpressionAlignofExpr ∷ Tag.ExpressionNoexcept ∷ Tag.ExpressionSubobject ∷
    Tag.ExpressionTemplateParam ∷ Tag.ExpressionFunctionParam ∷ Tag.ExpressionMember ∷ Tag.ExpressionDerefMember ∷
    Tag.ExpressionPointerToMember ∷ Tag.ExpressionSizeofTemplatePack ∷ Tag.ExpressionSizeofFunctionPack ∷
    Tag.ExpressionSizeofCapturedTemplatePack ∷ Tag.ExpressionPackExpansion ∷ Tag.ExpressionFold ∷ Tag.ExpressionThrow
    ∷ Tag.ExpressionRethrow ∷ Tag.ExpressionUnresolvedName ∷ Tag.ExpressionPrimary ∷ Tag.UnresolvedNameName ∷
    Tag.UnresolvedNameGlobal ∷ Tag.UnresolvedNameNested1 ∷ Tag.UnresolvedNameNested2 ∷ Tag.UnresolvedNameGlobalNested2
    ∷ Tag.UnresolvedQualifierLevel ∷ Tag.SimpleId ∷ Tag.BaseUnresolvedNameName ∷ Tag.BaseUnresolvedNameOperator ∷
    Tag.BaseUnresolvedNameDestructor ∷ Tag.DestructorNameUnresolved ∷ Tag.DestructorNameName ∷ Tag.ExprPrimaryLiteral
    ∷ Tag.ExprPrimaryExternal ∷ Tag.LocalNameRelative ∷ Tag.LocalNameDefault ∷ Tag.SpecialNameVirtualTable ∷
    Tag.SpecialNameVtt ∷ Tag.SpecialNameTypeinfo ∷ Tag.SpecialNameTypeinfoName ∷ Tag.SpecialNameVirtualOverrideThunk ∷
    Tag.SpecialNameVirtualOverrideThunkCovariant ∷ Tag.SpecialNameGuard ∷ Tag.SpecialNameGuardTemporary ∷
    Tag.SpecialNameConstructionVtable ∷ Tag.SpecialNameTypeinfoFunction ∷ Tag.SpecialNameTlsInit ∷
    Tag.SpecialNameTlsWrapper ∷ Tag.SpecialNameJavaResource ∷ Tag.SpecialNameTransactionClone ∷
    Tag.SpecialNameNonTransactionClone ∷ Tag.SubobjectExpr ∷ Tag.FoldExprUnaryLeft ∷ Tag.FoldExprUnaryRight ∷
    Tag.FoldExprBinaryLeft ∷ Tag.FoldExprBinaryRight ∷ Tag.DecltypeIdExpression ∷ Tag.DecltypeExpression ∷
    Tag.PrefixUnqualified ∷ Tag.PrefixNested ∷ Tag.PrefixTemplate ∷ Tag.PrefixTemplateParam ∷ Tag.PrefixDecltype ∷
    Tag.PrefixDataMember ∷ Tag.ArrayTypeDimensionNumber ∷ Tag.ArrayTypeDimensionExpression ∷ Tag.ArrayTypeNoDimension
    ∷ Tag.VectorTypeDimensionNumber ∷ Tag.VectorTypeDimensionExpression ∷ Tag.ClassEnumTypeNamed ∷
    Tag.ClassEnumTypeElaboratedStruct ∷ Tag.ClassEnumTypeElaboratedUnion ∷ Tag.ClassEnumTypeElaboratedEnum ∷
    Tag.ExceptionSpecNoExcept ∷ Tag.ExceptionSpecComputed ∷ Tag.FunctionType ∷ Tag.TypeNodeFunction ∷
    Tag.TypeNodeClassEnum ∷ Tag.TypeNodeArray ∷ Tag.TypeNodeVector ∷ Tag.TypeNodePointerToMember ∷
    Tag.TypeNodeTemplateParam ∷ Tag.TypeNodeTemplateTemplate ∷ Tag.TypeNodeDecltype ∷ Tag.TypeNodeQualified ∷
    Tag.TypeNodeVendorExtension ∷ Tag.TypeNodePointerTo ∷ Tag.TypeNodeLvalueRef ∷ Tag.TypeNodeRvalueRef ∷
    Tag.TypeNodeComplex ∷ Tag.TypeNodeImaginary ∷ Tag.TypeNodePackExpansion ∷ Tag.UnresolvedTypeTemplate ∷
    Tag.UnresolvedTypeDecltype ∷ Tag.SubstitutableUnscopedTemplateName ∷ Tag.SubstitutableTypeNode ∷
    Tag.SubstitutableTemplateTemplateParam ∷ Tag.SubstitutableUnresolvedType ∷ Tag.SubstitutablePrefix ∷
    Tag.SubstitutableExpression ∷ []

abbrev pub nth_tag : ℕ → List Tag → Tag
nth_tag n [] = Tag.Absent
nth_tag zero (t ∷ ts) = t
nth_tag (suc n) (t ∷ ts) = nth_tag n ts

unfoldable pub tag_at : ℕ → Tag
tag_at n = nth_tag n all_tags
