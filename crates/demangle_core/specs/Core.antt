-- Trees: what contracts say of a node of the syntax tree, as plain data.
use Rattle.std.specs.Prelude.{ℕ, ℤ, Bool, true, false, List, [], ◌∷◌, ◌==◌, ◌&&◌, not}
use Rattle.std.specs.Ordering.{int_eq}

-- The two lists of components: the numbered ones, and the others.
pub data Which : Type 0 where
  N : Which
  U : Which

-- The names of nodes: a type, and its variant where it has several. References to components are the same node in every
-- type that has them, and so is a well-known component in their place.
pub data Tag : Type 0 where
  Present Absent Several WellKnown BackReference NonSubstitution SeqId TemplateParam Discriminator Identifier : Tag
  CloneTypeIdentifier ResourceName SourceName AbiTag AbiTags DataMemberPrefix CloneSuffix CvQualifiers : Tag
  NvOffset VOffset CallOffsetNonVirtual CallOffsetVirtual FunctionParam TemplateTemplateParam UnnamedTypeName : Tag
  TypeHandleBuiltin TypeHandleQualifiedBuiltin BuiltinTypeStandard BuiltinTypeParametric BuiltinTypeExtension : Tag
  QualifiedBuiltin ParametricBuiltinTypeFloatN ParametricBuiltinTypeFloatNx ParametricBuiltinTypeSignedBitInt : Tag
  ParametricBuiltinTypeUnsignedBitInt ParametricBuiltinTypeSignedBitIntExpression : Tag
  ParametricBuiltinTypeUnsignedBitIntExpression OperatorNameSimple OperatorNameCast OperatorNameConversion : Tag
  OperatorNameLiteral OperatorNameVendorExtension CtorDtorNameCompleteConstructor CtorDtorNameBaseConstructor : Tag
  CtorDtorNameCompleteAllocatingConstructor CtorDtorNameMaybeInChargeConstructor : Tag
  CtorDtorNameDeletingDestructor CtorDtorNameCompleteDestructor CtorDtorNameBaseDestructor : Tag
  CtorDtorNameMaybeInChargeDestructor : Tag
  BareFunctionType LambdaSig ClosureTypeName PointerToMemberType UnqualifiedNameOperator : Tag
  UnqualifiedNameCtorDtor UnqualifiedNameSource UnqualifiedNameLocalSourceName UnqualifiedNameUnnamedType : Tag
  UnqualifiedNameClosureType UnscopedNameUnqualified UnscopedNameStd UnscopedTemplateName : Tag
  NestedNameUnqualified NestedNameTemplate NestedNameUnqualifiedExplicitObject : Tag
  NestedNameTemplateExplicitObject MangledNameEncoding MangledNameBlockInvoke MangledNameTopLevelType : Tag
  MangledNameGlobalCtorDtor EncodingFunction EncodingData EncodingSpecial GlobalCtorDtorCtor : Tag
  GlobalCtorDtorDtor NameNested NameUnscoped NameUnscopedTemplate NameLocal TemplateArgs TemplateArgTypeArg : Tag
  TemplateArgExpression TemplateArgSimpleExpression TemplateArgArgPack MemberName Initializer ExpressionUnary : Tag
  ExpressionBinary ExpressionTernary ExpressionPrefixInc ExpressionPrefixDec ExpressionCall : Tag
  ExpressionConversionOne ExpressionConversionMany ExpressionConversionBraced ExpressionBracedInitList : Tag
  ExpressionNew ExpressionGlobalNew ExpressionNewArray ExpressionGlobalNewArray ExpressionDelete : Tag
  ExpressionGlobalDelete ExpressionDeleteArray ExpressionGlobalDeleteArray ExpressionDynamicCast : Tag
  ExpressionStaticCast ExpressionConstCast ExpressionReinterpretCast ExpressionTypeidType ExpressionTypeidExpr : Tag
  ExpressionSizeofType ExpressionSizeofExpr ExpressionAlignofType ExpressionAlignofExpr ExpressionNoexcept : Tag
  ExpressionSubobject ExpressionTemplateParam ExpressionFunctionParam ExpressionMember ExpressionDerefMember : Tag
  ExpressionPointerToMember ExpressionSizeofTemplatePack ExpressionSizeofFunctionPack : Tag
  ExpressionSizeofCapturedTemplatePack ExpressionPackExpansion ExpressionFold ExpressionThrow : Tag
  ExpressionRethrow ExpressionUnresolvedName ExpressionPrimary : Tag
  UnresolvedNameName UnresolvedNameGlobal UnresolvedNameNested1 UnresolvedNameNested2 : Tag
  UnresolvedNameGlobalNested2 UnresolvedQualifierLevel SimpleId BaseUnresolvedNameName : Tag
  BaseUnresolvedNameOperator BaseUnresolvedNameDestructor DestructorNameUnresolved DestructorNameName : Tag
  ExprPrimaryLiteral ExprPrimaryExternal LocalNameRelative LocalNameDefault SpecialNameVirtualTable : Tag
  SpecialNameVtt SpecialNameTypeinfo SpecialNameTypeinfoName SpecialNameVirtualOverrideThunk : Tag
  SpecialNameVirtualOverrideThunkCovariant SpecialNameGuard SpecialNameGuardTemporary : Tag
  SpecialNameConstructionVtable SpecialNameTypeinfoFunction SpecialNameTlsInit SpecialNameTlsWrapper : Tag
  SpecialNameJavaResource SpecialNameTransactionClone SpecialNameNonTransactionClone : Tag
  SubobjectExpr FoldExprUnaryLeft FoldExprUnaryRight FoldExprBinaryLeft FoldExprBinaryRight : Tag
  DecltypeIdExpression DecltypeExpression PrefixUnqualified PrefixNested PrefixTemplate PrefixTemplateParam : Tag
  PrefixDecltype PrefixDataMember ArrayTypeDimensionNumber ArrayTypeDimensionExpression ArrayTypeNoDimension : Tag
  VectorTypeDimensionNumber VectorTypeDimensionExpression ClassEnumTypeNamed ClassEnumTypeElaboratedStruct : Tag
  ClassEnumTypeElaboratedUnion ClassEnumTypeElaboratedEnum ExceptionSpecNoExcept ExceptionSpecComputed : Tag
  FunctionType TypeNodeFunction TypeNodeClassEnum TypeNodeArray TypeNodeVector TypeNodePointerToMember : Tag
  TypeNodeTemplateParam TypeNodeTemplateTemplate TypeNodeDecltype TypeNodeQualified TypeNodeVendorExtension : Tag
  TypeNodePointerTo TypeNodeLvalueRef TypeNodeRvalueRef TypeNodeComplex TypeNodeImaginary : Tag
  TypeNodePackExpansion : Tag
  UnresolvedTypeTemplate UnresolvedTypeDecltype SubstitutableUnscopedTemplateName SubstitutableTypeNode : Tag
  SubstitutableTemplateTemplateParam SubstitutableUnresolvedType SubstitutablePrefix SubstitutableExpression : Tag

-- The number of a tag.
abbrev pub code : Tag → ℕ
code Present = 0
code Absent = 1
code Several = 2
code WellKnown = 3
code BackReference = 4
code NonSubstitution = 5
code SeqId = 6
code TemplateParam = 7
code Discriminator = 8
code Identifier = 9
code CloneTypeIdentifier = 10
code ResourceName = 11
code SourceName = 12
code AbiTag = 13
code AbiTags = 14
code DataMemberPrefix = 15
code CloneSuffix = 16
code CvQualifiers = 17
code NvOffset = 18
code VOffset = 19
code CallOffsetNonVirtual = 20
code CallOffsetVirtual = 21
code FunctionParam = 22
code TemplateTemplateParam = 23
code UnnamedTypeName = 24
code TypeHandleBuiltin = 25
code TypeHandleQualifiedBuiltin = 26
code BuiltinTypeStandard = 27
code BuiltinTypeParametric = 28
code BuiltinTypeExtension = 29
code QualifiedBuiltin = 30
code ParametricBuiltinTypeFloatN = 31
code ParametricBuiltinTypeFloatNx = 32
code ParametricBuiltinTypeSignedBitInt = 33
code ParametricBuiltinTypeUnsignedBitInt = 34
code ParametricBuiltinTypeSignedBitIntExpression = 35
code ParametricBuiltinTypeUnsignedBitIntExpression = 36
code OperatorNameSimple = 37
code OperatorNameCast = 38
code OperatorNameConversion = 39
code OperatorNameLiteral = 40
code OperatorNameVendorExtension = 41
code CtorDtorNameCompleteConstructor = 42
code CtorDtorNameBaseConstructor = 43
code CtorDtorNameCompleteAllocatingConstructor = 44
code CtorDtorNameMaybeInChargeConstructor = 45
code CtorDtorNameDeletingDestructor = 46
code CtorDtorNameCompleteDestructor = 47
code CtorDtorNameBaseDestructor = 48
code CtorDtorNameMaybeInChargeDestructor = 49
code BareFunctionType = 50
code LambdaSig = 51
code ClosureTypeName = 52
code PointerToMemberType = 53
code UnqualifiedNameOperator = 54
code UnqualifiedNameCtorDtor = 55
code UnqualifiedNameSource = 56
code UnqualifiedNameLocalSourceName = 57
code UnqualifiedNameUnnamedType = 58
code UnqualifiedNameClosureType = 59
code UnscopedNameUnqualified = 60
code UnscopedNameStd = 61
code UnscopedTemplateName = 62
code NestedNameUnqualified = 63
code NestedNameTemplate = 64
code NestedNameUnqualifiedExplicitObject = 65
code NestedNameTemplateExplicitObject = 66
code MangledNameEncoding = 67
code MangledNameBlockInvoke = 68
code MangledNameTopLevelType = 69
code MangledNameGlobalCtorDtor = 70
code EncodingFunction = 71
code EncodingData = 72
code EncodingSpecial = 73
code GlobalCtorDtorCtor = 74
code GlobalCtorDtorDtor = 75
code NameNested = 76
code NameUnscoped = 77
code NameUnscopedTemplate = 78
code NameLocal = 79
code TemplateArgs = 80
code TemplateArgTypeArg = 81
code TemplateArgExpression = 82
code TemplateArgSimpleExpression = 83
code TemplateArgArgPack = 84
code MemberName = 85
code Initializer = 86
code ExpressionUnary = 87
code ExpressionBinary = 88
code ExpressionTernary = 89
code ExpressionPrefixInc = 90
code ExpressionPrefixDec = 91
code ExpressionCall = 92
code ExpressionConversionOne = 93
code ExpressionConversionMany = 94
code ExpressionConversionBraced = 95
code ExpressionBracedInitList = 96
code ExpressionNew = 97
code ExpressionGlobalNew = 98
code ExpressionNewArray = 99
code ExpressionGlobalNewArray = 100
code ExpressionDelete = 101
code ExpressionGlobalDelete = 102
code ExpressionDeleteArray = 103
code ExpressionGlobalDeleteArray = 104
code ExpressionDynamicCast = 105
code ExpressionStaticCast = 106
code ExpressionConstCast = 107
code ExpressionReinterpretCast = 108
code ExpressionTypeidType = 109
code ExpressionTypeidExpr = 110
code ExpressionSizeofType = 111
code ExpressionSizeofExpr = 112
code ExpressionAlignofType = 113
code ExpressionAlignofExpr = 114
code ExpressionNoexcept = 115
code ExpressionSubobject = 116
code ExpressionTemplateParam = 117
code ExpressionFunctionParam = 118
code ExpressionMember = 119
code ExpressionDerefMember = 120
code ExpressionPointerToMember = 121
code ExpressionSizeofTemplatePack = 122
code ExpressionSizeofFunctionPack = 123
code ExpressionSizeofCapturedTemplatePack = 124
code ExpressionPackExpansion = 125
code ExpressionFold = 126
code ExpressionThrow = 127
code ExpressionRethrow = 128
code ExpressionUnresolvedName = 129
code ExpressionPrimary = 130
code UnresolvedNameName = 131
code UnresolvedNameGlobal = 132
code UnresolvedNameNested1 = 133
code UnresolvedNameNested2 = 134
code UnresolvedNameGlobalNested2 = 135
code UnresolvedQualifierLevel = 136
code SimpleId = 137
code BaseUnresolvedNameName = 138
code BaseUnresolvedNameOperator = 139
code BaseUnresolvedNameDestructor = 140
code DestructorNameUnresolved = 141
code DestructorNameName = 142
code ExprPrimaryLiteral = 143
code ExprPrimaryExternal = 144
code LocalNameRelative = 145
code LocalNameDefault = 146
code SpecialNameVirtualTable = 147
code SpecialNameVtt = 148
code SpecialNameTypeinfo = 149
code SpecialNameTypeinfoName = 150
code SpecialNameVirtualOverrideThunk = 151
code SpecialNameVirtualOverrideThunkCovariant = 152
code SpecialNameGuard = 153
code SpecialNameGuardTemporary = 154
code SpecialNameConstructionVtable = 155
code SpecialNameTypeinfoFunction = 156
code SpecialNameTlsInit = 157
code SpecialNameTlsWrapper = 158
code SpecialNameJavaResource = 159
code SpecialNameTransactionClone = 160
code SpecialNameNonTransactionClone = 161
code SubobjectExpr = 162
code FoldExprUnaryLeft = 163
code FoldExprUnaryRight = 164
code FoldExprBinaryLeft = 165
code FoldExprBinaryRight = 166
code DecltypeIdExpression = 167
code DecltypeExpression = 168
code PrefixUnqualified = 169
code PrefixNested = 170
code PrefixTemplate = 171
code PrefixTemplateParam = 172
code PrefixDecltype = 173
code PrefixDataMember = 174
code ArrayTypeDimensionNumber = 175
code ArrayTypeDimensionExpression = 176
code ArrayTypeNoDimension = 177
code VectorTypeDimensionNumber = 178
code VectorTypeDimensionExpression = 179
code ClassEnumTypeNamed = 180
code ClassEnumTypeElaboratedStruct = 181
code ClassEnumTypeElaboratedUnion = 182
code ClassEnumTypeElaboratedEnum = 183
code ExceptionSpecNoExcept = 184
code ExceptionSpecComputed = 185
code FunctionType = 186
code TypeNodeFunction = 187
code TypeNodeClassEnum = 188
code TypeNodeArray = 189
code TypeNodeVector = 190
code TypeNodePointerToMember = 191
code TypeNodeTemplateParam = 192
code TypeNodeTemplateTemplate = 193
code TypeNodeDecltype = 194
code TypeNodeQualified = 195
code TypeNodeVendorExtension = 196
code TypeNodePointerTo = 197
code TypeNodeLvalueRef = 198
code TypeNodeRvalueRef = 199
code TypeNodeComplex = 200
code TypeNodeImaginary = 201
code TypeNodePackExpansion = 202
code UnresolvedTypeTemplate = 203
code UnresolvedTypeDecltype = 204
code SubstitutableUnscopedTemplateName = 205
code SubstitutableTypeNode = 206
code SubstitutableTemplateTemplateParam = 207
code SubstitutableUnresolvedType = 208
code SubstitutablePrefix = 209
code SubstitutableExpression = 210

-- A row of trees, the first of them first: each constructor but `end` is one tree, and `next` is what stands behind it.
pub data Core : Type 0 where
  end : Core
  node : Tag → (children : Core) → (next : Core) → Core
  -- the bytes of the input from `start` up to `stop`
  place : (start stop : ℕ) → (next : Core) → Core
  number : ℤ → (next : Core) → Core
  flag : Bool → (next : Core) → Core
  -- a word of a table
  chosen : (table word : ℕ) → (next : Core) → Core
  -- a component, by its position in its list
  ref : Which → ℕ → (next : Core) → Core
  -- where an argument list began: equality leaves it out
  mark : ℕ → (next : Core) → Core

-- One row behind the other.
infixr 60 ◌⊕◌
abbrev pub ◌⊕◌ : Core → Core → Core
end ⊕ c = c
(node t x n) ⊕ c = node t x (n ⊕ c)
(place i j n) ⊕ c = place i j (n ⊕ c)
(number v n) ⊕ c = number v (n ⊕ c)
(flag b n) ⊕ c = flag b (n ⊕ c)
(chosen t k n) ⊕ c = chosen t k (n ⊕ c)
(ref w k n) ⊕ c = ref w k (n ⊕ c)
(mark i n) ⊕ c = mark i (n ⊕ c)

-- ---- equality of trees, marks aside
abbrev pub same_which : Which → Which → Bool
same_which N N = true
same_which U U = true
same_which _ _ = false

abbrev pub same_flag : Bool → Bool → Bool
same_flag true b = b
same_flag false b = not b

-- Of two nodes: one tag, and the same parts.
abbrev pub alike : Tag → Tag → Bool → Bool
alike t u b = code t == code u && b

abbrev pub same : Core → Core → Bool
same end end = true
same (node t x n) (node u y m) = alike t u (same x y) && same n m
same (place i j n) (place k l m) = (i == k && j == l) && same n m
same (number v n) (number w m) = int_eq v w && same n m
same (flag v n) (flag w m) = same_flag v w && same n m
same (chosen t k n) (chosen u j m) = (t == u && k == j) && same n m
same (ref w k n) (ref v j m) = (same_which w v && k == j) && same n m
same (mark _ n) (mark _ m) = same n m
same _ _ = false

-- ---- rows of lists
-- The trees of a list, each with its tag and its parts.
abbrev pub trees : {A : Type 0} → (A → Tag) → (A → Core) → List A → Core
trees t p [] = end
trees t p (x ∷ xs) = node (t x) (p x) (trees t p xs)

abbrev pub numbers : List ℤ → Core
numbers [] = end
numbers (n ∷ ns) = number n (numbers ns)
