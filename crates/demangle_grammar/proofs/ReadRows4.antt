-- Readings of rows, by computation. Written by tools/write_readings.py.
use Rattle.std.specs.Prelude.{true, false, [], ◌∷◌, codes, pos}
use Rattle.std.proofs.Common.{refl}
use Rattle.demangle_text.specs.Kind.{End, Text, Bad}
use Rattle.demangle_core.specs.Core.{Tag, N, U, end, node, place, number, flag, chosen, ref, mark}
use Rattle.demangle_core.specs.Table.{entry_at}
use Rattle.demangle_grammar.specs.Rule.{Row}
use Rattle.demangle_grammar.specs.Rows.{rule}
use Rattle.demangle_grammar.specs.Reading.{run_rule, measure_from}
use Rattle.demangle_grammar.proofs.Conforms.{Read, Refused, Reads, by_measure, entry}

mangled_name_1 : Reads Row.mangled_name false (codes "_Z1fIiEDTrcT_fp_ET_") (Read 19 (node Tag.MangledNameEncoding (node Tag.EncodingFunction (node Tag.NameUnscopedTemplate (node Tag.BackReference (ref N 0 end) (node Tag.TemplateArgs (mark 4 (node Tag.Several (node Tag.TemplateArgTypeArg (node Tag.TypeHandleBuiltin (node Tag.BuiltinTypeStandard (chosen 1 8 end) end) end) end) end)) end)) (node Tag.BareFunctionType (node Tag.Several (node Tag.BackReference (ref N 2 end) (node Tag.BackReference (ref N 3 end) end)) end) end)) (node Tag.Several end end)) end) (entry N (node Tag.SubstitutableUnscopedTemplateName (node Tag.UnscopedTemplateName (node Tag.UnscopedNameUnqualified (node Tag.UnqualifiedNameSource (node Tag.SourceName (node Tag.Identifier (place 3 4 end) end) (node Tag.AbiTags (node Tag.Several end end) end)) end) end) end) end) ∷ entry N (node Tag.SubstitutableTypeNode (node Tag.TypeNodeTemplateParam (node Tag.TemplateParam (number (pos 0) end) end) end) end) ∷ entry N (node Tag.SubstitutableTypeNode (node Tag.TypeNodeDecltype (node Tag.DecltypeExpression (node Tag.ExpressionReinterpretCast (node Tag.BackReference (ref N 1 end) (node Tag.ExpressionFunctionParam (node Tag.FunctionParam (number (pos 0) (node Tag.CvQualifiers (flag false (flag false (flag false end))) (node Tag.Present (number (pos 0) end) end))) end) end)) end) end) end) end) ∷ entry N (node Tag.SubstitutableTypeNode (node Tag.TypeNodeTemplateParam (node Tag.TemplateParam (number (pos 0) end) end) end) end) ∷ [])) 14
unfolding measure_from run_rule rule entry_at
mangled_name_1 = by_measure refl

mangled_name_2 : Reads Row.mangled_name false (codes "_ZN6globalB3TagD2Ev") (Read 19 (node Tag.MangledNameEncoding (node Tag.EncodingFunction (node Tag.NameNested (node Tag.NestedNameUnqualified (node Tag.CvQualifiers (flag false (flag false (flag false end))) (node Tag.Absent end (node Tag.Present (node Tag.BackReference (ref N 0 end) end) (node Tag.UnqualifiedNameCtorDtor (node Tag.CtorDtorNameBaseDestructor end (node Tag.AbiTags (node Tag.Several end end) end)) end)))) end) (node Tag.BareFunctionType (node Tag.Several (node Tag.TypeHandleBuiltin (node Tag.BuiltinTypeStandard (chosen 1 0 end) end) end) end) end)) (node Tag.Several end end)) end) (entry N (node Tag.SubstitutablePrefix (node Tag.PrefixUnqualified (node Tag.UnqualifiedNameSource (node Tag.SourceName (node Tag.Identifier (place 4 10 end) end) (node Tag.AbiTags (node Tag.Several (node Tag.AbiTag (node Tag.SourceName (node Tag.Identifier (place 12 15 end) end) end) end) end) end)) end) end) end) ∷ entry U (node Tag.SubstitutablePrefix (node Tag.PrefixNested (node Tag.BackReference (ref N 0 end) (node Tag.UnqualifiedNameCtorDtor (node Tag.CtorDtorNameBaseDestructor end (node Tag.AbiTags (node Tag.Several end end) end)) end)) end) end) ∷ [])) 11
unfolding measure_from run_rule rule entry_at
mangled_name_2 = by_measure refl

mangled_name_3 : Reads Row.mangled_name false (codes "_Z1fIiEDTgsnw_T_EET_") (Read 20 (node Tag.MangledNameEncoding (node Tag.EncodingFunction (node Tag.NameUnscopedTemplate (node Tag.BackReference (ref N 0 end) (node Tag.TemplateArgs (mark 4 (node Tag.Several (node Tag.TemplateArgTypeArg (node Tag.TypeHandleBuiltin (node Tag.BuiltinTypeStandard (chosen 1 8 end) end) end) end) end)) end)) (node Tag.BareFunctionType (node Tag.Several (node Tag.BackReference (ref N 2 end) (node Tag.BackReference (ref N 3 end) end)) end) end)) (node Tag.Several end end)) end) (entry N (node Tag.SubstitutableUnscopedTemplateName (node Tag.UnscopedTemplateName (node Tag.UnscopedNameUnqualified (node Tag.UnqualifiedNameSource (node Tag.SourceName (node Tag.Identifier (place 3 4 end) end) (node Tag.AbiTags (node Tag.Several end end) end)) end) end) end) end) ∷ entry N (node Tag.SubstitutableTypeNode (node Tag.TypeNodeTemplateParam (node Tag.TemplateParam (number (pos 0) end) end) end) end) ∷ entry N (node Tag.SubstitutableTypeNode (node Tag.TypeNodeDecltype (node Tag.DecltypeExpression (node Tag.ExpressionGlobalNew (node Tag.Several end (node Tag.BackReference (ref N 1 end) (node Tag.Absent end end))) end) end) end) end) ∷ entry N (node Tag.SubstitutableTypeNode (node Tag.TypeNodeTemplateParam (node Tag.TemplateParam (number (pos 0) end) end) end) end) ∷ [])) 14
unfolding measure_from run_rule rule entry_at
mangled_name_3 = by_measure refl

mangled_name_4 : Reads Row.mangled_name false (codes "___Z1fv_block_invoke3") (Read 21 (node Tag.MangledNameBlockInvoke (node Tag.EncodingFunction (node Tag.NameUnscoped (node Tag.UnscopedNameUnqualified (node Tag.UnqualifiedNameSource (node Tag.SourceName (node Tag.Identifier (place 5 6 end) end) (node Tag.AbiTags (node Tag.Several end end) end)) end) end) (node Tag.BareFunctionType (node Tag.Several (node Tag.TypeHandleBuiltin (node Tag.BuiltinTypeStandard (chosen 1 0 end) end) end) end) end)) (node Tag.Present (number (pos 3) end) end)) end) []) 11
unfolding measure_from run_rule rule entry_at
mangled_name_4 = by_measure refl

mangled_name_5 : Reads Row.mangled_name false (codes "_ZN1N1TIiiE2mfES0_IddE") (Read 22 (node Tag.MangledNameEncoding (node Tag.EncodingFunction (node Tag.NameNested (node Tag.NestedNameUnqualified (node Tag.CvQualifiers (flag false (flag false (flag false end))) (node Tag.Absent end (node Tag.Present (node Tag.BackReference (ref N 2 end) end) (node Tag.UnqualifiedNameSource (node Tag.SourceName (node Tag.Identifier (place 12 14 end) end) (node Tag.AbiTags (node Tag.Several end end) end)) end)))) end) (node Tag.BareFunctionType (node Tag.Several (node Tag.BackReference (ref N 3 end) end) end) end)) (node Tag.Several end end)) end) (entry N (node Tag.SubstitutablePrefix (node Tag.PrefixUnqualified (node Tag.UnqualifiedNameSource (node Tag.SourceName (node Tag.Identifier (place 4 5 end) end) (node Tag.AbiTags (node Tag.Several end end) end)) end) end) end) ∷ entry N (node Tag.SubstitutablePrefix (node Tag.PrefixNested (node Tag.BackReference (ref N 0 end) (node Tag.UnqualifiedNameSource (node Tag.SourceName (node Tag.Identifier (place 6 7 end) end) (node Tag.AbiTags (node Tag.Several end end) end)) end)) end) end) ∷ entry N (node Tag.SubstitutablePrefix (node Tag.PrefixTemplate (node Tag.BackReference (ref N 1 end) (node Tag.TemplateArgs (mark 7 (node Tag.Several (node Tag.TemplateArgTypeArg (node Tag.TypeHandleBuiltin (node Tag.BuiltinTypeStandard (chosen 1 8 end) end) end) (node Tag.TemplateArgTypeArg (node Tag.TypeHandleBuiltin (node Tag.BuiltinTypeStandard (chosen 1 8 end) end) end) end)) end)) end)) end) end) ∷ entry U (node Tag.SubstitutablePrefix (node Tag.PrefixNested (node Tag.BackReference (ref N 2 end) (node Tag.UnqualifiedNameSource (node Tag.SourceName (node Tag.Identifier (place 12 14 end) end) (node Tag.AbiTags (node Tag.Several end end) end)) end)) end) end) ∷ entry N (node Tag.SubstitutableTypeNode (node Tag.TypeNodeClassEnum (node Tag.ClassEnumTypeNamed (node Tag.NameUnscopedTemplate (node Tag.BackReference (ref N 1 end) (node Tag.TemplateArgs (mark 18 (node Tag.Several (node Tag.TemplateArgTypeArg (node Tag.TypeHandleBuiltin (node Tag.BuiltinTypeStandard (chosen 1 17 end) end) end) (node Tag.TemplateArgTypeArg (node Tag.TypeHandleBuiltin (node Tag.BuiltinTypeStandard (chosen 1 17 end) end) end) end)) end)) end)) end) end) end) end) ∷ [])) 16
unfolding measure_from run_rule rule entry_at
mangled_name_5 = by_measure refl

mangled_name_6 : Reads Row.mangled_name false (codes "_Z1fIJiEEDTflngfp_EDpT_") (Read 9 (node Tag.MangledNameEncoding (node Tag.EncodingData (node Tag.NameUnscopedTemplate (node Tag.BackReference (ref N 0 end) (node Tag.TemplateArgs (mark 4 (node Tag.Several (node Tag.TemplateArgArgPack (node Tag.Several (node Tag.TemplateArgTypeArg (node Tag.TypeHandleBuiltin (node Tag.BuiltinTypeStandard (chosen 1 8 end) end) end) end) end) end) end)) end)) end) (node Tag.Several end end)) end) (entry N (node Tag.SubstitutableUnscopedTemplateName (node Tag.UnscopedTemplateName (node Tag.UnscopedNameUnqualified (node Tag.UnqualifiedNameSource (node Tag.SourceName (node Tag.Identifier (place 3 4 end) end) (node Tag.AbiTags (node Tag.Several end end) end)) end) end) end) end) ∷ [])) 14
unfolding measure_from run_rule rule entry_at
mangled_name_6 = by_measure refl

mangled_name_7 : Reads Row.mangled_name false (codes "____Z1fv_block_invoke_2") (Read 23 (node Tag.MangledNameBlockInvoke (node Tag.EncodingFunction (node Tag.NameUnscoped (node Tag.UnscopedNameUnqualified (node Tag.UnqualifiedNameSource (node Tag.SourceName (node Tag.Identifier (place 6 7 end) end) (node Tag.AbiTags (node Tag.Several end end) end)) end) end) (node Tag.BareFunctionType (node Tag.Several (node Tag.TypeHandleBuiltin (node Tag.BuiltinTypeStandard (chosen 1 0 end) end) end) end) end)) (node Tag.Present (number (pos 2) end) end)) end) []) 11
unfolding measure_from run_rule rule entry_at
mangled_name_7 = by_measure refl

mangled_name_8 : Reads Row.mangled_name false (codes "____Z1fv_block_invoke_2E") (Read 23 (node Tag.MangledNameBlockInvoke (node Tag.EncodingFunction (node Tag.NameUnscoped (node Tag.UnscopedNameUnqualified (node Tag.UnqualifiedNameSource (node Tag.SourceName (node Tag.Identifier (place 6 7 end) end) (node Tag.AbiTags (node Tag.Several end end) end)) end) end) (node Tag.BareFunctionType (node Tag.Several (node Tag.TypeHandleBuiltin (node Tag.BuiltinTypeStandard (chosen 1 0 end) end) end) end) end)) (node Tag.Present (number (pos 2) end) end)) end) []) 11
unfolding measure_from run_rule rule entry_at
mangled_name_8 = by_measure refl

mangled_name_9 : Reads Row.mangled_name false (codes "_Z2f2IiEDTquL_Z1bEfp_trET_") (Read 26 (node Tag.MangledNameEncoding (node Tag.EncodingFunction (node Tag.NameUnscopedTemplate (node Tag.BackReference (ref N 0 end) (node Tag.TemplateArgs (mark 5 (node Tag.Several (node Tag.TemplateArgTypeArg (node Tag.TypeHandleBuiltin (node Tag.BuiltinTypeStandard (chosen 1 8 end) end) end) end) end)) end)) (node Tag.BareFunctionType (node Tag.Several (node Tag.BackReference (ref N 1 end) (node Tag.BackReference (ref N 2 end) end)) end) end)) (node Tag.Several end end)) end) (entry N (node Tag.SubstitutableUnscopedTemplateName (node Tag.UnscopedTemplateName (node Tag.UnscopedNameUnqualified (node Tag.UnqualifiedNameSource (node Tag.SourceName (node Tag.Identifier (place 3 5 end) end) (node Tag.AbiTags (node Tag.Several end end) end)) end) end) end) end) ∷ entry N (node Tag.SubstitutableTypeNode (node Tag.TypeNodeDecltype (node Tag.DecltypeExpression (node Tag.ExpressionTernary (node Tag.OperatorNameSimple (chosen 0 46 end) (node Tag.ExpressionPrimary (node Tag.ExprPrimaryExternal (node Tag.MangledNameEncoding (node Tag.EncodingData (node Tag.NameUnscoped (node Tag.UnscopedNameUnqualified (node Tag.UnqualifiedNameSource (node Tag.SourceName (node Tag.Identifier (place 16 17 end) end) (node Tag.AbiTags (node Tag.Several end end) end)) end) end) end) (node Tag.Several end end)) end) end) (node Tag.ExpressionFunctionParam (node Tag.FunctionParam (number (pos 0) (node Tag.CvQualifiers (flag false (flag false (flag false end))) (node Tag.Present (number (pos 0) end) end))) end) (node Tag.ExpressionRethrow end end)))) end) end) end) end) ∷ entry N (node Tag.SubstitutableTypeNode (node Tag.TypeNodeTemplateParam (node Tag.TemplateParam (number (pos 0) end) end) end) end) ∷ [])) 19
unfolding measure_from run_rule rule entry_at
mangled_name_9 = by_measure refl

mangled_name_10 : Reads Row.mangled_name false (codes "_Z3fooIA6_KiEvA9_KT_rVPrS4_") (Read 27 (node Tag.MangledNameEncoding (node Tag.EncodingFunction (node Tag.NameUnscopedTemplate (node Tag.BackReference (ref N 0 end) (node Tag.TemplateArgs (mark 6 (node Tag.Several (node Tag.TemplateArgTypeArg (node Tag.BackReference (ref N 2 end) end) end) end)) end)) (node Tag.BareFunctionType (node Tag.Several (node Tag.TypeHandleBuiltin (node Tag.BuiltinTypeStandard (chosen 1 0 end) end) (node Tag.BackReference (ref N 5 end) (node Tag.BackReference (ref N 8 end) end))) end) end)) (node Tag.Several end end)) end) (entry N (node Tag.SubstitutableUnscopedTemplateName (node Tag.UnscopedTemplateName (node Tag.UnscopedNameUnqualified (node Tag.UnqualifiedNameSource (node Tag.SourceName (node Tag.Identifier (place 3 6 end) end) (node Tag.AbiTags (node Tag.Several end end) end)) end) end) end) end) ∷ entry N (node Tag.SubstitutableTypeNode (node Tag.TypeNodeQualified (node Tag.CvQualifiers (flag false (flag false (flag true end))) (node Tag.TypeHandleBuiltin (node Tag.BuiltinTypeStandard (chosen 1 8 end) end) end)) end) end) ∷ entry N (node Tag.SubstitutableTypeNode (node Tag.TypeNodeArray (node Tag.ArrayTypeDimensionNumber (number (pos 6) (node Tag.BackReference (ref N 1 end) end)) end) end) end) ∷ entry N (node Tag.SubstitutableTypeNode (node Tag.TypeNodeTemplateParam (node Tag.TemplateParam (number (pos 0) end) end) end) end) ∷ entry N (node Tag.SubstitutableTypeNode (node Tag.TypeNodeQualified (node Tag.CvQualifiers (flag false (flag false (flag true end))) (node Tag.BackReference (ref N 3 end) end)) end) end) ∷ entry N (node Tag.SubstitutableTypeNode (node Tag.TypeNodeArray (node Tag.ArrayTypeDimensionNumber (number (pos 9) (node Tag.BackReference (ref N 4 end) end)) end) end) end) ∷ entry N (node Tag.SubstitutableTypeNode (node Tag.TypeNodeQualified (node Tag.CvQualifiers (flag true (flag false (flag false end))) (node Tag.BackReference (ref N 5 end) end)) end) end) ∷ entry N (node Tag.SubstitutableTypeNode (node Tag.TypeNodePointerTo (node Tag.BackReference (ref N 6 end) end) end) end) ∷ entry N (node Tag.SubstitutableTypeNode (node Tag.TypeNodeQualified (node Tag.CvQualifiers (flag true (flag true (flag false end))) (node Tag.BackReference (ref N 7 end) end)) end) end) ∷ [])) 14
unfolding measure_from run_rule rule entry_at
mangled_name_10 = by_measure refl

mangled_name_11 : Reads Row.mangled_name false (codes "_Z1fIiEDTquL_Z1bEfp_twLi42EET_") (Read 30 (node Tag.MangledNameEncoding (node Tag.EncodingFunction (node Tag.NameUnscopedTemplate (node Tag.BackReference (ref N 0 end) (node Tag.TemplateArgs (mark 4 (node Tag.Several (node Tag.TemplateArgTypeArg (node Tag.TypeHandleBuiltin (node Tag.BuiltinTypeStandard (chosen 1 8 end) end) end) end) end)) end)) (node Tag.BareFunctionType (node Tag.Several (node Tag.BackReference (ref N 1 end) (node Tag.BackReference (ref N 2 end) end)) end) end)) (node Tag.Several end end)) end) (entry N (node Tag.SubstitutableUnscopedTemplateName (node Tag.UnscopedTemplateName (node Tag.UnscopedNameUnqualified (node Tag.UnqualifiedNameSource (node Tag.SourceName (node Tag.Identifier (place 3 4 end) end) (node Tag.AbiTags (node Tag.Several end end) end)) end) end) end) end) ∷ entry N (node Tag.SubstitutableTypeNode (node Tag.TypeNodeDecltype (node Tag.DecltypeExpression (node Tag.ExpressionTernary (node Tag.OperatorNameSimple (chosen 0 46 end) (node Tag.ExpressionPrimary (node Tag.ExprPrimaryExternal (node Tag.MangledNameEncoding (node Tag.EncodingData (node Tag.NameUnscoped (node Tag.UnscopedNameUnqualified (node Tag.UnqualifiedNameSource (node Tag.SourceName (node Tag.Identifier (place 15 16 end) end) (node Tag.AbiTags (node Tag.Several end end) end)) end) end) end) (node Tag.Several end end)) end) end) (node Tag.ExpressionFunctionParam (node Tag.FunctionParam (number (pos 0) (node Tag.CvQualifiers (flag false (flag false (flag false end))) (node Tag.Present (number (pos 0) end) end))) end) (node Tag.ExpressionThrow (node Tag.ExpressionPrimary (node Tag.ExprPrimaryLiteral (node Tag.TypeHandleBuiltin (node Tag.BuiltinTypeStandard (chosen 1 8 end) end) (place 24 26 end)) end) end) end)))) end) end) end) end) ∷ entry N (node Tag.SubstitutableTypeNode (node Tag.TypeNodeTemplateParam (node Tag.TemplateParam (number (pos 0) end) end) end) end) ∷ [])) 19
unfolding measure_from run_rule rule entry_at
mangled_name_11 = by_measure refl

mangled_name_12 : Reads Row.mangled_name false (codes "_Z2f1Ii1AEDTdsfp_fp0_ET0_MS2_T_") (Read 31 (node Tag.MangledNameEncoding (node Tag.EncodingFunction (node Tag.NameUnscopedTemplate (node Tag.BackReference (ref N 0 end) (node Tag.TemplateArgs (mark 5 (node Tag.Several (node Tag.TemplateArgTypeArg (node Tag.TypeHandleBuiltin (node Tag.BuiltinTypeStandard (chosen 1 8 end) end) end) (node Tag.TemplateArgTypeArg (node Tag.BackReference (ref N 1 end) end) end)) end)) end)) (node Tag.BareFunctionType (node Tag.Several (node Tag.BackReference (ref N 2 end) (node Tag.BackReference (ref N 3 end) (node Tag.BackReference (ref N 5 end) end))) end) end)) (node Tag.Several end end)) end) (entry N (node Tag.SubstitutableUnscopedTemplateName (node Tag.UnscopedTemplateName (node Tag.UnscopedNameUnqualified (node Tag.UnqualifiedNameSource (node Tag.SourceName (node Tag.Identifier (place 3 5 end) end) (node Tag.AbiTags (node Tag.Several end end) end)) end) end) end) end) ∷ entry N (node Tag.SubstitutableTypeNode (node Tag.TypeNodeClassEnum (node Tag.ClassEnumTypeNamed (node Tag.NameUnscoped (node Tag.UnscopedNameUnqualified (node Tag.UnqualifiedNameSource (node Tag.SourceName (node Tag.Identifier (place 8 9 end) end) (node Tag.AbiTags (node Tag.Several end end) end)) end) end) end) end) end) end) ∷ entry N (node Tag.SubstitutableTypeNode (node Tag.TypeNodeDecltype (node Tag.DecltypeExpression (node Tag.ExpressionPointerToMember (node Tag.ExpressionFunctionParam (node Tag.FunctionParam (number (pos 0) (node Tag.CvQualifiers (flag false (flag false (flag false end))) (node Tag.Present (number (pos 0) end) end))) end) (node Tag.ExpressionFunctionParam (node Tag.FunctionParam (number (pos 0) (node Tag.CvQualifiers (flag false (flag false (flag false end))) (node Tag.Present (number (pos 1) end) end))) end) end)) end) end) end) end) ∷ entry N (node Tag.SubstitutableTypeNode (node Tag.TypeNodeTemplateParam (node Tag.TemplateParam (number (pos 1) end) end) end) end) ∷ entry N (node Tag.SubstitutableTypeNode (node Tag.TypeNodeTemplateParam (node Tag.TemplateParam (number (pos 0) end) end) end) end) ∷ entry N (node Tag.SubstitutableTypeNode (node Tag.TypeNodePointerToMember (node Tag.PointerToMemberType (node Tag.BackReference (ref N 3 end) (node Tag.BackReference (ref N 4 end) end)) end) end) end) ∷ [])) 13
unfolding measure_from run_rule rule entry_at
mangled_name_12 = by_measure refl

mangled_name_13 : Reads Row.mangled_name false (codes "_ZN5test01fIdEEvT_RAszcl3ovlcvS1__EE_c") (Read 38 (node Tag.MangledNameEncoding (node Tag.EncodingFunction (node Tag.NameNested (node Tag.NestedNameTemplate (node Tag.CvQualifiers (flag false (flag false (flag false end))) (node Tag.Absent end (node Tag.NonSubstitution (ref U 0 end) end))) end) (node Tag.BareFunctionType (node Tag.Several (node Tag.TypeHandleBuiltin (node Tag.BuiltinTypeStandard (chosen 1 0 end) end) (node Tag.BackReference (ref N 2 end) (node Tag.BackReference (ref N 4 end) end))) end) end)) (node Tag.Several end end)) end) (entry N (node Tag.SubstitutablePrefix (node Tag.PrefixUnqualified (node Tag.UnqualifiedNameSource (node Tag.SourceName (node Tag.Identifier (place 4 9 end) end) (node Tag.AbiTags (node Tag.Several end end) end)) end) end) end) ∷ entry N (node Tag.SubstitutablePrefix (node Tag.PrefixNested (node Tag.BackReference (ref N 0 end) (node Tag.UnqualifiedNameSource (node Tag.SourceName (node Tag.Identifier (place 10 11 end) end) (node Tag.AbiTags (node Tag.Several end end) end)) end)) end) end) ∷ entry U (node Tag.SubstitutablePrefix (node Tag.PrefixTemplate (node Tag.BackReference (ref N 1 end) (node Tag.TemplateArgs (mark 11 (node Tag.Several (node Tag.TemplateArgTypeArg (node Tag.TypeHandleBuiltin (node Tag.BuiltinTypeStandard (chosen 1 17 end) end) end) end) end)) end)) end) end) ∷ entry N (node Tag.SubstitutableTypeNode (node Tag.TypeNodeTemplateParam (node Tag.TemplateParam (number (pos 0) end) end) end) end) ∷ entry N (node Tag.SubstitutableTypeNode (node Tag.TypeNodeArray (node Tag.ArrayTypeDimensionExpression (node Tag.ExpressionSizeofExpr (node Tag.ExpressionCall (node Tag.ExpressionUnresolvedName (node Tag.UnresolvedNameName (node Tag.BaseUnresolvedNameName (node Tag.SimpleId (node Tag.SourceName (node Tag.Identifier (place 25 28 end) end) (node Tag.Absent end end)) end) end) end) (node Tag.Several (node Tag.ExpressionConversionMany (node Tag.BackReference (ref N 2 end) (node Tag.Several end end)) end) end)) end) (node Tag.TypeHandleBuiltin (node Tag.BuiltinTypeStandard (chosen 1 3 end) end) end)) end) end) end) ∷ entry N (node Tag.SubstitutableTypeNode (node Tag.TypeNodeLvalueRef (node Tag.BackReference (ref N 3 end) end) end) end) ∷ [])) 17
unfolding measure_from run_rule rule entry_at
mangled_name_13 = by_measure refl

mangled_name_14 : Reads Row.mangled_name false (codes "_ZN6test341fIiEEvDTstDTplcvT__EcvS1__EEE") (Read 40 (node Tag.MangledNameEncoding (node Tag.EncodingFunction (node Tag.NameNested (node Tag.NestedNameTemplate (node Tag.CvQualifiers (flag false (flag false (flag false end))) (node Tag.Absent end (node Tag.NonSubstitution (ref U 0 end) end))) end) (node Tag.BareFunctionType (node Tag.Several (node Tag.TypeHandleBuiltin (node Tag.BuiltinTypeStandard (chosen 1 0 end) end) (node Tag.BackReference (ref N 4 end) end)) end) end)) (node Tag.Several end end)) end) (entry N (node Tag.SubstitutablePrefix (node Tag.PrefixUnqualified (node Tag.UnqualifiedNameSource (node Tag.SourceName (node Tag.Identifier (place 4 10 end) end) (node Tag.AbiTags (node Tag.Several end end) end)) end) end) end) ∷ entry N (node Tag.SubstitutablePrefix (node Tag.PrefixNested (node Tag.BackReference (ref N 0 end) (node Tag.UnqualifiedNameSource (node Tag.SourceName (node Tag.Identifier (place 11 12 end) end) (node Tag.AbiTags (node Tag.Several end end) end)) end)) end) end) ∷ entry U (node Tag.SubstitutablePrefix (node Tag.PrefixTemplate (node Tag.BackReference (ref N 1 end) (node Tag.TemplateArgs (mark 12 (node Tag.Several (node Tag.TemplateArgTypeArg (node Tag.TypeHandleBuiltin (node Tag.BuiltinTypeStandard (chosen 1 8 end) end) end) end) end)) end)) end) end) ∷ entry N (node Tag.SubstitutableTypeNode (node Tag.TypeNodeTemplateParam (node Tag.TemplateParam (number (pos 0) end) end) end) end) ∷ entry N (node Tag.SubstitutableTypeNode (node Tag.TypeNodeDecltype (node Tag.DecltypeExpression (node Tag.ExpressionBinary (node Tag.OperatorNameSimple (chosen 0 9 end) (node Tag.ExpressionConversionMany (node Tag.BackReference (ref N 2 end) (node Tag.Several end end)) (node Tag.ExpressionConversionMany (node Tag.BackReference (ref N 2 end) (node Tag.Several end end)) end))) end) end) end) end) ∷ entry N (node Tag.SubstitutableTypeNode (node Tag.TypeNodeDecltype (node Tag.DecltypeExpression (node Tag.ExpressionSizeofType (node Tag.BackReference (ref N 3 end) end) end) end) end) end) ∷ [])) 18
unfolding measure_from run_rule rule entry_at
mangled_name_14 = by_measure refl

mangled_name_15 : Reads Row.mangled_name false (codes "_Z11unary_rightIJLi1ELi2ELi3EEEv1AIXfrplT_EE") (Read 44 (node Tag.MangledNameEncoding (node Tag.EncodingFunction (node Tag.NameUnscopedTemplate (node Tag.BackReference (ref N 0 end) (node Tag.TemplateArgs (mark 15 (node Tag.Several (node Tag.TemplateArgArgPack (node Tag.Several (node Tag.TemplateArgSimpleExpression (node Tag.ExprPrimaryLiteral (node Tag.TypeHandleBuiltin (node Tag.BuiltinTypeStandard (chosen 1 8 end) end) (place 19 20 end)) end) (node Tag.TemplateArgSimpleExpression (node Tag.ExprPrimaryLiteral (node Tag.TypeHandleBuiltin (node Tag.BuiltinTypeStandard (chosen 1 8 end) end) (place 23 24 end)) end) (node Tag.TemplateArgSimpleExpression (node Tag.ExprPrimaryLiteral (node Tag.TypeHandleBuiltin (node Tag.BuiltinTypeStandard (chosen 1 8 end) end) (place 27 28 end)) end) end))) end) end) end)) end)) (node Tag.BareFunctionType (node Tag.Several (node Tag.TypeHandleBuiltin (node Tag.BuiltinTypeStandard (chosen 1 0 end) end) (node Tag.BackReference (ref N 2 end) end)) end) end)) (node Tag.Several end end)) end) (entry N (node Tag.SubstitutableUnscopedTemplateName (node Tag.UnscopedTemplateName (node Tag.UnscopedNameUnqualified (node Tag.UnqualifiedNameSource (node Tag.SourceName (node Tag.Identifier (place 4 15 end) end) (node Tag.AbiTags (node Tag.Several end end) end)) end) end) end) end) ∷ entry N (node Tag.SubstitutableUnscopedTemplateName (node Tag.UnscopedTemplateName (node Tag.UnscopedNameUnqualified (node Tag.UnqualifiedNameSource (node Tag.SourceName (node Tag.Identifier (place 33 34 end) end) (node Tag.AbiTags (node Tag.Several end end) end)) end) end) end) end) ∷ entry N (node Tag.SubstitutableTypeNode (node Tag.TypeNodeClassEnum (node Tag.ClassEnumTypeNamed (node Tag.NameUnscopedTemplate (node Tag.BackReference (ref N 1 end) (node Tag.TemplateArgs (mark 34 (node Tag.Several (node Tag.TemplateArgExpression (node Tag.ExpressionFold (node Tag.FoldExprUnaryRight (chosen 0 9 (node Tag.ExpressionTemplateParam (node Tag.TemplateParam (number (pos 0) end) end) end)) end) end) end) end)) end)) end) end) end) end) ∷ [])) 16
unfolding measure_from run_rule rule entry_at
mangled_name_15 = by_measure refl

mangled_name_16 : Reads Row.mangled_name false (codes "_Z9hairyfuncM1YKFPVPFrPA2_PM1XKFKPA3_ilEPcEiE") (Read 45 (node Tag.MangledNameEncoding (node Tag.EncodingFunction (node Tag.NameUnscoped (node Tag.UnscopedNameUnqualified (node Tag.UnqualifiedNameSource (node Tag.SourceName (node Tag.Identifier (place 3 12 end) end) (node Tag.AbiTags (node Tag.Several end end) end)) end) end) (node Tag.BareFunctionType (node Tag.Several (node Tag.BackReference (ref N 17 end) end) end) end)) (node Tag.Several end end)) end) (entry N (node Tag.SubstitutableTypeNode (node Tag.TypeNodeClassEnum (node Tag.ClassEnumTypeNamed (node Tag.NameUnscoped (node Tag.UnscopedNameUnqualified (node Tag.UnqualifiedNameSource (node Tag.SourceName (node Tag.Identifier (place 14 15 end) end) (node Tag.AbiTags (node Tag.Several end end) end)) end) end) end) end) end) end) ∷ entry N (node Tag.SubstitutableTypeNode (node Tag.TypeNodeClassEnum (node Tag.ClassEnumTypeNamed (node Tag.NameUnscoped (node Tag.UnscopedNameUnqualified (node Tag.UnqualifiedNameSource (node Tag.SourceName (node Tag.Identifier (place 29 30 end) end) (node Tag.AbiTags (node Tag.Several end end) end)) end) end) end) end) end) end) ∷ entry N (node Tag.SubstitutableTypeNode (node Tag.TypeNodeArray (node Tag.ArrayTypeDimensionNumber (number (pos 3) (node Tag.TypeHandleBuiltin (node Tag.BuiltinTypeStandard (chosen 1 8 end) end) end)) end) end) end) ∷ entry N (node Tag.SubstitutableTypeNode (node Tag.TypeNodePointerTo (node Tag.BackReference (ref N 2 end) end) end) end) ∷ entry N (node Tag.SubstitutableTypeNode (node Tag.TypeNodeQualified (node Tag.CvQualifiers (flag false (flag false (flag true end))) (node Tag.BackReference (ref N 3 end) end)) end) end) ∷ entry N (node Tag.SubstitutableTypeNode (node Tag.TypeNodeFunction (node Tag.FunctionType (node Tag.CvQualifiers (flag false (flag false (flag true end))) (node Tag.Absent end (flag false (flag false (node Tag.BareFunctionType (node Tag.Several (node Tag.BackReference (ref N 4 end) (node Tag.TypeHandleBuiltin (node Tag.BuiltinTypeStandard (chosen 1 10 end) end) end)) end) (node Tag.Absent end end)))))) end) end) end) ∷ entry N (node Tag.SubstitutableTypeNode (node Tag.TypeNodePointerToMember (node Tag.PointerToMemberType (node Tag.BackReference (ref N 1 end) (node Tag.BackReference (ref N 5 end) end)) end) end) end) ∷ entry N (node Tag.SubstitutableTypeNode (node Tag.TypeNodePointerTo (node Tag.BackReference (ref N 6 end) end) end) end) ∷ entry N (node Tag.SubstitutableTypeNode (node Tag.TypeNodeArray (node Tag.ArrayTypeDimensionNumber (number (pos 2) (node Tag.BackReference (ref N 7 end) end)) end) end) end) ∷ entry N (node Tag.SubstitutableTypeNode (node Tag.TypeNodePointerTo (node Tag.BackReference (ref N 8 end) end) end) end) ∷ entry N (node Tag.SubstitutableTypeNode (node Tag.TypeNodeQualified (node Tag.CvQualifiers (flag true (flag false (flag false end))) (node Tag.BackReference (ref N 9 end) end)) end) end) ∷ entry N (node Tag.SubstitutableTypeNode (node Tag.TypeNodePointerTo (node Tag.TypeHandleBuiltin (node Tag.BuiltinTypeStandard (chosen 1 3 end) end) end) end) end) ∷ entry N (node Tag.SubstitutableTypeNode (node Tag.TypeNodeFunction (node Tag.FunctionType (node Tag.CvQualifiers (flag false (flag false (flag false end))) (node Tag.Absent end (flag false (flag false (node Tag.BareFunctionType (node Tag.Several (node Tag.BackReference (ref N 10 end) (node Tag.BackReference (ref N 11 end) end)) end) (node Tag.Absent end end)))))) end) end) end) ∷ entry N (node Tag.SubstitutableTypeNode (node Tag.TypeNodePointerTo (node Tag.BackReference (ref N 12 end) end) end) end) ∷ entry N (node Tag.SubstitutableTypeNode (node Tag.TypeNodeQualified (node Tag.CvQualifiers (flag false (flag true (flag false end))) (node Tag.BackReference (ref N 13 end) end)) end) end) ∷ entry N (node Tag.SubstitutableTypeNode (node Tag.TypeNodePointerTo (node Tag.BackReference (ref N 14 end) end) end) end) ∷ entry N (node Tag.SubstitutableTypeNode (node Tag.TypeNodeFunction (node Tag.FunctionType (node Tag.CvQualifiers (flag false (flag false (flag true end))) (node Tag.Absent end (flag false (flag false (node Tag.BareFunctionType (node Tag.Several (node Tag.BackReference (ref N 15 end) (node Tag.TypeHandleBuiltin (node Tag.BuiltinTypeStandard (chosen 1 8 end) end) end)) end) (node Tag.Absent end end)))))) end) end) end) ∷ entry N (node Tag.SubstitutableTypeNode (node Tag.TypeNodePointerToMember (node Tag.PointerToMemberType (node Tag.BackReference (ref N 0 end) (node Tag.BackReference (ref N 16 end) end)) end) end) end) ∷ [])) 34
unfolding measure_from run_rule rule entry_at
mangled_name_16 = by_measure refl

mangled_name_17 : Reads Row.mangled_name false (codes "_ZN5Test11fEMNS_1BEFvvENS_1AES3_MS0_FvS3_EMS3_FvvE") (Read 50 (node Tag.MangledNameEncoding (node Tag.EncodingFunction (node Tag.NameNested (node Tag.NestedNameUnqualified (node Tag.CvQualifiers (flag false (flag false (flag false end))) (node Tag.Absent end (node Tag.Present (node Tag.BackReference (ref N 0 end) end) (node Tag.UnqualifiedNameSource (node Tag.SourceName (node Tag.Identifier (place 10 11 end) end) (node Tag.AbiTags (node Tag.Several end end) end)) end)))) end) (node Tag.BareFunctionType (node Tag.Several (node Tag.BackReference (ref N 3 end) (node Tag.BackReference (ref N 4 end) (node Tag.BackReference (ref N 4 end) (node Tag.BackReference (ref N 6 end) (node Tag.BackReference (ref N 8 end) end))))) end) end)) (node Tag.Several end end)) end) (entry N (node Tag.SubstitutablePrefix (node Tag.PrefixUnqualified (node Tag.UnqualifiedNameSource (node Tag.SourceName (node Tag.Identifier (place 4 9 end) end) (node Tag.AbiTags (node Tag.Several end end) end)) end) end) end) ∷ entry U (node Tag.SubstitutablePrefix (node Tag.PrefixNested (node Tag.BackReference (ref N 0 end) (node Tag.UnqualifiedNameSource (node Tag.SourceName (node Tag.Identifier (place 10 11 end) end) (node Tag.AbiTags (node Tag.Several end end) end)) end)) end) end) ∷ entry U (node Tag.SubstitutablePrefix (node Tag.PrefixNested (node Tag.BackReference (ref N 0 end) (node Tag.UnqualifiedNameSource (node Tag.SourceName (node Tag.Identifier (place 17 18 end) end) (node Tag.AbiTags (node Tag.Several end end) end)) end)) end) end) ∷ entry N (node Tag.SubstitutableTypeNode (node Tag.TypeNodeClassEnum (node Tag.ClassEnumTypeNamed (node Tag.NameNested (node Tag.NestedNameUnqualified (node Tag.CvQualifiers (flag false (flag false (flag false end))) (node Tag.Absent end (node Tag.Present (node Tag.BackReference (ref N 0 end) end) (node Tag.UnqualifiedNameSource (node Tag.SourceName (node Tag.Identifier (place 17 18 end) end) (node Tag.AbiTags (node Tag.Several end end) end)) end)))) end) end) end) end) end) ∷ entry N (node Tag.SubstitutableTypeNode (node Tag.TypeNodeFunction (node Tag.FunctionType (node Tag.CvQualifiers (flag false (flag false (flag false end))) (node Tag.Absent end (flag false (flag false (node Tag.BareFunctionType (node Tag.Several (node Tag.TypeHandleBuiltin (node Tag.BuiltinTypeStandard (chosen 1 0 end) end) (node Tag.TypeHandleBuiltin (node Tag.BuiltinTypeStandard (chosen 1 0 end) end) end)) end) (node Tag.Absent end end)))))) end) end) end) ∷ entry N (node Tag.SubstitutableTypeNode (node Tag.TypeNodePointerToMember (node Tag.PointerToMemberType (node Tag.BackReference (ref N 1 end) (node Tag.BackReference (ref N 2 end) end)) end) end) end) ∷ entry U (node Tag.SubstitutablePrefix (node Tag.PrefixNested (node Tag.BackReference (ref N 0 end) (node Tag.UnqualifiedNameSource (node Tag.SourceName (node Tag.Identifier (place 27 28 end) end) (node Tag.AbiTags (node Tag.Several end end) end)) end)) end) end) ∷ entry N (node Tag.SubstitutableTypeNode (node Tag.TypeNodeClassEnum (node Tag.ClassEnumTypeNamed (node Tag.NameNested (node Tag.NestedNameUnqualified (node Tag.CvQualifiers (flag false (flag false (flag false end))) (node Tag.Absent end (node Tag.Present (node Tag.BackReference (ref N 0 end) end) (node Tag.UnqualifiedNameSource (node Tag.SourceName (node Tag.Identifier (place 27 28 end) end) (node Tag.AbiTags (node Tag.Several end end) end)) end)))) end) end) end) end) end) ∷ entry N (node Tag.SubstitutableTypeNode (node Tag.TypeNodeFunction (node Tag.FunctionType (node Tag.CvQualifiers (flag false (flag false (flag false end))) (node Tag.Absent end (flag false (flag false (node Tag.BareFunctionType (node Tag.Several (node Tag.TypeHandleBuiltin (node Tag.BuiltinTypeStandard (chosen 1 0 end) end) (node Tag.BackReference (ref N 4 end) end)) end) (node Tag.Absent end end)))))) end) end) end) ∷ entry N (node Tag.SubstitutableTypeNode (node Tag.TypeNodePointerToMember (node Tag.PointerToMemberType (node Tag.BackReference (ref N 1 end) (node Tag.BackReference (ref N 5 end) end)) end) end) end) ∷ entry N (node Tag.SubstitutableTypeNode (node Tag.TypeNodeFunction (node Tag.FunctionType (node Tag.CvQualifiers (flag false (flag false (flag false end))) (node Tag.Absent end (flag false (flag false (node Tag.BareFunctionType (node Tag.Several (node Tag.TypeHandleBuiltin (node Tag.BuiltinTypeStandard (chosen 1 0 end) end) (node Tag.TypeHandleBuiltin (node Tag.BuiltinTypeStandard (chosen 1 0 end) end) end)) end) (node Tag.Absent end end)))))) end) end) end) ∷ entry N (node Tag.SubstitutableTypeNode (node Tag.TypeNodePointerToMember (node Tag.PointerToMemberType (node Tag.BackReference (ref N 4 end) (node Tag.BackReference (ref N 7 end) end)) end) end) end) ∷ [])) 16
unfolding measure_from run_rule rule entry_at
mangled_name_17 = by_measure refl

mangled_name_18 : Reads Row.mangled_name false (codes "_Z3kx01FIXtl1DtlA2_M2AFFvvEtlS3_adL_ZNS1_1fEvEEEEEE") (Read 51 (node Tag.MangledNameEncoding (node Tag.EncodingFunction (node Tag.NameUnscoped (node Tag.UnscopedNameUnqualified (node Tag.UnqualifiedNameSource (node Tag.SourceName (node Tag.Identifier (place 3 6 end) end) (node Tag.AbiTags (node Tag.Several end end) end)) end) end) (node Tag.BareFunctionType (node Tag.Several (node Tag.BackReference (ref N 6 end) end) end) end)) (node Tag.Several end end)) end) (entry N (node Tag.SubstitutableUnscopedTemplateName (node Tag.UnscopedTemplateName (node Tag.UnscopedNameUnqualified (node Tag.UnqualifiedNameSource (node Tag.SourceName (node Tag.Identifier (place 7 8 end) end) (node Tag.AbiTags (node Tag.Several end end) end)) end) end) end) end) ∷ entry N (node Tag.SubstitutableTypeNode (node Tag.TypeNodeClassEnum (node Tag.ClassEnumTypeNamed (node Tag.NameUnscoped (node Tag.UnscopedNameUnqualified (node Tag.UnqualifiedNameSource (node Tag.SourceName (node Tag.Identifier (place 13 14 end) end) (node Tag.AbiTags (node Tag.Several end end) end)) end) end) end) end) end) end) ∷ entry N (node Tag.SubstitutableTypeNode (node Tag.TypeNodeClassEnum (node Tag.ClassEnumTypeNamed (node Tag.NameUnscoped (node Tag.UnscopedNameUnqualified (node Tag.UnqualifiedNameSource (node Tag.SourceName (node Tag.Identifier (place 21 23 end) end) (node Tag.AbiTags (node Tag.Several end end) end)) end) end) end) end) end) end) ∷ entry N (node Tag.SubstitutableTypeNode (node Tag.TypeNodeFunction (node Tag.FunctionType (node Tag.CvQualifiers (flag false (flag false (flag false end))) (node Tag.Absent end (flag false (flag false (node Tag.BareFunctionType (node Tag.Several (node Tag.TypeHandleBuiltin (node Tag.BuiltinTypeStandard (chosen 1 0 end) end) (node Tag.TypeHandleBuiltin (node Tag.BuiltinTypeStandard (chosen 1 0 end) end) end)) end) (node Tag.Absent end end)))))) end) end) end) ∷ entry N (node Tag.SubstitutableTypeNode (node Tag.TypeNodePointerToMember (node Tag.PointerToMemberType (node Tag.BackReference (ref N 2 end) (node Tag.BackReference (ref N 3 end) end)) end) end) end) ∷ entry N (node Tag.SubstitutableTypeNode (node Tag.TypeNodeArray (node Tag.ArrayTypeDimensionNumber (number (pos 2) (node Tag.BackReference (ref N 4 end) end)) end) end) end) ∷ entry U (node Tag.SubstitutablePrefix (node Tag.PrefixNested (node Tag.BackReference (ref N 2 end) (node Tag.UnqualifiedNameSource (node Tag.SourceName (node Tag.Identifier (place 42 43 end) end) (node Tag.AbiTags (node Tag.Several end end) end)) end)) end) end) ∷ entry N (node Tag.SubstitutableTypeNode (node Tag.TypeNodeClassEnum (node Tag.ClassEnumTypeNamed (node Tag.NameUnscopedTemplate (node Tag.BackReference (ref N 0 end) (node Tag.TemplateArgs (mark 8 (node Tag.Several (node Tag.TemplateArgExpression (node Tag.ExpressionConversionBraced (node Tag.BackReference (ref N 1 end) (node Tag.Several (node Tag.ExpressionConversionBraced (node Tag.BackReference (ref N 5 end) (node Tag.Several (node Tag.ExpressionConversionBraced (node Tag.BackReference (ref N 4 end) (node Tag.Several (node Tag.ExpressionUnary (node Tag.OperatorNameSimple (chosen 0 6 end) (node Tag.ExpressionPrimary (node Tag.ExprPrimaryExternal (node Tag.MangledNameEncoding (node Tag.EncodingFunction (node Tag.NameNested (node Tag.NestedNameUnqualified (node Tag.CvQualifiers (flag false (flag false (flag false end))) (node Tag.Absent end (node Tag.Present (node Tag.BackReference (ref N 2 end) end) (node Tag.UnqualifiedNameSource (node Tag.SourceName (node Tag.Identifier (place 42 43 end) end) (node Tag.AbiTags (node Tag.Several end end) end)) end)))) end) (node Tag.BareFunctionType (node Tag.Several (node Tag.TypeHandleBuiltin (node Tag.BuiltinTypeStandard (chosen 1 0 end) end) end) end) end)) (node Tag.Several end end)) end) end) end)) end) end)) end) end)) end) end)) end) end) end)) end)) end) end) end) end) ∷ [])) 25
unfolding measure_from run_rule rule entry_at
mangled_name_18 = by_measure refl

mangled_name_19 : Reads Row.mangled_name false (codes "_Z1rM1GFivEMS_KFivES_M1HFivES1_4whatIKS_E5what2IS8_ES3_") (Read 55 (node Tag.MangledNameEncoding (node Tag.EncodingFunction (node Tag.NameUnscoped (node Tag.UnscopedNameUnqualified (node Tag.UnqualifiedNameSource (node Tag.SourceName (node Tag.Identifier (place 3 4 end) end) (node Tag.AbiTags (node Tag.Several end end) end)) end) end) (node Tag.BareFunctionType (node Tag.Several (node Tag.BackReference (ref N 2 end) (node Tag.BackReference (ref N 4 end) (node Tag.BackReference (ref N 0 end) (node Tag.BackReference (ref N 7 end) (node Tag.BackReference (ref N 2 end) (node Tag.BackReference (ref N 10 end) (node Tag.BackReference (ref N 12 end) (node Tag.BackReference (ref N 4 end) end)))))))) end) end)) (node Tag.Several end end)) end) (entry N (node Tag.SubstitutableTypeNode (node Tag.TypeNodeClassEnum (node Tag.ClassEnumTypeNamed (node Tag.NameUnscoped (node Tag.UnscopedNameUnqualified (node Tag.UnqualifiedNameSource (node Tag.SourceName (node Tag.Identifier (place 6 7 end) end) (node Tag.AbiTags (node Tag.Several end end) end)) end) end) end) end) end) end) ∷ entry N (node Tag.SubstitutableTypeNode (node Tag.TypeNodeFunction (node Tag.FunctionType (node Tag.CvQualifiers (flag false (flag false (flag false end))) (node Tag.Absent end (flag false (flag false (node Tag.BareFunctionType (node Tag.Several (node Tag.TypeHandleBuiltin (node Tag.BuiltinTypeStandard (chosen 1 8 end) end) (node Tag.TypeHandleBuiltin (node Tag.BuiltinTypeStandard (chosen 1 0 end) end) end)) end) (node Tag.Absent end end)))))) end) end) end) ∷ entry N (node Tag.SubstitutableTypeNode (node Tag.TypeNodePointerToMember (node Tag.PointerToMemberType (node Tag.BackReference (ref N 0 end) (node Tag.BackReference (ref N 1 end) end)) end) end) end) ∷ entry N (node Tag.SubstitutableTypeNode (node Tag.TypeNodeFunction (node Tag.FunctionType (node Tag.CvQualifiers (flag false (flag false (flag true end))) (node Tag.Absent end (flag false (flag false (node Tag.BareFunctionType (node Tag.Several (node Tag.TypeHandleBuiltin (node Tag.BuiltinTypeStandard (chosen 1 8 end) end) (node Tag.TypeHandleBuiltin (node Tag.BuiltinTypeStandard (chosen 1 0 end) end) end)) end) (node Tag.Absent end end)))))) end) end) end) ∷ entry N (node Tag.SubstitutableTypeNode (node Tag.TypeNodePointerToMember (node Tag.PointerToMemberType (node Tag.BackReference (ref N 0 end) (node Tag.BackReference (ref N 3 end) end)) end) end) end) ∷ entry N (node Tag.SubstitutableTypeNode (node Tag.TypeNodeClassEnum (node Tag.ClassEnumTypeNamed (node Tag.NameUnscoped (node Tag.UnscopedNameUnqualified (node Tag.UnqualifiedNameSource (node Tag.SourceName (node Tag.Identifier (place 23 24 end) end) (node Tag.AbiTags (node Tag.Several end end) end)) end) end) end) end) end) end) ∷ entry N (node Tag.SubstitutableTypeNode (node Tag.TypeNodeFunction (node Tag.FunctionType (node Tag.CvQualifiers (flag false (flag false (flag false end))) (node Tag.Absent end (flag false (flag false (node Tag.BareFunctionType (node Tag.Several (node Tag.TypeHandleBuiltin (node Tag.BuiltinTypeStandard (chosen 1 8 end) end) (node Tag.TypeHandleBuiltin (node Tag.BuiltinTypeStandard (chosen 1 0 end) end) end)) end) (node Tag.Absent end end)))))) end) end) end) ∷ entry N (node Tag.SubstitutableTypeNode (node Tag.TypeNodePointerToMember (node Tag.PointerToMemberType (node Tag.BackReference (ref N 5 end) (node Tag.BackReference (ref N 6 end) end)) end) end) end) ∷ entry N (node Tag.SubstitutableUnscopedTemplateName (node Tag.UnscopedTemplateName (node Tag.UnscopedNameUnqualified (node Tag.UnqualifiedNameSource (node Tag.SourceName (node Tag.Identifier (place 32 36 end) end) (node Tag.AbiTags (node Tag.Several end end) end)) end) end) end) end) ∷ entry N (node Tag.SubstitutableTypeNode (node Tag.TypeNodeQualified (node Tag.CvQualifiers (flag false (flag false (flag true end))) (node Tag.BackReference (ref N 0 end) end)) end) end) ∷ entry N (node Tag.SubstitutableTypeNode (node Tag.TypeNodeClassEnum (node Tag.ClassEnumTypeNamed (node Tag.NameUnscopedTemplate (node Tag.BackReference (ref N 8 end) (node Tag.TemplateArgs (mark 36 (node Tag.Several (node Tag.TemplateArgTypeArg (node Tag.BackReference (ref N 9 end) end) end) end)) end)) end) end) end) end) ∷ entry N (node Tag.SubstitutableUnscopedTemplateName (node Tag.UnscopedTemplateName (node Tag.UnscopedNameUnqualified (node Tag.UnqualifiedNameSource (node Tag.SourceName (node Tag.Identifier (place 42 47 end) end) (node Tag.AbiTags (node Tag.Several end end) end)) end) end) end) end) ∷ entry N (node Tag.SubstitutableTypeNode (node Tag.TypeNodeClassEnum (node Tag.ClassEnumTypeNamed (node Tag.NameUnscopedTemplate (node Tag.BackReference (ref N 11 end) (node Tag.TemplateArgs (mark 47 (node Tag.Several (node Tag.TemplateArgTypeArg (node Tag.BackReference (ref N 9 end) end) end) end)) end)) end) end) end) end) ∷ [])) 17
unfolding measure_from run_rule rule entry_at
mangled_name_19 = by_measure refl

mangled_name_20 : Reads Row.mangled_name false (codes "_ZN5Casts7static_ILj4EEEvPN9enable_ifIXleT_scjLi4EEvE4typeE") (Read 59 (node Tag.MangledNameEncoding (node Tag.EncodingFunction (node Tag.NameNested (node Tag.NestedNameTemplate (node Tag.CvQualifiers (flag false (flag false (flag false end))) (node Tag.Absent end (node Tag.NonSubstitution (ref U 0 end) end))) end) (node Tag.BareFunctionType (node Tag.Several (node Tag.TypeHandleBuiltin (node Tag.BuiltinTypeStandard (chosen 1 0 end) end) (node Tag.BackReference (ref N 5 end) end)) end) end)) (node Tag.Several end end)) end) (entry N (node Tag.SubstitutablePrefix (node Tag.PrefixUnqualified (node Tag.UnqualifiedNameSource (node Tag.SourceName (node Tag.Identifier (place 4 9 end) end) (node Tag.AbiTags (node Tag.Several end end) end)) end) end) end) ∷ entry N (node Tag.SubstitutablePrefix (node Tag.PrefixNested (node Tag.BackReference (ref N 0 end) (node Tag.UnqualifiedNameSource (node Tag.SourceName (node Tag.Identifier (place 10 17 end) end) (node Tag.AbiTags (node Tag.Several end end) end)) end)) end) end) ∷ entry U (node Tag.SubstitutablePrefix (node Tag.PrefixTemplate (node Tag.BackReference (ref N 1 end) (node Tag.TemplateArgs (mark 17 (node Tag.Several (node Tag.TemplateArgSimpleExpression (node Tag.ExprPrimaryLiteral (node Tag.TypeHandleBuiltin (node Tag.BuiltinTypeStandard (chosen 1 9 end) end) (place 20 21 end)) end) end) end)) end)) end) end) ∷ entry N (node Tag.SubstitutablePrefix (node Tag.PrefixUnqualified (node Tag.UnqualifiedNameSource (node Tag.SourceName (node Tag.Identifier (place 28 37 end) end) (node Tag.AbiTags (node Tag.Several end end) end)) end) end) end) ∷ entry N (node Tag.SubstitutablePrefix (node Tag.PrefixTemplate (node Tag.BackReference (ref N 2 end) (node Tag.TemplateArgs (mark 37 (node Tag.Several (node Tag.TemplateArgExpression (node Tag.ExpressionBinary (node Tag.OperatorNameSimple (chosen 0 34 end) (node Tag.ExpressionTemplateParam (node Tag.TemplateParam (number (pos 0) end) end) (node Tag.ExpressionStaticCast (node Tag.TypeHandleBuiltin (node Tag.BuiltinTypeStandard (chosen 1 9 end) end) (node Tag.ExpressionPrimary (node Tag.ExprPrimaryLiteral (node Tag.TypeHandleBuiltin (node Tag.BuiltinTypeStandard (chosen 1 8 end) end) (place 48 49 end)) end) end)) end))) end) (node Tag.TemplateArgTypeArg (node Tag.TypeHandleBuiltin (node Tag.BuiltinTypeStandard (chosen 1 0 end) end) end) end)) end)) end)) end) end) ∷ entry U (node Tag.SubstitutablePrefix (node Tag.PrefixNested (node Tag.BackReference (ref N 3 end) (node Tag.UnqualifiedNameSource (node Tag.SourceName (node Tag.Identifier (place 54 58 end) end) (node Tag.AbiTags (node Tag.Several end end) end)) end)) end) end) ∷ entry N (node Tag.SubstitutableTypeNode (node Tag.TypeNodeClassEnum (node Tag.ClassEnumTypeNamed (node Tag.NameNested (node Tag.NestedNameUnqualified (node Tag.CvQualifiers (flag false (flag false (flag false end))) (node Tag.Absent end (node Tag.Present (node Tag.BackReference (ref N 3 end) end) (node Tag.UnqualifiedNameSource (node Tag.SourceName (node Tag.Identifier (place 54 58 end) end) (node Tag.AbiTags (node Tag.Several end end) end)) end)))) end) end) end) end) end) ∷ entry N (node Tag.SubstitutableTypeNode (node Tag.TypeNodePointerTo (node Tag.BackReference (ref N 4 end) end) end) end) ∷ [])) 20
unfolding measure_from run_rule rule entry_at
mangled_name_20 = by_measure refl

mangled_name_21 : Reads Row.mangled_name false (codes "_ZN5test37get_p_1INS_7DerivedEEEDtptcvPT_Li0Esr5Path1E1pERS2_") (Read 32 (node Tag.MangledNameEncoding (node Tag.EncodingData (node Tag.NameNested (node Tag.NestedNameTemplate (node Tag.CvQualifiers (flag false (flag false (flag false end))) (node Tag.Absent end (node Tag.NonSubstitution (ref U 1 end) end))) end) end) (node Tag.Several end end)) end) (entry N (node Tag.SubstitutablePrefix (node Tag.PrefixUnqualified (node Tag.UnqualifiedNameSource (node Tag.SourceName (node Tag.Identifier (place 4 9 end) end) (node Tag.AbiTags (node Tag.Several end end) end)) end) end) end) ∷ entry N (node Tag.SubstitutablePrefix (node Tag.PrefixNested (node Tag.BackReference (ref N 0 end) (node Tag.UnqualifiedNameSource (node Tag.SourceName (node Tag.Identifier (place 10 17 end) end) (node Tag.AbiTags (node Tag.Several end end) end)) end)) end) end) ∷ entry U (node Tag.SubstitutablePrefix (node Tag.PrefixNested (node Tag.BackReference (ref N 0 end) (node Tag.UnqualifiedNameSource (node Tag.SourceName (node Tag.Identifier (place 22 29 end) end) (node Tag.AbiTags (node Tag.Several end end) end)) end)) end) end) ∷ entry N (node Tag.SubstitutableTypeNode (node Tag.TypeNodeClassEnum (node Tag.ClassEnumTypeNamed (node Tag.NameNested (node Tag.NestedNameUnqualified (node Tag.CvQualifiers (flag false (flag false (flag false end))) (node Tag.Absent end (node Tag.Present (node Tag.BackReference (ref N 0 end) end) (node Tag.UnqualifiedNameSource (node Tag.SourceName (node Tag.Identifier (place 22 29 end) end) (node Tag.AbiTags (node Tag.Several end end) end)) end)))) end) end) end) end) end) ∷ entry U (node Tag.SubstitutablePrefix (node Tag.PrefixTemplate (node Tag.BackReference (ref N 1 end) (node Tag.TemplateArgs (mark 17 (node Tag.Several (node Tag.TemplateArgTypeArg (node Tag.BackReference (ref N 2 end) end) end) end)) end)) end) end) ∷ [])) 17
unfolding measure_from run_rule rule entry_at
mangled_name_21 = by_measure refl

mangled_name_22 : Reads Row.mangled_name false (codes "_ZN5test37get_p_2INS_7DerivedEEEDtptcvPT_Li0Esr5Path2E1pERS2_") (Read 32 (node Tag.MangledNameEncoding (node Tag.EncodingData (node Tag.NameNested (node Tag.NestedNameTemplate (node Tag.CvQualifiers (flag false (flag false (flag false end))) (node Tag.Absent end (node Tag.NonSubstitution (ref U 1 end) end))) end) end) (node Tag.Several end end)) end) (entry N (node Tag.SubstitutablePrefix (node Tag.PrefixUnqualified (node Tag.UnqualifiedNameSource (node Tag.SourceName (node Tag.Identifier (place 4 9 end) end) (node Tag.AbiTags (node Tag.Several end end) end)) end) end) end) ∷ entry N (node Tag.SubstitutablePrefix (node Tag.PrefixNested (node Tag.BackReference (ref N 0 end) (node Tag.UnqualifiedNameSource (node Tag.SourceName (node Tag.Identifier (place 10 17 end) end) (node Tag.AbiTags (node Tag.Several end end) end)) end)) end) end) ∷ entry U (node Tag.SubstitutablePrefix (node Tag.PrefixNested (node Tag.BackReference (ref N 0 end) (node Tag.UnqualifiedNameSource (node Tag.SourceName (node Tag.Identifier (place 22 29 end) end) (node Tag.AbiTags (node Tag.Several end end) end)) end)) end) end) ∷ entry N (node Tag.SubstitutableTypeNode (node Tag.TypeNodeClassEnum (node Tag.ClassEnumTypeNamed (node Tag.NameNested (node Tag.NestedNameUnqualified (node Tag.CvQualifiers (flag false (flag false (flag false end))) (node Tag.Absent end (node Tag.Present (node Tag.BackReference (ref N 0 end) end) (node Tag.UnqualifiedNameSource (node Tag.SourceName (node Tag.Identifier (place 22 29 end) end) (node Tag.AbiTags (node Tag.Several end end) end)) end)))) end) end) end) end) end) ∷ entry U (node Tag.SubstitutablePrefix (node Tag.PrefixTemplate (node Tag.BackReference (ref N 1 end) (node Tag.TemplateArgs (mark 17 (node Tag.Several (node Tag.TemplateArgTypeArg (node Tag.BackReference (ref N 2 end) end) end) end)) end)) end) end) ∷ [])) 17
unfolding measure_from run_rule rule entry_at
mangled_name_22 = by_measure refl

mangled_name_23 : Reads Row.mangled_name false (codes "_ZN33partially_dependent_template_args5test22g4ILi0EEEvDTclL_ZNS0_1fILj0EEEiNS0_1XEEtlS3_T_EEE") (Read 94 (node Tag.MangledNameEncoding (node Tag.EncodingFunction (node Tag.NameNested (node Tag.NestedNameTemplate (node Tag.CvQualifiers (flag false (flag false (flag false end))) (node Tag.Absent end (node Tag.NonSubstitution (ref U 0 end) end))) end) (node Tag.BareFunctionType (node Tag.Several (node Tag.TypeHandleBuiltin (node Tag.BuiltinTypeStandard (chosen 1 0 end) end) (node Tag.BackReference (ref N 5 end) end)) end) end)) (node Tag.Several end end)) end) (entry N (node Tag.SubstitutablePrefix (node Tag.PrefixUnqualified (node Tag.UnqualifiedNameSource (node Tag.SourceName (node Tag.Identifier (place 5 38 end) end) (node Tag.AbiTags (node Tag.Several end end) end)) end) end) end) ∷ entry N (node Tag.SubstitutablePrefix (node Tag.PrefixNested (node Tag.BackReference (ref N 0 end) (node Tag.UnqualifiedNameSource (node Tag.SourceName (node Tag.Identifier (place 39 44 end) end) (node Tag.AbiTags (node Tag.Several end end) end)) end)) end) end) ∷ entry N (node Tag.SubstitutablePrefix (node Tag.PrefixNested (node Tag.BackReference (ref N 1 end) (node Tag.UnqualifiedNameSource (node Tag.SourceName (node Tag.Identifier (place 45 47 end) end) (node Tag.AbiTags (node Tag.Several end end) end)) end)) end) end) ∷ entry U (node Tag.SubstitutablePrefix (node Tag.PrefixTemplate (node Tag.BackReference (ref N 2 end) (node Tag.TemplateArgs (mark 47 (node Tag.Several (node Tag.TemplateArgSimpleExpression (node Tag.ExprPrimaryLiteral (node Tag.TypeHandleBuiltin (node Tag.BuiltinTypeStandard (chosen 1 8 end) end) (place 50 51 end)) end) end) end)) end)) end) end) ∷ entry N (node Tag.SubstitutablePrefix (node Tag.PrefixNested (node Tag.BackReference (ref N 1 end) (node Tag.UnqualifiedNameSource (node Tag.SourceName (node Tag.Identifier (place 67 68 end) end) (node Tag.AbiTags (node Tag.Several end end) end)) end)) end) end) ∷ entry U (node Tag.SubstitutablePrefix (node Tag.PrefixTemplate (node Tag.BackReference (ref N 3 end) (node Tag.TemplateArgs (mark 68 (node Tag.Several (node Tag.TemplateArgSimpleExpression (node Tag.ExprPrimaryLiteral (node Tag.TypeHandleBuiltin (node Tag.BuiltinTypeStandard (chosen 1 9 end) end) (place 71 72 end)) end) end) end)) end)) end) end) ∷ entry U (node Tag.SubstitutablePrefix (node Tag.PrefixNested (node Tag.BackReference (ref N 1 end) (node Tag.UnqualifiedNameSource (node Tag.SourceName (node Tag.Identifier (place 81 82 end) end) (node Tag.AbiTags (node Tag.Several end end) end)) end)) end) end) ∷ entry N (node Tag.SubstitutableTypeNode (node Tag.TypeNodeClassEnum (node Tag.ClassEnumTypeNamed (node Tag.NameNested (node Tag.NestedNameUnqualified (node Tag.CvQualifiers (flag false (flag false (flag false end))) (node Tag.Absent end (node Tag.Present (node Tag.BackReference (ref N 1 end) end) (node Tag.UnqualifiedNameSource (node Tag.SourceName (node Tag.Identifier (place 81 82 end) end) (node Tag.AbiTags (node Tag.Several end end) end)) end)))) end) end) end) end) end) ∷ entry N (node Tag.SubstitutableTypeNode (node Tag.TypeNodeDecltype (node Tag.DecltypeExpression (node Tag.ExpressionCall (node Tag.ExpressionPrimary (node Tag.ExprPrimaryExternal (node Tag.MangledNameEncoding (node Tag.EncodingFunction (node Tag.NameNested (node Tag.NestedNameTemplate (node Tag.CvQualifiers (flag false (flag false (flag false end))) (node Tag.Absent end (node Tag.NonSubstitution (ref U 1 end) end))) end) (node Tag.BareFunctionType (node Tag.Several (node Tag.TypeHandleBuiltin (node Tag.BuiltinTypeStandard (chosen 1 8 end) end) (node Tag.BackReference (ref N 4 end) end)) end) end)) (node Tag.Several end end)) end) end) (node Tag.Several (node Tag.ExpressionConversionBraced (node Tag.BackReference (ref N 4 end) (node Tag.Several (node Tag.ExpressionTemplateParam (node Tag.TemplateParam (number (pos 0) end) end) end) end)) end) end)) end) end) end) end) ∷ [])) 24
unfolding measure_from run_rule rule entry_at
mangled_name_23 = by_measure refl

member_name_1 : Reads Row.member_name false (codes "oncl") (Read 4 (node Tag.MemberName (node Tag.NameUnscoped (node Tag.UnscopedNameUnqualified (node Tag.UnqualifiedNameOperator (node Tag.OperatorNameSimple (chosen 0 44 end) (node Tag.AbiTags (node Tag.Several end end) end)) end) end) end) end) []) 4
unfolding measure_from run_rule rule entry_at
member_name_1 = by_measure refl

member_name_2 : Reads Row.member_name false (codes "oncvPT_E") (Read 7 (node Tag.MemberName (node Tag.NameUnscoped (node Tag.UnscopedNameUnqualified (node Tag.UnqualifiedNameOperator (node Tag.OperatorNameConversion (node Tag.BackReference (ref N 1 end) end) (node Tag.AbiTags (node Tag.Several end end) end)) end) end) end) end) (entry N (node Tag.SubstitutableTypeNode (node Tag.TypeNodeTemplateParam (node Tag.TemplateParam (number (pos 0) end) end) end) end) ∷ entry N (node Tag.SubstitutableTypeNode (node Tag.TypeNodePointerTo (node Tag.BackReference (ref N 0 end) end) end) end) ∷ [])) 12
unfolding measure_from run_rule rule entry_at
member_name_2 = by_measure refl

name_1 : Reads Row.name false (codes "Sa") (Refused End) 6
unfolding measure_from run_rule rule entry_at
name_1 = by_measure refl

name_2 : Reads Row.name false (codes "NSoC3EE") (Read 6 (node Tag.NameNested (node Tag.NestedNameUnqualified (node Tag.CvQualifiers (flag false (flag false (flag false end))) (node Tag.Absent end (node Tag.Present (node Tag.WellKnown (chosen 2 5 end) end) (node Tag.UnqualifiedNameCtorDtor (node Tag.CtorDtorNameCompleteAllocatingConstructor (node Tag.Absent end end) (node Tag.AbiTags (node Tag.Several end end) end)) end)))) end) end) (entry U (node Tag.SubstitutablePrefix (node Tag.PrefixNested (node Tag.WellKnown (chosen 2 5 end) (node Tag.UnqualifiedNameCtorDtor (node Tag.CtorDtorNameCompleteAllocatingConstructor (node Tag.Absent end end) (node Tag.AbiTags (node Tag.Several end end) end)) end)) end) end) ∷ [])) 7
unfolding measure_from run_rule rule entry_at
name_2 = by_measure refl

name_3 : Reads Row.name false (codes "N3OpsmlE") (Read 8 (node Tag.NameNested (node Tag.NestedNameUnqualified (node Tag.CvQualifiers (flag false (flag false (flag false end))) (node Tag.Absent end (node Tag.Present (node Tag.BackReference (ref N 0 end) end) (node Tag.UnqualifiedNameOperator (node Tag.OperatorNameSimple (chosen 0 11 end) (node Tag.AbiTags (node Tag.Several end end) end)) end)))) end) end) (entry N (node Tag.SubstitutablePrefix (node Tag.PrefixUnqualified (node Tag.UnqualifiedNameSource (node Tag.SourceName (node Tag.Identifier (place 2 5 end) end) (node Tag.AbiTags (node Tag.Several end end) end)) end) end) end) ∷ entry U (node Tag.SubstitutablePrefix (node Tag.PrefixNested (node Tag.BackReference (ref N 0 end) (node Tag.UnqualifiedNameOperator (node Tag.OperatorNameSimple (chosen 0 11 end) (node Tag.AbiTags (node Tag.Several end end) end)) end)) end) end) ∷ [])) 7
unfolding measure_from run_rule rule entry_at
name_3 = by_measure refl

name_4 : Reads Row.name false (codes "N1AI1BED2E1a") (Read 10 (node Tag.NameNested (node Tag.NestedNameUnqualified (node Tag.CvQualifiers (flag false (flag false (flag false end))) (node Tag.Absent end (node Tag.Present (node Tag.BackReference (ref N 2 end) end) (node Tag.UnqualifiedNameCtorDtor (node Tag.CtorDtorNameBaseDestructor end (node Tag.AbiTags (node Tag.Several end end) end)) end)))) end) end) (entry N (node Tag.SubstitutablePrefix (node Tag.PrefixUnqualified (node Tag.UnqualifiedNameSource (node Tag.SourceName (node Tag.Identifier (place 2 3 end) end) (node Tag.AbiTags (node Tag.Several end end) end)) end) end) end) ∷ entry N (node Tag.SubstitutableTypeNode (node Tag.TypeNodeClassEnum (node Tag.ClassEnumTypeNamed (node Tag.NameUnscoped (node Tag.UnscopedNameUnqualified (node Tag.UnqualifiedNameSource (node Tag.SourceName (node Tag.Identifier (place 5 6 end) end) (node Tag.AbiTags (node Tag.Several end end) end)) end) end) end) end) end) end) ∷ entry N (node Tag.SubstitutablePrefix (node Tag.PrefixTemplate (node Tag.BackReference (ref N 0 end) (node Tag.TemplateArgs (mark 3 (node Tag.Several (node Tag.TemplateArgTypeArg (node Tag.BackReference (ref N 1 end) end) end) end)) end)) end) end) ∷ entry U (node Tag.SubstitutablePrefix (node Tag.PrefixNested (node Tag.BackReference (ref N 2 end) (node Tag.UnqualifiedNameCtorDtor (node Tag.CtorDtorNameBaseDestructor end (node Tag.AbiTags (node Tag.Several end end) end)) end)) end) end) ∷ [])) 14
unfolding measure_from run_rule rule entry_at
name_4 = by_measure refl

name_5 : Reads Row.name false (codes "L14templateFnTypeIU8fastcallFviiEE") (Read 34 (node Tag.NameUnscopedTemplate (node Tag.BackReference (ref N 0 end) (node Tag.TemplateArgs (mark 17 (node Tag.Several (node Tag.TemplateArgTypeArg (node Tag.BackReference (ref N 2 end) end) end) end)) end)) end) (entry N (node Tag.SubstitutableUnscopedTemplateName (node Tag.UnscopedTemplateName (node Tag.UnscopedNameUnqualified (node Tag.UnqualifiedNameLocalSourceName (node Tag.SourceName (node Tag.Identifier (place 3 17 end) end) (node Tag.Absent end (node Tag.AbiTags (node Tag.Several end end) end))) end) end) end) end) ∷ entry N (node Tag.SubstitutableTypeNode (node Tag.TypeNodeFunction (node Tag.FunctionType (node Tag.CvQualifiers (flag false (flag false (flag false end))) (node Tag.Absent end (flag false (flag false (node Tag.BareFunctionType (node Tag.Several (node Tag.TypeHandleBuiltin (node Tag.BuiltinTypeStandard (chosen 1 0 end) end) (node Tag.TypeHandleBuiltin (node Tag.BuiltinTypeStandard (chosen 1 8 end) end) (node Tag.TypeHandleBuiltin (node Tag.BuiltinTypeStandard (chosen 1 8 end) end) end))) end) (node Tag.Absent end end)))))) end) end) end) ∷ entry N (node Tag.SubstitutableTypeNode (node Tag.TypeNodeVendorExtension (node Tag.SourceName (node Tag.Identifier (place 20 28 end) end) (node Tag.Absent end (node Tag.BackReference (ref N 1 end) end))) end) end) ∷ [])) 15
unfolding measure_from run_rule rule entry_at
name_5 = by_measure refl

name_6 : Reads Row.name false (codes "N5libcw5debug13cwprint_usingINS_9_private_12GlobalObjectEEE1a") (Read 59 (node Tag.NameNested (node Tag.NestedNameTemplate (node Tag.CvQualifiers (flag false (flag false (flag false end))) (node Tag.Absent end (node Tag.NonSubstitution (ref U 1 end) end))) end) end) (entry N (node Tag.SubstitutablePrefix (node Tag.PrefixUnqualified (node Tag.UnqualifiedNameSource (node Tag.SourceName (node Tag.Identifier (place 2 7 end) end) (node Tag.AbiTags (node Tag.Several end end) end)) end) end) end) ∷ entry N (node Tag.SubstitutablePrefix (node Tag.PrefixNested (node Tag.BackReference (ref N 0 end) (node Tag.UnqualifiedNameSource (node Tag.SourceName (node Tag.Identifier (place 8 13 end) end) (node Tag.AbiTags (node Tag.Several end end) end)) end)) end) end) ∷ entry N (node Tag.SubstitutablePrefix (node Tag.PrefixNested (node Tag.BackReference (ref N 1 end) (node Tag.UnqualifiedNameSource (node Tag.SourceName (node Tag.Identifier (place 15 28 end) end) (node Tag.AbiTags (node Tag.Several end end) end)) end)) end) end) ∷ entry N (node Tag.SubstitutablePrefix (node Tag.PrefixNested (node Tag.BackReference (ref N 0 end) (node Tag.UnqualifiedNameSource (node Tag.SourceName (node Tag.Identifier (place 33 42 end) end) (node Tag.AbiTags (node Tag.Several end end) end)) end)) end) end) ∷ entry U (node Tag.SubstitutablePrefix (node Tag.PrefixNested (node Tag.BackReference (ref N 3 end) (node Tag.UnqualifiedNameSource (node Tag.SourceName (node Tag.Identifier (place 44 56 end) end) (node Tag.AbiTags (node Tag.Several end end) end)) end)) end) end) ∷ entry N (node Tag.SubstitutableTypeNode (node Tag.TypeNodeClassEnum (node Tag.ClassEnumTypeNamed (node Tag.NameNested (node Tag.NestedNameUnqualified (node Tag.CvQualifiers (flag false (flag false (flag false end))) (node Tag.Absent end (node Tag.Present (node Tag.BackReference (ref N 3 end) end) (node Tag.UnqualifiedNameSource (node Tag.SourceName (node Tag.Identifier (place 44 56 end) end) (node Tag.AbiTags (node Tag.Several end end) end)) end)))) end) end) end) end) end) ∷ entry U (node Tag.SubstitutablePrefix (node Tag.PrefixTemplate (node Tag.BackReference (ref N 2 end) (node Tag.TemplateArgs (mark 28 (node Tag.Several (node Tag.TemplateArgTypeArg (node Tag.BackReference (ref N 4 end) end) end) end)) end)) end) end) ∷ [])) 15
unfolding measure_from run_rule rule entry_at
name_6 = by_measure refl

nested_name_1 : Reads Row.nested_name false (codes "NHI") (Refused Text) 3
unfolding measure_from run_rule rule entry_at
nested_name_1 = by_measure refl

nested_name_2 : Reads Row.nested_name false (codes "N1aIi") (Refused End) 13
unfolding measure_from run_rule rule entry_at
nested_name_2 = by_measure refl

nested_name_3 : Reads Row.nested_name false (codes "NH1.a") (Refused End) 6
unfolding measure_from run_rule rule entry_at
nested_name_3 = by_measure refl

nested_name_4 : Reads Row.nested_name false (codes "N0_4EE") (Refused Text) 6
unfolding measure_from run_rule rule entry_at
nested_name_4 = by_measure refl

nested_name_5 : Reads Row.nested_name false (codes "N1aUt_") (Refused End) 6
unfolding measure_from run_rule rule entry_at
nested_name_5 = by_measure refl

nested_name_6 : Reads Row.nested_name false (codes "NT__UE") (Refused Text) 4
unfolding measure_from run_rule rule entry_at
nested_name_6 = by_measure refl

nested_name_7 : Reads Row.nested_name false (codes "NDUCC1_") (Refused Text) 6
unfolding measure_from run_rule rule entry_at
nested_name_7 = by_measure refl

nested_name_8 : Reads Row.nested_name false (codes "N1T1N1Dg") (Refused End) 6
unfolding measure_from run_rule rule entry_at
nested_name_8 = by_measure refl

nested_name_9 : Reads Row.nested_name false (codes "N1aUt0_E") (Read 8 (node Tag.NestedNameUnqualified (node Tag.CvQualifiers (flag false (flag false (flag false end))) (node Tag.Absent end (node Tag.Present (node Tag.BackReference (ref N 0 end) end) (node Tag.UnqualifiedNameUnnamedType (node Tag.UnnamedTypeName (node Tag.Present (number (pos 0) end) end) (node Tag.AbiTags (node Tag.Several end end) end)) end)))) end) (entry N (node Tag.SubstitutablePrefix (node Tag.PrefixUnqualified (node Tag.UnqualifiedNameSource (node Tag.SourceName (node Tag.Identifier (place 2 3 end) end) (node Tag.AbiTags (node Tag.Several end end) end)) end) end) end) ∷ entry U (node Tag.SubstitutablePrefix (node Tag.PrefixNested (node Tag.BackReference (ref N 0 end) (node Tag.UnqualifiedNameUnnamedType (node Tag.UnnamedTypeName (node Tag.Present (number (pos 0) end) end) (node Tag.AbiTags (node Tag.Several end end) end)) end)) end) end) ∷ [])) 6
unfolding measure_from run_rule rule entry_at
nested_name_9 = by_measure refl

nested_name_10 : Reads Row.nested_name false (codes "NptT__UE") (Refused Text) 6
unfolding measure_from run_rule rule entry_at
nested_name_10 = by_measure refl

nested_name_11 : Reads Row.nested_name false (codes "N1SS1fE1a") (Refused Bad) 6
unfolding measure_from run_rule rule entry_at
nested_name_11 = by_measure refl

nested_name_12 : Reads Row.nested_name false (codes "N1a1bS0_E1a") (Read 9 (node Tag.NestedNameUnqualified (node Tag.CvQualifiers (flag false (flag false (flag false end))) (node Tag.Absent end (node Tag.Present (node Tag.BackReference (ref N 0 end) end) (node Tag.UnqualifiedNameSource (node Tag.SourceName (node Tag.Identifier (place 4 5 end) end) (node Tag.AbiTags (node Tag.Several end end) end)) end)))) end) (entry N (node Tag.SubstitutablePrefix (node Tag.PrefixUnqualified (node Tag.UnqualifiedNameSource (node Tag.SourceName (node Tag.Identifier (place 2 3 end) end) (node Tag.AbiTags (node Tag.Several end end) end)) end) end) end) ∷ entry N (node Tag.SubstitutablePrefix (node Tag.PrefixNested (node Tag.BackReference (ref N 0 end) (node Tag.UnqualifiedNameSource (node Tag.SourceName (node Tag.Identifier (place 4 5 end) end) (node Tag.AbiTags (node Tag.Several end end) end)) end)) end) end) ∷ [])) 6
unfolding measure_from run_rule rule entry_at
nested_name_12 = by_measure refl

nested_name_13 : Reads Row.nested_name false (codes "NSt3_In4wardE1a") (Read 13 (node Tag.NestedNameUnqualified (node Tag.CvQualifiers (flag false (flag false (flag false end))) (node Tag.Absent end (node Tag.Present (node Tag.BackReference (ref N 0 end) end) (node Tag.UnqualifiedNameSource (node Tag.SourceName (node Tag.Identifier (place 8 12 end) end) (node Tag.AbiTags (node Tag.Several end end) end)) end)))) end) (entry N (node Tag.SubstitutablePrefix (node Tag.PrefixNested (node Tag.WellKnown (chosen 2 0 end) (node Tag.UnqualifiedNameSource (node Tag.SourceName (node Tag.Identifier (place 4 7 end) end) (node Tag.AbiTags (node Tag.Several end end) end)) end)) end) end) ∷ entry U (node Tag.SubstitutablePrefix (node Tag.PrefixNested (node Tag.BackReference (ref N 0 end) (node Tag.UnqualifiedNameSource (node Tag.SourceName (node Tag.Identifier (place 8 12 end) end) (node Tag.AbiTags (node Tag.Several end end) end)) end)) end) end) ∷ [])) 6
unfolding measure_from run_rule rule entry_at
nested_name_13 = by_measure refl

nested_name_14 : Reads Row.nested_name false (codes "N3FooB5cxx11IdE1fE") (Read 18 (node Tag.NestedNameUnqualified (node Tag.CvQualifiers (flag false (flag false (flag false end))) (node Tag.Absent end (node Tag.Present (node Tag.BackReference (ref N 1 end) end) (node Tag.UnqualifiedNameSource (node Tag.SourceName (node Tag.Identifier (place 16 17 end) end) (node Tag.AbiTags (node Tag.Several end end) end)) end)))) end) (entry N (node Tag.SubstitutablePrefix (node Tag.PrefixUnqualified (node Tag.UnqualifiedNameSource (node Tag.SourceName (node Tag.Identifier (place 2 5 end) end) (node Tag.AbiTags (node Tag.Several (node Tag.AbiTag (node Tag.SourceName (node Tag.Identifier (place 7 12 end) end) end) end) end) end)) end) end) end) ∷ entry N (node Tag.SubstitutablePrefix (node Tag.PrefixTemplate (node Tag.BackReference (ref N 0 end) (node Tag.TemplateArgs (mark 12 (node Tag.Several (node Tag.TemplateArgTypeArg (node Tag.TypeHandleBuiltin (node Tag.BuiltinTypeStandard (chosen 1 17 end) end) end) end) end)) end)) end) end) ∷ entry U (node Tag.SubstitutablePrefix (node Tag.PrefixNested (node Tag.BackReference (ref N 1 end) (node Tag.UnqualifiedNameSource (node Tag.SourceName (node Tag.Identifier (place 16 17 end) end) (node Tag.AbiTags (node Tag.Several end end) end)) end)) end) end) ∷ [])) 13
unfolding measure_from run_rule rule entry_at
nested_name_14 = by_measure refl

nested_name_15 : Reads Row.nested_name false (codes "NSt8ios_base7failureB5cxx11C1") (Refused End) 8
unfolding measure_from run_rule rule entry_at
nested_name_15 = by_measure refl

nested_name_16 : Reads Row.nested_name false (codes "NSt8ios_base7failureB5cxx11C1E") (Read 30 (node Tag.NestedNameUnqualified (node Tag.CvQualifiers (flag false (flag false (flag false end))) (node Tag.Absent end (node Tag.Present (node Tag.BackReference (ref N 1 end) end) (node Tag.UnqualifiedNameCtorDtor (node Tag.CtorDtorNameCompleteConstructor (node Tag.Absent end end) (node Tag.AbiTags (node Tag.Several end end) end)) end)))) end) (entry N (node Tag.SubstitutablePrefix (node Tag.PrefixNested (node Tag.WellKnown (chosen 2 0 end) (node Tag.UnqualifiedNameSource (node Tag.SourceName (node Tag.Identifier (place 4 12 end) end) (node Tag.AbiTags (node Tag.Several end end) end)) end)) end) end) ∷ entry N (node Tag.SubstitutablePrefix (node Tag.PrefixNested (node Tag.BackReference (ref N 0 end) (node Tag.UnqualifiedNameSource (node Tag.SourceName (node Tag.Identifier (place 13 20 end) end) (node Tag.AbiTags (node Tag.Several (node Tag.AbiTag (node Tag.SourceName (node Tag.Identifier (place 22 27 end) end) end) end) end) end)) end)) end) end) ∷ entry U (node Tag.SubstitutablePrefix (node Tag.PrefixNested (node Tag.BackReference (ref N 1 end) (node Tag.UnqualifiedNameCtorDtor (node Tag.CtorDtorNameCompleteConstructor (node Tag.Absent end end) (node Tag.AbiTags (node Tag.Several end end) end)) end)) end) end) ∷ [])) 8
unfolding measure_from run_rule rule entry_at
nested_name_16 = by_measure refl

operator_name_1 : Reads Row.operator_name false (codes "cv") (Refused End) 9
unfolding measure_from run_rule rule entry_at
operator_name_1 = by_measure refl

operator_name_2 : Reads Row.operator_name false (codes "li") (Refused End) 2
unfolding measure_from run_rule rule entry_at
operator_name_2 = by_measure refl

operator_name_3 : Reads Row.operator_name false (codes "li3") (Refused End) 2
unfolding measure_from run_rule rule entry_at
operator_name_3 = by_measure refl

operator_name_4 : Reads Row.operator_name false (codes "li2_x") (Read 5 (node Tag.OperatorNameLiteral (node Tag.SourceName (node Tag.Identifier (place 3 5 end) end) end) end) []) 3
unfolding measure_from run_rule rule entry_at
operator_name_4 = by_measure refl

operator_name_5 : Reads Row.operator_name false (codes "v22_x") (Read 5 (node Tag.OperatorNameVendorExtension (number (pos 2) (node Tag.SourceName (node Tag.Identifier (place 3 5 end) end) end)) end) []) 3
unfolding measure_from run_rule rule entry_at
operator_name_5 = by_measure refl

operator_name_6 : Reads Row.operator_name false (codes "v32_x") (Read 5 (node Tag.OperatorNameVendorExtension (number (pos 3) (node Tag.SourceName (node Tag.Identifier (place 3 5 end) end) end)) end) []) 3
unfolding measure_from run_rule rule entry_at
operator_name_6 = by_measure refl

operator_name_7 : Reads Row.operator_name false (codes "cvKT_E") (Read 5 (node Tag.OperatorNameConversion (node Tag.BackReference (ref N 1 end) end) end) (entry N (node Tag.SubstitutableTypeNode (node Tag.TypeNodeTemplateParam (node Tag.TemplateParam (number (pos 0) end) end) end) end) ∷ entry N (node Tag.SubstitutableTypeNode (node Tag.TypeNodeQualified (node Tag.CvQualifiers (flag false (flag false (flag true end))) (node Tag.BackReference (ref N 0 end) end)) end) end) ∷ [])) 10
unfolding measure_from run_rule rule entry_at
operator_name_7 = by_measure refl

operator_name_8 : Reads Row.operator_name false (codes "li3__b") (Read 6 (node Tag.OperatorNameLiteral (node Tag.SourceName (node Tag.Identifier (place 3 6 end) end) end) end) []) 3
unfolding measure_from run_rule rule entry_at
operator_name_8 = by_measure refl

parametric_builtin_type_1 : Reads Row.parametric_builtin_type false (codes "DF") (Refused End) 1
unfolding measure_from run_rule rule entry_at
parametric_builtin_type_1 = by_measure refl

parametric_builtin_type_2 : Reads Row.parametric_builtin_type false (codes "DB8") (Refused End) 1
unfolding measure_from run_rule rule entry_at
parametric_builtin_type_2 = by_measure refl

parametric_builtin_type_3 : Reads Row.parametric_builtin_type false (codes "DBB") (Refused Text) 6
unfolding measure_from run_rule rule entry_at
parametric_builtin_type_3 = by_measure refl

parametric_builtin_type_4 : Reads Row.parametric_builtin_type false (codes "DF16") (Refused End) 1
unfolding measure_from run_rule rule entry_at
parametric_builtin_type_4 = by_measure refl

parametric_builtin_type_5 : Reads Row.parametric_builtin_type false (codes "DB8_E") (Read 4 (node Tag.ParametricBuiltinTypeSignedBitInt (number (pos 8) end) end) []) 1
unfolding measure_from run_rule rule entry_at
parametric_builtin_type_5 = by_measure refl

parametric_builtin_type_6 : Reads Row.parametric_builtin_type false (codes "DF32x") (Read 5 (node Tag.ParametricBuiltinTypeFloatNx (number (pos 32) end) end) []) 1
unfolding measure_from run_rule rule entry_at
parametric_builtin_type_6 = by_measure refl

parametric_builtin_type_7 : Reads Row.parametric_builtin_type false (codes "DF64x") (Read 5 (node Tag.ParametricBuiltinTypeFloatNx (number (pos 64) end) end) []) 1
unfolding measure_from run_rule rule entry_at
parametric_builtin_type_7 = by_measure refl

parametric_builtin_type_8 : Reads Row.parametric_builtin_type false (codes "DBLi8E") (Refused End) 6
unfolding measure_from run_rule rule entry_at
parametric_builtin_type_8 = by_measure refl

parametric_builtin_type_9 : Reads Row.parametric_builtin_type false (codes "DUstT__") (Read 7 (node Tag.ParametricBuiltinTypeUnsignedBitIntExpression (node Tag.NonSubstitution (ref U 0 end) end) end) (entry N (node Tag.SubstitutableTypeNode (node Tag.TypeNodeTemplateParam (node Tag.TemplateParam (number (pos 0) end) end) end) end) ∷ entry U (node Tag.SubstitutableExpression (node Tag.ExpressionSizeofType (node Tag.BackReference (ref N 0 end) end) end) end) ∷ [])) 10
unfolding measure_from run_rule rule entry_at
parametric_builtin_type_9 = by_measure refl

parametric_builtin_type_10 : Reads Row.parametric_builtin_type false (codes "DUT_li1a_") (Refused Text) 3
unfolding measure_from run_rule rule entry_at
parametric_builtin_type_10 = by_measure refl

pointer_to_member_type_1 : Reads Row.pointer_to_member_type false (codes "M1AT") (Refused End) 9
unfolding measure_from run_rule rule entry_at
pointer_to_member_type_1 = by_measure refl

pointer_to_member_type_2 : Reads Row.pointer_to_member_type false (codes "M1AT_") (Read 5 (node Tag.PointerToMemberType (node Tag.BackReference (ref N 0 end) (node Tag.BackReference (ref N 1 end) end)) end) (entry N (node Tag.SubstitutableTypeNode (node Tag.TypeNodeClassEnum (node Tag.ClassEnumTypeNamed (node Tag.NameUnscoped (node Tag.UnscopedNameUnqualified (node Tag.UnqualifiedNameSource (node Tag.SourceName (node Tag.Identifier (place 2 3 end) end) (node Tag.AbiTags (node Tag.Several end end) end)) end) end) end) end) end) end) ∷ entry N (node Tag.SubstitutableTypeNode (node Tag.TypeNodeTemplateParam (node Tag.TemplateParam (number (pos 0) end) end) end) end) ∷ [])) 9
unfolding measure_from run_rule rule entry_at
pointer_to_member_type_2 = by_measure refl

pointer_to_member_type_3 : Reads Row.pointer_to_member_type false (codes "M1AKiE") (Read 5 (node Tag.PointerToMemberType (node Tag.BackReference (ref N 0 end) (node Tag.BackReference (ref N 1 end) end)) end) (entry N (node Tag.SubstitutableTypeNode (node Tag.TypeNodeClassEnum (node Tag.ClassEnumTypeNamed (node Tag.NameUnscoped (node Tag.UnscopedNameUnqualified (node Tag.UnqualifiedNameSource (node Tag.SourceName (node Tag.Identifier (place 2 3 end) end) (node Tag.AbiTags (node Tag.Several end end) end)) end) end) end) end) end) end) ∷ entry N (node Tag.SubstitutableTypeNode (node Tag.TypeNodeQualified (node Tag.CvQualifiers (flag false (flag false (flag true end))) (node Tag.TypeHandleBuiltin (node Tag.BuiltinTypeStandard (chosen 1 8 end) end) end)) end) end) ∷ [])) 8
unfolding measure_from run_rule rule entry_at
pointer_to_member_type_3 = by_measure refl

pointer_to_member_type_4 : Reads Row.pointer_to_member_type false (codes "M1AA2_i") (Read 7 (node Tag.PointerToMemberType (node Tag.BackReference (ref N 0 end) (node Tag.BackReference (ref N 1 end) end)) end) (entry N (node Tag.SubstitutableTypeNode (node Tag.TypeNodeClassEnum (node Tag.ClassEnumTypeNamed (node Tag.NameUnscoped (node Tag.UnscopedNameUnqualified (node Tag.UnqualifiedNameSource (node Tag.SourceName (node Tag.Identifier (place 2 3 end) end) (node Tag.AbiTags (node Tag.Several end end) end)) end) end) end) end) end) end) ∷ entry N (node Tag.SubstitutableTypeNode (node Tag.TypeNodeArray (node Tag.ArrayTypeDimensionNumber (number (pos 2) (node Tag.TypeHandleBuiltin (node Tag.BuiltinTypeStandard (chosen 1 8 end) end) end)) end) end) end) ∷ [])) 9
unfolding measure_from run_rule rule entry_at
pointer_to_member_type_4 = by_measure refl

pointer_to_member_type_5 : Reads Row.pointer_to_member_type false (codes "MSt1MS_") (Read 7 (node Tag.PointerToMemberType (node Tag.BackReference (ref N 0 end) (node Tag.BackReference (ref N 0 end) end)) end) (entry N (node Tag.SubstitutableTypeNode (node Tag.TypeNodeClassEnum (node Tag.ClassEnumTypeNamed (node Tag.NameUnscoped (node Tag.UnscopedNameStd (node Tag.UnqualifiedNameSource (node Tag.SourceName (node Tag.Identifier (place 4 5 end) end) (node Tag.AbiTags (node Tag.Several end end) end)) end) end) end) end) end) end) ∷ [])) 9
unfolding measure_from run_rule rule entry_at
pointer_to_member_type_5 = by_measure refl

pointer_to_member_type_6 : Reads Row.pointer_to_member_type false (codes "M1aM1biE") (Read 7 (node Tag.PointerToMemberType (node Tag.BackReference (ref N 0 end) (node Tag.BackReference (ref N 2 end) end)) end) (entry N (node Tag.SubstitutableTypeNode (node Tag.TypeNodeClassEnum (node Tag.ClassEnumTypeNamed (node Tag.NameUnscoped (node Tag.UnscopedNameUnqualified (node Tag.UnqualifiedNameSource (node Tag.SourceName (node Tag.Identifier (place 2 3 end) end) (node Tag.AbiTags (node Tag.Several end end) end)) end) end) end) end) end) end) ∷ entry N (node Tag.SubstitutableTypeNode (node Tag.TypeNodeClassEnum (node Tag.ClassEnumTypeNamed (node Tag.NameUnscoped (node Tag.UnscopedNameUnqualified (node Tag.UnqualifiedNameSource (node Tag.SourceName (node Tag.Identifier (place 5 6 end) end) (node Tag.AbiTags (node Tag.Several end end) end)) end) end) end) end) end) end) ∷ entry N (node Tag.SubstitutableTypeNode (node Tag.TypeNodePointerToMember (node Tag.PointerToMemberType (node Tag.BackReference (ref N 1 end) (node Tag.TypeHandleBuiltin (node Tag.BuiltinTypeStandard (chosen 1 8 end) end) end)) end) end) end) ∷ [])) 10
unfolding measure_from run_rule rule entry_at
pointer_to_member_type_6 = by_measure refl

pointer_to_member_type_7 : Reads Row.pointer_to_member_type false (codes "MNM1S_FvvEaEFiv") (Refused Text) 9
unfolding measure_from run_rule rule entry_at
pointer_to_member_type_7 = by_measure refl

prefix_handle_1 : Reads Row.prefix_handle false (codes "$") (Refused Text) 2
unfolding measure_from run_rule rule entry_at
prefix_handle_1 = by_measure refl

prefix_handle_2 : Reads Row.prefix_handle false (codes ".") (Refused Text) 2
unfolding measure_from run_rule rule entry_at
prefix_handle_2 = by_measure refl

prefix_handle_3 : Reads Row.prefix_handle false (codes "1") (Refused End) 5
unfolding measure_from run_rule rule entry_at
prefix_handle_3 = by_measure refl

prefix_handle_4 : Reads Row.prefix_handle false (codes "E") (Refused End) 2
unfolding measure_from run_rule rule entry_at
prefix_handle_4 = by_measure refl

prefix_handle_5 : Reads Row.prefix_handle false (codes "I") (Refused Text) 2
unfolding measure_from run_rule rule entry_at
prefix_handle_5 = by_measure refl

prefix_handle_6 : Reads Row.prefix_handle false (codes "M") (Refused Text) 2
unfolding measure_from run_rule rule entry_at
prefix_handle_6 = by_measure refl

prefix_handle_7 : Reads Row.prefix_handle false (codes "_") (Refused Text) 2
unfolding measure_from run_rule rule entry_at
prefix_handle_7 = by_measure refl

prefix_handle_8 : Reads Row.prefix_handle false (codes "r") (Refused End) 5
unfolding measure_from run_rule rule entry_at
prefix_handle_8 = by_measure refl

prefix_handle_9 : Reads Row.prefix_handle false (codes "D1") (Read 2 (node Tag.BackReference (ref N 0 end) end) (entry N (node Tag.SubstitutablePrefix (node Tag.PrefixUnqualified (node Tag.UnqualifiedNameCtorDtor (node Tag.CtorDtorNameCompleteDestructor end (node Tag.AbiTags (node Tag.Several end end) end)) end) end) end) ∷ [])) 5
unfolding measure_from run_rule rule entry_at
prefix_handle_9 = by_measure refl

prefix_handle_10 : Reads Row.prefix_handle false (codes "S_") (Refused Bad) 4
unfolding measure_from run_rule rule entry_at
prefix_handle_10 = by_measure refl

prefix_handle_11 : Reads Row.prefix_handle false (codes "_E") (Refused Text) 2
unfolding measure_from run_rule rule entry_at
prefix_handle_11 = by_measure refl

prefix_handle_12 : Reads Row.prefix_handle false (codes "qu") (Read 2 (node Tag.BackReference (ref N 0 end) end) (entry N (node Tag.SubstitutablePrefix (node Tag.PrefixUnqualified (node Tag.UnqualifiedNameOperator (node Tag.OperatorNameSimple (chosen 0 46 end) (node Tag.AbiTags (node Tag.Several end end) end)) end) end) end) ∷ [])) 5
unfolding measure_from run_rule rule entry_at
prefix_handle_12 = by_measure refl

prefix_handle_13 : Reads Row.prefix_handle false (codes "Stp") (Refused End) 5
unfolding measure_from run_rule rule entry_at
prefix_handle_13 = by_measure refl

prefix_handle_14 : Reads Row.prefix_handle false (codes "Ulv") (Refused Text) 5
unfolding measure_from run_rule rule entry_at
prefix_handle_14 = by_measure refl

prefix_handle_15 : Reads Row.prefix_handle false (codes "1A_1") (Read 2 (node Tag.BackReference (ref N 0 end) end) (entry N (node Tag.SubstitutablePrefix (node Tag.PrefixUnqualified (node Tag.UnqualifiedNameSource (node Tag.SourceName (node Tag.Identifier (place 1 2 end) end) (node Tag.AbiTags (node Tag.Several end end) end)) end) end) end) ∷ [])) 5
unfolding measure_from run_rule rule entry_at
prefix_handle_15 = by_measure refl

prefix_handle_16 : Reads Row.prefix_handle false (codes "1A_2") (Read 2 (node Tag.BackReference (ref N 0 end) end) (entry N (node Tag.SubstitutablePrefix (node Tag.PrefixUnqualified (node Tag.UnqualifiedNameSource (node Tag.SourceName (node Tag.Identifier (place 1 2 end) end) (node Tag.AbiTags (node Tag.Several end end) end)) end) end) end) ∷ [])) 5
unfolding measure_from run_rule rule entry_at
prefix_handle_16 = by_measure refl

prefix_handle_17 : Reads Row.prefix_handle false (codes "1Ad_") (Refused Text) 5
unfolding measure_from run_rule rule entry_at
prefix_handle_17 = by_measure refl

prefix_handle_18 : Reads Row.prefix_handle false (codes "1Adl") (Read 4 (node Tag.BackReference (ref N 1 end) end) (entry N (node Tag.SubstitutablePrefix (node Tag.PrefixUnqualified (node Tag.UnqualifiedNameSource (node Tag.SourceName (node Tag.Identifier (place 1 2 end) end) (node Tag.AbiTags (node Tag.Several end end) end)) end) end) end) ∷ entry N (node Tag.SubstitutablePrefix (node Tag.PrefixNested (node Tag.BackReference (ref N 0 end) (node Tag.UnqualifiedNameOperator (node Tag.OperatorNameSimple (chosen 0 2 end) (node Tag.AbiTags (node Tag.Several end end) end)) end)) end) end) ∷ [])) 5
unfolding measure_from run_rule rule entry_at
prefix_handle_18 = by_measure refl
