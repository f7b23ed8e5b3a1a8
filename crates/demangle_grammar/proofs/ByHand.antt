-- Readings that were written out by hand. Written by tools/write_readings.py.
use Rattle.std.specs.Prelude.{true, false, [], ◌∷◌, codes, pos, negsuc}
use Rattle.std.proofs.Common.{refl}
use Rattle.demangle_text.specs.Kind.{End, Text, Bad, Over}
use Rattle.demangle_text.specs.Characters.{sequence_len}
use Rattle.demangle_core.specs.Core.{Tag, N, U, end, node, place, number, flag, chosen, ref, mark}
use Rattle.demangle_core.specs.Table.{entry_at}
use Rattle.demangle_grammar.specs.Rule.{Row}
use Rattle.demangle_grammar.specs.Rows.{rule}
use Rattle.demangle_grammar.specs.Reading.{run_rule, measure_from}
use Rattle.demangle_grammar.proofs.Conforms.{Read, Refused, Reads, by_measure, entry}

class_enum_type_1 : Reads Row.class_enum_type false (codes "Ts1a") (Read 4 (node Tag.ClassEnumTypeElaboratedStruct (node Tag.NameUnscoped (node Tag.UnscopedNameUnqualified (node Tag.UnqualifiedNameSource (node Tag.SourceName (node Tag.Identifier (place 3 4 end) end) (node Tag.AbiTags (node Tag.Several end end) end)) end) end) end) end) []) 7
unfolding measure_from run_rule rule entry_at
class_enum_type_1 = by_measure refl

class_enum_type_2 : Reads Row.class_enum_type false (codes "Tu1a") (Read 4 (node Tag.ClassEnumTypeElaboratedUnion (node Tag.NameUnscoped (node Tag.UnscopedNameUnqualified (node Tag.UnqualifiedNameSource (node Tag.SourceName (node Tag.Identifier (place 3 4 end) end) (node Tag.AbiTags (node Tag.Several end end) end)) end) end) end) end) []) 7
unfolding measure_from run_rule rule entry_at
class_enum_type_2 = by_measure refl

class_enum_type_3 : Reads Row.class_enum_type false (codes "Te1a") (Read 4 (node Tag.ClassEnumTypeElaboratedEnum (node Tag.NameUnscoped (node Tag.UnscopedNameUnqualified (node Tag.UnqualifiedNameSource (node Tag.SourceName (node Tag.Identifier (place 3 4 end) end) (node Tag.AbiTags (node Tag.Several end end) end)) end) end) end) end) []) 7
unfolding measure_from run_rule rule entry_at
class_enum_type_3 = by_measure refl

data_member_prefix_1 : Reads Row.data_member_prefix false (codes "1aM") (Read 3 (node Tag.DataMemberPrefix (node Tag.SourceName (node Tag.Identifier (place 1 2 end) end) end) end) []) 3
unfolding measure_from run_rule rule entry_at
data_member_prefix_1 = by_measure refl

expression_1 : Reads Row.expression false (codes "dlT_") (Read 4 (node Tag.ExpressionDelete (node Tag.ExpressionTemplateParam (node Tag.TemplateParam (number (pos 0) end) end) end) end) []) 3
unfolding measure_from run_rule rule entry_at
expression_1 = by_measure refl

expression_2 : Reads Row.expression false (codes "daT_") (Read 4 (node Tag.ExpressionDeleteArray (node Tag.ExpressionTemplateParam (node Tag.TemplateParam (number (pos 0) end) end) end) end) []) 3
unfolding measure_from run_rule rule entry_at
expression_2 = by_measure refl

expression_3 : Reads Row.expression false (codes "gsdaT_") (Read 6 (node Tag.ExpressionGlobalDeleteArray (node Tag.ExpressionTemplateParam (node Tag.TemplateParam (number (pos 0) end) end) end) end) []) 3
unfolding measure_from run_rule rule entry_at
expression_3 = by_measure refl

expression_4 : Reads Row.expression false (codes "gsnw_iE") (Read 7 (node Tag.ExpressionGlobalNew (node Tag.Several end (node Tag.TypeHandleBuiltin (node Tag.BuiltinTypeStandard (chosen 1 8 end) end) (node Tag.Absent end end))) end) []) 6
unfolding measure_from run_rule rule entry_at
expression_4 = by_measure refl

expression_5 : Reads Row.expression false (codes "nwT__ipiE") (Read 9 (node Tag.ExpressionNew (node Tag.Several (node Tag.ExpressionTemplateParam (node Tag.TemplateParam (number (pos 0) end) end) end) (node Tag.TypeHandleBuiltin (node Tag.BuiltinTypeStandard (chosen 1 8 end) end) (node Tag.Present (node Tag.Initializer (node Tag.Several end end) end) end))) end) []) 7
unfolding measure_from run_rule rule entry_at
expression_5 = by_measure refl

expression_6 : Reads Row.expression false (codes "pp_T_") (Read 5 (node Tag.ExpressionPrefixInc (node Tag.ExpressionTemplateParam (node Tag.TemplateParam (number (pos 0) end) end) end) end) []) 3
unfolding measure_from run_rule rule entry_at
expression_6 = by_measure refl

expression_7 : Reads Row.expression false (codes "mm_T_") (Read 5 (node Tag.ExpressionPrefixDec (node Tag.ExpressionTemplateParam (node Tag.TemplateParam (number (pos 0) end) end) end) end) []) 3
unfolding measure_from run_rule rule entry_at
expression_7 = by_measure refl

expression_8 : Reads Row.expression false (codes "rciT_") (Read 5 (node Tag.ExpressionReinterpretCast (node Tag.TypeHandleBuiltin (node Tag.BuiltinTypeStandard (chosen 1 8 end) end) (node Tag.ExpressionTemplateParam (node Tag.TemplateParam (number (pos 0) end) end) end)) end) []) 4
unfolding measure_from run_rule rule entry_at
expression_8 = by_measure refl

expression_9 : Reads Row.expression false (codes "sZfp_") (Read 5 (node Tag.ExpressionSizeofFunctionPack (node Tag.FunctionParam (number (pos 0) (node Tag.CvQualifiers (flag false (flag false (flag false end))) (node Tag.Present (number (pos 0) end) end))) end) end) []) 3
unfolding measure_from run_rule rule entry_at
expression_9 = by_measure refl

expression_10 : Reads Row.expression false (codes "twT_") (Read 4 (node Tag.ExpressionThrow (node Tag.ExpressionTemplateParam (node Tag.TemplateParam (number (pos 0) end) end) end) end) []) 3
unfolding measure_from run_rule rule entry_at
expression_10 = by_measure refl

expression_11 : Reads Row.expression false (codes "teT_") (Read 4 (node Tag.ExpressionTypeidExpr (node Tag.ExpressionTemplateParam (node Tag.TemplateParam (number (pos 0) end) end) end) end) []) 3
unfolding measure_from run_rule rule entry_at
expression_11 = by_measure refl

function_param_1 : Reads Row.function_param false (codes "fL3pK2_") (Read 7 (node Tag.FunctionParam (number (pos 3) (node Tag.CvQualifiers (flag false (flag false (flag true end))) (node Tag.Present (number (pos 3) end) end))) end) []) 2
unfolding measure_from run_rule rule entry_at
function_param_1 = by_measure refl

mangled_name_1 : Reads Row.mangled_name false (codes "_GLOBAL__I_i") (Read 12 (node Tag.MangledNameGlobalCtorDtor (node Tag.GlobalCtorDtorCtor (node Tag.MangledNameTopLevelType (node Tag.TypeHandleBuiltin (node Tag.BuiltinTypeStandard (chosen 1 8 end) end) end) end) end) end) []) 6
unfolding measure_from run_rule rule entry_at
mangled_name_1 = by_measure refl

member_name_1 : Reads Row.member_name false (codes "1aIiE") (Read 5 (node Tag.MemberName (node Tag.NameUnscopedTemplate (node Tag.NonSubstitution (ref U 0 end) (node Tag.TemplateArgs (mark 2 (node Tag.Several (node Tag.TemplateArgTypeArg (node Tag.TypeHandleBuiltin (node Tag.BuiltinTypeStandard (chosen 1 8 end) end) end) end) end)) end)) end) end) (entry U (node Tag.SubstitutableUnscopedTemplateName (node Tag.UnscopedTemplateName (node Tag.UnscopedNameUnqualified (node Tag.UnqualifiedNameSource (node Tag.SourceName (node Tag.Identifier (place 1 2 end) end) (node Tag.AbiTags (node Tag.Several end end) end)) end) end) end) end) ∷ [])) 11
unfolding measure_from run_rule rule entry_at
member_name_1 = by_measure refl

nested_name_1 : Reads Row.nested_name false (codes "NH1a1fIiEE") (Read 10 (node Tag.NestedNameTemplateExplicitObject (node Tag.NonSubstitution (ref U 0 end) (chosen 4 0 end)) end) (entry N (node Tag.SubstitutablePrefix (node Tag.PrefixUnqualified (node Tag.UnqualifiedNameSource (node Tag.SourceName (node Tag.Identifier (place 3 4 end) end) (node Tag.AbiTags (node Tag.Several end end) end)) end) end) end) ∷ entry N (node Tag.SubstitutablePrefix (node Tag.PrefixNested (node Tag.BackReference (ref N 0 end) (node Tag.UnqualifiedNameSource (node Tag.SourceName (node Tag.Identifier (place 5 6 end) end) (node Tag.AbiTags (node Tag.Several end end) end)) end)) end) end) ∷ entry U (node Tag.SubstitutablePrefix (node Tag.PrefixTemplate (node Tag.BackReference (ref N 1 end) (node Tag.TemplateArgs (mark 6 (node Tag.Several (node Tag.TemplateArgTypeArg (node Tag.TypeHandleBuiltin (node Tag.BuiltinTypeStandard (chosen 1 8 end) end) end) end) end)) end)) end) end) ∷ [])) 13
unfolding measure_from run_rule rule entry_at
nested_name_1 = by_measure refl

nested_name_2 : Reads Row.nested_name false (codes "NH1aE") (Read 5 (node Tag.NestedNameUnqualifiedExplicitObject (node Tag.Absent end (node Tag.UnqualifiedNameSource (node Tag.SourceName (node Tag.Identifier (place 3 4 end) end) (node Tag.AbiTags (node Tag.Several end end) end)) (chosen 4 0 end))) end) (entry U (node Tag.SubstitutablePrefix (node Tag.PrefixUnqualified (node Tag.UnqualifiedNameSource (node Tag.SourceName (node Tag.Identifier (place 3 4 end) end) (node Tag.AbiTags (node Tag.Several end end) end)) end) end) end) ∷ [])) 6
unfolding measure_from run_rule rule entry_at
nested_name_2 = by_measure refl

nested_name_3 : Reads Row.nested_name false (codes "NKR1aE") (Read 6 (node Tag.NestedNameUnqualified (node Tag.CvQualifiers (flag false (flag false (flag true end))) (node Tag.Present (chosen 3 0 end) (node Tag.Absent end (node Tag.UnqualifiedNameSource (node Tag.SourceName (node Tag.Identifier (place 4 5 end) end) (node Tag.AbiTags (node Tag.Several end end) end)) end)))) end) (entry U (node Tag.SubstitutablePrefix (node Tag.PrefixUnqualified (node Tag.UnqualifiedNameSource (node Tag.SourceName (node Tag.Identifier (place 4 5 end) end) (node Tag.AbiTags (node Tag.Several end end) end)) end) end) end) ∷ [])) 6
unfolding measure_from run_rule rule entry_at
nested_name_3 = by_measure refl

parametric_builtin_type_1 : Reads Row.parametric_builtin_type false (codes "DBLi3E_") (Read 7 (node Tag.ParametricBuiltinTypeSignedBitIntExpression (node Tag.NonSubstitution (ref U 0 end) end) end) (entry U (node Tag.SubstitutableExpression (node Tag.ExpressionPrimary (node Tag.ExprPrimaryLiteral (node Tag.TypeHandleBuiltin (node Tag.BuiltinTypeStandard (chosen 1 8 end) end) (place 4 5 end)) end) end) end) ∷ [])) 6
unfolding measure_from run_rule rule entry_at
parametric_builtin_type_1 = by_measure refl

parametric_builtin_type_2 : Reads Row.parametric_builtin_type false (codes "DUT__") (Read 5 (node Tag.ParametricBuiltinTypeUnsignedBitIntExpression (node Tag.NonSubstitution (ref U 0 end) end) end) (entry U (node Tag.SubstitutableExpression (node Tag.ExpressionTemplateParam (node Tag.TemplateParam (number (pos 0) end) end) end) end) ∷ [])) 3
unfolding measure_from run_rule rule entry_at
parametric_builtin_type_2 = by_measure refl

special_name_1 : Reads Row.special_name false (codes "Tch0_h0_1f") (Read 10 (node Tag.SpecialNameVirtualOverrideThunkCovariant (node Tag.CallOffsetNonVirtual (node Tag.NvOffset (number (pos 0) end) end) (node Tag.CallOffsetNonVirtual (node Tag.NvOffset (number (pos 0) end) end) (node Tag.EncodingData (node Tag.NameUnscoped (node Tag.UnscopedNameUnqualified (node Tag.UnqualifiedNameSource (node Tag.SourceName (node Tag.Identifier (place 9 10 end) end) (node Tag.AbiTags (node Tag.Several end end) end)) end) end) end) end))) end) []) 11
unfolding measure_from run_rule rule entry_at
special_name_1 = by_measure refl

special_name_2 : Reads Row.special_name false (codes "Gr8_a$Sb$_c") (Read 11 (node Tag.SpecialNameJavaResource (node Tag.Several (node Tag.ResourceName (place 4 7 end) (node Tag.ResourceName (place 7 10 end) (node Tag.ResourceName (place 10 11 end) end))) end) end) []) 2
unfolding measure_from run_rule rule entry_at
special_name_2 = by_measure refl

number_1 : Reads Row.number false (codes "9223372036854775807") (Read 19 (number (pos 9223372036854775807) end) []) 1
unfolding measure_from run_rule rule entry_at
number_1 = by_measure refl

operator_name_1 : Reads Row.operator_name false (codes "cvT_") (Read 4 (node Tag.OperatorNameConversion (node Tag.BackReference (ref N 0 end) end) end) (entry N (node Tag.SubstitutableTypeNode (node Tag.TypeNodeTemplateParam (node Tag.TemplateParam (number (pos 0) end) end) end) end) ∷ [])) 9
unfolding measure_from run_rule rule entry_at
operator_name_1 = by_measure refl

nested_name_4 : Reads Row.nested_name false (codes "N1acvT_IiEE") (Read 11 (node Tag.NestedNameTemplate (node Tag.CvQualifiers (flag false (flag false (flag false end))) (node Tag.Absent end (node Tag.NonSubstitution (ref U 0 end) end))) end) (entry N (node Tag.SubstitutablePrefix (node Tag.PrefixUnqualified (node Tag.UnqualifiedNameSource (node Tag.SourceName (node Tag.Identifier (place 2 3 end) end) (node Tag.AbiTags (node Tag.Several end end) end)) end) end) end) ∷ entry N (node Tag.SubstitutableTypeNode (node Tag.TypeNodeTemplateParam (node Tag.TemplateParam (number (pos 0) end) end) end) end) ∷ entry N (node Tag.SubstitutablePrefix (node Tag.PrefixNested (node Tag.BackReference (ref N 0 end) (node Tag.UnqualifiedNameOperator (node Tag.OperatorNameConversion (node Tag.BackReference (ref N 1 end) end) (node Tag.AbiTags (node Tag.Several end end) end)) end)) end) end) ∷ entry U (node Tag.SubstitutablePrefix (node Tag.PrefixTemplate (node Tag.BackReference (ref N 2 end) (node Tag.TemplateArgs (mark 7 (node Tag.Several (node Tag.TemplateArgTypeArg (node Tag.TypeHandleBuiltin (node Tag.BuiltinTypeStandard (chosen 1 8 end) end) end) end) end)) end)) end) end) ∷ [])) 16
unfolding measure_from run_rule rule entry_at
nested_name_4 = by_measure refl

nested_name_5 : Reads Row.nested_name false (codes "N1acvT_IiEIiEE") (Read 14 (node Tag.NestedNameTemplate (node Tag.CvQualifiers (flag false (flag false (flag false end))) (node Tag.Absent end (node Tag.NonSubstitution (ref U 0 end) end))) end) (entry N (node Tag.SubstitutablePrefix (node Tag.PrefixUnqualified (node Tag.UnqualifiedNameSource (node Tag.SourceName (node Tag.Identifier (place 2 3 end) end) (node Tag.AbiTags (node Tag.Several end end) end)) end) end) end) ∷ entry N (node Tag.SubstitutableTemplateTemplateParam (node Tag.TemplateTemplateParam (node Tag.TemplateParam (number (pos 0) end) end) end) end) ∷ entry N (node Tag.SubstitutableTypeNode (node Tag.TypeNodeTemplateTemplate (node Tag.BackReference (ref N 1 end) (node Tag.TemplateArgs (mark 7 (node Tag.Several (node Tag.TemplateArgTypeArg (node Tag.TypeHandleBuiltin (node Tag.BuiltinTypeStandard (chosen 1 8 end) end) end) end) end)) end)) end) end) ∷ entry N (node Tag.SubstitutablePrefix (node Tag.PrefixNested (node Tag.BackReference (ref N 0 end) (node Tag.UnqualifiedNameOperator (node Tag.OperatorNameConversion (node Tag.BackReference (ref N 2 end) end) (node Tag.AbiTags (node Tag.Several end end) end)) end)) end) end) ∷ entry U (node Tag.SubstitutablePrefix (node Tag.PrefixTemplate (node Tag.BackReference (ref N 3 end) (node Tag.TemplateArgs (mark 10 (node Tag.Several (node Tag.TemplateArgTypeArg (node Tag.TypeHandleBuiltin (node Tag.BuiltinTypeStandard (chosen 1 8 end) end) end) end) end)) end)) end) end) ∷ [])) 16
unfolding measure_from run_rule rule entry_at
nested_name_5 = by_measure refl

prefix_handle_1 : Reads Row.prefix_handle false (codes "1a1bS_") (Read 6 (node Tag.BackReference (ref N 0 end) end) (entry N (node Tag.SubstitutablePrefix (node Tag.PrefixUnqualified (node Tag.UnqualifiedNameSource (node Tag.SourceName (node Tag.Identifier (place 1 2 end) end) (node Tag.AbiTags (node Tag.Several end end) end)) end) end) end) ∷ entry N (node Tag.SubstitutablePrefix (node Tag.PrefixNested (node Tag.BackReference (ref N 0 end) (node Tag.UnqualifiedNameSource (node Tag.SourceName (node Tag.Identifier (place 3 4 end) end) (node Tag.AbiTags (node Tag.Several end end) end)) end)) end) end) ∷ [])) 5
unfolding measure_from run_rule rule entry_at
prefix_handle_1 = by_measure refl

prefix_handle_2 : Reads Row.prefix_handle false (codes "1aSt1b") (Read 6 (node Tag.BackReference (ref N 1 end) end) (entry N (node Tag.SubstitutablePrefix (node Tag.PrefixUnqualified (node Tag.UnqualifiedNameSource (node Tag.SourceName (node Tag.Identifier (place 1 2 end) end) (node Tag.AbiTags (node Tag.Several end end) end)) end) end) end) ∷ entry N (node Tag.SubstitutablePrefix (node Tag.PrefixNested (node Tag.WellKnown (chosen 2 0 end) (node Tag.UnqualifiedNameSource (node Tag.SourceName (node Tag.Identifier (place 5 6 end) end) (node Tag.AbiTags (node Tag.Several end end) end)) end)) end) end) ∷ [])) 5
unfolding measure_from run_rule rule entry_at
prefix_handle_2 = by_measure refl

number_2 : Reads Row.number false (codes "9223372036854775808") (Refused Over) 1
unfolding measure_from run_rule rule entry_at
number_2 = by_measure refl

number_3 : Reads Row.number false (codes "n") (Refused End) 1
unfolding measure_from run_rule rule entry_at
number_3 = by_measure refl

number_4 : Reads Row.number false (codes "00") (Refused Text) 1
unfolding measure_from run_rule rule entry_at
number_4 = by_measure refl

special_name_3 : Reads Row.special_name false (codes "TC1a99999999999999999999_1b") (Refused Over) 8
unfolding measure_from run_rule rule entry_at
special_name_3 = by_measure refl

special_name_4 : Reads Row.special_name false (codes "GR1aZZZZZZZZZZZZZZ_") (Refused Over) 6
unfolding measure_from run_rule rule entry_at
special_name_4 = by_measure refl

mangled_name_2 : Reads Row.mangled_name false (codes "") (Refused End) 9
unfolding measure_from run_rule rule entry_at
mangled_name_2 = by_measure refl

mangled_name_3 : Reads Row.mangled_name false (codes "Q") (Refused End) 9
unfolding measure_from run_rule rule entry_at
mangled_name_3 = by_measure refl

mangled_name_4 : Reads Row.mangled_name false (codes "QQ") (Refused Text) 9
unfolding measure_from run_rule rule entry_at
mangled_name_4 = by_measure refl

mangled_name_5 : Reads Row.mangled_name false (codes "_Z") (Refused End) 8
unfolding measure_from run_rule rule entry_at
mangled_name_5 = by_measure refl

mangled_name_6 : Reads Row.mangled_name false (codes "_Z99999999999999999999f") (Refused Text) 8
unfolding measure_from run_rule rule entry_at
mangled_name_6 = by_measure refl

mangled_name_7 : Reads Row.mangled_name false (codes "_ZTC1a99999999999999999999_1b") (Refused Over) 10
unfolding measure_from run_rule rule entry_at
mangled_name_7 = by_measure refl

substitution_1 : Reads Row.substitution false (codes "S5") (Refused Bad) 2
unfolding measure_from run_rule rule entry_at
substitution_1 = by_measure refl

type_handle_1 : Reads Row.type_handle false (codes "Pi") (Read 2 (node Tag.BackReference (ref N 0 end) end) (entry N (node Tag.SubstitutableTypeNode (node Tag.TypeNodePointerTo (node Tag.TypeHandleBuiltin (node Tag.BuiltinTypeStandard (chosen 1 8 end) end) end) end) end) ∷ [])) 8
unfolding measure_from run_rule rule entry_at
type_handle_1 = by_measure refl

type_handle_2 : Reads Row.type_handle false (codes "Ri") (Read 2 (node Tag.BackReference (ref N 0 end) end) (entry N (node Tag.SubstitutableTypeNode (node Tag.TypeNodeLvalueRef (node Tag.TypeHandleBuiltin (node Tag.BuiltinTypeStandard (chosen 1 8 end) end) end) end) end) ∷ [])) 8
unfolding measure_from run_rule rule entry_at
type_handle_2 = by_measure refl

type_handle_3 : Reads Row.type_handle false (codes "Oi") (Read 2 (node Tag.BackReference (ref N 0 end) end) (entry N (node Tag.SubstitutableTypeNode (node Tag.TypeNodeRvalueRef (node Tag.TypeHandleBuiltin (node Tag.BuiltinTypeStandard (chosen 1 8 end) end) end) end) end) ∷ [])) 8
unfolding measure_from run_rule rule entry_at
type_handle_3 = by_measure refl

type_handle_4 : Reads Row.type_handle false (codes "Ci") (Read 2 (node Tag.BackReference (ref N 0 end) end) (entry N (node Tag.SubstitutableTypeNode (node Tag.TypeNodeComplex (node Tag.TypeHandleBuiltin (node Tag.BuiltinTypeStandard (chosen 1 8 end) end) end) end) end) ∷ [])) 8
unfolding measure_from run_rule rule entry_at
type_handle_4 = by_measure refl

type_handle_5 : Reads Row.type_handle false (codes "Gi") (Read 2 (node Tag.BackReference (ref N 0 end) end) (entry N (node Tag.SubstitutableTypeNode (node Tag.TypeNodeImaginary (node Tag.TypeHandleBuiltin (node Tag.BuiltinTypeStandard (chosen 1 8 end) end) end) end) end) ∷ [])) 8
unfolding measure_from run_rule rule entry_at
type_handle_5 = by_measure refl

type_handle_6 : Reads Row.type_handle false (codes "Dpi") (Read 3 (node Tag.BackReference (ref N 0 end) end) (entry N (node Tag.SubstitutableTypeNode (node Tag.TypeNodePackExpansion (node Tag.TypeHandleBuiltin (node Tag.BuiltinTypeStandard (chosen 1 8 end) end) end) end) end) ∷ [])) 8
unfolding measure_from run_rule rule entry_at
type_handle_6 = by_measure refl

type_handle_7 : Reads Row.type_handle false (codes "VKi") (Read 3 (node Tag.BackReference (ref N 0 end) end) (entry N (node Tag.SubstitutableTypeNode (node Tag.TypeNodeQualified (node Tag.CvQualifiers (flag false (flag true (flag true end))) (node Tag.TypeHandleBuiltin (node Tag.BuiltinTypeStandard (chosen 1 8 end) end) end)) end) end) ∷ [])) 4
unfolding measure_from run_rule rule entry_at
type_handle_7 = by_measure refl

type_handle_8 : Reads Row.type_handle false (codes "U1ai") (Read 4 (node Tag.BackReference (ref N 0 end) end) (entry N (node Tag.SubstitutableTypeNode (node Tag.TypeNodeVendorExtension (node Tag.SourceName (node Tag.Identifier (place 2 3 end) end) (node Tag.Absent end (node Tag.TypeHandleBuiltin (node Tag.BuiltinTypeStandard (chosen 1 8 end) end) end))) end) end) ∷ [])) 4
unfolding measure_from run_rule rule entry_at
type_handle_8 = by_measure refl

type_handle_9 : Reads Row.type_handle false (codes "U1aIiEi") (Read 7 (node Tag.BackReference (ref N 0 end) end) (entry N (node Tag.SubstitutableTypeNode (node Tag.TypeNodeVendorExtension (node Tag.SourceName (node Tag.Identifier (place 2 3 end) end) (node Tag.Present (node Tag.TemplateArgs (mark 3 (node Tag.Several (node Tag.TemplateArgTypeArg (node Tag.TypeHandleBuiltin (node Tag.BuiltinTypeStandard (chosen 1 8 end) end) end) end) end)) end) (node Tag.TypeHandleBuiltin (node Tag.BuiltinTypeStandard (chosen 1 8 end) end) end))) end) end) ∷ [])) 11
unfolding measure_from run_rule rule entry_at
type_handle_9 = by_measure refl

type_handle_10 : Reads Row.type_handle false (codes "Ts1a") (Read 4 (node Tag.BackReference (ref N 0 end) end) (entry N (node Tag.SubstitutableTypeNode (node Tag.TypeNodeClassEnum (node Tag.ClassEnumTypeElaboratedStruct (node Tag.NameUnscoped (node Tag.UnscopedNameUnqualified (node Tag.UnqualifiedNameSource (node Tag.SourceName (node Tag.Identifier (place 3 4 end) end) (node Tag.AbiTags (node Tag.Several end end) end)) end) end) end) end) end) end) ∷ [])) 8
unfolding measure_from run_rule rule entry_at
type_handle_10 = by_measure refl

type_handle_11 : Reads Row.type_handle false (codes "FivE") (Read 4 (node Tag.BackReference (ref N 0 end) end) (entry N (node Tag.SubstitutableTypeNode (node Tag.TypeNodeFunction (node Tag.FunctionType (node Tag.CvQualifiers (flag false (flag false (flag false end))) (node Tag.Absent end (flag false (flag false (node Tag.BareFunctionType (node Tag.Several (node Tag.TypeHandleBuiltin (node Tag.BuiltinTypeStandard (chosen 1 8 end) end) (node Tag.TypeHandleBuiltin (node Tag.BuiltinTypeStandard (chosen 1 0 end) end) end)) end) (node Tag.Absent end end)))))) end) end) end) ∷ [])) 11
unfolding measure_from run_rule rule entry_at
type_handle_11 = by_measure refl

type_handle_12 : Reads Row.type_handle false (codes "A3_i") (Read 4 (node Tag.BackReference (ref N 0 end) end) (entry N (node Tag.SubstitutableTypeNode (node Tag.TypeNodeArray (node Tag.ArrayTypeDimensionNumber (number (pos 3) (node Tag.TypeHandleBuiltin (node Tag.BuiltinTypeStandard (chosen 1 8 end) end) end)) end) end) end) ∷ [])) 8
unfolding measure_from run_rule rule entry_at
type_handle_12 = by_measure refl

type_handle_13 : Reads Row.type_handle false (codes "Dv4_i") (Read 5 (node Tag.BackReference (ref N 0 end) end) (entry N (node Tag.SubstitutableTypeNode (node Tag.TypeNodeVector (node Tag.VectorTypeDimensionNumber (number (pos 4) (node Tag.TypeHandleBuiltin (node Tag.BuiltinTypeStandard (chosen 1 8 end) end) end)) end) end) end) ∷ [])) 8
unfolding measure_from run_rule rule entry_at
type_handle_13 = by_measure refl

type_handle_14 : Reads Row.type_handle false (codes "M1ai") (Read 4 (node Tag.BackReference (ref N 1 end) end) (entry N (node Tag.SubstitutableTypeNode (node Tag.TypeNodeClassEnum (node Tag.ClassEnumTypeNamed (node Tag.NameUnscoped (node Tag.UnscopedNameUnqualified (node Tag.UnqualifiedNameSource (node Tag.SourceName (node Tag.Identifier (place 2 3 end) end) (node Tag.AbiTags (node Tag.Several end end) end)) end) end) end) end) end) end) ∷ entry N (node Tag.SubstitutableTypeNode (node Tag.TypeNodePointerToMember (node Tag.PointerToMemberType (node Tag.BackReference (ref N 0 end) (node Tag.TypeHandleBuiltin (node Tag.BuiltinTypeStandard (chosen 1 8 end) end) end)) end) end) end) ∷ [])) 9
unfolding measure_from run_rule rule entry_at
type_handle_14 = by_measure refl

type_handle_15 : Reads Row.type_handle false (codes "T_") (Read 2 (node Tag.BackReference (ref N 0 end) end) (entry N (node Tag.SubstitutableTypeNode (node Tag.TypeNodeTemplateParam (node Tag.TemplateParam (number (pos 0) end) end) end) end) ∷ [])) 8
unfolding measure_from run_rule rule entry_at
type_handle_15 = by_measure refl

type_handle_16 : Reads Row.type_handle false (codes "T_IiE") (Read 5 (node Tag.BackReference (ref N 1 end) end) (entry N (node Tag.SubstitutableTemplateTemplateParam (node Tag.TemplateTemplateParam (node Tag.TemplateParam (number (pos 0) end) end) end) end) ∷ entry N (node Tag.SubstitutableTypeNode (node Tag.TypeNodeTemplateTemplate (node Tag.BackReference (ref N 0 end) (node Tag.TemplateArgs (mark 2 (node Tag.Several (node Tag.TemplateArgTypeArg (node Tag.TypeHandleBuiltin (node Tag.BuiltinTypeStandard (chosen 1 8 end) end) end) end) end)) end)) end) end) ∷ [])) 11
unfolding measure_from run_rule rule entry_at
type_handle_16 = by_measure refl

type_handle_17 : Reads Row.type_handle false (codes "DtT_E") (Read 5 (node Tag.BackReference (ref N 0 end) end) (entry N (node Tag.SubstitutableTypeNode (node Tag.TypeNodeDecltype (node Tag.DecltypeIdExpression (node Tag.ExpressionTemplateParam (node Tag.TemplateParam (number (pos 0) end) end) end) end) end) end) ∷ [])) 8
unfolding measure_from run_rule rule entry_at
type_handle_17 = by_measure refl

type_handle_18 : Reads Row.type_handle false (codes "1aIiE") (Read 5 (node Tag.BackReference (ref N 1 end) end) (entry N (node Tag.SubstitutableUnscopedTemplateName (node Tag.UnscopedTemplateName (node Tag.UnscopedNameUnqualified (node Tag.UnqualifiedNameSource (node Tag.SourceName (node Tag.Identifier (place 1 2 end) end) (node Tag.AbiTags (node Tag.Several end end) end)) end) end) end) end) ∷ entry N (node Tag.SubstitutableTypeNode (node Tag.TypeNodeClassEnum (node Tag.ClassEnumTypeNamed (node Tag.NameUnscopedTemplate (node Tag.BackReference (ref N 0 end) (node Tag.TemplateArgs (mark 2 (node Tag.Several (node Tag.TemplateArgTypeArg (node Tag.TypeHandleBuiltin (node Tag.BuiltinTypeStandard (chosen 1 8 end) end) end) end) end)) end)) end) end) end) end) ∷ [])) 13
unfolding measure_from run_rule rule entry_at
type_handle_18 = by_measure refl

type_handle_19 : Reads Row.type_handle false (codes "DBLi3E_") (Read 7 (node Tag.TypeHandleBuiltin (node Tag.BuiltinTypeParametric (node Tag.ParametricBuiltinTypeSignedBitIntExpression (node Tag.NonSubstitution (ref U 0 end) end) end) end) end) (entry U (node Tag.SubstitutableExpression (node Tag.ExpressionPrimary (node Tag.ExprPrimaryLiteral (node Tag.TypeHandleBuiltin (node Tag.BuiltinTypeStandard (chosen 1 8 end) end) (place 4 5 end)) end) end) end) ∷ [])) 8
unfolding measure_from run_rule rule entry_at
type_handle_19 = by_measure refl

prefix_handle_3 : Reads Row.prefix_handle false (codes "1a1bE") (Read 4 (node Tag.NonSubstitution (ref U 0 end) end) (entry N (node Tag.SubstitutablePrefix (node Tag.PrefixUnqualified (node Tag.UnqualifiedNameSource (node Tag.SourceName (node Tag.Identifier (place 1 2 end) end) (node Tag.AbiTags (node Tag.Several end end) end)) end) end) end) ∷ entry U (node Tag.SubstitutablePrefix (node Tag.PrefixNested (node Tag.BackReference (ref N 0 end) (node Tag.UnqualifiedNameSource (node Tag.SourceName (node Tag.Identifier (place 3 4 end) end) (node Tag.AbiTags (node Tag.Several end end) end)) end)) end) end) ∷ [])) 5
unfolding measure_from run_rule rule entry_at
prefix_handle_3 = by_measure refl

prefix_handle_4 : Reads Row.prefix_handle false (codes "1aIiEE") (Read 5 (node Tag.NonSubstitution (ref U 0 end) end) (entry N (node Tag.SubstitutablePrefix (node Tag.PrefixUnqualified (node Tag.UnqualifiedNameSource (node Tag.SourceName (node Tag.Identifier (place 1 2 end) end) (node Tag.AbiTags (node Tag.Several end end) end)) end) end) end) ∷ entry U (node Tag.SubstitutablePrefix (node Tag.PrefixTemplate (node Tag.BackReference (ref N 0 end) (node Tag.TemplateArgs (mark 2 (node Tag.Several (node Tag.TemplateArgTypeArg (node Tag.TypeHandleBuiltin (node Tag.BuiltinTypeStandard (chosen 1 8 end) end) end) end) end)) end)) end) end) ∷ [])) 12
unfolding measure_from run_rule rule entry_at
prefix_handle_4 = by_measure refl

prefix_handle_5 : Reads Row.prefix_handle false (codes "T_1aE") (Read 4 (node Tag.NonSubstitution (ref U 0 end) end) (entry N (node Tag.SubstitutablePrefix (node Tag.PrefixTemplateParam (node Tag.TemplateParam (number (pos 0) end) end) end) end) ∷ entry U (node Tag.SubstitutablePrefix (node Tag.PrefixNested (node Tag.BackReference (ref N 0 end) (node Tag.UnqualifiedNameSource (node Tag.SourceName (node Tag.Identifier (place 3 4 end) end) (node Tag.AbiTags (node Tag.Several end end) end)) end)) end) end) ∷ [])) 5
unfolding measure_from run_rule rule entry_at
prefix_handle_5 = by_measure refl

prefix_handle_6 : Reads Row.prefix_handle false (codes "DtT_E1aE") (Read 7 (node Tag.NonSubstitution (ref U 0 end) end) (entry N (node Tag.SubstitutablePrefix (node Tag.PrefixDecltype (node Tag.DecltypeIdExpression (node Tag.ExpressionTemplateParam (node Tag.TemplateParam (number (pos 0) end) end) end) end) end) end) ∷ entry U (node Tag.SubstitutablePrefix (node Tag.PrefixNested (node Tag.BackReference (ref N 0 end) (node Tag.UnqualifiedNameSource (node Tag.SourceName (node Tag.Identifier (place 6 7 end) end) (node Tag.AbiTags (node Tag.Several end end) end)) end)) end) end) ∷ [])) 5
unfolding measure_from run_rule rule entry_at
prefix_handle_6 = by_measure refl

prefix_handle_7 : Reads Row.prefix_handle false (codes "1aM1bE") (Read 5 (node Tag.NonSubstitution (ref U 0 end) end) (entry N (node Tag.SubstitutablePrefix (node Tag.PrefixUnqualified (node Tag.UnqualifiedNameSource (node Tag.SourceName (node Tag.Identifier (place 1 2 end) end) (node Tag.AbiTags (node Tag.Several end end) end)) end) end) end) ∷ entry U (node Tag.SubstitutablePrefix (node Tag.PrefixNested (node Tag.BackReference (ref N 0 end) (node Tag.UnqualifiedNameSource (node Tag.SourceName (node Tag.Identifier (place 4 5 end) end) (node Tag.AbiTags (node Tag.Several end end) end)) end)) end) end) ∷ [])) 5
unfolding measure_from run_rule rule entry_at
prefix_handle_7 = by_measure refl

prefix_handle_8 : Reads Row.prefix_handle false (codes "1a1bM1cE") (Read 7 (node Tag.NonSubstitution (ref U 0 end) end) (entry N (node Tag.SubstitutablePrefix (node Tag.PrefixUnqualified (node Tag.UnqualifiedNameSource (node Tag.SourceName (node Tag.Identifier (place 1 2 end) end) (node Tag.AbiTags (node Tag.Several end end) end)) end) end) end) ∷ entry N (node Tag.SubstitutablePrefix (node Tag.PrefixDataMember (node Tag.BackReference (ref N 0 end) (node Tag.DataMemberPrefix (node Tag.SourceName (node Tag.Identifier (place 3 4 end) end) end) end)) end) end) ∷ entry U (node Tag.SubstitutablePrefix (node Tag.PrefixNested (node Tag.BackReference (ref N 1 end) (node Tag.UnqualifiedNameSource (node Tag.SourceName (node Tag.Identifier (place 6 7 end) end) (node Tag.AbiTags (node Tag.Several end end) end)) end)) end) end) ∷ [])) 5
unfolding measure_from run_rule rule entry_at
prefix_handle_8 = by_measure refl

prefix_handle_9 : Reads Row.prefix_handle false (codes "1aSt1bE") (Read 6 (node Tag.NonSubstitution (ref U 0 end) end) (entry N (node Tag.SubstitutablePrefix (node Tag.PrefixUnqualified (node Tag.UnqualifiedNameSource (node Tag.SourceName (node Tag.Identifier (place 1 2 end) end) (node Tag.AbiTags (node Tag.Several end end) end)) end) end) end) ∷ entry U (node Tag.SubstitutablePrefix (node Tag.PrefixNested (node Tag.WellKnown (chosen 2 0 end) (node Tag.UnqualifiedNameSource (node Tag.SourceName (node Tag.Identifier (place 5 6 end) end) (node Tag.AbiTags (node Tag.Several end end) end)) end)) end) end) ∷ [])) 5
unfolding measure_from run_rule rule entry_at
prefix_handle_9 = by_measure refl

prefix_handle_10 : Reads Row.prefix_handle false (codes "St1aE") (Read 4 (node Tag.NonSubstitution (ref U 0 end) end) (entry U (node Tag.SubstitutablePrefix (node Tag.PrefixNested (node Tag.WellKnown (chosen 2 0 end) (node Tag.UnqualifiedNameSource (node Tag.SourceName (node Tag.Identifier (place 3 4 end) end) (node Tag.AbiTags (node Tag.Several end end) end)) end)) end) end) ∷ [])) 5
unfolding measure_from run_rule rule entry_at
prefix_handle_10 = by_measure refl

unresolved_type_handle_1 : Reads Row.unresolved_type_handle false (codes "T_") (Read 2 (node Tag.BackReference (ref N 0 end) end) (entry N (node Tag.SubstitutableUnresolvedType (node Tag.UnresolvedTypeTemplate (node Tag.TemplateParam (number (pos 0) end) (node Tag.Absent end end)) end) end) ∷ [])) 2
unfolding measure_from run_rule rule entry_at
unresolved_type_handle_1 = by_measure refl

unresolved_type_handle_2 : Reads Row.unresolved_type_handle false (codes "T_IiE") (Read 5 (node Tag.BackReference (ref N 0 end) end) (entry N (node Tag.SubstitutableUnresolvedType (node Tag.UnresolvedTypeTemplate (node Tag.TemplateParam (number (pos 0) end) (node Tag.Present (node Tag.TemplateArgs (mark 2 (node Tag.Several (node Tag.TemplateArgTypeArg (node Tag.TypeHandleBuiltin (node Tag.BuiltinTypeStandard (chosen 1 8 end) end) end) end) end)) end) end)) end) end) ∷ [])) 11
unfolding measure_from run_rule rule entry_at
unresolved_type_handle_2 = by_measure refl

unresolved_type_handle_3 : Reads Row.unresolved_type_handle false (codes "DtT_E") (Read 5 (node Tag.BackReference (ref N 0 end) end) (entry N (node Tag.SubstitutableUnresolvedType (node Tag.UnresolvedTypeDecltype (node Tag.DecltypeIdExpression (node Tag.ExpressionTemplateParam (node Tag.TemplateParam (number (pos 0) end) end) end) end) end) end) ∷ [])) 4
unfolding measure_from run_rule rule entry_at
unresolved_type_handle_3 = by_measure refl

unscoped_template_name_handle_1 : Reads Row.unscoped_template_name_handle false (codes "1a") (Read 2 (node Tag.BackReference (ref N 0 end) end) (entry N (node Tag.SubstitutableUnscopedTemplateName (node Tag.UnscopedTemplateName (node Tag.UnscopedNameUnqualified (node Tag.UnqualifiedNameSource (node Tag.SourceName (node Tag.Identifier (place 1 2 end) end) (node Tag.AbiTags (node Tag.Several end end) end)) end) end) end) end) ∷ [])) 5
unfolding measure_from run_rule rule entry_at
unscoped_template_name_handle_1 = by_measure refl

subobject_expr_1 : Reads Row.subobject_expr false (codes "iT_n3E") (Read 6 (node Tag.SubobjectExpr (node Tag.TypeHandleBuiltin (node Tag.BuiltinTypeStandard (chosen 1 8 end) end) (node Tag.ExpressionTemplateParam (node Tag.TemplateParam (number (pos 0) end) end) (number (negsuc 2) end))) end) []) 4
unfolding measure_from run_rule rule entry_at
subobject_expr_1 = by_measure refl

mangled_name_8 : Reads Row.mangled_name false (codes "____Z1f_block_invoke") (Read 20 (node Tag.MangledNameBlockInvoke (node Tag.EncodingData (node Tag.NameUnscoped (node Tag.UnscopedNameUnqualified (node Tag.UnqualifiedNameSource (node Tag.SourceName (node Tag.Identifier (place 6 7 end) end) (node Tag.AbiTags (node Tag.Several end end) end)) end) end) end) (node Tag.Absent end end)) end) []) 11
unfolding measure_from run_rule rule entry_at
mangled_name_8 = by_measure refl

prefix_handle_11 : Reads Row.prefix_handle false (codes "T_E") (Read 2 (node Tag.NonSubstitution (ref U 0 end) end) (entry U (node Tag.SubstitutablePrefix (node Tag.PrefixTemplateParam (node Tag.TemplateParam (number (pos 0) end) end) end) end) ∷ [])) 3
unfolding measure_from run_rule rule entry_at
prefix_handle_11 = by_measure refl

prefix_handle_12 : Reads Row.prefix_handle false (codes "DtT_EE") (Read 5 (node Tag.NonSubstitution (ref U 0 end) end) (entry U (node Tag.SubstitutablePrefix (node Tag.PrefixDecltype (node Tag.DecltypeIdExpression (node Tag.ExpressionTemplateParam (node Tag.TemplateParam (number (pos 0) end) end) end) end) end) end) ∷ [])) 5
unfolding measure_from run_rule rule entry_at
prefix_handle_12 = by_measure refl

type_handle_20 : Reads Row.type_handle false (codes "KDxFvvE") (Read 7 (node Tag.BackReference (ref N 0 end) end) (entry N (node Tag.SubstitutableTypeNode (node Tag.TypeNodeFunction (node Tag.FunctionType (node Tag.CvQualifiers (flag false (flag false (flag true end))) (node Tag.Absent end (flag true (flag false (node Tag.BareFunctionType (node Tag.Several (node Tag.TypeHandleBuiltin (node Tag.BuiltinTypeStandard (chosen 1 0 end) end) (node Tag.TypeHandleBuiltin (node Tag.BuiltinTypeStandard (chosen 1 0 end) end) end)) end) (node Tag.Absent end end)))))) end) end) end) ∷ [])) 11
unfolding measure_from run_rule rule entry_at
type_handle_20 = by_measure refl

type_handle_21 : Reads Row.type_handle false (codes "KDOT_EFvvE") (Read 10 (node Tag.BackReference (ref N 0 end) end) (entry N (node Tag.SubstitutableTypeNode (node Tag.TypeNodeFunction (node Tag.FunctionType (node Tag.CvQualifiers (flag false (flag false (flag true end))) (node Tag.Present (node Tag.ExceptionSpecComputed (node Tag.ExpressionTemplateParam (node Tag.TemplateParam (number (pos 0) end) end) end) end) (flag false (flag false (node Tag.BareFunctionType (node Tag.Several (node Tag.TypeHandleBuiltin (node Tag.BuiltinTypeStandard (chosen 1 0 end) end) (node Tag.TypeHandleBuiltin (node Tag.BuiltinTypeStandard (chosen 1 0 end) end) end)) end) (node Tag.Absent end end)))))) end) end) end) ∷ [])) 11
unfolding measure_from run_rule rule entry_at
type_handle_21 = by_measure refl

array_type_1 : Reads Row.array_type false (codes "An3_i") (Refused Text) 6
unfolding measure_from run_rule rule entry_at
array_type_1 = by_measure refl

template_param_1 : Reads Row.template_param false (codes "Tn1_") (Refused Text) 1
unfolding measure_from run_rule rule entry_at
template_param_1 = by_measure refl

unresolved_name_1 : Reads Row.unresolved_name false (codes "srE1a") (Refused Text) 4
unfolding measure_from run_rule rule entry_at
unresolved_name_1 = by_measure refl

unresolved_name_2 : Reads Row.unresolved_name false (codes "gssrE1a") (Refused Text) 4
unfolding measure_from run_rule rule entry_at
unresolved_name_2 = by_measure refl

template_arg_1 : Reads Row.template_arg false (codes "JS5_E") (Refused Text) 10
unfolding measure_from run_rule rule entry_at
template_arg_1 = by_measure refl

ctor_dtor_name_1 : Reads Row.ctor_dtor_name false (codes "CI3") (Refused End) 9
unfolding measure_from run_rule rule entry_at
ctor_dtor_name_1 = by_measure refl

expression_12 : Reads Row.expression false (codes "pp_") (Refused End) 6
unfolding measure_from run_rule rule entry_at
expression_12 = by_measure refl

builtin_type_1 : Reads Row.builtin_type false (codes "u") (Refused End) 2
unfolding measure_from run_rule rule entry_at
builtin_type_1 = by_measure refl

expression_13 : Reads Row.expression false (codes "mm_") (Refused End) 6
unfolding measure_from run_rule rule entry_at
expression_13 = by_measure refl

ctor_dtor_name_2 : Reads Row.ctor_dtor_name false (codes "CI1") (Refused End) 9
unfolding measure_from run_rule rule entry_at
ctor_dtor_name_2 = by_measure refl

ctor_dtor_name_3 : Reads Row.ctor_dtor_name false (codes "CI2") (Refused End) 9
unfolding measure_from run_rule rule entry_at
ctor_dtor_name_3 = by_measure refl

identifier_1 : Reads Row.identifier false (195 ∷ 169 ∷ []) (Read 2 (node Tag.Identifier (place 0 2 end) end) []) 1
unfolding measure_from run_rule rule entry_at sequence_len
identifier_1 = by_measure refl

identifier_2 : Reads Row.identifier false (226 ∷ 130 ∷ 172 ∷ 46 ∷ []) (Read 4 (node Tag.Identifier (place 0 4 end) end) []) 1
unfolding measure_from run_rule rule entry_at sequence_len
identifier_2 = by_measure refl

identifier_3 : Reads Row.identifier false (240 ∷ 159 ∷ 152 ∷ 128 ∷ []) (Read 4 (node Tag.Identifier (place 0 4 end) end) []) 1
unfolding measure_from run_rule rule entry_at sequence_len
identifier_3 = by_measure refl

identifier_4 : Reads Row.identifier false (97 ∷ 237 ∷ 160 ∷ 128 ∷ []) (Read 1 (node Tag.Identifier (place 0 1 end) end) []) 1
unfolding measure_from run_rule rule entry_at sequence_len
identifier_4 = by_measure refl

identifier_5 : Reads Row.identifier false (237 ∷ 160 ∷ 128 ∷ []) (Refused Text) 1
unfolding measure_from run_rule rule entry_at sequence_len
identifier_5 = by_measure refl

identifier_6 : Reads Row.identifier false (192 ∷ 128 ∷ []) (Refused Text) 1
unfolding measure_from run_rule rule entry_at sequence_len
identifier_6 = by_measure refl

identifier_7 : Reads Row.identifier false (244 ∷ 144 ∷ 128 ∷ 128 ∷ []) (Refused Text) 1
unfolding measure_from run_rule rule entry_at sequence_len
identifier_7 = by_measure refl

identifier_8 : Reads Row.identifier false (195 ∷ []) (Refused Text) 1
unfolding measure_from run_rule rule entry_at sequence_len
identifier_8 = by_measure refl

identifier_9 : Reads Row.identifier false (224 ∷ 159 ∷ 191 ∷ []) (Refused Text) 1
unfolding measure_from run_rule rule entry_at sequence_len
identifier_9 = by_measure refl

identifier_10 : Reads Row.identifier false (239 ∷ 191 ∷ 191 ∷ []) (Read 3 (node Tag.Identifier (place 0 3 end) end) []) 1
unfolding measure_from run_rule rule entry_at sequence_len
identifier_10 = by_measure refl
