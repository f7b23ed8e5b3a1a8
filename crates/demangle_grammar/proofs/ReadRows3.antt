-- Readings of rows, by computation. Written by tools/write_readings.py.
use Rattle.std.specs.Prelude.{true, false, [], ◌∷◌, codes, pos, negsuc}
use Rattle.std.proofs.Common.{refl}
use Rattle.demangle_text.specs.Kind.{End, Text}
use Rattle.demangle_text.specs.Characters.{sequence_len}
use Rattle.demangle_core.specs.Core.{Tag, N, U, end, node, place, number, flag, chosen, ref, mark}
use Rattle.demangle_core.specs.Table.{entry_at}
use Rattle.demangle_grammar.specs.Rule.{Row}
use Rattle.demangle_grammar.specs.Rows.{rule}
use Rattle.demangle_grammar.specs.Reading.{run_rule, measure_from}
use Rattle.demangle_grammar.proofs.Conforms.{Read, Refused, Reads, by_measure, entry}

fold_expr_1 : Reads Row.fold_expr false (codes "fRpl") (Refused End) 6
unfolding measure_from run_rule rule entry_at
fold_expr_1 = by_measure refl

fold_expr_2 : Reads Row.fold_expr false (codes "flplT_") (Read 6 (node Tag.FoldExprUnaryLeft (chosen 0 9 (node Tag.ExpressionTemplateParam (node Tag.TemplateParam (number (pos 0) end) end) end)) end) []) 3
unfolding measure_from run_rule rule entry_at
fold_expr_2 = by_measure refl

fold_expr_3 : Reads Row.fold_expr false (codes "fRplT_LiE") (Read 9 (node Tag.FoldExprBinaryRight (chosen 0 9 (node Tag.ExpressionTemplateParam (node Tag.TemplateParam (number (pos 0) end) end) (node Tag.ExpressionPrimary (node Tag.ExprPrimaryLiteral (node Tag.TypeHandleBuiltin (node Tag.BuiltinTypeStandard (chosen 1 8 end) end) (place 8 8 end)) end) end))) end) []) 6
unfolding measure_from run_rule rule entry_at
fold_expr_3 = by_measure refl

fold_expr_4 : Reads Row.fold_expr false (codes "frplfp_1a") (Read 7 (node Tag.FoldExprUnaryRight (chosen 0 9 (node Tag.ExpressionFunctionParam (node Tag.FunctionParam (number (pos 0) (node Tag.CvQualifiers (flag false (flag false (flag false end))) (node Tag.Present (number (pos 0) end) end))) end) end)) end) []) 4
unfolding measure_from run_rule rule entry_at
fold_expr_4 = by_measure refl

function_param_1 : Reads Row.function_param false (codes "fL") (Refused End) 1
unfolding measure_from run_rule rule entry_at
function_param_1 = by_measure refl

function_param_2 : Reads Row.function_param false (codes "f_") (Refused Text) 1
unfolding measure_from run_rule rule entry_at
function_param_2 = by_measure refl

function_param_3 : Reads Row.function_param false (codes "fpTE") (Read 3 (node Tag.FunctionParam (number (pos 0) (node Tag.CvQualifiers (flag false (flag false (flag false end))) (node Tag.Absent end end))) end) []) 2
unfolding measure_from run_rule rule entry_at
function_param_3 = by_measure refl

function_param_4 : Reads Row.function_param false (codes "fL0p0") (Refused End) 2
unfolding measure_from run_rule rule entry_at
function_param_4 = by_measure refl

function_param_5 : Reads Row.function_param false (codes "fprVK0") (Refused End) 2
unfolding measure_from run_rule rule entry_at
function_param_5 = by_measure refl

function_type_1 : Reads Row.function_type false (codes "E") (Refused Text) 2
unfolding measure_from run_rule rule entry_at
function_type_1 = by_measure refl

function_type_2 : Reads Row.function_type false (codes "_") (Refused Text) 2
unfolding measure_from run_rule rule entry_at
function_type_2 = by_measure refl

function_type_3 : Reads Row.function_type false (codes "DOT_") (Refused Text) 4
unfolding measure_from run_rule rule entry_at
function_type_3 = by_measure refl

function_type_4 : Reads Row.function_type false (codes "FYiv") (Refused End) 10
unfolding measure_from run_rule rule entry_at
function_type_4 = by_measure refl

function_type_5 : Reads Row.function_type false (codes "DOstT_EFiv") (Refused End) 11
unfolding measure_from run_rule rule entry_at
function_type_5 = by_measure refl

function_type_6 : Reads Row.function_type false (codes "FvPKDtczEEpi") (Refused Text) 12
unfolding measure_from run_rule rule entry_at
function_type_6 = by_measure refl

global_ctor_dtor_1 : Reads Row.global_ctor_dtor false (codes "0") (Refused Text) 1
unfolding measure_from run_rule rule entry_at
global_ctor_dtor_1 = by_measure refl

global_ctor_dtor_2 : Reads Row.global_ctor_dtor false (codes "E") (Refused Text) 1
unfolding measure_from run_rule rule entry_at
global_ctor_dtor_2 = by_measure refl

global_ctor_dtor_3 : Reads Row.global_ctor_dtor false (codes "I") (Refused Text) 1
unfolding measure_from run_rule rule entry_at
global_ctor_dtor_3 = by_measure refl

global_ctor_dtor_4 : Reads Row.global_ctor_dtor false (codes "M") (Refused Text) 1
unfolding measure_from run_rule rule entry_at
global_ctor_dtor_4 = by_measure refl

global_ctor_dtor_5 : Reads Row.global_ctor_dtor false (codes ".I") (Refused End) 1
unfolding measure_from run_rule rule entry_at
global_ctor_dtor_5 = by_measure refl

global_ctor_dtor_6 : Reads Row.global_ctor_dtor false (codes "_D") (Refused End) 1
unfolding measure_from run_rule rule entry_at
global_ctor_dtor_6 = by_measure refl

global_ctor_dtor_7 : Reads Row.global_ctor_dtor false (codes "_I") (Refused End) 1
unfolding measure_from run_rule rule entry_at
global_ctor_dtor_7 = by_measure refl

global_ctor_dtor_8 : Reads Row.global_ctor_dtor false (codes ".I_1") (Refused End) 10
unfolding measure_from run_rule rule entry_at
global_ctor_dtor_8 = by_measure refl

global_ctor_dtor_9 : Reads Row.global_ctor_dtor false (codes "_D_1_") (Read 5 (node Tag.GlobalCtorDtorDtor (node Tag.MangledNameTopLevelType (node Tag.BackReference (ref N 0 end) end) end) end) (entry N (node Tag.SubstitutableTypeNode (node Tag.TypeNodeClassEnum (node Tag.ClassEnumTypeNamed (node Tag.NameUnscoped (node Tag.UnscopedNameUnqualified (node Tag.UnqualifiedNameSource (node Tag.SourceName (node Tag.Identifier (place 4 5 end) end) (node Tag.AbiTags (node Tag.Several end end) end)) end) end) end) end) end) end) ∷ [])) 9
unfolding measure_from run_rule rule entry_at
global_ctor_dtor_9 = by_measure refl

global_ctor_dtor_10 : Reads Row.global_ctor_dtor false (codes "$D__Z1f") (Read 7 (node Tag.GlobalCtorDtorDtor (node Tag.MangledNameEncoding (node Tag.EncodingData (node Tag.NameUnscoped (node Tag.UnscopedNameUnqualified (node Tag.UnqualifiedNameSource (node Tag.SourceName (node Tag.Identifier (place 6 7 end) end) (node Tag.AbiTags (node Tag.Several end end) end)) end) end) end) (node Tag.Several end end)) end) end) []) 12
unfolding measure_from run_rule rule entry_at
global_ctor_dtor_10 = by_measure refl

global_ctor_dtor_11 : Reads Row.global_ctor_dtor false (codes "$D__Z_fv") (Refused Text) 9
unfolding measure_from run_rule rule entry_at
global_ctor_dtor_11 = by_measure refl

identifier_1 : Reads Row.identifier false (128 ∷ []) (Refused Text) 1
unfolding measure_from run_rule rule entry_at sequence_len
identifier_1 = by_measure refl

identifier_2 : Reads Row.identifier false (195 ∷ 169 ∷ 195 ∷ []) (Read 2 (node Tag.Identifier (place 0 2 end) end) []) 1
unfolding measure_from run_rule rule entry_at sequence_len
identifier_2 = by_measure refl

initializer_1 : Reads Row.initializer false (codes "piilL") (Refused Text) 13
unfolding measure_from run_rule rule entry_at
initializer_1 = by_measure refl

lambda_sig_1 : Reads Row.lambda_sig false (codes "E") (Refused End) 9
unfolding measure_from run_rule rule entry_at
lambda_sig_1 = by_measure refl

lambda_sig_2 : Reads Row.lambda_sig false (codes "DpT_E") (Read 4 (node Tag.LambdaSig (node Tag.Several (node Tag.BackReference (ref N 1 end) end) end) end) (entry N (node Tag.SubstitutableTypeNode (node Tag.TypeNodeTemplateParam (node Tag.TemplateParam (number (pos 0) end) end) end) end) ∷ entry N (node Tag.SubstitutableTypeNode (node Tag.TypeNodePackExpansion (node Tag.BackReference (ref N 0 end) end) end) end) ∷ [])) 10
unfolding measure_from run_rule rule entry_at
lambda_sig_2 = by_measure refl

lambda_sig_3 : Reads Row.lambda_sig false (codes "Na1bE") (Refused Text) 10
unfolding measure_from run_rule rule entry_at
lambda_sig_3 = by_measure refl

local_name_1 : Reads Row.local_name false (codes "Z1fvEsE") (Read 6 (node Tag.LocalNameRelative (node Tag.EncodingFunction (node Tag.NameUnscoped (node Tag.UnscopedNameUnqualified (node Tag.UnqualifiedNameSource (node Tag.SourceName (node Tag.Identifier (place 2 3 end) end) (node Tag.AbiTags (node Tag.Several end end) end)) end) end) (node Tag.BareFunctionType (node Tag.Several (node Tag.TypeHandleBuiltin (node Tag.BuiltinTypeStandard (chosen 1 0 end) end) end) end) end)) (node Tag.Absent end (node Tag.Absent end end))) end) []) 11
unfolding measure_from run_rule rule entry_at
local_name_1 = by_measure refl

local_name_2 : Reads Row.local_name false (codes "Z1fvEs_") (Read 6 (node Tag.LocalNameRelative (node Tag.EncodingFunction (node Tag.NameUnscoped (node Tag.UnscopedNameUnqualified (node Tag.UnqualifiedNameSource (node Tag.SourceName (node Tag.Identifier (place 2 3 end) end) (node Tag.AbiTags (node Tag.Several end end) end)) end) end) (node Tag.BareFunctionType (node Tag.Several (node Tag.TypeHandleBuiltin (node Tag.BuiltinTypeStandard (chosen 1 0 end) end) end) end) end)) (node Tag.Absent end (node Tag.Absent end end))) end) []) 11
unfolding measure_from run_rule rule entry_at
local_name_2 = by_measure refl

local_name_3 : Reads Row.local_name false (codes "Z1fvEd0_") (Refused End) 11
unfolding measure_from run_rule rule entry_at
local_name_3 = by_measure refl

local_name_4 : Reads Row.local_name false (codes "Z1jvEUt_") (Read 8 (node Tag.LocalNameRelative (node Tag.EncodingFunction (node Tag.NameUnscoped (node Tag.UnscopedNameUnqualified (node Tag.UnqualifiedNameSource (node Tag.SourceName (node Tag.Identifier (place 2 3 end) end) (node Tag.AbiTags (node Tag.Several end end) end)) end) end) (node Tag.BareFunctionType (node Tag.Several (node Tag.TypeHandleBuiltin (node Tag.BuiltinTypeStandard (chosen 1 0 end) end) end) end) end)) (node Tag.Present (node Tag.NameUnscoped (node Tag.UnscopedNameUnqualified (node Tag.UnqualifiedNameUnnamedType (node Tag.UnnamedTypeName (node Tag.Absent end end) (node Tag.AbiTags (node Tag.Several end end) end)) end) end) end) (node Tag.Absent end end))) end) []) 11
unfolding measure_from run_rule rule entry_at
local_name_4 = by_measure refl

local_name_5 : Reads Row.local_name false (codes "Z1fvEs_0E") (Read 8 (node Tag.LocalNameRelative (node Tag.EncodingFunction (node Tag.NameUnscoped (node Tag.UnscopedNameUnqualified (node Tag.UnqualifiedNameSource (node Tag.SourceName (node Tag.Identifier (place 2 3 end) end) (node Tag.AbiTags (node Tag.Several end end) end)) end) end) (node Tag.BareFunctionType (node Tag.Several (node Tag.TypeHandleBuiltin (node Tag.BuiltinTypeStandard (chosen 1 0 end) end) end) end) end)) (node Tag.Absent end (node Tag.Present (node Tag.Discriminator (number (pos 0) end) end) end))) end) []) 11
unfolding measure_from run_rule rule entry_at
local_name_5 = by_measure refl

local_name_6 : Reads Row.local_name false (codes "Z1fvEd_1aE") (Read 9 (node Tag.LocalNameDefault (node Tag.EncodingFunction (node Tag.NameUnscoped (node Tag.UnscopedNameUnqualified (node Tag.UnqualifiedNameSource (node Tag.SourceName (node Tag.Identifier (place 2 3 end) end) (node Tag.AbiTags (node Tag.Several end end) end)) end) end) (node Tag.BareFunctionType (node Tag.Several (node Tag.TypeHandleBuiltin (node Tag.BuiltinTypeStandard (chosen 1 0 end) end) end) end) end)) (node Tag.Absent end (node Tag.NameUnscoped (node Tag.UnscopedNameUnqualified (node Tag.UnqualifiedNameSource (node Tag.SourceName (node Tag.Identifier (place 8 9 end) end) (node Tag.AbiTags (node Tag.Several end end) end)) end) end) end))) end) []) 11
unfolding measure_from run_rule rule entry_at
local_name_6 = by_measure refl

local_name_7 : Reads Row.local_name false (codes "Z1fvEs_01a") (Read 8 (node Tag.LocalNameRelative (node Tag.EncodingFunction (node Tag.NameUnscoped (node Tag.UnscopedNameUnqualified (node Tag.UnqualifiedNameSource (node Tag.SourceName (node Tag.Identifier (place 2 3 end) end) (node Tag.AbiTags (node Tag.Several end end) end)) end) end) (node Tag.BareFunctionType (node Tag.Several (node Tag.TypeHandleBuiltin (node Tag.BuiltinTypeStandard (chosen 1 0 end) end) end) end) end)) (node Tag.Absent end (node Tag.Present (node Tag.Discriminator (number (pos 0) end) end) end))) end) []) 11
unfolding measure_from run_rule rule entry_at
local_name_7 = by_measure refl

local_name_8 : Reads Row.local_name false (codes "Z1G$E1C_01a") (Refused Text) 11
unfolding measure_from run_rule rule entry_at
local_name_8 = by_measure refl

local_name_9 : Reads Row.local_name false (codes "Z1fvE1fIGV1a") (Refused End) 13
unfolding measure_from run_rule rule entry_at
local_name_9 = by_measure refl

local_name_10 : Reads Row.local_name false (codes "Z1fvE1fIiE1a") (Read 10 (node Tag.LocalNameRelative (node Tag.EncodingFunction (node Tag.NameUnscoped (node Tag.UnscopedNameUnqualified (node Tag.UnqualifiedNameSource (node Tag.SourceName (node Tag.Identifier (place 2 3 end) end) (node Tag.AbiTags (node Tag.Several end end) end)) end) end) (node Tag.BareFunctionType (node Tag.Several (node Tag.TypeHandleBuiltin (node Tag.BuiltinTypeStandard (chosen 1 0 end) end) end) end) end)) (node Tag.Present (node Tag.NameUnscopedTemplate (node Tag.BackReference (ref N 0 end) (node Tag.TemplateArgs (mark 7 (node Tag.Several (node Tag.TemplateArgTypeArg (node Tag.TypeHandleBuiltin (node Tag.BuiltinTypeStandard (chosen 1 8 end) end) end) end) end)) end)) end) (node Tag.Absent end end))) end) (entry N (node Tag.SubstitutableUnscopedTemplateName (node Tag.UnscopedTemplateName (node Tag.UnscopedNameUnqualified (node Tag.UnqualifiedNameSource (node Tag.SourceName (node Tag.Identifier (place 6 7 end) end) (node Tag.AbiTags (node Tag.Several end end) end)) end) end) end) end) ∷ [])) 12
unfolding measure_from run_rule rule entry_at
local_name_10 = by_measure refl

local_name_11 : Reads Row.local_name false (codes "ZN3ct1IiE3mf1EiEd_NKUliE_cl") (Refused Text) 16
unfolding measure_from run_rule rule entry_at
local_name_11 = by_measure refl

local_name_12 : Reads Row.local_name false (codes "ZN3ct1IiE3mf1EiEd_NKUliE_clE") (Read 28 (node Tag.LocalNameDefault (node Tag.EncodingFunction (node Tag.NameNested (node Tag.NestedNameUnqualified (node Tag.CvQualifiers (flag false (flag false (flag false end))) (node Tag.Absent end (node Tag.Present (node Tag.BackReference (ref N 1 end) end) (node Tag.UnqualifiedNameSource (node Tag.SourceName (node Tag.Identifier (place 10 13 end) end) (node Tag.AbiTags (node Tag.Several end end) end)) end)))) end) (node Tag.BareFunctionType (node Tag.Several (node Tag.TypeHandleBuiltin (node Tag.BuiltinTypeStandard (chosen 1 8 end) end) end) end) end)) (node Tag.Absent end (node Tag.NameNested (node Tag.NestedNameUnqualified (node Tag.CvQualifiers (flag false (flag false (flag true end))) (node Tag.Absent end (node Tag.Present (node Tag.BackReference (ref N 2 end) end) (node Tag.UnqualifiedNameOperator (node Tag.OperatorNameSimple (chosen 0 44 end) (node Tag.AbiTags (node Tag.Several end end) end)) end)))) end) end))) end) (entry N (node Tag.SubstitutablePrefix (node Tag.PrefixUnqualified (node Tag.UnqualifiedNameSource (node Tag.SourceName (node Tag.Identifier (place 3 6 end) end) (node Tag.AbiTags (node Tag.Several end end) end)) end) end) end) ∷ entry N (node Tag.SubstitutablePrefix (node Tag.PrefixTemplate (node Tag.BackReference (ref N 0 end) (node Tag.TemplateArgs (mark 6 (node Tag.Several (node Tag.TemplateArgTypeArg (node Tag.TypeHandleBuiltin (node Tag.BuiltinTypeStandard (chosen 1 8 end) end) end) end) end)) end)) end) end) ∷ entry U (node Tag.SubstitutablePrefix (node Tag.PrefixNested (node Tag.BackReference (ref N 1 end) (node Tag.UnqualifiedNameSource (node Tag.SourceName (node Tag.Identifier (place 10 13 end) end) (node Tag.AbiTags (node Tag.Several end end) end)) end)) end) end) ∷ entry N (node Tag.SubstitutablePrefix (node Tag.PrefixUnqualified (node Tag.UnqualifiedNameClosureType (node Tag.ClosureTypeName (node Tag.LambdaSig (node Tag.Several (node Tag.TypeHandleBuiltin (node Tag.BuiltinTypeStandard (chosen 1 8 end) end) end) end) (node Tag.Absent end end)) (node Tag.AbiTags (node Tag.Several end end) end)) end) end) end) ∷ entry U (node Tag.SubstitutablePrefix (node Tag.PrefixNested (node Tag.BackReference (ref N 2 end) (node Tag.UnqualifiedNameOperator (node Tag.OperatorNameSimple (chosen 0 44 end) (node Tag.AbiTags (node Tag.Several end end) end)) end)) end) end) ∷ [])) 16
unfolding measure_from run_rule rule entry_at
local_name_12 = by_measure refl

mangled_name_1 : Reads Row.mangled_name false (codes "_ZGR") (Refused End) 9
unfolding measure_from run_rule rule entry_at
mangled_name_1 = by_measure refl

mangled_name_2 : Reads Row.mangled_name false (codes "_ZGT") (Refused End) 8
unfolding measure_from run_rule rule entry_at
mangled_name_2 = by_measure refl

mangled_name_3 : Reads Row.mangled_name false (codes "_ZNE") (Refused Text) 8
unfolding measure_from run_rule rule entry_at
mangled_name_3 = by_measure refl

mangled_name_4 : Reads Row.mangled_name false (codes "_ZTc") (Refused End) 8
unfolding measure_from run_rule rule entry_at
mangled_name_4 = by_measure refl

mangled_name_5 : Reads Row.mangled_name false (codes "_Z1fS") (Read 4 (node Tag.MangledNameEncoding (node Tag.EncodingData (node Tag.NameUnscoped (node Tag.UnscopedNameUnqualified (node Tag.UnqualifiedNameSource (node Tag.SourceName (node Tag.Identifier (place 3 4 end) end) (node Tag.AbiTags (node Tag.Several end end) end)) end) end) end) (node Tag.Several end end)) end) []) 11
unfolding measure_from run_rule rule entry_at
mangled_name_5 = by_measure refl

mangled_name_6 : Reads Row.mangled_name false (codes "_ZGTt") (Refused End) 10
unfolding measure_from run_rule rule entry_at
mangled_name_6 = by_measure refl

mangled_name_7 : Reads Row.mangled_name false (codes "_ZTh8") (Refused End) 8
unfolding measure_from run_rule rule entry_at
mangled_name_7 = by_measure refl

mangled_name_8 : Reads Row.mangled_name false (codes "_Z1fGf") (Read 6 (node Tag.MangledNameEncoding (node Tag.EncodingFunction (node Tag.NameUnscoped (node Tag.UnscopedNameUnqualified (node Tag.UnqualifiedNameSource (node Tag.SourceName (node Tag.Identifier (place 3 4 end) end) (node Tag.AbiTags (node Tag.Several end end) end)) end) end) (node Tag.BareFunctionType (node Tag.Several (node Tag.BackReference (ref N 0 end) end) end) end)) (node Tag.Several end end)) end) (entry N (node Tag.SubstitutableTypeNode (node Tag.TypeNodeImaginary (node Tag.TypeHandleBuiltin (node Tag.BuiltinTypeStandard (chosen 1 16 end) end) end) end) end) ∷ [])) 11
unfolding measure_from run_rule rule entry_at
mangled_name_8 = by_measure refl

mangled_name_9 : Reads Row.mangled_name false (codes "__ZTS1f") (Read 7 (node Tag.MangledNameEncoding (node Tag.EncodingSpecial (node Tag.SpecialNameTypeinfoName (node Tag.BackReference (ref N 0 end) end) end) (node Tag.Several end end)) end) (entry N (node Tag.SubstitutableTypeNode (node Tag.TypeNodeClassEnum (node Tag.ClassEnumTypeNamed (node Tag.NameUnscoped (node Tag.UnscopedNameUnqualified (node Tag.UnqualifiedNameSource (node Tag.SourceName (node Tag.Identifier (place 6 7 end) end) (node Tag.AbiTags (node Tag.Several end end) end)) end) end) end) end) end) end) ∷ [])) 10
unfolding measure_from run_rule rule entry_at
mangled_name_9 = by_measure refl

mangled_name_10 : Reads Row.mangled_name false (codes "__ZTV1f") (Read 7 (node Tag.MangledNameEncoding (node Tag.EncodingSpecial (node Tag.SpecialNameVirtualTable (node Tag.BackReference (ref N 0 end) end) end) (node Tag.Several end end)) end) (entry N (node Tag.SubstitutableTypeNode (node Tag.TypeNodeClassEnum (node Tag.ClassEnumTypeNamed (node Tag.NameUnscoped (node Tag.UnscopedNameUnqualified (node Tag.UnqualifiedNameSource (node Tag.SourceName (node Tag.Identifier (place 6 7 end) end) (node Tag.AbiTags (node Tag.Several end end) end)) end) end) end) end) end) end) ∷ [])) 10
unfolding measure_from run_rule rule entry_at
mangled_name_10 = by_measure refl

mangled_name_11 : Reads Row.mangled_name false (codes "___Z1fv") (Refused End) 11
unfolding measure_from run_rule rule entry_at
mangled_name_11 = by_measure refl

mangled_name_12 : Reads Row.mangled_name false (codes "_GLOBAL_") (Refused End) 2
unfolding measure_from run_rule rule entry_at
mangled_name_12 = by_measure refl

mangled_name_13 : Reads Row.mangled_name false (codes "_ZGR1a__") (Read 7 (node Tag.MangledNameEncoding (node Tag.EncodingSpecial (node Tag.SpecialNameGuardTemporary (node Tag.NameUnscoped (node Tag.UnscopedNameUnqualified (node Tag.UnqualifiedNameSource (node Tag.SourceName (node Tag.Identifier (place 5 6 end) end) (node Tag.AbiTags (node Tag.Several end end) end)) end) end) (number (pos 0) end)) end) (node Tag.Several end end)) end) []) 8
unfolding measure_from run_rule rule entry_at
mangled_name_13 = by_measure refl

mangled_name_14 : Reads Row.mangled_name false (codes "_ZSaIcEv") (Read 8 (node Tag.MangledNameEncoding (node Tag.EncodingFunction (node Tag.NameUnscopedTemplate (node Tag.WellKnown (chosen 2 1 end) (node Tag.TemplateArgs (mark 4 (node Tag.Several (node Tag.TemplateArgTypeArg (node Tag.TypeHandleBuiltin (node Tag.BuiltinTypeStandard (chosen 1 3 end) end) end) end) end)) end)) (node Tag.BareFunctionType (node Tag.Several (node Tag.TypeHandleBuiltin (node Tag.BuiltinTypeStandard (chosen 1 0 end) end) end) end) end)) (node Tag.Several end end)) end) []) 13
unfolding measure_from run_rule rule entry_at
mangled_name_14 = by_measure refl

mangled_name_15 : Reads Row.mangled_name false (codes "_GLOBAL__") (Refused End) 2
unfolding measure_from run_rule rule entry_at
mangled_name_15 = by_measure refl

mangled_name_16 : Reads Row.mangled_name false (codes "_Z1fu3foo") (Read 9 (node Tag.MangledNameEncoding (node Tag.EncodingFunction (node Tag.NameUnscoped (node Tag.UnscopedNameUnqualified (node Tag.UnqualifiedNameSource (node Tag.SourceName (node Tag.Identifier (place 3 4 end) end) (node Tag.AbiTags (node Tag.Several end end) end)) end) end) (node Tag.BareFunctionType (node Tag.Several (node Tag.TypeHandleBuiltin (node Tag.BuiltinTypeExtension (node Tag.SourceName (node Tag.Identifier (place 6 9 end) end) end) end) end) end) end)) (node Tag.Several end end)) end) []) 11
unfolding measure_from run_rule rule entry_at
mangled_name_16 = by_measure refl

mangled_name_17 : Reads Row.mangled_name false (codes "_Z1fv.a.b") (Read 9 (node Tag.MangledNameEncoding (node Tag.EncodingFunction (node Tag.NameUnscoped (node Tag.UnscopedNameUnqualified (node Tag.UnqualifiedNameSource (node Tag.SourceName (node Tag.Identifier (place 3 4 end) end) (node Tag.AbiTags (node Tag.Several end end) end)) end) end) (node Tag.BareFunctionType (node Tag.Several (node Tag.TypeHandleBuiltin (node Tag.BuiltinTypeStandard (chosen 1 0 end) end) end) end) end)) (node Tag.Several (node Tag.CloneSuffix (node Tag.CloneTypeIdentifier (place 6 7 end) (node Tag.Several end end)) (node Tag.CloneSuffix (node Tag.CloneTypeIdentifier (place 8 9 end) (node Tag.Several end end)) end)) end)) end) []) 11
unfolding measure_from run_rule rule entry_at
mangled_name_17 = by_measure refl

mangled_name_18 : Reads Row.mangled_name false (codes "_ZNSsixEm") (Read 9 (node Tag.MangledNameEncoding (node Tag.EncodingFunction (node Tag.NameNested (node Tag.NestedNameUnqualified (node Tag.CvQualifiers (flag false (flag false (flag false end))) (node Tag.Absent end (node Tag.Present (node Tag.WellKnown (chosen 2 3 end) end) (node Tag.UnqualifiedNameOperator (node Tag.OperatorNameSimple (chosen 0 45 end) (node Tag.AbiTags (node Tag.Several end end) end)) end)))) end) (node Tag.BareFunctionType (node Tag.Several (node Tag.TypeHandleBuiltin (node Tag.BuiltinTypeStandard (chosen 1 11 end) end) end) end) end)) (node Tag.Several end end)) end) (entry U (node Tag.SubstitutablePrefix (node Tag.PrefixNested (node Tag.WellKnown (chosen 2 3 end) (node Tag.UnqualifiedNameOperator (node Tag.OperatorNameSimple (chosen 0 45 end) (node Tag.AbiTags (node Tag.Several end end) end)) end)) end) end) ∷ [])) 11
unfolding measure_from run_rule rule entry_at
mangled_name_18 = by_measure refl

mangled_name_19 : Reads Row.mangled_name false (codes "_ZNv11aa0") (Refused Text) 10
unfolding measure_from run_rule rule entry_at
mangled_name_19 = by_measure refl

mangled_name_20 : Reads Row.mangled_name false (codes "_Z1fPUlvE_") (Read 4 (node Tag.MangledNameEncoding (node Tag.EncodingData (node Tag.NameUnscoped (node Tag.UnscopedNameUnqualified (node Tag.UnqualifiedNameSource (node Tag.SourceName (node Tag.Identifier (place 3 4 end) end) (node Tag.AbiTags (node Tag.Several end end) end)) end) end) end) (node Tag.Several end end)) end) []) 11
unfolding measure_from run_rule rule entry_at
mangled_name_20 = by_measure refl

mangled_name_21 : Reads Row.mangled_name false (codes "_Z1fKDwFivE") (Read 4 (node Tag.MangledNameEncoding (node Tag.EncodingData (node Tag.NameUnscoped (node Tag.UnscopedNameUnqualified (node Tag.UnqualifiedNameSource (node Tag.SourceName (node Tag.Identifier (place 3 4 end) end) (node Tag.AbiTags (node Tag.Several end end) end)) end) end) end) (node Tag.Several end end)) end) []) 11
unfolding measure_from run_rule rule entry_at
mangled_name_21 = by_measure refl

mangled_name_22 : Reads Row.mangled_name false (codes "_ZN1a1bS0_E") (Read 11 (node Tag.MangledNameEncoding (node Tag.EncodingData (node Tag.NameNested (node Tag.NestedNameUnqualified (node Tag.CvQualifiers (flag false (flag false (flag false end))) (node Tag.Absent end (node Tag.Present (node Tag.BackReference (ref N 0 end) end) (node Tag.UnqualifiedNameSource (node Tag.SourceName (node Tag.Identifier (place 6 7 end) end) (node Tag.AbiTags (node Tag.Several end end) end)) end)))) end) end) (node Tag.Several end end)) end) (entry N (node Tag.SubstitutablePrefix (node Tag.PrefixUnqualified (node Tag.UnqualifiedNameSource (node Tag.SourceName (node Tag.Identifier (place 4 5 end) end) (node Tag.AbiTags (node Tag.Several end end) end)) end) end) end) ∷ entry N (node Tag.SubstitutablePrefix (node Tag.PrefixNested (node Tag.BackReference (ref N 0 end) (node Tag.UnqualifiedNameSource (node Tag.SourceName (node Tag.Identifier (place 6 7 end) end) (node Tag.AbiTags (node Tag.Several end end) end)) end)) end) end) ∷ [])) 11
unfolding measure_from run_rule rule entry_at
mangled_name_22 = by_measure refl

mangled_name_23 : Reads Row.mangled_name false (codes "____Z1fv_bl") (Refused End) 11
unfolding measure_from run_rule rule entry_at
mangled_name_23 = by_measure refl

mangled_name_24 : Reads Row.mangled_name false (codes "_Z1fU3fooIiE") (Read 4 (node Tag.MangledNameEncoding (node Tag.EncodingData (node Tag.NameUnscoped (node Tag.UnscopedNameUnqualified (node Tag.UnqualifiedNameSource (node Tag.SourceName (node Tag.Identifier (place 3 4 end) end) (node Tag.AbiTags (node Tag.Several end end) end)) end) end) end) (node Tag.Several end end)) end) []) 14
unfolding measure_from run_rule rule entry_at
mangled_name_24 = by_measure refl

mangled_name_25 : Reads Row.mangled_name false (codes "_ZN1DCI11BEi") (Read 12 (node Tag.MangledNameEncoding (node Tag.EncodingFunction (node Tag.NameNested (node Tag.NestedNameUnqualified (node Tag.CvQualifiers (flag false (flag false (flag false end))) (node Tag.Absent end (node Tag.Present (node Tag.BackReference (ref N 0 end) end) (node Tag.UnqualifiedNameCtorDtor (node Tag.CtorDtorNameCompleteConstructor (node Tag.Present (node Tag.BackReference (ref N 1 end) end) end) (node Tag.AbiTags (node Tag.Several end end) end)) end)))) end) (node Tag.BareFunctionType (node Tag.Several (node Tag.TypeHandleBuiltin (node Tag.BuiltinTypeStandard (chosen 1 8 end) end) end) end) end)) (node Tag.Several end end)) end) (entry N (node Tag.SubstitutablePrefix (node Tag.PrefixUnqualified (node Tag.UnqualifiedNameSource (node Tag.SourceName (node Tag.Identifier (place 4 5 end) end) (node Tag.AbiTags (node Tag.Several end end) end)) end) end) end) ∷ entry N (node Tag.SubstitutableTypeNode (node Tag.TypeNodeClassEnum (node Tag.ClassEnumTypeNamed (node Tag.NameUnscoped (node Tag.UnscopedNameUnqualified (node Tag.UnqualifiedNameSource (node Tag.SourceName (node Tag.Identifier (place 9 10 end) end) (node Tag.AbiTags (node Tag.Several end end) end)) end) end) end) end) end) end) ∷ entry U (node Tag.SubstitutablePrefix (node Tag.PrefixNested (node Tag.BackReference (ref N 0 end) (node Tag.UnqualifiedNameCtorDtor (node Tag.CtorDtorNameCompleteConstructor (node Tag.Present (node Tag.BackReference (ref N 1 end) end) end) (node Tag.AbiTags (node Tag.Several end end) end)) end)) end) end) ∷ [])) 15
unfolding measure_from run_rule rule entry_at
mangled_name_25 = by_measure refl

mangled_name_26 : Reads Row.mangled_name false (codes "_ZN1aplM1bEv") (Refused Text) 9
unfolding measure_from run_rule rule entry_at
mangled_name_26 = by_measure refl

mangled_name_27 : Reads Row.mangled_name false (codes "_GLOBAL__I_ii") (Read 12 (node Tag.MangledNameGlobalCtorDtor (node Tag.GlobalCtorDtorCtor (node Tag.MangledNameTopLevelType (node Tag.TypeHandleBuiltin (node Tag.BuiltinTypeStandard (chosen 1 8 end) end) end) end) end) end) []) 6
unfolding measure_from run_rule rule entry_at
mangled_name_27 = by_measure refl

mangled_name_28 : Reads Row.mangled_name false (codes "_Z1fv.clone.0") (Read 13 (node Tag.MangledNameEncoding (node Tag.EncodingFunction (node Tag.NameUnscoped (node Tag.UnscopedNameUnqualified (node Tag.UnqualifiedNameSource (node Tag.SourceName (node Tag.Identifier (place 3 4 end) end) (node Tag.AbiTags (node Tag.Several end end) end)) end) end) (node Tag.BareFunctionType (node Tag.Several (node Tag.TypeHandleBuiltin (node Tag.BuiltinTypeStandard (chosen 1 0 end) end) end) end) end)) (node Tag.Several (node Tag.CloneSuffix (node Tag.CloneTypeIdentifier (place 6 11 end) (node Tag.Several (number (pos 0) end) end)) end) end)) end) []) 11
unfolding measure_from run_rule rule entry_at
mangled_name_28 = by_measure refl

mangled_name_29 : Reads Row.mangled_name false (codes "_ZN1aL1bM1cEv") (Read 13 (node Tag.MangledNameEncoding (node Tag.EncodingFunction (node Tag.NameNested (node Tag.NestedNameUnqualified (node Tag.CvQualifiers (flag false (flag false (flag false end))) (node Tag.Absent end (node Tag.Present (node Tag.BackReference (ref N 1 end) end) (node Tag.UnqualifiedNameSource (node Tag.SourceName (node Tag.Identifier (place 10 11 end) end) (node Tag.AbiTags (node Tag.Several end end) end)) end)))) end) (node Tag.BareFunctionType (node Tag.Several (node Tag.TypeHandleBuiltin (node Tag.BuiltinTypeStandard (chosen 1 0 end) end) end) end) end)) (node Tag.Several end end)) end) (entry N (node Tag.SubstitutablePrefix (node Tag.PrefixUnqualified (node Tag.UnqualifiedNameSource (node Tag.SourceName (node Tag.Identifier (place 4 5 end) end) (node Tag.AbiTags (node Tag.Several end end) end)) end) end) end) ∷ entry N (node Tag.SubstitutablePrefix (node Tag.PrefixDataMember (node Tag.BackReference (ref N 0 end) (node Tag.DataMemberPrefix (node Tag.SourceName (node Tag.Identifier (place 7 8 end) end) end) end)) end) end) ∷ entry U (node Tag.SubstitutablePrefix (node Tag.PrefixNested (node Tag.BackReference (ref N 1 end) (node Tag.UnqualifiedNameSource (node Tag.SourceName (node Tag.Identifier (place 10 11 end) end) (node Tag.AbiTags (node Tag.Several end end) end)) end)) end) end) ∷ [])) 11
unfolding measure_from run_rule rule entry_at
mangled_name_29 = by_measure refl

mangled_name_30 : Reads Row.mangled_name false (codes "_ZN1altIiEEvv") (Read 13 (node Tag.MangledNameEncoding (node Tag.EncodingFunction (node Tag.NameNested (node Tag.NestedNameTemplate (node Tag.CvQualifiers (flag false (flag false (flag false end))) (node Tag.Absent end (node Tag.NonSubstitution (ref U 0 end) end))) end) (node Tag.BareFunctionType (node Tag.Several (node Tag.TypeHandleBuiltin (node Tag.BuiltinTypeStandard (chosen 1 0 end) end) (node Tag.TypeHandleBuiltin (node Tag.BuiltinTypeStandard (chosen 1 0 end) end) end)) end) end)) (node Tag.Several end end)) end) (entry N (node Tag.SubstitutablePrefix (node Tag.PrefixUnqualified (node Tag.UnqualifiedNameSource (node Tag.SourceName (node Tag.Identifier (place 4 5 end) end) (node Tag.AbiTags (node Tag.Several end end) end)) end) end) end) ∷ entry N (node Tag.SubstitutablePrefix (node Tag.PrefixNested (node Tag.BackReference (ref N 0 end) (node Tag.UnqualifiedNameOperator (node Tag.OperatorNameSimple (chosen 0 32 end) (node Tag.AbiTags (node Tag.Several end end) end)) end)) end) end) ∷ entry U (node Tag.SubstitutablePrefix (node Tag.PrefixTemplate (node Tag.BackReference (ref N 1 end) (node Tag.TemplateArgs (mark 7 (node Tag.Several (node Tag.TemplateArgTypeArg (node Tag.TypeHandleBuiltin (node Tag.BuiltinTypeStandard (chosen 1 8 end) end) end) end) end)) end)) end) end) ∷ [])) 16
unfolding measure_from run_rule rule entry_at
mangled_name_30 = by_measure refl

mangled_name_31 : Reads Row.mangled_name false (codes "_ZTch0_h4_1fv") (Read 13 (node Tag.MangledNameEncoding (node Tag.EncodingSpecial (node Tag.SpecialNameVirtualOverrideThunkCovariant (node Tag.CallOffsetNonVirtual (node Tag.NvOffset (number (pos 0) end) end) (node Tag.CallOffsetNonVirtual (node Tag.NvOffset (number (pos 4) end) end) (node Tag.EncodingFunction (node Tag.NameUnscoped (node Tag.UnscopedNameUnqualified (node Tag.UnqualifiedNameSource (node Tag.SourceName (node Tag.Identifier (place 11 12 end) end) (node Tag.AbiTags (node Tag.Several end end) end)) end) end) (node Tag.BareFunctionType (node Tag.Several (node Tag.TypeHandleBuiltin (node Tag.BuiltinTypeStandard (chosen 1 0 end) end) end) end) end)) end))) end) (node Tag.Several end end)) end) []) 13
unfolding measure_from run_rule rule entry_at
mangled_name_31 = by_measure refl

mangled_name_32 : Reads Row.mangled_name false (codes "_ZNK5DebuglsEj") (Read 14 (node Tag.MangledNameEncoding (node Tag.EncodingFunction (node Tag.NameNested (node Tag.NestedNameUnqualified (node Tag.CvQualifiers (flag false (flag false (flag true end))) (node Tag.Absent end (node Tag.Present (node Tag.BackReference (ref N 0 end) end) (node Tag.UnqualifiedNameOperator (node Tag.OperatorNameSimple (chosen 0 26 end) (node Tag.AbiTags (node Tag.Several end end) end)) end)))) end) (node Tag.BareFunctionType (node Tag.Several (node Tag.TypeHandleBuiltin (node Tag.BuiltinTypeStandard (chosen 1 9 end) end) end) end) end)) (node Tag.Several end end)) end) (entry N (node Tag.SubstitutablePrefix (node Tag.PrefixUnqualified (node Tag.UnqualifiedNameSource (node Tag.SourceName (node Tag.Identifier (place 5 10 end) end) (node Tag.AbiTags (node Tag.Several end end) end)) end) end) end) ∷ entry U (node Tag.SubstitutablePrefix (node Tag.PrefixNested (node Tag.BackReference (ref N 0 end) (node Tag.UnqualifiedNameOperator (node Tag.OperatorNameSimple (chosen 0 26 end) (node Tag.AbiTags (node Tag.Several end end) end)) end)) end) end) ∷ [])) 11
unfolding measure_from run_rule rule entry_at
mangled_name_32 = by_measure refl

mangled_name_33 : Reads Row.mangled_name false (codes "_Z1fTs1aTu1bTe1c") (Read 16 (node Tag.MangledNameEncoding (node Tag.EncodingFunction (node Tag.NameUnscoped (node Tag.UnscopedNameUnqualified (node Tag.UnqualifiedNameSource (node Tag.SourceName (node Tag.Identifier (place 3 4 end) end) (node Tag.AbiTags (node Tag.Several end end) end)) end) end) (node Tag.BareFunctionType (node Tag.Several (node Tag.BackReference (ref N 0 end) (node Tag.BackReference (ref N 1 end) (node Tag.BackReference (ref N 2 end) end))) end) end)) (node Tag.Several end end)) end) (entry N (node Tag.SubstitutableTypeNode (node Tag.TypeNodeClassEnum (node Tag.ClassEnumTypeElaboratedStruct (node Tag.NameUnscoped (node Tag.UnscopedNameUnqualified (node Tag.UnqualifiedNameSource (node Tag.SourceName (node Tag.Identifier (place 7 8 end) end) (node Tag.AbiTags (node Tag.Several end end) end)) end) end) end) end) end) end) ∷ entry N (node Tag.SubstitutableTypeNode (node Tag.TypeNodeClassEnum (node Tag.ClassEnumTypeElaboratedUnion (node Tag.NameUnscoped (node Tag.UnscopedNameUnqualified (node Tag.UnqualifiedNameSource (node Tag.SourceName (node Tag.Identifier (place 11 12 end) end) (node Tag.AbiTags (node Tag.Several end end) end)) end) end) end) end) end) end) ∷ entry N (node Tag.SubstitutableTypeNode (node Tag.TypeNodeClassEnum (node Tag.ClassEnumTypeElaboratedEnum (node Tag.NameUnscoped (node Tag.UnscopedNameUnqualified (node Tag.UnqualifiedNameSource (node Tag.SourceName (node Tag.Identifier (place 15 16 end) end) (node Tag.AbiTags (node Tag.Several end end) end)) end) end) end) end) end) end) ∷ [])) 11
unfolding measure_from run_rule rule entry_at
mangled_name_33 = by_measure refl

mangled_name_34 : Reads Row.mangled_name false (codes "_Z1hI3VecEvT_IiE") (Read 16 (node Tag.MangledNameEncoding (node Tag.EncodingFunction (node Tag.NameUnscopedTemplate (node Tag.BackReference (ref N 0 end) (node Tag.TemplateArgs (mark 4 (node Tag.Several (node Tag.TemplateArgTypeArg (node Tag.BackReference (ref N 1 end) end) end) end)) end)) (node Tag.BareFunctionType (node Tag.Several (node Tag.TypeHandleBuiltin (node Tag.BuiltinTypeStandard (chosen 1 0 end) end) (node Tag.BackReference (ref N 3 end) end)) end) end)) (node Tag.Several end end)) end) (entry N (node Tag.SubstitutableUnscopedTemplateName (node Tag.UnscopedTemplateName (node Tag.UnscopedNameUnqualified (node Tag.UnqualifiedNameSource (node Tag.SourceName (node Tag.Identifier (place 3 4 end) end) (node Tag.AbiTags (node Tag.Several end end) end)) end) end) end) end) ∷ entry N (node Tag.SubstitutableTypeNode (node Tag.TypeNodeClassEnum (node Tag.ClassEnumTypeNamed (node Tag.NameUnscoped (node Tag.UnscopedNameUnqualified (node Tag.UnqualifiedNameSource (node Tag.SourceName (node Tag.Identifier (place 6 9 end) end) (node Tag.AbiTags (node Tag.Several end end) end)) end) end) end) end) end) end) ∷ entry N (node Tag.SubstitutableTemplateTemplateParam (node Tag.TemplateTemplateParam (node Tag.TemplateParam (number (pos 0) end) end) end) end) ∷ entry N (node Tag.SubstitutableTypeNode (node Tag.TypeNodeTemplateTemplate (node Tag.BackReference (ref N 2 end) (node Tag.TemplateArgs (mark 13 (node Tag.Several (node Tag.TemplateArgTypeArg (node Tag.TypeHandleBuiltin (node Tag.BuiltinTypeStandard (chosen 1 8 end) end) end) end) end)) end)) end) end) ∷ [])) 14
unfolding measure_from run_rule rule entry_at
mangled_name_34 = by_measure refl

mangled_name_35 : Reads Row.mangled_name false (codes "_Z2f2IiEvDTatT_E") (Read 16 (node Tag.MangledNameEncoding (node Tag.EncodingFunction (node Tag.NameUnscopedTemplate (node Tag.BackReference (ref N 0 end) (node Tag.TemplateArgs (mark 5 (node Tag.Several (node Tag.TemplateArgTypeArg (node Tag.TypeHandleBuiltin (node Tag.BuiltinTypeStandard (chosen 1 8 end) end) end) end) end)) end)) (node Tag.BareFunctionType (node Tag.Several (node Tag.TypeHandleBuiltin (node Tag.BuiltinTypeStandard (chosen 1 0 end) end) (node Tag.BackReference (ref N 2 end) end)) end) end)) (node Tag.Several end end)) end) (entry N (node Tag.SubstitutableUnscopedTemplateName (node Tag.UnscopedTemplateName (node Tag.UnscopedNameUnqualified (node Tag.UnqualifiedNameSource (node Tag.SourceName (node Tag.Identifier (place 3 5 end) end) (node Tag.AbiTags (node Tag.Several end end) end)) end) end) end) end) ∷ entry N (node Tag.SubstitutableTypeNode (node Tag.TypeNodeTemplateParam (node Tag.TemplateParam (number (pos 0) end) end) end) end) ∷ entry N (node Tag.SubstitutableTypeNode (node Tag.TypeNodeDecltype (node Tag.DecltypeExpression (node Tag.ExpressionAlignofType (node Tag.BackReference (ref N 1 end) end) end) end) end) end) ∷ [])) 14
unfolding measure_from run_rule rule entry_at
mangled_name_35 = by_measure refl

mangled_name_36 : Reads Row.mangled_name false (codes "_Z1fI1aEvT_IiES1_") (Read 17 (node Tag.MangledNameEncoding (node Tag.EncodingFunction (node Tag.NameUnscopedTemplate (node Tag.BackReference (ref N 0 end) (node Tag.TemplateArgs (mark 4 (node Tag.Several (node Tag.TemplateArgTypeArg (node Tag.BackReference (ref N 1 end) end) end) end)) end)) (node Tag.BareFunctionType (node Tag.Several (node Tag.TypeHandleBuiltin (node Tag.BuiltinTypeStandard (chosen 1 0 end) end) (node Tag.BackReference (ref N 3 end) (node Tag.BackReference (ref N 2 end) end))) end) end)) (node Tag.Several end end)) end) (entry N (node Tag.SubstitutableUnscopedTemplateName (node Tag.UnscopedTemplateName (node Tag.UnscopedNameUnqualified (node Tag.UnqualifiedNameSource (node Tag.SourceName (node Tag.Identifier (place 3 4 end) end) (node Tag.AbiTags (node Tag.Several end end) end)) end) end) end) end) ∷ entry N (node Tag.SubstitutableTypeNode (node Tag.TypeNodeClassEnum (node Tag.ClassEnumTypeNamed (node Tag.NameUnscoped (node Tag.UnscopedNameUnqualified (node Tag.UnqualifiedNameSource (node Tag.SourceName (node Tag.Identifier (place 6 7 end) end) (node Tag.AbiTags (node Tag.Several end end) end)) end) end) end) end) end) end) ∷ entry N (node Tag.SubstitutableTemplateTemplateParam (node Tag.TemplateTemplateParam (node Tag.TemplateParam (number (pos 0) end) end) end) end) ∷ entry N (node Tag.SubstitutableTypeNode (node Tag.TypeNodeTemplateTemplate (node Tag.BackReference (ref N 2 end) (node Tag.TemplateArgs (mark 11 (node Tag.Several (node Tag.TemplateArgTypeArg (node Tag.TypeHandleBuiltin (node Tag.BuiltinTypeStandard (chosen 1 8 end) end) end) end) end)) end)) end) end) ∷ [])) 14
unfolding measure_from run_rule rule entry_at
mangled_name_36 = by_measure refl

mangled_name_37 : Reads Row.mangled_name false (codes "_Z1fIiEDTazfp_ET_") (Read 17 (node Tag.MangledNameEncoding (node Tag.EncodingFunction (node Tag.NameUnscopedTemplate (node Tag.BackReference (ref N 0 end) (node Tag.TemplateArgs (mark 4 (node Tag.Several (node Tag.TemplateArgTypeArg (node Tag.TypeHandleBuiltin (node Tag.BuiltinTypeStandard (chosen 1 8 end) end) end) end) end)) end)) (node Tag.BareFunctionType (node Tag.Several (node Tag.BackReference (ref N 1 end) (node Tag.BackReference (ref N 2 end) end)) end) end)) (node Tag.Several end end)) end) (entry N (node Tag.SubstitutableUnscopedTemplateName (node Tag.UnscopedTemplateName (node Tag.UnscopedNameUnqualified (node Tag.UnqualifiedNameSource (node Tag.SourceName (node Tag.Identifier (place 3 4 end) end) (node Tag.AbiTags (node Tag.Several end end) end)) end) end) end) end) ∷ entry N (node Tag.SubstitutableTypeNode (node Tag.TypeNodeDecltype (node Tag.DecltypeExpression (node Tag.ExpressionAlignofExpr (node Tag.ExpressionFunctionParam (node Tag.FunctionParam (number (pos 0) (node Tag.CvQualifiers (flag false (flag false (flag false end))) (node Tag.Present (number (pos 0) end) end))) end) end) end) end) end) end) ∷ entry N (node Tag.SubstitutableTypeNode (node Tag.TypeNodeTemplateParam (node Tag.TemplateParam (number (pos 0) end) end) end) end) ∷ [])) 13
unfolding measure_from run_rule rule entry_at
mangled_name_37 = by_measure refl

mangled_name_38 : Reads Row.mangled_name false (codes "_Z1fIiEDTdafp_ET_") (Read 17 (node Tag.MangledNameEncoding (node Tag.EncodingFunction (node Tag.NameUnscopedTemplate (node Tag.BackReference (ref N 0 end) (node Tag.TemplateArgs (mark 4 (node Tag.Several (node Tag.TemplateArgTypeArg (node Tag.TypeHandleBuiltin (node Tag.BuiltinTypeStandard (chosen 1 8 end) end) end) end) end)) end)) (node Tag.BareFunctionType (node Tag.Several (node Tag.BackReference (ref N 1 end) (node Tag.BackReference (ref N 2 end) end)) end) end)) (node Tag.Several end end)) end) (entry N (node Tag.SubstitutableUnscopedTemplateName (node Tag.UnscopedTemplateName (node Tag.UnscopedNameUnqualified (node Tag.UnqualifiedNameSource (node Tag.SourceName (node Tag.Identifier (place 3 4 end) end) (node Tag.AbiTags (node Tag.Several end end) end)) end) end) end) end) ∷ entry N (node Tag.SubstitutableTypeNode (node Tag.TypeNodeDecltype (node Tag.DecltypeExpression (node Tag.ExpressionDeleteArray (node Tag.ExpressionFunctionParam (node Tag.FunctionParam (number (pos 0) (node Tag.CvQualifiers (flag false (flag false (flag false end))) (node Tag.Present (number (pos 0) end) end))) end) end) end) end) end) end) ∷ entry N (node Tag.SubstitutableTypeNode (node Tag.TypeNodeTemplateParam (node Tag.TemplateParam (number (pos 0) end) end) end) end) ∷ [])) 13
unfolding measure_from run_rule rule entry_at
mangled_name_38 = by_measure refl

mangled_name_39 : Reads Row.mangled_name false (codes "_Z1fIiEDTdlfp_ET_") (Read 17 (node Tag.MangledNameEncoding (node Tag.EncodingFunction (node Tag.NameUnscopedTemplate (node Tag.BackReference (ref N 0 end) (node Tag.TemplateArgs (mark 4 (node Tag.Several (node Tag.TemplateArgTypeArg (node Tag.TypeHandleBuiltin (node Tag.BuiltinTypeStandard (chosen 1 8 end) end) end) end) end)) end)) (node Tag.BareFunctionType (node Tag.Several (node Tag.BackReference (ref N 1 end) (node Tag.BackReference (ref N 2 end) end)) end) end)) (node Tag.Several end end)) end) (entry N (node Tag.SubstitutableUnscopedTemplateName (node Tag.UnscopedTemplateName (node Tag.UnscopedNameUnqualified (node Tag.UnqualifiedNameSource (node Tag.SourceName (node Tag.Identifier (place 3 4 end) end) (node Tag.AbiTags (node Tag.Several end end) end)) end) end) end) end) ∷ entry N (node Tag.SubstitutableTypeNode (node Tag.TypeNodeDecltype (node Tag.DecltypeExpression (node Tag.ExpressionDelete (node Tag.ExpressionFunctionParam (node Tag.FunctionParam (number (pos 0) (node Tag.CvQualifiers (flag false (flag false (flag false end))) (node Tag.Present (number (pos 0) end) end))) end) end) end) end) end) end) ∷ entry N (node Tag.SubstitutableTypeNode (node Tag.TypeNodeTemplateParam (node Tag.TemplateParam (number (pos 0) end) end) end) end) ∷ [])) 13
unfolding measure_from run_rule rule entry_at
mangled_name_39 = by_measure refl

mangled_name_40 : Reads Row.mangled_name false (codes "_Z1fIiEDTmm_T_ET_") (Read 17 (node Tag.MangledNameEncoding (node Tag.EncodingFunction (node Tag.NameUnscopedTemplate (node Tag.BackReference (ref N 0 end) (node Tag.TemplateArgs (mark 4 (node Tag.Several (node Tag.TemplateArgTypeArg (node Tag.TypeHandleBuiltin (node Tag.BuiltinTypeStandard (chosen 1 8 end) end) end) end) end)) end)) (node Tag.BareFunctionType (node Tag.Several (node Tag.BackReference (ref N 1 end) (node Tag.BackReference (ref N 2 end) end)) end) end)) (node Tag.Several end end)) end) (entry N (node Tag.SubstitutableUnscopedTemplateName (node Tag.UnscopedTemplateName (node Tag.UnscopedNameUnqualified (node Tag.UnqualifiedNameSource (node Tag.SourceName (node Tag.Identifier (place 3 4 end) end) (node Tag.AbiTags (node Tag.Several end end) end)) end) end) end) end) ∷ entry N (node Tag.SubstitutableTypeNode (node Tag.TypeNodeDecltype (node Tag.DecltypeExpression (node Tag.ExpressionPrefixDec (node Tag.ExpressionTemplateParam (node Tag.TemplateParam (number (pos 0) end) end) end) end) end) end) end) ∷ entry N (node Tag.SubstitutableTypeNode (node Tag.TypeNodeTemplateParam (node Tag.TemplateParam (number (pos 0) end) end) end) end) ∷ [])) 13
unfolding measure_from run_rule rule entry_at
mangled_name_40 = by_measure refl

mangled_name_41 : Reads Row.mangled_name false (codes "_Z1fIiEDTpp_T_ET_") (Read 17 (node Tag.MangledNameEncoding (node Tag.EncodingFunction (node Tag.NameUnscopedTemplate (node Tag.BackReference (ref N 0 end) (node Tag.TemplateArgs (mark 4 (node Tag.Several (node Tag.TemplateArgTypeArg (node Tag.TypeHandleBuiltin (node Tag.BuiltinTypeStandard (chosen 1 8 end) end) end) end) end)) end)) (node Tag.BareFunctionType (node Tag.Several (node Tag.BackReference (ref N 1 end) (node Tag.BackReference (ref N 2 end) end)) end) end)) (node Tag.Several end end)) end) (entry N (node Tag.SubstitutableUnscopedTemplateName (node Tag.UnscopedTemplateName (node Tag.UnscopedNameUnqualified (node Tag.UnqualifiedNameSource (node Tag.SourceName (node Tag.Identifier (place 3 4 end) end) (node Tag.AbiTags (node Tag.Several end end) end)) end) end) end) end) ∷ entry N (node Tag.SubstitutableTypeNode (node Tag.TypeNodeDecltype (node Tag.DecltypeExpression (node Tag.ExpressionPrefixInc (node Tag.ExpressionTemplateParam (node Tag.TemplateParam (number (pos 0) end) end) end) end) end) end) end) ∷ entry N (node Tag.SubstitutableTypeNode (node Tag.TypeNodeTemplateParam (node Tag.TemplateParam (number (pos 0) end) end) end) end) ∷ [])) 13
unfolding measure_from run_rule rule entry_at
mangled_name_41 = by_measure refl

mangled_name_42 : Reads Row.mangled_name false (codes "_ZTv0_n20_N1DD1Ev") (Read 17 (node Tag.MangledNameEncoding (node Tag.EncodingSpecial (node Tag.SpecialNameVirtualOverrideThunk (node Tag.CallOffsetVirtual (node Tag.VOffset (number (pos 0) (number (negsuc 19) end)) end) (node Tag.EncodingFunction (node Tag.NameNested (node Tag.NestedNameUnqualified (node Tag.CvQualifiers (flag false (flag false (flag false end))) (node Tag.Absent end (node Tag.Present (node Tag.BackReference (ref N 0 end) end) (node Tag.UnqualifiedNameCtorDtor (node Tag.CtorDtorNameCompleteDestructor end (node Tag.AbiTags (node Tag.Several end end) end)) end)))) end) (node Tag.BareFunctionType (node Tag.Several (node Tag.TypeHandleBuiltin (node Tag.BuiltinTypeStandard (chosen 1 0 end) end) end) end) end)) end)) end) (node Tag.Several end end)) end) (entry N (node Tag.SubstitutablePrefix (node Tag.PrefixUnqualified (node Tag.UnqualifiedNameSource (node Tag.SourceName (node Tag.Identifier (place 12 13 end) end) (node Tag.AbiTags (node Tag.Several end end) end)) end) end) end) ∷ entry U (node Tag.SubstitutablePrefix (node Tag.PrefixNested (node Tag.BackReference (ref N 0 end) (node Tag.UnqualifiedNameCtorDtor (node Tag.CtorDtorNameCompleteDestructor end (node Tag.AbiTags (node Tag.Several end end) end)) end)) end) end) ∷ [])) 13
unfolding measure_from run_rule rule entry_at
mangled_name_42 = by_measure refl

mangled_name_43 : Reads Row.mangled_name false (codes "_ZcvT_ILZcvDTT_EEE") (Refused Text) 28
unfolding measure_from run_rule rule entry_at
mangled_name_43 = by_measure refl

mangled_name_44 : Reads Row.mangled_name false (codes "_Z1fIJiEEDTsPEEDpT_") (Read 19 (node Tag.MangledNameEncoding (node Tag.EncodingFunction (node Tag.NameUnscopedTemplate (node Tag.BackReference (ref N 0 end) (node Tag.TemplateArgs (mark 4 (node Tag.Several (node Tag.TemplateArgArgPack (node Tag.Several (node Tag.TemplateArgTypeArg (node Tag.TypeHandleBuiltin (node Tag.BuiltinTypeStandard (chosen 1 8 end) end) end) end) end) end) end)) end)) (node Tag.BareFunctionType (node Tag.Several (node Tag.BackReference (ref N 1 end) (node Tag.BackReference (ref N 3 end) end)) end) end)) (node Tag.Several end end)) end) (entry N (node Tag.SubstitutableUnscopedTemplateName (node Tag.UnscopedTemplateName (node Tag.UnscopedNameUnqualified (node Tag.UnqualifiedNameSource (node Tag.SourceName (node Tag.Identifier (place 3 4 end) end) (node Tag.AbiTags (node Tag.Several end end) end)) end) end) end) end) ∷ entry N (node Tag.SubstitutableTypeNode (node Tag.TypeNodeDecltype (node Tag.DecltypeExpression (node Tag.ExpressionSizeofCapturedTemplatePack (node Tag.Several end end) end) end) end) end) ∷ entry N (node Tag.SubstitutableTypeNode (node Tag.TypeNodeTemplateParam (node Tag.TemplateParam (number (pos 0) end) end) end) end) ∷ entry N (node Tag.SubstitutableTypeNode (node Tag.TypeNodePackExpansion (node Tag.BackReference (ref N 2 end) end) end) end) ∷ [])) 15
unfolding measure_from run_rule rule entry_at
mangled_name_44 = by_measure refl

mangled_name_45 : Reads Row.mangled_name false (codes "_Z1fIiEDTccT_fp_ET_") (Read 19 (node Tag.MangledNameEncoding (node Tag.EncodingFunction (node Tag.NameUnscopedTemplate (node Tag.BackReference (ref N 0 end) (node Tag.TemplateArgs (mark 4 (node Tag.Several (node Tag.TemplateArgTypeArg (node Tag.TypeHandleBuiltin (node Tag.BuiltinTypeStandard (chosen 1 8 end) end) end) end) end)) end)) (node Tag.BareFunctionType (node Tag.Several (node Tag.BackReference (ref N 2 end) (node Tag.BackReference (ref N 3 end) end)) end) end)) (node Tag.Several end end)) end) (entry N (node Tag.SubstitutableUnscopedTemplateName (node Tag.UnscopedTemplateName (node Tag.UnscopedNameUnqualified (node Tag.UnqualifiedNameSource (node Tag.SourceName (node Tag.Identifier (place 3 4 end) end) (node Tag.AbiTags (node Tag.Several end end) end)) end) end) end) end) ∷ entry N (node Tag.SubstitutableTypeNode (node Tag.TypeNodeTemplateParam (node Tag.TemplateParam (number (pos 0) end) end) end) end) ∷ entry N (node Tag.SubstitutableTypeNode (node Tag.TypeNodeDecltype (node Tag.DecltypeExpression (node Tag.ExpressionConstCast (node Tag.BackReference (ref N 1 end) (node Tag.ExpressionFunctionParam (node Tag.FunctionParam (number (pos 0) (node Tag.CvQualifiers (flag false (flag false (flag false end))) (node Tag.Present (number (pos 0) end) end))) end) end)) end) end) end) end) ∷ entry N (node Tag.SubstitutableTypeNode (node Tag.TypeNodeTemplateParam (node Tag.TemplateParam (number (pos 0) end) end) end) end) ∷ [])) 14
unfolding measure_from run_rule rule entry_at
mangled_name_45 = by_measure refl

mangled_name_46 : Reads Row.mangled_name false (codes "_Z1fIiEDTgsdafp_ET_") (Read 19 (node Tag.MangledNameEncoding (node Tag.EncodingFunction (node Tag.NameUnscopedTemplate (node Tag.BackReference (ref N 0 end) (node Tag.TemplateArgs (mark 4 (node Tag.Several (node Tag.TemplateArgTypeArg (node Tag.TypeHandleBuiltin (node Tag.BuiltinTypeStandard (chosen 1 8 end) end) end) end) end)) end)) (node Tag.BareFunctionType (node Tag.Several (node Tag.BackReference (ref N 1 end) (node Tag.BackReference (ref N 2 end) end)) end) end)) (node Tag.Several end end)) end) (entry N (node Tag.SubstitutableUnscopedTemplateName (node Tag.UnscopedTemplateName (node Tag.UnscopedNameUnqualified (node Tag.UnqualifiedNameSource (node Tag.SourceName (node Tag.Identifier (place 3 4 end) end) (node Tag.AbiTags (node Tag.Several end end) end)) end) end) end) end) ∷ entry N (node Tag.SubstitutableTypeNode (node Tag.TypeNodeDecltype (node Tag.DecltypeExpression (node Tag.ExpressionGlobalDeleteArray (node Tag.ExpressionFunctionParam (node Tag.FunctionParam (number (pos 0) (node Tag.CvQualifiers (flag false (flag false (flag false end))) (node Tag.Present (number (pos 0) end) end))) end) end) end) end) end) end) ∷ entry N (node Tag.SubstitutableTypeNode (node Tag.TypeNodeTemplateParam (node Tag.TemplateParam (number (pos 0) end) end) end) end) ∷ [])) 13
unfolding measure_from run_rule rule entry_at
mangled_name_46 = by_measure refl
