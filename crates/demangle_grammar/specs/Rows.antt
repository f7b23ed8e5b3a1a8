-- The rows of the grammar, as data. Beside each row stands its production in the BNF of the Itanium C++ ABI, section
-- 5.1; a row of many alternatives is put together of parts, and beside each part stand the alternatives that it is of.
-- Where the rows differ from the ABI, as the program's way of reading asks for, the comment says so. `commit` is the
-- mark after which no other alternative of the row is tried.
use Rattle.std.specs.Prelude.{true, false, [], ◌∷◌, codes}
use Prim.Native.String.{String}
use Rattle.demangle_core.specs.Core.{Tag}
use Rattle.demangle_grammar.specs.Rule.{Class, Row, Eat, Cond, Make, Mark, Given, Leaf, Rule}
use Rattle.demangle_vocab.specs.Operators.{operator_words}
use Rattle.demangle_vocab.specs.Builtins.{builtin_words}
use Rattle.demangle_vocab.specs.Components.{component_words}
use Rattle.demangle_vocab.specs.Qualifiers.{ref_qualifier_words, explicit_object_words}
use Rattle.demangle_grammar.specs.Items.{Item, ◌·◌, ◌//◌, w, eat, these, num10, give, need, next, not_next, more, fail}
use Rattle.demangle_grammar.specs.Items.{nothing, commit, r, t, e, sized, apart, make, made, present, absent, opt}
use Rattle.demangle_grammar.specs.Items.{flagged, vec, vec1, index, plus, type_component, prefix_component}
use Rattle.demangle_grammar.specs.Items.{template_component, unresolved_component}

-- ---- the parts of <prefix> (5.1.2): of the first turn, then of the later ones, which go on from the prefix so far
-- the first bytes of a name in a prefix: a source name, a constructor, an operator, a closure or a local name
abbrev pub name_first : String
name_first = "LCU0123456789nadpcomrelsgiqv"

-- <prefix> ::= <unqualified-name>
-- A name in a prefix is followed by no `M`, unless it is a data member.
abbrev pub first_name : Item
first_name k =
    (need (Cond.next (these name_first)) · commit · r Row.unqualified_name · prefix_component Tag.PrefixUnqualified
    · (w "M" // not_next "M")) k

-- <prefix> ::= <template-param>
abbrev pub prefix_param : Item
prefix_param k = (r Row.template_param · prefix_component Tag.PrefixTemplateParam) k

-- <prefix> ::= <decltype>
abbrev pub prefix_decltype : Item
prefix_decltype k = (r Row.decltype · prefix_component Tag.PrefixDecltype) k

-- A substitution, a template parameter and a decltype replace the prefix that was read.
abbrev pub replaced : Item
replaced k = make Make.dropped k

-- <prefix> ::= <substitution>
abbrev pub turn_substitution : Item
turn_substitution k = (next "S" · commit · replaced · r Row.substitution) k

-- <prefix> ::= <template-param>
abbrev pub turn_template_param : Item
turn_template_param k = (next "T" · commit · replaced · prefix_param) k

-- <prefix> ::= <decltype>
abbrev pub turn_decltype : Item
turn_decltype k = (next "D" · replaced · prefix_decltype) k

-- <prefix> ::= <prefix> <unqualified-name>, of a destructor
abbrev pub turn_destructor : Item
turn_destructor k = (next "D" · commit · r Row.unqualified_name · prefix_component Tag.PrefixNested) k

-- <prefix> ::= <template-prefix> <template-args>
abbrev pub turn_template : Item
turn_template k = (next "I" · need Cond.numbered · commit · r Row.template_args · prefix_component Tag.PrefixTemplate) k

-- <prefix> ::= <prefix> <unqualified-name> | <prefix> <data-member-prefix>
abbrev pub turn_name : Item
turn_name k =
    (need (Cond.next (these name_first)) · commit · r Row.unqualified_name
    · (next "M" · commit · need Cond.member · make Make.data_member
    · made Tag.SubstitutablePrefix · plus Mark.by_end · w "M"
    // not_next "M" · prefix_component Tag.PrefixNested)) k

-- no turn begins here
abbrev pub turn_end : Item
turn_end k = (need (Cond.not_next (these name_first)) · not_next "STD" · (not_next "I" // need Cond.unnumbered)) k

-- ---- the parts of <type> (5.1.5)
-- a word, and the type that it is of
abbrev pub pointed : String → Tag → Item
pointed s x k = (w s · commit · t · type_component x) k

-- <type> ::= U <source-name> [<template-args>] <type>
abbrev pub type_extension : Item
type_extension k =
    (w "U" · commit · r Row.source_name · opt (r Row.template_args) · t · type_component Tag.TypeNodeVendorExtension) k

-- qualifiers of a function type are that type's own
abbrev pub no_function : Item
no_function k = need (Cond.not_ahead (codes "F" ∷ codes "Do" ∷ codes "DO" ∷ codes "Dx" ∷ codes "Dw" ∷ [])) k

-- <type> ::= <CV-qualifiers> <type>
abbrev pub type_qualified : Item
type_qualified k = (r Row.some_cv_qualifiers · no_function · commit · t · type_component Tag.TypeNodeQualified) k

-- <type> ::= <class-enum-type>
abbrev pub type_class : Item
type_class k = (r Row.class_enum_type · type_component Tag.TypeNodeClassEnum) k

-- <type> ::= <substitution>; before `I` it is a template's name
abbrev pub type_substitution : Item
type_substitution k = (r Row.substitution · not_next "I") k

-- <type> ::= <function-type>
abbrev pub type_function : Item
type_function k = (r Row.function_type · type_component Tag.TypeNodeFunction) k

-- <type> ::= <array-type> | <vector-type> | <pointer-to-member-type> | <template-param>
-- | <template-template-param> <template-args> | <decltype>
-- A template parameter before `I` is one with its arguments, but for the type of a conversion operator, where they may
-- be the operator's own: the trial tells.
abbrev pub type_shapes : Item
type_shapes k =
    (r Row.array_type · type_component Tag.TypeNodeArray
    // r Row.vector_type · type_component Tag.TypeNodeVector
    // r Row.pointer_to_member_type · type_component Tag.TypeNodePointerToMember
    // r Row.template_param · (λ k. Rule.trial Row.template_args k) · type_component Tag.TypeNodeTemplateParam
    // r Row.template_template_param_handle · commit · r Row.template_args · type_component Tag.TypeNodeTemplateTemplate
    // r Row.decltype · type_component Tag.TypeNodeDecltype) k

-- <type> ::= P <type> | R <type> | O <type> | C <type> | G <type> | Dp <type>
abbrev pub type_marks : Item
type_marks k =
    (pointed "P" Tag.TypeNodePointerTo // pointed "R" Tag.TypeNodeLvalueRef // pointed "O" Tag.TypeNodeRvalueRef
    // pointed "C" Tag.TypeNodeComplex // pointed "G" Tag.TypeNodeImaginary
    // w "Dp" · t · type_component Tag.TypeNodePackExpansion) k

-- ---- parts of other rows
-- <ctor-dtor-name> ::= C1 | C2 | C3 | CI1 <base class type> | CI2 <base class type>, behind C or CI (5.1.4.3); CI3 and
-- the 4s are compilers' additions
abbrev pub constructors : Item → Item
constructors x k =
    (w "1" · commit · x · made Tag.CtorDtorNameCompleteConstructor
    // w "2" · commit · x · made Tag.CtorDtorNameBaseConstructor
    // w "3" · commit · x · made Tag.CtorDtorNameCompleteAllocatingConstructor
    // w "4" · x · made Tag.CtorDtorNameMaybeInChargeConstructor) k

-- <builtin-type> ::= DB <number> _ | DB <expression> _ | DU <number> _ | DU <expression> _, behind D (5.1.5.2)
-- A width that is an expression becomes a component of the second list, and the type keeps the reference to it.
abbrev pub bits : String → Tag → Tag → Item
bits s x y k =
    (w s · commit · more 1 · (need (Cond.next Class.digits) · commit · num10 · w "_" · made x
    // need (Cond.not_next Class.digits) · e · w "_"
    · made Tag.SubstitutableExpression · plus Mark.unnumbered' · made y)) k

-- <fold-expr> ::= fl <operator> <expression> | fL <operator> <expression> <expression> | .., behind f (5.1.6)
abbrev pub fold : String → Tag → Item → Item
fold s x y k = (w s · commit · r Row.simple_operator_name · need (Cond.arity 2) · e · y · made x) k

-- ---- the parts of <expression> (5.1.6)
-- a word, and what it is of: an expression, a type, or a type and an expression
abbrev pub of_expression : String → Tag → Item
of_expression s x k = (w s · commit · e · made x) k

abbrev pub of_type : String → Tag → Item
of_type s x k = (w s · commit · t · made x) k

abbrev pub cast : String → Tag → Item
cast s x k = (w s · commit · t · e · made x) k

-- <expression> ::= cl <expression>+ E | cv <type> _ <expression>* E | cv <type> <expression>
-- | tl <type> <expression>* E | il <expression>* E
abbrev pub calls : Item
calls k =
    (w "cl" · commit · e · vec e · w "E" · made Tag.ExpressionCall
    // w "cv" · commit · t · (w "_" · commit · vec e · w "E" · made Tag.ExpressionConversionMany
    // e · made Tag.ExpressionConversionOne)
    // w "tl" · commit · t · vec e · w "E" · made Tag.ExpressionConversionBraced
    // w "il" · commit · vec e · w "E" · made Tag.ExpressionBracedInitList) k

-- <expression> ::= dc <type> <expression> | sc <type> <expression> | cc <type> <expression> | rc <type> <expression>
-- | ti <type> | te <expression> | st <type> | sz <expression> | at <type> | az <expression> | nx <expression>
abbrev pub casts : Item
casts k =
    (cast "dc" Tag.ExpressionDynamicCast // cast "sc" Tag.ExpressionStaticCast // cast "cc" Tag.ExpressionConstCast
    // cast "rc" Tag.ExpressionReinterpretCast
    // of_type "ti" Tag.ExpressionTypeidType // of_expression "te" Tag.ExpressionTypeidExpr
    // of_type "st" Tag.ExpressionSizeofType // of_expression "sz" Tag.ExpressionSizeofExpr
    // of_type "at" Tag.ExpressionAlignofType // of_expression "az" Tag.ExpressionAlignofExpr
    // of_expression "nx" Tag.ExpressionNoexcept) k

-- <expression> ::= so <subobject> | dt <expression> <member> | pt <expression> <member> | ds <expression> <expression>
-- | sZ <template-param> | sZ <function-param> | sP <template-arg>* E | sp <expression> | tw <expression> | tr
-- | <fold-expr>
-- `sZ` goes on to a function parameter where the level forbids the template parameter; that is refused at the same
-- level, so nothing need be said of it.
abbrev pub members : Item
members k =
    (w "so" · commit · r Row.subobject_expr · made Tag.ExpressionSubobject
    // w "dt" · commit · e · r Row.member_name · made Tag.ExpressionMember
    // w "pt" · commit · e · r Row.member_name · made Tag.ExpressionDerefMember
    // w "ds" · commit · e · e · made Tag.ExpressionPointerToMember
    // w "sZ" · commit · (r Row.template_param · made Tag.ExpressionSizeofTemplatePack
    // r Row.function_param · made Tag.ExpressionSizeofFunctionPack)
    // w "sP" · commit · vec (r Row.template_arg) · w "E" · made Tag.ExpressionSizeofCapturedTemplatePack
    // of_expression "sp" Tag.ExpressionPackExpansion // of_expression "tw" Tag.ExpressionThrow
    // w "tr" · commit · made Tag.ExpressionRethrow
    // need (Cond.ahead (codes "fl" ∷ codes "fr" ∷ codes "fR" ∷ [])) · commit · r Row.fold_expr
    · made Tag.ExpressionFold
    // need (Cond.ahead_no_digit (codes "fL")) · commit · r Row.fold_expr · made Tag.ExpressionFold) k

-- <expression> ::= [gs] nw <expression>* _ <type> E | [gs] nw <expression>* _ <type> <initializer>
-- | [gs] na .., in the same way | [gs] dl <expression> | [gs] da <expression>; behind `gs` where that stands
-- New and delete count no level of their own. No mark stands behind their words, since what fails in them is tried
-- again as an operator of the same word and its operands.
abbrev pub new_of : String → Tag → Item
new_of s x k = (w s · vec e · w "_" · t · (w "E" · commit · absent // present (r Row.initializer)) · made x) k

abbrev pub delete_of : String → Tag → Item
delete_of s x k = (w s · e · made x) k

abbrev pub global : Tag → Tag → Tag → Tag → Item
global a b c d k = (more 2 · (new_of "nw" a // new_of "na" b // delete_of "dl" c // delete_of "da" d)) k

-- <expression> ::= <unary operator-name> <expression> | <binary operator-name> <expression> <expression>
-- | <ternary operator-name> <expression> <expression> <expression>
-- An operator and as many operands as it takes, which count no level of their own.
abbrev pub operators : Item
operators k =
    (r Row.operator_name · (need (Cond.arity 1) · commit · e · made Tag.ExpressionUnary
    // need (Cond.arity 2) · commit · e · e · made Tag.ExpressionBinary
    // need (Cond.arity 3) · commit · e · e · e · made Tag.ExpressionTernary // fail)) k

-- <expression> ::= the forms of new and delete | <template-param> | <function-param> | <unresolved-name>
-- | <expr-primary> | an operator and its operands
abbrev pub names : Item
names k =
    (w "gs"
    · global Tag.ExpressionGlobalNew Tag.ExpressionGlobalNewArray
    Tag.ExpressionGlobalDelete Tag.ExpressionGlobalDeleteArray
    // global Tag.ExpressionNew Tag.ExpressionNewArray Tag.ExpressionDelete Tag.ExpressionDeleteArray
    // r Row.template_param · made Tag.ExpressionTemplateParam
    // r Row.function_param · made Tag.ExpressionFunctionParam
    // r Row.unresolved_name · made Tag.ExpressionUnresolvedName // r Row.expr_primary · made Tag.ExpressionPrimary
    // operators) k

-- ---- the parts of <special-name> (5.1.4), and compilers' additions
-- <special-name> ::= TV <type> | TT <type> | TI <type> | TS <type> | TF <type>
-- | Tc <call-offset> <call-offset> <encoding> | T <call-offset> <encoding> | TC <type> <number> _ <type>
abbrev pub tables : Item
tables k =
    (of_type "TV" Tag.SpecialNameVirtualTable // of_type "TT" Tag.SpecialNameVtt // of_type "TI" Tag.SpecialNameTypeinfo
    // of_type "TS" Tag.SpecialNameTypeinfoName // of_type "TF" Tag.SpecialNameTypeinfoFunction
    // w "Tc" · commit · r Row.call_offset · r Row.call_offset · r Row.encoding
    · made Tag.SpecialNameVirtualOverrideThunkCovariant
    // need (Cond.ahead (codes "Th" ∷ codes "Tv" ∷ [])) · commit · w "T" · r Row.call_offset · r Row.encoding
    · made Tag.SpecialNameVirtualOverrideThunk
    // w "TC" · commit · t · num10 · w "_" · t · made Tag.SpecialNameConstructionVtable) k

-- a word, and the name that it is of
abbrev pub of_name : String → Tag → Item
of_name s x k = (w s · commit · r Row.name · made x) k

-- <special-name> ::= TH <name> | TW <name> | GV <name> | GR <name> _ | GR <name> <seq-id> _
-- | Gr <number> _ <resource-name>* | GTn <encoding> | GT <any byte but n> <encoding>
abbrev pub guards : Item
guards k =
    (of_name "TH" Tag.SpecialNameTlsInit // of_name "TW" Tag.SpecialNameTlsWrapper // of_name "GV" Tag.SpecialNameGuard
    // w "GR" · commit · r Row.name · (w "_" · give Given.nought // apart Make.index (r Row.seq_id) · w "_")
    · made Tag.SpecialNameGuardTemporary
    // w "Gr" · commit · sized (w "_" · vec (r Row.resource_name)) · made Tag.SpecialNameJavaResource
    // w "GT" · commit · (w "n" · commit · r Row.encoding · made Tag.SpecialNameNonTransactionClone
    // eat (Eat.byte Class.any) · r Row.encoding · made Tag.SpecialNameTransactionClone)) k

-- ---- the rows
unfoldable pub rule : Row → Rule
-- <operator-name> ::= nw | na | .. | ss: a word of the table of operators (5.1.3)
rule Row.simple_operator_name = eat (Eat.table 0 operator_words) Rule.done
-- <builtin-type> ::= v | w | b | .. | Dn: a word of the table of builtin types (5.1.5.2)
rule Row.standard_builtin_type = eat (Eat.table 1 builtin_words) Rule.done
-- <substitution> ::= St | Sa | Sb | Ss | Si | So | Sd (5.1.10)
rule Row.well_known_component = eat (Eat.table 2 component_words) Rule.done
-- <ref-qualifier> ::= R | O (5.1.5.3)
rule Row.ref_qualifier = eat (Eat.table 3 ref_qualifier_words) Rule.done
-- H, before the prefix of a function with an explicit object parameter (5.1.2)
rule Row.explicit_object_parameter = eat (Eat.table 4 explicit_object_words) Rule.done
-- <number> ::= [n] <non-negative decimal integer> (5.1.2)
rule Row.number = eat (Eat.numeral 10 true) Rule.done
-- <seq-id> ::= <0-9A-Z>+ (5.1.10)
rule Row.seq_id = (eat (Eat.numeral 36 false) · made Tag.SeqId) Rule.done
-- <source-name> ::= <positive length number> <identifier> (5.1.2)
rule Row.source_name = (sized (r Row.identifier) · made Tag.SourceName) Rule.done
-- <identifier> ::= <unqualified source code identifier> (5.1.2); past ASCII as compilers write it, in UTF-8
rule Row.identifier = (eat Eat.identifier · made Tag.Identifier) Rule.done
-- the first part of a clone's suffix: ASCII letters, digits, `$` and `_`
rule Row.clone_type_identifier = (eat (Eat.run Class.clone) · made Tag.CloneTypeIdentifier) Rule.done
-- <abi-tag> ::= B <source-name> (5.1.2)
rule Row.abi_tag = (w "B" · r Row.source_name · made Tag.AbiTag) Rule.done
-- <abi-tags> ::= <abi-tag> [<abi-tags>], or none (5.1.2)
rule Row.abi_tags = (vec (r Row.abi_tag) · made Tag.AbiTags) Rule.done
-- . <clone-type-identifier> {. <number>}*: an addition of compilers, behind the encoding
rule Row.clone_suffix = (w "." · r Row.clone_type_identifier · vec (w "." · num10) · made Tag.CloneSuffix) Rule.done
-- <nv-offset> ::= <offset number> (5.1.4.2)
rule Row.nv_offset = (r Row.number · made Tag.NvOffset) Rule.done
-- <v-offset> ::= <offset number> _ <virtual offset number> (5.1.4.2)
rule Row.v_offset = (r Row.number · w "_" · r Row.number · made Tag.VOffset) Rule.done
-- <call-offset> ::= h <nv-offset> _ | v <v-offset> _ (5.1.4.2)
rule Row.call_offset =
    (more 1 · (w "h" · commit · r Row.nv_offset · w "_" · made Tag.CallOffsetNonVirtual
    // w "v" · commit · r Row.v_offset · w "_" · made Tag.CallOffsetVirtual // fail)) Rule.done
-- <discriminator> ::= _ <non-negative number, below 10> | __ <non-negative number, at least 10> _ (5.1.7)
rule Row.discriminator =
    (w "_" · (w "_" · commit · num10 · need Cond.ten_or_more · w "_" // eat Eat.digit)
    · made Tag.Discriminator) Rule.done
-- <template-param> ::= T_ | T <parameter-2 non-negative number> _ (5.1.5.8)
rule Row.template_param = (w "T" · index · w "_" · made Tag.TemplateParam) Rule.done
-- <function-param> ::= fp <CV-qualifiers> [<number>] _ | fL <number> p <CV-qualifiers> [<number>] _
-- | fp <CV-qualifiers> T | fL <number> p <CV-qualifiers> T (5.1.5.9)
-- The number behind fL is kept as it is written, one less than the scopes between; 0 is kept for fp.
rule Row.function_param =
    (w "f" · more 1 · (w "L" · commit · num10 // give Given.nought) · w "p" · r Row.cv_qualifiers
    · (w "T" · absent // present (index · w "_")) · made Tag.FunctionParam) Rule.done
-- <CV-qualifiers> ::= [r] [V] [K] (5.1.5.1)
rule Row.cv_qualifiers = (flagged "r" · flagged "V" · flagged "K" · made Tag.CvQualifiers) Rule.done
-- The same, where one at least is asked for: so that it is seen of the data that it takes a byte.
rule Row.some_cv_qualifiers =
    ((w "r" · give Given.set · flagged "V" · flagged "K" // give Given.unset · w "V" · give Given.set · flagged "K"
    // give Given.unset · give Given.unset · w "K" · give Given.set) · made Tag.CvQualifiers) Rule.done
-- <unnamed-type-name> ::= Ut [<non-negative number>] _ (5.1.7)
rule Row.unnamed_type_name = (w "Ut" · opt num10 · w "_" · made Tag.UnnamedTypeName) Rule.done
-- A part of a resource's name: the bytes up to the next `$`, and with it one of $S, $_, $$.
rule Row.resource_name =
    (more 1 · eat (Eat.run Class.resource)
    · (w "$" · commit · (w "S" // w "_" // w "$" // fail) · make (Make.longer 2) // not_next "$")
    · made Tag.ResourceName) Rule.done
-- <substitution> ::= S_ | S <seq-id> _, or a word (5.1.10)
rule Row.substitution =
    (r Row.well_known_component · made Tag.WellKnown
    // w "S" · (r Row.seq_id // nothing) · Rule.leaf Leaf.refer · w "_") Rule.done
-- <mangled-name> ::= _Z <encoding> [. <vendor-specific suffix>], with up to two underscores before it on some systems;
-- the name of a block's function; the name of a global constructor or destructor; a type alone (5.1.2)
rule Row.mangled_name =
    ((w "_Z" // w "__Z") · commit · r Row.encoding · vec (r Row.clone_suffix) · made Tag.MangledNameEncoding
    // (w "___Z" // w "____Z") · commit · r Row.encoding · w "_block_invoke"
    · ((w "_" // w ".") · commit · present num10 // opt num10)
    · made Tag.MangledNameBlockInvoke
    // w "_GLOBAL_" · commit · r Row.global_ctor_dtor · made Tag.MangledNameGlobalCtorDtor
    // t · made Tag.MangledNameTopLevelType) Rule.done
-- <encoding> ::= <function name> <bare-function-type> | <data name> | <special-name> (5.1.2)
rule Row.encoding =
    (r Row.name · commit · (r Row.bare_function_type · made Tag.EncodingFunction // made Tag.EncodingData)
    // r Row.special_name · made Tag.EncodingSpecial) Rule.done
-- behind _GLOBAL_: one of _ . $, then I or D, then _ and a mangled name
rule Row.global_ctor_dtor =
    (eat (Eat.byte (these "_.$")) · (w "I" · commit · w "_" · r Row.mangled_name · made Tag.GlobalCtorDtorCtor
    // w "D" · w "_" · r Row.mangled_name · made Tag.GlobalCtorDtorDtor)) Rule.done
-- <name> ::= <nested-name> | <unscoped-name> | <unscoped-template-name> <template-args> | <local-name> (5.1.2)
rule Row.name =
    (r Row.nested_name · made Tag.NameNested
    // r Row.unscoped_name · next "I" · template_component · commit · r Row.template_args
    · made Tag.NameUnscopedTemplate
    // r Row.unscoped_name · not_next "I" · made Tag.NameUnscoped
    // r Row.unscoped_template_name_handle · commit · r Row.template_args · made Tag.NameUnscopedTemplate
    // r Row.local_name · made Tag.NameLocal) Rule.done
-- <unscoped-name> ::= <unqualified-name> | St <unqualified-name> (5.1.2)
rule Row.unscoped_name =
    (w "St" · commit · r Row.unqualified_name · made Tag.UnscopedNameStd
    // r Row.unqualified_name · made Tag.UnscopedNameUnqualified) Rule.done
-- <unscoped-template-name> ::= <unscoped-name> | <substitution> (5.1.2)
rule Row.unscoped_template_name_handle =
    (r Row.unscoped_name · template_component
    // r Row.substitution) Rule.done
-- <nested-name> ::= N [<CV-qualifiers>] [<ref-qualifier>] <prefix> <unqualified-name> E | .. <template-prefix>
-- <template-args> E, or with H in the qualifiers' place. Its last name is read as part of the prefix, and taken over
-- from the prefix's entry (5.1.2).
rule Row.nested_name =
    (w "N" · (next "H" · r Row.explicit_object_parameter // r Row.cv_qualifiers · opt (r Row.ref_qualifier))
    · r Row.prefix_handle · w "E" · Rule.leaf Leaf.take_over) Rule.done
-- <prefix> (5.1.2): a first turn, and turns behind it until one takes no byte
rule Row.prefix_handle = (r Row.first_turn · (λ k. Rule.loop Row.prefix_turn k)) Rule.done
-- No prefix begins with template arguments: the first of these bytes is named so that it stands among those that a turn
-- looks at.
rule Row.first_turn =
    (next "S" · commit · r Row.substitution // next "T" · commit · prefix_param // next "D" · prefix_decltype
    // next "D" · commit · r Row.unqualified_name · prefix_component Tag.PrefixUnqualified
    // next "I" · fail // first_name // Rule.leaf Leaf.no_prefix) Rule.done
-- a later turn
rule Row.prefix_turn =
    (turn_substitution // turn_template_param // turn_decltype // turn_destructor // turn_template // turn_name
    // turn_end) Rule.done
-- <unqualified-name> ::= <operator-name> [<abi-tags>] | <ctor-dtor-name> | <source-name> | <unnamed-type-name>
-- | L <source-name> .. (5.1.2); `on` may stand before an operator
rule Row.unqualified_name =
    ((w "on" // nothing) · r Row.operator_name · commit · r Row.abi_tags · made Tag.UnqualifiedNameOperator
    // r Row.ctor_dtor_name · commit · r Row.abi_tags · made Tag.UnqualifiedNameCtorDtor
    // w "L" · commit · r Row.source_name · opt (r Row.discriminator) · r Row.abi_tags
    · made Tag.UnqualifiedNameLocalSourceName
    // r Row.source_name · commit · r Row.abi_tags · made Tag.UnqualifiedNameSource
    // r Row.closure_type_name · commit · r Row.abi_tags · made Tag.UnqualifiedNameClosureType
    // r Row.unnamed_type_name · r Row.abi_tags · made Tag.UnqualifiedNameUnnamedType) Rule.done
-- <operator-name> ::= a word | cv <type> | li <source-name> | v <digit> <source-name> (5.1.3)
rule Row.operator_name =
    (r Row.simple_operator_name · made Tag.OperatorNameSimple
    // w "cv" · commit · (λ k. Rule.call true Row.type_handle k) · made Tag.OperatorNameConversion
    // w "li" · commit · r Row.source_name · made Tag.OperatorNameLiteral
    // w "v" · eat Eat.digit · r Row.source_name · made Tag.OperatorNameVendorExtension) Rule.done
-- <ctor-dtor-name> ::= C1 | C2 | C3 | CI1 <base class type> | CI2 <base class type> | D0 | D1 | D2 (5.1.4.3); and
-- C4 | CI3 <base class type> | CI4 <base class type> | D4, which are compilers' additions
rule Row.ctor_dtor_name =
    (more 1 · (w "CI" · commit · constructors (present t) // w "C" · commit · constructors absent
    // w "D0" · made Tag.CtorDtorNameDeletingDestructor // w "D1" · made Tag.CtorDtorNameCompleteDestructor
    // w "D2" · made Tag.CtorDtorNameBaseDestructor // w "D4" · made Tag.CtorDtorNameMaybeInChargeDestructor
    // fail)) Rule.done
-- <local-name> ::= Z <encoding> E <entity name> [<discriminator>] | Z <encoding> E s [<discriminator>]
-- | Z <encoding> E d [<parameter number>] _ <entity name> (5.1.7)
rule Row.local_name =
    (w "Z" · r Row.encoding · w "E" · (w "s" · commit · absent · opt (r Row.discriminator) · made Tag.LocalNameRelative
    // w "d" · commit · opt (r Row.number) · w "_" · r Row.name · made Tag.LocalNameDefault
    // present (r Row.name) · opt (r Row.discriminator) · made Tag.LocalNameRelative)) Rule.done
-- <closure-type-name> ::= Ul <lambda-sig> E [<non-negative number>] _ (5.1.8)
rule Row.closure_type_name =
    (w "Ul" · r Row.lambda_sig · w "E" · opt num10 · w "_" · made Tag.ClosureTypeName) Rule.done
-- <lambda-sig> ::= <parameter type>+, with v for none (5.1.8)
rule Row.lambda_sig = ((w "v" · commit · give Given.empty // vec1 t) · made Tag.LambdaSig) Rule.done
-- <data-member-prefix> ::= <source-name> M (5.1.7)
rule Row.data_member_prefix = (r Row.source_name · w "M" · made Tag.DataMemberPrefix) Rule.done
-- <type> ::= <builtin-type>, and the alternatives of its parts (5.1.5)
rule Row.type_handle =
    (r Row.builtin_type · made Tag.TypeHandleBuiltin // type_extension // type_qualified // type_class
    // type_substitution // type_function // type_shapes // type_marks) Rule.done
-- <builtin-type> ::= a word | u <source-name> | one with a width (5.1.5.2)
rule Row.builtin_type =
    (r Row.standard_builtin_type · made Tag.BuiltinTypeStandard
    // w "u" · commit · r Row.source_name · made Tag.BuiltinTypeExtension
    // r Row.parametric_builtin_type · made Tag.BuiltinTypeParametric) Rule.done
-- DF <number> _ | DF <number> x | DB <number> _ | DB <instantiation-dependent expression> _ | DU .. (5.1.5.2)
rule Row.parametric_builtin_type =
    (w "D" · (w "F" · commit · more 1 · (need (Cond.next Class.digits) · commit · num10
    · (w "x" · made Tag.ParametricBuiltinTypeFloatNx // w "_" · made Tag.ParametricBuiltinTypeFloatN) // fail)
    // bits "B" Tag.ParametricBuiltinTypeSignedBitInt Tag.ParametricBuiltinTypeSignedBitIntExpression
    // bits "U" Tag.ParametricBuiltinTypeUnsignedBitInt Tag.ParametricBuiltinTypeUnsignedBitIntExpression
    // eat (Eat.byte (these "")))) Rule.done
-- <exception-spec> ::= Do | DO <expression> E (5.1.5.3)
rule Row.exception_spec =
    (w "Do" · made Tag.ExceptionSpecNoExcept // w "DO" · e · w "E" · made Tag.ExceptionSpecComputed) Rule.done
-- <function-type> ::= [<CV-qualifiers>] [<exception-spec>] [Dx] F [Y] <bare-function-type> [<ref-qualifier>] E
-- (5.1.5.3)
rule Row.function_type =
    (r Row.cv_qualifiers · opt (r Row.exception_spec) · flagged "Dx" · w "F" · flagged "Y" · r Row.bare_function_type
    · opt (r Row.ref_qualifier) · w "E" · made Tag.FunctionType) Rule.done
-- <bare-function-type> ::= <signature type>+ (5.1.5.3)
rule Row.bare_function_type = (vec1 t · made Tag.BareFunctionType) Rule.done
-- <decltype> ::= Dt <expression> E | DT <expression> E (5.1.5)
rule Row.decltype =
    (w "D" · (w "t" · commit · e · w "E" · made Tag.DecltypeIdExpression
    // w "T" · e · w "E" · made Tag.DecltypeExpression)) Rule.done
-- <class-enum-type> ::= <name> | Ts <name> | Tu <name> | Te <name> (5.1.5.4)
rule Row.class_enum_type =
    (r Row.name · made Tag.ClassEnumTypeNamed
    // w "T" · (w "s" · commit · r Row.name · made Tag.ClassEnumTypeElaboratedStruct
    // w "u" · commit · r Row.name · made Tag.ClassEnumTypeElaboratedUnion
    // w "e" · r Row.name · made Tag.ClassEnumTypeElaboratedEnum)) Rule.done
-- <array-type> ::= A <positive dimension number> _ <element type> | A <dimension expression> _ <element type>
-- | A _ <element type> (5.1.5.5)
rule Row.array_type =
    (w "A" · (num10 · commit · w "_" · t · made Tag.ArrayTypeDimensionNumber
    // e · commit · w "_" · t · made Tag.ArrayTypeDimensionExpression
    // w "_" · t · made Tag.ArrayTypeNoDimension)) Rule.done
-- <vector-type> ::= Dv <number> _ <type> | Dv <expression> _ <type> (5.1.5)
rule Row.vector_type =
    (w "Dv" · (num10 · commit · w "_" · t · made Tag.VectorTypeDimensionNumber
    // e · w "_" · t · made Tag.VectorTypeDimensionExpression)) Rule.done
-- <pointer-to-member-type> ::= M <class type> <member type> (5.1.5.6)
rule Row.pointer_to_member_type = (w "M" · t · t · made Tag.PointerToMemberType) Rule.done
-- <template-template-param> ::= <template-param> | <substitution> (5.1.5.8)
rule Row.template_template_param_handle =
    (r Row.substitution
    // r Row.template_param · made Tag.TemplateTemplateParam · made Tag.SubstitutableTemplateTemplateParam
    · plus Mark.numbered') Rule.done
-- <template-args> ::= I <template-arg>+ E; its place is the index of the I (5.1.2)
rule Row.template_args = (eat Eat.here · w "I" · vec1 (r Row.template_arg) · w "E" · made Tag.TemplateArgs) Rule.done
-- <template-arg> ::= <type> | X <expression> E | <expr-primary> | J <template-arg>* E, and I in the place of J (5.1.2)
rule Row.template_arg =
    (w "X" · commit · e · w "E" · made Tag.TemplateArgExpression
    // r Row.expr_primary · made Tag.TemplateArgSimpleExpression
    // t · made Tag.TemplateArgTypeArg
    // (w "J" // w "I") · (next "E" · give Given.empty // not_next "E" · vec (r Row.template_arg))
    · w "E" · made Tag.TemplateArgArgPack) Rule.done
-- <expression> ::= pp_ <expression> | mm_ <expression>, and the alternatives of its parts (5.1.6): those with a word of
-- their own first
rule Row.expression =
    (w "pp_" · commit · e · made Tag.ExpressionPrefixInc // w "mm_" · commit · e · made Tag.ExpressionPrefixDec
    // calls // casts // members // names) Rule.done
-- <unresolved-name> ::= [gs] <base-unresolved-name> | [gs] sr <unresolved-qualifier-level>+ E <base-unresolved-name>
-- | sr <unresolved-type> <base-unresolved-name>
-- | srN <unresolved-type> <unresolved-qualifier-level>+ E <base-unresolved-name> (5.1.6)
rule Row.unresolved_name =
    (w "gs" · commit · (r Row.base_unresolved_name · made Tag.UnresolvedNameGlobal
    // w "sr" · vec1 (r Row.unresolved_qualifier_level) · w "E" · r Row.base_unresolved_name
    · made Tag.UnresolvedNameGlobalNested2)
    // r Row.base_unresolved_name · made Tag.UnresolvedNameName
    // w "sr" · (w "N" · commit · r Row.unresolved_type_handle · vec1 (r Row.unresolved_qualifier_level) · w "E"
    · r Row.base_unresolved_name
    · made Tag.UnresolvedNameNested1
    // r Row.unresolved_type_handle · commit · give Given.empty · r Row.base_unresolved_name
    · made Tag.UnresolvedNameNested1
    // vec1 (r Row.unresolved_qualifier_level) · w "E" · r Row.base_unresolved_name
    · made Tag.UnresolvedNameNested2)) Rule.done
-- <unresolved-qualifier-level> ::= <simple-id> (5.1.6)
rule Row.unresolved_qualifier_level = (r Row.simple_id · made Tag.UnresolvedQualifierLevel) Rule.done
-- <unresolved-type> ::= <template-param> [<template-args>] | <decltype> | <substitution> (5.1.6)
rule Row.unresolved_type_handle =
    (r Row.template_param · commit · opt (r Row.template_args) · unresolved_component Tag.UnresolvedTypeTemplate
    // r Row.decltype · unresolved_component Tag.UnresolvedTypeDecltype
    // r Row.substitution) Rule.done
-- <simple-id> ::= <source-name> [<template-args>] (5.1.6)
rule Row.simple_id = (r Row.source_name · opt (r Row.template_args) · made Tag.SimpleId) Rule.done
-- <destructor-name> ::= <unresolved-type> | <simple-id> (5.1.6)
rule Row.destructor_name =
    (r Row.unresolved_type_handle · made Tag.DestructorNameUnresolved
    // r Row.simple_id · made Tag.DestructorNameName) Rule.done
-- <base-unresolved-name> ::= <simple-id> | on <operator-name> [<template-args>] | dn <destructor-name> (5.1.6)
rule Row.base_unresolved_name =
    (r Row.simple_id · made Tag.BaseUnresolvedNameName
    // w "on" · commit · r Row.operator_name · opt (r Row.template_args) · made Tag.BaseUnresolvedNameOperator
    // w "dn" · r Row.destructor_name · made Tag.BaseUnresolvedNameDestructor) Rule.done
-- <expr-primary> ::= L <type> <value> E | L <mangled-name> E (5.1.6)
rule Row.expr_primary =
    (w "L" · (t · commit · eat (Eat.upto 69) · w "E" · made Tag.ExprPrimaryLiteral
    // r Row.mangled_name · w "E" · made Tag.ExprPrimaryExternal)) Rule.done
-- <initializer> ::= pi <expression>* E (5.1.6)
rule Row.initializer = (w "pi" · vec e · w "E" · made Tag.Initializer) Rule.done
-- so <referent type> <expression> [<offset number>] E, behind its word (5.1.6)
rule Row.subobject_expr =
    (t · e · (eat (Eat.numeral 10 true) // give Given.nought) · w "E" · made Tag.SubobjectExpr) Rule.done
-- The name of a member: <unqualified-name> [<template-args>]. With arguments the name becomes a component of the second
-- list.
rule Row.member_name =
    (r Row.unqualified_name · (r Row.template_args · Rule.leaf Leaf.mark_first · made Tag.MemberName
    // made Tag.UnscopedNameUnqualified · made Tag.NameUnscoped · made Tag.MemberName)) Rule.done
-- fl <operator> <expression> | fr .. | fL <operator> <expression> <expression> | fR .. (5.1.6)
rule Row.fold_expr =
    (w "f" · (fold "l" Tag.FoldExprUnaryLeft nothing // fold "r" Tag.FoldExprUnaryRight nothing
    // fold "L" Tag.FoldExprBinaryLeft e // fold "R" Tag.FoldExprBinaryRight e // fail)) Rule.done
-- <special-name> ::= the alternatives of its parts (5.1.4)
rule Row.special_name = (more 2 · (tables // guards // fail)) Rule.done
