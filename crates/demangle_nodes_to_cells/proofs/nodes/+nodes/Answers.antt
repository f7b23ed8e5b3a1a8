use Rattle.std.proofs.lemmas.List.{take_more}
use Rattle.std.proofs.Common.{ap, rules, sym, ◌∙◌}
use Rattle.demangle_core.specs.Core.{Tag, end, mark, node, trees}
use Rattle.demangle_leaf_nodes.specs.TreeLeaves.{parts_of_clone_suffix, parts_of_resource_name, tag_of_clone_suffix}
use Rattle.demangle_leaf_nodes.specs.TreeLeaves.{tag_of_resource_name, tree_of_option}
use Rattle.demangle_leaves_to_cells.proofs.Puts.{none_waits, told, trees_more, waits_failed}
use Rattle.demangle_nodes.proofs.Parts.{base_unresolved_name_destructor, base_unresolved_name_name}
use Rattle.demangle_nodes.proofs.Parts.{base_unresolved_name_operator, destructor_name_name, destructor_name_unresolved}
use Rattle.demangle_nodes.proofs.Parts.{encoding_data, encoding_function, encoding_special, expr_primary_external}
use Rattle.demangle_nodes.proofs.Parts.{expr_primary_literal, expression_alignof_expr, expression_alignof_type}
use Rattle.demangle_nodes.proofs.Parts.{expression_binary, expression_braced_init_list, expression_call}
use Rattle.demangle_nodes.proofs.Parts.{expression_const_cast, expression_conversion_braced, expression_conversion_many}
use Rattle.demangle_nodes.proofs.Parts.{expression_conversion_one, expression_delete, expression_delete_array}
use Rattle.demangle_nodes.proofs.Parts.{expression_deref_member, expression_dynamic_cast, expression_fold}
use Rattle.demangle_nodes.proofs.Parts.{expression_function_param, expression_global_delete}
use Rattle.demangle_nodes.proofs.Parts.{expression_global_delete_array, expression_global_new}
use Rattle.demangle_nodes.proofs.Parts.{expression_global_new_array, expression_member, expression_new}
use Rattle.demangle_nodes.proofs.Parts.{expression_new_array, expression_noexcept, expression_pack_expansion}
use Rattle.demangle_nodes.proofs.Parts.{expression_pointer_to_member, expression_prefix_dec, expression_prefix_inc}
use Rattle.demangle_nodes.proofs.Parts.{expression_primary, expression_reinterpret_cast, expression_rethrow}
use Rattle.demangle_nodes.proofs.Parts.{expression_sizeof_captured_template_pack, expression_sizeof_expr}
use Rattle.demangle_nodes.proofs.Parts.{expression_sizeof_function_pack, expression_sizeof_template_pack}
use Rattle.demangle_nodes.proofs.Parts.{expression_sizeof_type, expression_static_cast, expression_subobject}
use Rattle.demangle_nodes.proofs.Parts.{expression_template_param, expression_ternary, expression_throw}
use Rattle.demangle_nodes.proofs.Parts.{expression_typeid_expr, expression_typeid_type, expression_unary}
use Rattle.demangle_nodes.proofs.Parts.{expression_unresolved_name, fold_expr_binary_left, fold_expr_binary_right}
use Rattle.demangle_nodes.proofs.Parts.{fold_expr_unary_left, fold_expr_unary_right, global_ctor_dtor_ctor}
use Rattle.demangle_nodes.proofs.Parts.{global_ctor_dtor_dtor, local_name_default, local_name_relative}
use Rattle.demangle_nodes.proofs.Parts.{mangled_name_block_invoke, mangled_name_encoding, mangled_name_global_ctor_dtor}
use Rattle.demangle_nodes.proofs.Parts.{mangled_name_top_level_type, name_local, name_nested, name_unscoped}
use Rattle.demangle_nodes.proofs.Parts.{name_unscoped_template, simple_id_read, special_name_construction_vtable}
use Rattle.demangle_nodes.proofs.Parts.{special_name_guard, special_name_guard_temporary, special_name_java_resource}
use Rattle.demangle_nodes.proofs.Parts.{special_name_non_transaction_clone, special_name_tls_init}
use Rattle.demangle_nodes.proofs.Parts.{special_name_tls_wrapper, special_name_transaction_clone, special_name_typeinfo}
use Rattle.demangle_nodes.proofs.Parts.{special_name_typeinfo_function, special_name_typeinfo_name}
use Rattle.demangle_nodes.proofs.Parts.{special_name_virtual_override_thunk}
use Rattle.demangle_nodes.proofs.Parts.{special_name_virtual_override_thunk_covariant, special_name_virtual_table}
use Rattle.demangle_nodes.proofs.Parts.{special_name_vtt, template_arg_arg_pack, template_arg_expression}
use Rattle.demangle_nodes.proofs.Parts.{template_arg_simple_expression, template_arg_type_arg, unresolved_name_global}
use Rattle.demangle_nodes.proofs.Parts.{unresolved_name_global_nested2, unresolved_name_name, unresolved_name_nested1}
use Rattle.demangle_nodes.proofs.Parts.{unresolved_name_nested2, unresolved_qualifier_level_read}
use Rattle.demangle_nodes.specs.TreeNodes.{boxed_name, parts_of_expression, parts_of_template_arg}
use Rattle.demangle_nodes.specs.TreeNodes.{parts_of_unresolved_qualifier_level, tag_of_expression, tag_of_template_arg}
use Rattle.demangle_nodes.specs.TreeNodes.{tag_of_unresolved_qualifier_level, tree_of_base_unresolved_name}
use Rattle.demangle_nodes.specs.TreeNodes.{tree_of_destructor_name, tree_of_encoding, tree_of_expr_primary}
use Rattle.demangle_nodes.specs.TreeNodes.{tree_of_expression, tree_of_fold_expr, tree_of_global_ctor_dtor}
use Rattle.demangle_nodes.specs.TreeNodes.{tree_of_initializer, tree_of_local_name, tree_of_mangled_name, tree_of_name}
use Rattle.demangle_nodes.specs.TreeNodes.{tree_of_special_name, tree_of_template_arg, tree_of_template_args}
use Rattle.demangle_nodes.specs.TreeNodes.{tree_of_unresolved_name}
use Rattle.demangle_nodes_to_cells.proofs.nodes.+nodes.Goals as goal

pub mangled_name_to-returns-in-Encoding : goal.mangled_name_to-returns-in-Encoding
mangled_name_to-returns-in-Encoding t c = told _ _ _ _ _ (sym (ap tree_of_mangled_name c.in-Encoding.is ∙ ap (λ p. node
    Tag.MangledNameEncoding p end) (mangled_name_encoding c.in-Encoding.first c.in-Encoding.second))) (c.two.ensures _ _
    _ _ c.encoding_to-first.ensures (told _ _ _ _ _ (ap (λ l. node Tag.Several (trees tag_of_clone_suffix
    parts_of_clone_suffix l) end) c.deref.ensures.value) c.clone_suffix_list_to-second.ensures))

pub mangled_name_to-returns-in-BlockInvoke : goal.mangled_name_to-returns-in-BlockInvoke
mangled_name_to-returns-in-BlockInvoke t c = told _ _ _ _ _ (sym (ap tree_of_mangled_name c.in-BlockInvoke.is ∙ ap (λ p.
    node Tag.MangledNameBlockInvoke p end) (mangled_name_block_invoke c.in-BlockInvoke.first c.in-BlockInvoke.second)))
    (c.two-in-BlockInvoke.ensures _ _ _ _ c.encoding_to-first-in-BlockInvoke.ensures
    c.optional_signed_to-second.ensures)

pub mangled_name_to-returns-in-TopLevelType : goal.mangled_name_to-returns-in-TopLevelType
mangled_name_to-returns-in-TopLevelType t c = told _ _ _ _ _ (sym (ap tree_of_mangled_name c.in-TopLevelType.is ∙ ap (λ
    p. node Tag.MangledNameTopLevelType p end) (mangled_name_top_level_type c.in-TopLevelType.first))) (c.one.ensures _
    _ c.type_handle_to-first.ensures)

pub mangled_name_to-returns-in-GlobalCtorDtor : goal.mangled_name_to-returns-in-GlobalCtorDtor
mangled_name_to-returns-in-GlobalCtorDtor t c = told _ _ _ _ _ (sym (ap tree_of_mangled_name c.in-GlobalCtorDtor.is ∙ ap
    (λ p. node Tag.MangledNameGlobalCtorDtor p end) (mangled_name_global_ctor_dtor c.in-GlobalCtorDtor.first)))
    (c.one-in-GlobalCtorDtor.ensures _ _ c.global_ctor_dtor_to-first.ensures)

pub encoding_to-returns-in-Function : goal.encoding_to-returns-in-Function
encoding_to-returns-in-Function t c = told _ _ _ _ _ (sym (ap tree_of_encoding c.in-Function.is ∙ ap (λ p. node
    Tag.EncodingFunction p end) (encoding_function c.in-Function.first c.in-Function.second))) (c.two.ensures _ _ _ _
    c.name_to-first.ensures c.bare_function_type_to-second.ensures)

pub encoding_to-returns-in-Data : goal.encoding_to-returns-in-Data
encoding_to-returns-in-Data t c = told _ _ _ _ _ (sym (ap tree_of_encoding c.in-Data.is ∙ ap (λ p. node Tag.EncodingData
    p end) (encoding_data c.in-Data.first))) (c.one.ensures _ _ c.name_to-first-in-Data.ensures)

pub encoding_to-returns-in-Special : goal.encoding_to-returns-in-Special
encoding_to-returns-in-Special t c = told _ _ _ _ _ (sym (ap tree_of_encoding c.in-Special.is ∙ ap (λ p. node
    Tag.EncodingSpecial p end) (encoding_special c.in-Special.first))) (c.one-in-Special.ensures _ _ (told _ _ _ _ _ (ap
    tree_of_special_name c.deref.ensures) c.special_name_to-first.ensures))

pub global_ctor_dtor_to-returns-in-Ctor : goal.global_ctor_dtor_to-returns-in-Ctor
global_ctor_dtor_to-returns-in-Ctor t c = told _ _ _ _ _ (sym (ap tree_of_global_ctor_dtor c.in-Ctor.is ∙ ap (λ p. node
    Tag.GlobalCtorDtorCtor p end) (global_ctor_dtor_ctor c.in-Ctor.first))) (c.one.ensures _ _ (told _ _ _ _ _ (ap
    tree_of_mangled_name c.deref.ensures) c.mangled_name_to-first.ensures))

pub global_ctor_dtor_to-returns-in-Dtor : goal.global_ctor_dtor_to-returns-in-Dtor
global_ctor_dtor_to-returns-in-Dtor t c = told _ _ _ _ _ (sym (ap tree_of_global_ctor_dtor c.in-Dtor.is ∙ ap (λ p. node
    Tag.GlobalCtorDtorDtor p end) (global_ctor_dtor_dtor c.in-Dtor.first))) (c.one-in-Dtor.ensures _ _ (told _ _ _ _ _
    (ap tree_of_mangled_name c.deref-in-Dtor.ensures) c.mangled_name_to-first-in-Dtor.ensures))

pub name_to-returns-in-Nested : goal.name_to-returns-in-Nested
name_to-returns-in-Nested t c = told _ _ _ _ _ (sym (ap tree_of_name c.in-Nested.is ∙ ap (λ p. node Tag.NameNested p
    end) (name_nested c.in-Nested.first))) (c.one.ensures _ _ c.nested_name_to-first.ensures)

pub name_to-returns-in-Unscoped : goal.name_to-returns-in-Unscoped
name_to-returns-in-Unscoped t c = told _ _ _ _ _ (sym (ap tree_of_name c.in-Unscoped.is ∙ ap (λ p. node Tag.NameUnscoped
    p end) (name_unscoped c.in-Unscoped.first))) (c.one-in-Unscoped.ensures _ _ c.unscoped_name_to-first.ensures)

pub name_to-returns-in-UnscopedTemplate : goal.name_to-returns-in-UnscopedTemplate
name_to-returns-in-UnscopedTemplate t c = told _ _ _ _ _ (sym (ap tree_of_name c.in-UnscopedTemplate.is ∙ ap (λ p. node
    Tag.NameUnscopedTemplate p end) (name_unscoped_template c.in-UnscopedTemplate.first c.in-UnscopedTemplate.second)))
    (c.two.ensures _ _ _ _ c.unscoped_template_name_handle_to-first.ensures c.template_args_to-second.ensures)

pub name_to-returns-in-Local : goal.name_to-returns-in-Local
name_to-returns-in-Local t c = told _ _ _ _ _ (sym (ap tree_of_name c.in-Local.is ∙ ap (λ p. node Tag.NameLocal p end)
    (name_local c.in-Local.first))) (c.one-in-Local.ensures _ _ c.local_name_to-first.ensures)

pub template_args_to-returns : goal.template_args_to-returns
template_args_to-returns t c = told _ _ _ _ _ (ap (λ l. node Tag.TemplateArgs (mark c.args.node.now.1 (node Tag.Several
    (trees tag_of_template_arg parts_of_template_arg l) end)) end) c.deref.ensures.value) c.template_arg_list_to.ensures

pub template_arg_to-returns-in-TypeArg : goal.template_arg_to-returns-in-TypeArg
template_arg_to-returns-in-TypeArg t c = told _ _ _ _ _ (sym (ap tree_of_template_arg c.in-TypeArg.is ∙ ap (λ p. node
    Tag.TemplateArgTypeArg p end) (template_arg_type_arg c.in-TypeArg.first))) (c.one.ensures _ _
    c.type_handle_to-first.ensures)

pub template_arg_to-returns-in-Expression : goal.template_arg_to-returns-in-Expression
template_arg_to-returns-in-Expression t c = told _ _ _ _ _ (sym (ap tree_of_template_arg c.in-Expression.is ∙ ap (λ p.
    node Tag.TemplateArgExpression p end) (template_arg_expression c.in-Expression.first))) (c.one-in-Expression.ensures
    _ _ c.expression_to-first.ensures)

pub template_arg_to-returns-in-SimpleExpression : goal.template_arg_to-returns-in-SimpleExpression
template_arg_to-returns-in-SimpleExpression t c = told _ _ _ _ _ (sym (ap tree_of_template_arg c.in-SimpleExpression.is
    ∙ ap (λ p. node Tag.TemplateArgSimpleExpression p end) (template_arg_simple_expression
    c.in-SimpleExpression.first))) (c.one-in-SimpleExpression.ensures _ _ c.expr_primary_to-first.ensures)

pub template_arg_to-returns-in-ArgPack : goal.template_arg_to-returns-in-ArgPack
template_arg_to-returns-in-ArgPack t c = told _ _ _ _ _ (sym (ap tree_of_template_arg c.in-ArgPack.is ∙ ap (λ p. node
    Tag.TemplateArgArgPack p end) (template_arg_arg_pack c.in-ArgPack.first))) (c.one-in-ArgPack.ensures _ _ (told _ _ _
    _ _ (ap (λ l. node Tag.Several (trees tag_of_template_arg parts_of_template_arg l) end) c.deref.ensures.value)
    c.template_arg_list_to-first.ensures))

pub member_name_to-returns : goal.member_name_to-returns
member_name_to-returns t c = c.one.ensures _ _ (told _ _ _ _ _ (ap tree_of_name c.deref.ensures)
    c.name_to-first.ensures)

pub initializer_to-returns : goal.initializer_to-returns
initializer_to-returns t c = c.one.ensures _ _ (told _ _ _ _ _ (ap (λ l. node Tag.Several (trees tag_of_expression
    parts_of_expression l) end) c.deref.ensures.value) c.expression_list_to-first.ensures)

pub expression_to-returns-in-Unary : goal.expression_to-returns-in-Unary
expression_to-returns-in-Unary t c = told _ _ _ _ _ (sym (ap tree_of_expression c.in-Unary.is ∙ ap (λ p. node
    Tag.ExpressionUnary p end) (expression_unary c.in-Unary.first c.in-Unary.second))) (c.two.ensures _ _ _ _
    c.operator_name_to-first.ensures (told _ _ _ _ _ (ap tree_of_expression c.deref.ensures)
    c.expression_to-second.ensures))

pub expression_to-returns-in-Binary : goal.expression_to-returns-in-Binary
expression_to-returns-in-Binary t c = told _ _ _ _ _ (sym (ap tree_of_expression c.in-Binary.is ∙ ap (λ p. node
    Tag.ExpressionBinary p end) (expression_binary c.in-Binary.first c.in-Binary.second c.in-Binary.third)))
    (c.three.ensures _ _ _ _ _ _ c.operator_name_to-first-in-Binary.ensures (told _ _ _ _ _ (ap tree_of_expression
    c.deref-in-Binary.ensures) c.expression_to-second-in-Binary.ensures) (told _ _ _ _ _ (ap tree_of_expression
    c.deref-in-Binary-2.ensures) c.expression_to-third.ensures))

pub expression_to-returns-in-Ternary : goal.expression_to-returns-in-Ternary
expression_to-returns-in-Ternary t c = told _ _ _ _ _ (sym (ap tree_of_expression c.in-Ternary.is ∙ ap (λ p. node
    Tag.ExpressionTernary p end) (expression_ternary c.in-Ternary.first c.in-Ternary.second c.in-Ternary.third
    c.in-Ternary.fourth))) (c.gather.ensures _ _ c.waiting-from.ensures (c.wait-until_fourth.ensures _ _ _ _
    (c.wait-until_third.ensures _ _ _ _ (c.wait-until_second.ensures _ _ _ _ (c.wait-until_first.ensures _ _ _ _
    (none_waits _) c.operator_name_to-first-in-Ternary.ensures) (told _ _ _ _ _ (ap tree_of_expression
    c.deref-in-Ternary.ensures) c.expression_to-second-in-Ternary.ensures)) (told _ _ _ _ _ (ap tree_of_expression
    c.deref-in-Ternary-2.ensures) c.expression_to-third-in-Ternary.ensures)) (told _ _ _ _ _ (ap tree_of_expression
    c.deref-in-Ternary-3.ensures) c.expression_to-fourth.ensures)))

pub expression_to-returns-in-PrefixInc : goal.expression_to-returns-in-PrefixInc
expression_to-returns-in-PrefixInc t c = told _ _ _ _ _ (sym (ap tree_of_expression c.in-PrefixInc.is ∙ ap (λ p. node
    Tag.ExpressionPrefixInc p end) (expression_prefix_inc c.in-PrefixInc.first))) (c.one.ensures _ _ (told _ _ _ _ _ (ap
    tree_of_expression c.deref-in-PrefixInc.ensures) c.expression_to-first.ensures))

pub expression_to-returns-in-PrefixDec : goal.expression_to-returns-in-PrefixDec
expression_to-returns-in-PrefixDec t c = told _ _ _ _ _ (sym (ap tree_of_expression c.in-PrefixDec.is ∙ ap (λ p. node
    Tag.ExpressionPrefixDec p end) (expression_prefix_dec c.in-PrefixDec.first))) (c.one-in-PrefixDec.ensures _ _ (told
    _ _ _ _ _ (ap tree_of_expression c.deref-in-PrefixDec.ensures) c.expression_to-first-in-PrefixDec.ensures))

pub expression_to-returns-in-Call : goal.expression_to-returns-in-Call
expression_to-returns-in-Call t c = told _ _ _ _ _ (sym (ap tree_of_expression c.in-Call.is ∙ ap (λ p. node
    Tag.ExpressionCall p end) (expression_call c.in-Call.first c.in-Call.second))) (c.two-in-Call.ensures _ _ _ _ (told
    _ _ _ _ _ (ap tree_of_expression c.deref-in-Call.ensures) c.expression_to-first-in-Call.ensures) (told _ _ _ _ _ (ap
    (λ l. node Tag.Several (trees tag_of_expression parts_of_expression l) end) c.deref-in-Call-2.ensures.value)
    c.expression_list_to-second.ensures))

pub expression_to-returns-in-ConversionOne : goal.expression_to-returns-in-ConversionOne
expression_to-returns-in-ConversionOne t c = told _ _ _ _ _ (sym (ap tree_of_expression c.in-ConversionOne.is ∙ ap (λ p.
    node Tag.ExpressionConversionOne p end) (expression_conversion_one c.in-ConversionOne.first
    c.in-ConversionOne.second))) (c.two-in-ConversionOne.ensures _ _ _ _ c.type_handle_to-first.ensures (told _ _ _ _ _
    (ap tree_of_expression c.deref-in-ConversionOne.ensures) c.expression_to-second-in-ConversionOne.ensures))

pub expression_to-returns-in-ConversionMany : goal.expression_to-returns-in-ConversionMany
expression_to-returns-in-ConversionMany t c = told _ _ _ _ _ (sym (ap tree_of_expression c.in-ConversionMany.is ∙ ap (λ
    p. node Tag.ExpressionConversionMany p end) (expression_conversion_many c.in-ConversionMany.first
    c.in-ConversionMany.second))) (c.two-in-ConversionMany.ensures _ _ _ _
    c.type_handle_to-first-in-ConversionMany.ensures (told _ _ _ _ _ (ap (λ l. node Tag.Several (trees tag_of_expression
    parts_of_expression l) end) c.deref-in-ConversionMany.ensures.value)
    c.expression_list_to-second-in-ConversionMany.ensures))

pub expression_to-returns-in-ConversionBraced : goal.expression_to-returns-in-ConversionBraced
expression_to-returns-in-ConversionBraced t c = told _ _ _ _ _ (sym (ap tree_of_expression c.in-ConversionBraced.is ∙ ap
    (λ p. node Tag.ExpressionConversionBraced p end) (expression_conversion_braced c.in-ConversionBraced.first
    c.in-ConversionBraced.second))) (c.two-in-ConversionBraced.ensures _ _ _ _
    c.type_handle_to-first-in-ConversionBraced.ensures (told _ _ _ _ _ (ap (λ l. node Tag.Several (trees
    tag_of_expression parts_of_expression l) end) c.deref-in-ConversionBraced.ensures.value)
    c.expression_list_to-second-in-ConversionBraced.ensures))

pub expression_to-returns-in-BracedInitList : goal.expression_to-returns-in-BracedInitList
expression_to-returns-in-BracedInitList t c = told _ _ _ _ _ (sym (ap tree_of_expression c.in-BracedInitList.is ∙ ap (λ
    p. node Tag.ExpressionBracedInitList p end) (expression_braced_init_list c.in-BracedInitList.first)))
    (c.one-in-BracedInitList.ensures _ _ (told _ _ _ _ _ (ap (λ l. node Tag.Several (trees tag_of_expression
    parts_of_expression l) end) c.deref-in-BracedInitList.ensures.value) c.expression_list_to-first.ensures))

pub expression_to-returns-in-New : goal.expression_to-returns-in-New
expression_to-returns-in-New t c = told _ _ _ _ _ (sym (ap tree_of_expression c.in-New.is ∙ ap (λ p. node
    Tag.ExpressionNew p end) (expression_new c.in-New.first c.in-New.second c.in-New.third))) (c.three-in-New.ensures _
    _ _ _ _ _ (told _ _ _ _ _ (ap (λ l. node Tag.Several (trees tag_of_expression parts_of_expression l) end)
    c.deref-in-New.ensures.value) c.expression_list_to-first-in-New.ensures) c.type_handle_to-second.ensures
    c.optional_initializer_to-third.ensures)

pub expression_to-returns-in-GlobalNew : goal.expression_to-returns-in-GlobalNew
expression_to-returns-in-GlobalNew t c = told _ _ _ _ _ (sym (ap tree_of_expression c.in-GlobalNew.is ∙ ap (λ p. node
    Tag.ExpressionGlobalNew p end) (expression_global_new c.in-GlobalNew.first c.in-GlobalNew.second
    c.in-GlobalNew.third))) (c.three-in-GlobalNew.ensures _ _ _ _ _ _ (told _ _ _ _ _ (ap (λ l. node Tag.Several (trees
    tag_of_expression parts_of_expression l) end) c.deref-in-GlobalNew.ensures.value)
    c.expression_list_to-first-in-GlobalNew.ensures) c.type_handle_to-second-in-GlobalNew.ensures
    c.optional_initializer_to-third-in-GlobalNew.ensures)

pub expression_to-returns-in-NewArray : goal.expression_to-returns-in-NewArray
expression_to-returns-in-NewArray t c = told _ _ _ _ _ (sym (ap tree_of_expression c.in-NewArray.is ∙ ap (λ p. node
    Tag.ExpressionNewArray p end) (expression_new_array c.in-NewArray.first c.in-NewArray.second c.in-NewArray.third)))
    (c.three-in-NewArray.ensures _ _ _ _ _ _ (told _ _ _ _ _ (ap (λ l. node Tag.Several (trees tag_of_expression
    parts_of_expression l) end) c.deref-in-NewArray.ensures.value) c.expression_list_to-first-in-NewArray.ensures)
    c.type_handle_to-second-in-NewArray.ensures c.optional_initializer_to-third-in-NewArray.ensures)

pub expression_to-returns-in-GlobalNewArray : goal.expression_to-returns-in-GlobalNewArray
expression_to-returns-in-GlobalNewArray t c = told _ _ _ _ _ (sym (ap tree_of_expression c.in-GlobalNewArray.is ∙ ap (λ
    p. node Tag.ExpressionGlobalNewArray p end) (expression_global_new_array c.in-GlobalNewArray.first
    c.in-GlobalNewArray.second c.in-GlobalNewArray.third))) (c.three-in-GlobalNewArray.ensures _ _ _ _ _ _ (told _ _ _ _
    _ (ap (λ l. node Tag.Several (trees tag_of_expression parts_of_expression l) end)
    c.deref-in-GlobalNewArray.ensures.value) c.expression_list_to-first-in-GlobalNewArray.ensures)
    c.type_handle_to-second-in-GlobalNewArray.ensures c.optional_initializer_to-third-in-GlobalNewArray.ensures)

pub expression_to-returns-in-Delete : goal.expression_to-returns-in-Delete
expression_to-returns-in-Delete t c = told _ _ _ _ _ (sym (ap tree_of_expression c.in-Delete.is ∙ ap (λ p. node
    Tag.ExpressionDelete p end) (expression_delete c.in-Delete.first))) (c.one-in-Delete.ensures _ _ (told _ _ _ _ _ (ap
    tree_of_expression c.deref-in-Delete.ensures) c.expression_to-first-in-Delete.ensures))

pub expression_to-returns-in-GlobalDelete : goal.expression_to-returns-in-GlobalDelete
expression_to-returns-in-GlobalDelete t c = told _ _ _ _ _ (sym (ap tree_of_expression c.in-GlobalDelete.is ∙ ap (λ p.
    node Tag.ExpressionGlobalDelete p end) (expression_global_delete c.in-GlobalDelete.first)))
    (c.one-in-GlobalDelete.ensures _ _ (told _ _ _ _ _ (ap tree_of_expression c.deref-in-GlobalDelete.ensures)
    c.expression_to-first-in-GlobalDelete.ensures))

pub expression_to-returns-in-DeleteArray : goal.expression_to-returns-in-DeleteArray
expression_to-returns-in-DeleteArray t c = told _ _ _ _ _ (sym (ap tree_of_expression c.in-DeleteArray.is ∙ ap (λ p.
    node Tag.ExpressionDeleteArray p end) (expression_delete_array c.in-DeleteArray.first)))
    (c.one-in-DeleteArray.ensures _ _ (told _ _ _ _ _ (ap tree_of_expression c.deref-in-DeleteArray.ensures)
    c.expression_to-first-in-DeleteArray.ensures))

pub expression_to-returns-in-GlobalDeleteArray : goal.expression_to-returns-in-GlobalDeleteArray
expression_to-returns-in-GlobalDeleteArray t c = told _ _ _ _ _ (sym (ap tree_of_expression c.in-GlobalDeleteArray.is ∙
    ap (λ p. node Tag.ExpressionGlobalDeleteArray p end) (expression_global_delete_array c.in-GlobalDeleteArray.first)))
    (c.one-in-GlobalDeleteArray.ensures _ _ (told _ _ _ _ _ (ap tree_of_expression c.deref-in-GlobalDeleteArray.ensures)
    c.expression_to-first-in-GlobalDeleteArray.ensures))

pub expression_to-returns-in-DynamicCast : goal.expression_to-returns-in-DynamicCast
expression_to-returns-in-DynamicCast t c = told _ _ _ _ _ (sym (ap tree_of_expression c.in-DynamicCast.is ∙ ap (λ p.
    node Tag.ExpressionDynamicCast p end) (expression_dynamic_cast c.in-DynamicCast.first c.in-DynamicCast.second)))
    (c.two-in-DynamicCast.ensures _ _ _ _ c.type_handle_to-first-in-DynamicCast.ensures (told _ _ _ _ _ (ap
    tree_of_expression c.deref-in-DynamicCast.ensures) c.expression_to-second-in-DynamicCast.ensures))

pub expression_to-returns-in-StaticCast : goal.expression_to-returns-in-StaticCast
expression_to-returns-in-StaticCast t c = told _ _ _ _ _ (sym (ap tree_of_expression c.in-StaticCast.is ∙ ap (λ p. node
    Tag.ExpressionStaticCast p end) (expression_static_cast c.in-StaticCast.first c.in-StaticCast.second)))
    (c.two-in-StaticCast.ensures _ _ _ _ c.type_handle_to-first-in-StaticCast.ensures (told _ _ _ _ _ (ap
    tree_of_expression c.deref-in-StaticCast.ensures) c.expression_to-second-in-StaticCast.ensures))

pub expression_to-returns-in-ConstCast : goal.expression_to-returns-in-ConstCast
expression_to-returns-in-ConstCast t c = told _ _ _ _ _ (sym (ap tree_of_expression c.in-ConstCast.is ∙ ap (λ p. node
    Tag.ExpressionConstCast p end) (expression_const_cast c.in-ConstCast.first c.in-ConstCast.second)))
    (c.two-in-ConstCast.ensures _ _ _ _ c.type_handle_to-first-in-ConstCast.ensures (told _ _ _ _ _ (ap
    tree_of_expression c.deref-in-ConstCast.ensures) c.expression_to-second-in-ConstCast.ensures))

pub expression_to-returns-in-ReinterpretCast : goal.expression_to-returns-in-ReinterpretCast
expression_to-returns-in-ReinterpretCast t c = told _ _ _ _ _ (sym (ap tree_of_expression c.in-ReinterpretCast.is ∙ ap
    (λ p. node Tag.ExpressionReinterpretCast p end) (expression_reinterpret_cast c.in-ReinterpretCast.first
    c.in-ReinterpretCast.second))) (c.two-in-ReinterpretCast.ensures _ _ _ _
    c.type_handle_to-first-in-ReinterpretCast.ensures (told _ _ _ _ _ (ap tree_of_expression
    c.deref-in-ReinterpretCast.ensures) c.expression_to-second-in-ReinterpretCast.ensures))

pub expression_to-returns-in-TypeidType : goal.expression_to-returns-in-TypeidType
expression_to-returns-in-TypeidType t c = told _ _ _ _ _ (sym (ap tree_of_expression c.in-TypeidType.is ∙ ap (λ p. node
    Tag.ExpressionTypeidType p end) (expression_typeid_type c.in-TypeidType.first))) (c.one-in-TypeidType.ensures _ _
    c.type_handle_to-first-in-TypeidType.ensures)

pub expression_to-returns-in-TypeidExpr : goal.expression_to-returns-in-TypeidExpr
expression_to-returns-in-TypeidExpr t c = told _ _ _ _ _ (sym (ap tree_of_expression c.in-TypeidExpr.is ∙ ap (λ p. node
    Tag.ExpressionTypeidExpr p end) (expression_typeid_expr c.in-TypeidExpr.first))) (c.one-in-TypeidExpr.ensures _ _
    (told _ _ _ _ _ (ap tree_of_expression c.deref-in-TypeidExpr.ensures) c.expression_to-first-in-TypeidExpr.ensures))

pub expression_to-returns-in-SizeofType : goal.expression_to-returns-in-SizeofType
expression_to-returns-in-SizeofType t c = told _ _ _ _ _ (sym (ap tree_of_expression c.in-SizeofType.is ∙ ap (λ p. node
    Tag.ExpressionSizeofType p end) (expression_sizeof_type c.in-SizeofType.first))) (c.one-in-SizeofType.ensures _ _
    c.type_handle_to-first-in-SizeofType.ensures)

pub expression_to-returns-in-SizeofExpr : goal.expression_to-returns-in-SizeofExpr
expression_to-returns-in-SizeofExpr t c = told _ _ _ _ _ (sym (ap tree_of_expression c.in-SizeofExpr.is ∙ ap (λ p. node
    Tag.ExpressionSizeofExpr p end) (expression_sizeof_expr c.in-SizeofExpr.first))) (c.one-in-SizeofExpr.ensures _ _
    (told _ _ _ _ _ (ap tree_of_expression c.deref-in-SizeofExpr.ensures) c.expression_to-first-in-SizeofExpr.ensures))

pub expression_to-returns-in-AlignofType : goal.expression_to-returns-in-AlignofType
expression_to-returns-in-AlignofType t c = told _ _ _ _ _ (sym (ap tree_of_expression c.in-AlignofType.is ∙ ap (λ p.
    node Tag.ExpressionAlignofType p end) (expression_alignof_type c.in-AlignofType.first)))
    (c.one-in-AlignofType.ensures _ _ c.type_handle_to-first-in-AlignofType.ensures)

pub expression_to-returns-in-AlignofExpr : goal.expression_to-returns-in-AlignofExpr
expression_to-returns-in-AlignofExpr t c = told _ _ _ _ _ (sym (ap tree_of_expression c.in-AlignofExpr.is ∙ ap (λ p.
    node Tag.ExpressionAlignofExpr p end) (expression_alignof_expr c.in-AlignofExpr.first)))
    (c.one-in-AlignofExpr.ensures _ _ (told _ _ _ _ _ (ap tree_of_expression c.deref-in-AlignofExpr.ensures)
    c.expression_to-first-in-AlignofExpr.ensures))

pub expression_to-returns-in-Noexcept : goal.expression_to-returns-in-Noexcept
expression_to-returns-in-Noexcept t c = told _ _ _ _ _ (sym (ap tree_of_expression c.in-Noexcept.is ∙ ap (λ p. node
    Tag.ExpressionNoexcept p end) (expression_noexcept c.in-Noexcept.first))) (c.one-in-Noexcept.ensures _ _ (told _ _ _
    _ _ (ap tree_of_expression c.deref-in-Noexcept.ensures) c.expression_to-first-in-Noexcept.ensures))

pub expression_to-returns-in-Subobject : goal.expression_to-returns-in-Subobject
expression_to-returns-in-Subobject t c = told _ _ _ _ _ (sym (ap tree_of_expression c.in-Subobject.is ∙ ap (λ p. node
    Tag.ExpressionSubobject p end) (expression_subobject c.in-Subobject.first))) (c.one-in-Subobject.ensures _ _
    c.subobject_expr_to-first.ensures)

pub expression_to-returns-in-TemplateParam : goal.expression_to-returns-in-TemplateParam
expression_to-returns-in-TemplateParam t c = told _ _ _ _ _ (sym (ap tree_of_expression c.in-TemplateParam.is ∙ ap (λ p.
    node Tag.ExpressionTemplateParam p end) (expression_template_param c.in-TemplateParam.first)))
    (c.one-in-TemplateParam.ensures _ _ c.template_param_to-first.ensures)

pub expression_to-returns-in-FunctionParam : goal.expression_to-returns-in-FunctionParam
expression_to-returns-in-FunctionParam t c = told _ _ _ _ _ (sym (ap tree_of_expression c.in-FunctionParam.is ∙ ap (λ p.
    node Tag.ExpressionFunctionParam p end) (expression_function_param c.in-FunctionParam.first)))
    (c.one-in-FunctionParam.ensures _ _ c.function_param_to-first.ensures)

pub expression_to-returns-in-Member : goal.expression_to-returns-in-Member
expression_to-returns-in-Member t c = told _ _ _ _ _ (sym (ap tree_of_expression c.in-Member.is ∙ ap (λ p. node
    Tag.ExpressionMember p end) (expression_member c.in-Member.first c.in-Member.second))) (c.two-in-Member.ensures _ _
    _ _ (told _ _ _ _ _ (ap tree_of_expression c.deref-in-Member.ensures) c.expression_to-first-in-Member.ensures)
    c.member_name_to-second.ensures)

pub expression_to-returns-in-DerefMember : goal.expression_to-returns-in-DerefMember
expression_to-returns-in-DerefMember t c = told _ _ _ _ _ (sym (ap tree_of_expression c.in-DerefMember.is ∙ ap (λ p.
    node Tag.ExpressionDerefMember p end) (expression_deref_member c.in-DerefMember.first c.in-DerefMember.second)))
    (c.two-in-DerefMember.ensures _ _ _ _ (told _ _ _ _ _ (ap tree_of_expression c.deref-in-DerefMember.ensures)
    c.expression_to-first-in-DerefMember.ensures) c.member_name_to-second-in-DerefMember.ensures)

pub expression_to-returns-in-PointerToMember : goal.expression_to-returns-in-PointerToMember
expression_to-returns-in-PointerToMember t c = told _ _ _ _ _ (sym (ap tree_of_expression c.in-PointerToMember.is ∙ ap
    (λ p. node Tag.ExpressionPointerToMember p end) (expression_pointer_to_member c.in-PointerToMember.first
    c.in-PointerToMember.second))) (c.two-in-PointerToMember.ensures _ _ _ _ (told _ _ _ _ _ (ap tree_of_expression
    c.deref-in-PointerToMember.ensures) c.expression_to-first-in-PointerToMember.ensures) (told _ _ _ _ _ (ap
    tree_of_expression c.deref-in-PointerToMember-2.ensures) c.expression_to-second-in-PointerToMember.ensures))

pub expression_to-returns-in-SizeofTemplatePack : goal.expression_to-returns-in-SizeofTemplatePack
expression_to-returns-in-SizeofTemplatePack t c = told _ _ _ _ _ (sym (ap tree_of_expression c.in-SizeofTemplatePack.is
    ∙ ap (λ p. node Tag.ExpressionSizeofTemplatePack p end) (expression_sizeof_template_pack
    c.in-SizeofTemplatePack.first))) (c.one-in-SizeofTemplatePack.ensures _ _
    c.template_param_to-first-in-SizeofTemplatePack.ensures)

pub expression_to-returns-in-SizeofFunctionPack : goal.expression_to-returns-in-SizeofFunctionPack
expression_to-returns-in-SizeofFunctionPack t c = told _ _ _ _ _ (sym (ap tree_of_expression c.in-SizeofFunctionPack.is
    ∙ ap (λ p. node Tag.ExpressionSizeofFunctionPack p end) (expression_sizeof_function_pack
    c.in-SizeofFunctionPack.first))) (c.one-in-SizeofFunctionPack.ensures _ _
    c.function_param_to-first-in-SizeofFunctionPack.ensures)

pub expression_to-returns-in-SizeofCapturedTemplatePack : goal.expression_to-returns-in-SizeofCapturedTemplatePack
expression_to-returns-in-SizeofCapturedTemplatePack t c = told _ _ _ _ _ (sym (ap tree_of_expression
    c.in-SizeofCapturedTemplatePack.is ∙ ap (λ p. node Tag.ExpressionSizeofCapturedTemplatePack p end)
    (expression_sizeof_captured_template_pack c.in-SizeofCapturedTemplatePack.first)))
    (c.one-in-SizeofCapturedTemplatePack.ensures _ _ (told _ _ _ _ _ (ap (λ l. node Tag.Several (trees
    tag_of_template_arg parts_of_template_arg l) end) c.deref-in-SizeofCapturedTemplatePack.ensures.value)
    c.template_arg_list_to-first.ensures))

pub expression_to-returns-in-PackExpansion : goal.expression_to-returns-in-PackExpansion
expression_to-returns-in-PackExpansion t c = told _ _ _ _ _ (sym (ap tree_of_expression c.in-PackExpansion.is ∙ ap (λ p.
    node Tag.ExpressionPackExpansion p end) (expression_pack_expansion c.in-PackExpansion.first)))
    (c.one-in-PackExpansion.ensures _ _ (told _ _ _ _ _ (ap tree_of_expression c.deref-in-PackExpansion.ensures)
    c.expression_to-first-in-PackExpansion.ensures))

pub expression_to-returns-in-Fold : goal.expression_to-returns-in-Fold
expression_to-returns-in-Fold t c = told _ _ _ _ _ (sym (ap tree_of_expression c.in-Fold.is ∙ ap (λ p. node
    Tag.ExpressionFold p end) (expression_fold c.in-Fold.first))) (c.one-in-Fold.ensures _ _
    c.fold_expr_to-first.ensures)

pub expression_to-returns-in-Throw : goal.expression_to-returns-in-Throw
expression_to-returns-in-Throw t c = told _ _ _ _ _ (sym (ap tree_of_expression c.in-Throw.is ∙ ap (λ p. node
    Tag.ExpressionThrow p end) (expression_throw c.in-Throw.first))) (c.one-in-Throw.ensures _ _ (told _ _ _ _ _ (ap
    tree_of_expression c.deref-in-Throw.ensures) c.expression_to-first-in-Throw.ensures))

pub expression_to-returns-in-Rethrow : goal.expression_to-returns-in-Rethrow
expression_to-returns-in-Rethrow t c = told _ _ _ _ _ (sym (ap tree_of_expression c.in-Rethrow.is ∙ ap (λ p. node
    Tag.ExpressionRethrow p end) (expression_rethrow))) (c.empty.ensures)

pub expression_to-returns-in-UnresolvedName : goal.expression_to-returns-in-UnresolvedName
expression_to-returns-in-UnresolvedName t c = told _ _ _ _ _ (sym (ap tree_of_expression c.in-UnresolvedName.is ∙ ap (λ
    p. node Tag.ExpressionUnresolvedName p end) (expression_unresolved_name c.in-UnresolvedName.first)))
    (c.one-in-UnresolvedName.ensures _ _ c.unresolved_name_to-first.ensures)

pub expression_to-returns-in-Primary : goal.expression_to-returns-in-Primary
expression_to-returns-in-Primary t c = told _ _ _ _ _ (sym (ap tree_of_expression c.in-Primary.is ∙ ap (λ p. node
    Tag.ExpressionPrimary p end) (expression_primary c.in-Primary.first))) (c.one-in-Primary.ensures _ _
    c.expr_primary_to-first.ensures)

pub unresolved_name_to-returns-in-Name : goal.unresolved_name_to-returns-in-Name
unresolved_name_to-returns-in-Name t c = told _ _ _ _ _ (sym (ap tree_of_unresolved_name c.in-Name.is ∙ ap (λ p. node
    Tag.UnresolvedNameName p end) (unresolved_name_name c.in-Name.first))) (c.one.ensures _ _
    c.base_unresolved_name_to-first.ensures)

pub unresolved_name_to-returns-in-Global : goal.unresolved_name_to-returns-in-Global
unresolved_name_to-returns-in-Global t c = told _ _ _ _ _ (sym (ap tree_of_unresolved_name c.in-Global.is ∙ ap (λ p.
    node Tag.UnresolvedNameGlobal p end) (unresolved_name_global c.in-Global.first))) (c.one-in-Global.ensures _ _
    c.base_unresolved_name_to-first-in-Global.ensures)

pub unresolved_name_to-returns-in-Nested1 : goal.unresolved_name_to-returns-in-Nested1
unresolved_name_to-returns-in-Nested1 t c = told _ _ _ _ _ (sym (ap tree_of_unresolved_name c.in-Nested1.is ∙ ap (λ p.
    node Tag.UnresolvedNameNested1 p end) (unresolved_name_nested1 c.in-Nested1.first c.in-Nested1.second
    c.in-Nested1.third))) (c.three.ensures _ _ _ _ _ _ c.unresolved_type_handle_to-first.ensures (told _ _ _ _ _ (ap (λ
    l. node Tag.Several (trees tag_of_unresolved_qualifier_level parts_of_unresolved_qualifier_level l) end)
    c.deref.ensures.value) c.unresolved_qualifier_level_list_to-second.ensures) c.base_unresolved_name_to-third.ensures)

pub unresolved_name_to-returns-in-Nested2 : goal.unresolved_name_to-returns-in-Nested2
unresolved_name_to-returns-in-Nested2 t c = told _ _ _ _ _ (sym (ap tree_of_unresolved_name c.in-Nested2.is ∙ ap (λ p.
    node Tag.UnresolvedNameNested2 p end) (unresolved_name_nested2 c.in-Nested2.first c.in-Nested2.second)))
    (c.two.ensures _ _ _ _ (told _ _ _ _ _ (ap (λ l. node Tag.Several (trees tag_of_unresolved_qualifier_level
    parts_of_unresolved_qualifier_level l) end) c.deref-in-Nested2.ensures.value)
    c.unresolved_qualifier_level_list_to-first.ensures) c.base_unresolved_name_to-second.ensures)

pub unresolved_name_to-returns-in-GlobalNested2 : goal.unresolved_name_to-returns-in-GlobalNested2
unresolved_name_to-returns-in-GlobalNested2 t c = told _ _ _ _ _ (sym (ap tree_of_unresolved_name c.in-GlobalNested2.is
    ∙ ap (λ p. node Tag.UnresolvedNameGlobalNested2 p end) (unresolved_name_global_nested2 c.in-GlobalNested2.first
    c.in-GlobalNested2.second))) (c.two-in-GlobalNested2.ensures _ _ _ _ (told _ _ _ _ _ (ap (λ l. node Tag.Several
    (trees tag_of_unresolved_qualifier_level parts_of_unresolved_qualifier_level l) end)
    c.deref-in-GlobalNested2.ensures.value) c.unresolved_qualifier_level_list_to-first-in-GlobalNested2.ensures)
    c.base_unresolved_name_to-second-in-GlobalNested2.ensures)

pub unresolved_qualifier_level_to-returns : goal.unresolved_qualifier_level_to-returns
unresolved_qualifier_level_to-returns t c = told _ _ _ _ _ (sym (ap (λ p. node Tag.UnresolvedQualifierLevel p end)
    (unresolved_qualifier_level_read c.args.node.now))) (c.one.ensures _ _ c.simple_id_to-first.ensures)

pub simple_id_to-returns : goal.simple_id_to-returns
simple_id_to-returns t c = told _ _ _ _ _ (sym (ap (λ p. node Tag.SimpleId p end) (simple_id_read c.args.node.now)))
    (c.two.ensures _ _ _ _ c.source_name_to-first.ensures c.optional_template_args_to-second.ensures)

pub base_unresolved_name_to-returns-in-Name : goal.base_unresolved_name_to-returns-in-Name
base_unresolved_name_to-returns-in-Name t c = told _ _ _ _ _ (sym (ap tree_of_base_unresolved_name c.in-Name.is ∙ ap (λ
    p. node Tag.BaseUnresolvedNameName p end) (base_unresolved_name_name c.in-Name.first))) (c.one.ensures _ _
    c.simple_id_to-first.ensures)

pub base_unresolved_name_to-returns-in-Operator : goal.base_unresolved_name_to-returns-in-Operator
base_unresolved_name_to-returns-in-Operator t c = told _ _ _ _ _ (sym (ap tree_of_base_unresolved_name c.in-Operator.is
    ∙ ap (λ p. node Tag.BaseUnresolvedNameOperator p end) (base_unresolved_name_operator c.in-Operator.first
    c.in-Operator.second))) (c.two.ensures _ _ _ _ c.operator_name_to-first.ensures
    c.optional_template_args_to-second.ensures)

pub base_unresolved_name_to-returns-in-Destructor : goal.base_unresolved_name_to-returns-in-Destructor
base_unresolved_name_to-returns-in-Destructor t c = told _ _ _ _ _ (sym (ap tree_of_base_unresolved_name
    c.in-Destructor.is ∙ ap (λ p. node Tag.BaseUnresolvedNameDestructor p end) (base_unresolved_name_destructor
    c.in-Destructor.first))) (c.one-in-Destructor.ensures _ _ c.destructor_name_to-first.ensures)

pub destructor_name_to-returns-in-Unresolved : goal.destructor_name_to-returns-in-Unresolved
destructor_name_to-returns-in-Unresolved t c = told _ _ _ _ _ (sym (ap tree_of_destructor_name c.in-Unresolved.is ∙ ap
    (λ p. node Tag.DestructorNameUnresolved p end) (destructor_name_unresolved c.in-Unresolved.first))) (c.one.ensures _
    _ c.unresolved_type_handle_to-first.ensures)

pub destructor_name_to-returns-in-Name : goal.destructor_name_to-returns-in-Name
destructor_name_to-returns-in-Name t c = told _ _ _ _ _ (sym (ap tree_of_destructor_name c.in-Name.is ∙ ap (λ p. node
    Tag.DestructorNameName p end) (destructor_name_name c.in-Name.first))) (c.one-in-Name.ensures _ _
    c.simple_id_to-first.ensures)

pub expr_primary_to-returns-in-Literal : goal.expr_primary_to-returns-in-Literal
expr_primary_to-returns-in-Literal t c = told _ _ _ _ _ (sym (ap tree_of_expr_primary c.in-Literal.is ∙ ap (λ p. node
    Tag.ExprPrimaryLiteral p end) (expr_primary_literal c.in-Literal.first c.in-Literal.second c.in-Literal.third)))
    (c.two.ensures _ _ _ _ c.type_handle_to-first.ensures c.place_to-place.ensures)

pub expr_primary_to-returns-in-External : goal.expr_primary_to-returns-in-External
expr_primary_to-returns-in-External t c = told _ _ _ _ _ (sym (ap tree_of_expr_primary c.in-External.is ∙ ap (λ p. node
    Tag.ExprPrimaryExternal p end) (expr_primary_external c.in-External.first))) (c.one.ensures _ _ (told _ _ _ _ _ (ap
    tree_of_mangled_name c.deref.ensures) c.mangled_name_to-first.ensures))

pub local_name_to-returns-in-Relative : goal.local_name_to-returns-in-Relative
local_name_to-returns-in-Relative t c = told _ _ _ _ _ (sym (ap tree_of_local_name c.in-Relative.is ∙ ap (λ p. node
    Tag.LocalNameRelative p end) (local_name_relative c.in-Relative.first c.in-Relative.second c.in-Relative.third)))
    (c.three.ensures _ _ _ _ _ _ (told _ _ _ _ _ (ap tree_of_encoding c.deref.ensures) c.encoding_to-first.ensures)
    c.optional_name_to-second.ensures c.optional_discriminator_to-third.ensures)

pub local_name_to-returns-in-Default : goal.local_name_to-returns-in-Default
local_name_to-returns-in-Default t c = told _ _ _ _ _ (sym (ap tree_of_local_name c.in-Default.is ∙ ap (λ p. node
    Tag.LocalNameDefault p end) (local_name_default c.in-Default.first c.in-Default.second c.in-Default.third)))
    (c.three-in-Default.ensures _ _ _ _ _ _ (told _ _ _ _ _ (ap tree_of_encoding c.deref-in-Default.ensures)
    c.encoding_to-first-in-Default.ensures) c.optional_signed_to-second.ensures (told _ _ _ _ _ (ap tree_of_name
    c.deref-in-Default-2.ensures) c.name_to-third.ensures))

pub special_name_to-returns-in-VirtualTable : goal.special_name_to-returns-in-VirtualTable
special_name_to-returns-in-VirtualTable t c = told _ _ _ _ _ (sym (ap tree_of_special_name c.in-VirtualTable.is ∙ ap (λ
    p. node Tag.SpecialNameVirtualTable p end) (special_name_virtual_table c.in-VirtualTable.first))) (c.one.ensures _ _
    c.type_handle_to-first.ensures)

pub special_name_to-returns-in-Vtt : goal.special_name_to-returns-in-Vtt
special_name_to-returns-in-Vtt t c = told _ _ _ _ _ (sym (ap tree_of_special_name c.in-Vtt.is ∙ ap (λ p. node
    Tag.SpecialNameVtt p end) (special_name_vtt c.in-Vtt.first))) (c.one-in-Vtt.ensures _ _
    c.type_handle_to-first-in-Vtt.ensures)

pub special_name_to-returns-in-Typeinfo : goal.special_name_to-returns-in-Typeinfo
special_name_to-returns-in-Typeinfo t c = told _ _ _ _ _ (sym (ap tree_of_special_name c.in-Typeinfo.is ∙ ap (λ p. node
    Tag.SpecialNameTypeinfo p end) (special_name_typeinfo c.in-Typeinfo.first))) (c.one-in-Typeinfo.ensures _ _
    c.type_handle_to-first-in-Typeinfo.ensures)

pub special_name_to-returns-in-TypeinfoName : goal.special_name_to-returns-in-TypeinfoName
special_name_to-returns-in-TypeinfoName t c = told _ _ _ _ _ (sym (ap tree_of_special_name c.in-TypeinfoName.is ∙ ap (λ
    p. node Tag.SpecialNameTypeinfoName p end) (special_name_typeinfo_name c.in-TypeinfoName.first)))
    (c.one-in-TypeinfoName.ensures _ _ c.type_handle_to-first-in-TypeinfoName.ensures)

pub special_name_to-returns-in-VirtualOverrideThunk : goal.special_name_to-returns-in-VirtualOverrideThunk
special_name_to-returns-in-VirtualOverrideThunk t c = told _ _ _ _ _ (sym (ap tree_of_special_name
    c.in-VirtualOverrideThunk.is ∙ ap (λ p. node Tag.SpecialNameVirtualOverrideThunk p end)
    (special_name_virtual_override_thunk c.in-VirtualOverrideThunk.first c.in-VirtualOverrideThunk.second)))
    (c.two.ensures _ _ _ _ c.call_offset_to-first.ensures (told _ _ _ _ _ (ap tree_of_encoding c.deref.ensures)
    c.encoding_to-second.ensures))

pub special_name_to-returns-in-VirtualOverrideThunkCovariant :
    goal.special_name_to-returns-in-VirtualOverrideThunkCovariant
special_name_to-returns-in-VirtualOverrideThunkCovariant t c = told _ _ _ _ _ (sym (ap tree_of_special_name
    c.in-VirtualOverrideThunkCovariant.is ∙ ap (λ p. node Tag.SpecialNameVirtualOverrideThunkCovariant p end)
    (special_name_virtual_override_thunk_covariant c.in-VirtualOverrideThunkCovariant.first
    c.in-VirtualOverrideThunkCovariant.second c.in-VirtualOverrideThunkCovariant.third))) (c.three.ensures _ _ _ _ _ _
    c.call_offset_to-first-in-VirtualOverrideThunkCovariant.ensures c.call_offset_to-second.ensures (told _ _ _ _ _ (ap
    tree_of_encoding c.deref-in-VirtualOverrideThunkCovariant.ensures) c.encoding_to-third.ensures))

pub special_name_to-returns-in-Guard : goal.special_name_to-returns-in-Guard
special_name_to-returns-in-Guard t c = told _ _ _ _ _ (sym (ap tree_of_special_name c.in-Guard.is ∙ ap (λ p. node
    Tag.SpecialNameGuard p end) (special_name_guard c.in-Guard.first))) (c.one-in-Guard.ensures _ _
    c.name_to-first.ensures)

pub special_name_to-returns-in-GuardTemporary : goal.special_name_to-returns-in-GuardTemporary
special_name_to-returns-in-GuardTemporary t c = told _ _ _ _ _ (sym (ap tree_of_special_name c.in-GuardTemporary.is ∙ ap
    (λ p. node Tag.SpecialNameGuardTemporary p end) (special_name_guard_temporary c.in-GuardTemporary.first
    c.in-GuardTemporary.second))) (c.two-in-GuardTemporary.ensures _ _ _ _ c.name_to-first-in-GuardTemporary.ensures
    c.number_to-second.ensures)

pub special_name_to-returns-in-ConstructionVtable : goal.special_name_to-returns-in-ConstructionVtable
special_name_to-returns-in-ConstructionVtable t c = told _ _ _ _ _ (sym (ap tree_of_special_name
    c.in-ConstructionVtable.is ∙ ap (λ p. node Tag.SpecialNameConstructionVtable p end)
    (special_name_construction_vtable c.in-ConstructionVtable.first c.in-ConstructionVtable.second
    c.in-ConstructionVtable.third))) (c.three-in-ConstructionVtable.ensures _ _ _ _ _ _
    c.type_handle_to-first-in-ConstructionVtable.ensures c.number_to-second-in-ConstructionVtable.ensures
    c.type_handle_to-third.ensures)

pub special_name_to-returns-in-TypeinfoFunction : goal.special_name_to-returns-in-TypeinfoFunction
special_name_to-returns-in-TypeinfoFunction t c = told _ _ _ _ _ (sym (ap tree_of_special_name c.in-TypeinfoFunction.is
    ∙ ap (λ p. node Tag.SpecialNameTypeinfoFunction p end) (special_name_typeinfo_function
    c.in-TypeinfoFunction.first))) (c.one-in-TypeinfoFunction.ensures _ _
    c.type_handle_to-first-in-TypeinfoFunction.ensures)

pub special_name_to-returns-in-TlsInit : goal.special_name_to-returns-in-TlsInit
special_name_to-returns-in-TlsInit t c = told _ _ _ _ _ (sym (ap tree_of_special_name c.in-TlsInit.is ∙ ap (λ p. node
    Tag.SpecialNameTlsInit p end) (special_name_tls_init c.in-TlsInit.first))) (c.one-in-TlsInit.ensures _ _
    c.name_to-first-in-TlsInit.ensures)

pub special_name_to-returns-in-TlsWrapper : goal.special_name_to-returns-in-TlsWrapper
special_name_to-returns-in-TlsWrapper t c = told _ _ _ _ _ (sym (ap tree_of_special_name c.in-TlsWrapper.is ∙ ap (λ p.
    node Tag.SpecialNameTlsWrapper p end) (special_name_tls_wrapper c.in-TlsWrapper.first)))
    (c.one-in-TlsWrapper.ensures _ _ c.name_to-first-in-TlsWrapper.ensures)

pub special_name_to-returns-in-JavaResource : goal.special_name_to-returns-in-JavaResource
special_name_to-returns-in-JavaResource t c = told _ _ _ _ _ (sym (ap tree_of_special_name c.in-JavaResource.is ∙ ap (λ
    p. node Tag.SpecialNameJavaResource p end) (special_name_java_resource c.in-JavaResource.first)))
    (c.one-in-JavaResource.ensures _ _ (told _ _ _ _ _ (ap (λ l. node Tag.Several (trees tag_of_resource_name
    parts_of_resource_name l) end) c.deref-in-JavaResource.ensures.value) c.resource_name_list_to-first.ensures))

pub special_name_to-returns-in-TransactionClone : goal.special_name_to-returns-in-TransactionClone
special_name_to-returns-in-TransactionClone t c = told _ _ _ _ _ (sym (ap tree_of_special_name c.in-TransactionClone.is
    ∙ ap (λ p. node Tag.SpecialNameTransactionClone p end) (special_name_transaction_clone
    c.in-TransactionClone.first))) (c.one-in-TransactionClone.ensures _ _ (told _ _ _ _ _ (ap tree_of_encoding
    c.deref-in-TransactionClone.ensures) c.encoding_to-first.ensures))

pub special_name_to-returns-in-NonTransactionClone : goal.special_name_to-returns-in-NonTransactionClone
special_name_to-returns-in-NonTransactionClone t c = told _ _ _ _ _ (sym (ap tree_of_special_name
    c.in-NonTransactionClone.is ∙ ap (λ p. node Tag.SpecialNameNonTransactionClone p end)
    (special_name_non_transaction_clone c.in-NonTransactionClone.first))) (c.one-in-NonTransactionClone.ensures _ _
    (told _ _ _ _ _ (ap tree_of_encoding c.deref-in-NonTransactionClone.ensures)
    c.encoding_to-first-in-NonTransactionClone.ensures))

pub subobject_expr_to-returns : goal.subobject_expr_to-returns
subobject_expr_to-returns t c = c.three.ensures _ _ _ _ _ _ c.type_handle_to-ty.ensures (told _ _ _ _ _ (ap
    tree_of_expression c.deref.ensures) c.expression_to-expr.ensures) c.signed_to-offset.ensures

pub fold_expr_to-returns-in-UnaryLeft : goal.fold_expr_to-returns-in-UnaryLeft
fold_expr_to-returns-in-UnaryLeft t c = told _ _ _ _ _ (sym (ap tree_of_fold_expr c.in-UnaryLeft.is ∙ ap (λ p. node
    Tag.FoldExprUnaryLeft p end) (fold_expr_unary_left c.in-UnaryLeft.first c.in-UnaryLeft.second))) (c.two.ensures _ _
    _ _ c.simple_operator_name_to-first.ensures (told _ _ _ _ _ (ap tree_of_expression c.deref.ensures)
    c.expression_to-second.ensures))

pub fold_expr_to-returns-in-UnaryRight : goal.fold_expr_to-returns-in-UnaryRight
fold_expr_to-returns-in-UnaryRight t c = told _ _ _ _ _ (sym (ap tree_of_fold_expr c.in-UnaryRight.is ∙ ap (λ p. node
    Tag.FoldExprUnaryRight p end) (fold_expr_unary_right c.in-UnaryRight.first c.in-UnaryRight.second)))
    (c.two-in-UnaryRight.ensures _ _ _ _ c.simple_operator_name_to-first-in-UnaryRight.ensures (told _ _ _ _ _ (ap
    tree_of_expression c.deref-in-UnaryRight.ensures) c.expression_to-second-in-UnaryRight.ensures))

pub fold_expr_to-returns-in-BinaryLeft : goal.fold_expr_to-returns-in-BinaryLeft
fold_expr_to-returns-in-BinaryLeft t c = told _ _ _ _ _ (sym (ap tree_of_fold_expr c.in-BinaryLeft.is ∙ ap (λ p. node
    Tag.FoldExprBinaryLeft p end) (fold_expr_binary_left c.in-BinaryLeft.first c.in-BinaryLeft.second
    c.in-BinaryLeft.third))) (c.three.ensures _ _ _ _ _ _ c.simple_operator_name_to-first-in-BinaryLeft.ensures (told _
    _ _ _ _ (ap tree_of_expression c.deref-in-BinaryLeft.ensures) c.expression_to-second-in-BinaryLeft.ensures) (told _
    _ _ _ _ (ap tree_of_expression c.deref-in-BinaryLeft-2.ensures) c.expression_to-third.ensures))

pub fold_expr_to-returns-in-BinaryRight : goal.fold_expr_to-returns-in-BinaryRight
fold_expr_to-returns-in-BinaryRight t c = told _ _ _ _ _ (sym (ap tree_of_fold_expr c.in-BinaryRight.is ∙ ap (λ p. node
    Tag.FoldExprBinaryRight p end) (fold_expr_binary_right c.in-BinaryRight.first c.in-BinaryRight.second
    c.in-BinaryRight.third))) (c.three-in-BinaryRight.ensures _ _ _ _ _ _
    c.simple_operator_name_to-first-in-BinaryRight.ensures (told _ _ _ _ _ (ap tree_of_expression
    c.deref-in-BinaryRight.ensures) c.expression_to-second-in-BinaryRight.ensures) (told _ _ _ _ _ (ap
    tree_of_expression c.deref-in-BinaryRight-2.ensures) c.expression_to-third-in-BinaryRight.ensures))

pub optional_template_args_to-returns-in-Some : goal.optional_template_args_to-returns-in-Some
optional_template_args_to-returns-in-Some t c = told _ _ _ _ _ (sym (ap (tree_of_option tree_of_template_args)
    c.in-Some.is)) (c.one.ensures _ _ c.template_args_to-part.ensures)

pub optional_initializer_to-returns-in-Some : goal.optional_initializer_to-returns-in-Some
optional_initializer_to-returns-in-Some t c = told _ _ _ _ _ (sym (ap (tree_of_option tree_of_initializer)
    c.in-Some.is)) (c.one.ensures _ _ c.initializer_to-part.ensures)

pub optional_name_to-returns-in-Some : goal.optional_name_to-returns-in-Some
optional_name_to-returns-in-Some t c = told _ _ _ _ _ (sym (ap (tree_of_option boxed_name) c.in-Some.is)) (c.one.ensures
    _ _ (told _ _ _ _ _ (ap tree_of_name c.deref.ensures) c.name_to-part.ensures))

pub wait_template_arg_list-returns-in_err-wait : goal.wait_template_arg_list-returns-in_err-wait
wait_template_arg_list-returns-in_err-wait t c = waits_failed _ _ _ _ _ _ _ c.in_err-wait.was (search rules)
    (c.wait.ensures _ _ _ _ c.loop-node.invariant c.template_arg_to-part.ensures)

pub wait_template_arg_list-loop-node-preserved : goal.wait_template_arg_list-loop-node-preserved
wait_template_arg_list-loop-node-preserved t c = trees_more tag_of_template_arg parts_of_template_arg _ _ _ _
    c.args.nodes.now c.loop-node.node-index c.node-item.result c.in_ok-wait.was (search (rules, take_more))
    (c.wait.ensures _ _ _ _ c.loop-node.invariant c.template_arg_to-part.ensures)

pub template_arg_list_to-returns : goal.template_arg_list_to-returns
template_arg_list_to-returns t c = c.gather.ensures _ _ c.waiting-from.ensures c.wait_template_arg_list-waited.ensures

pub wait_expression_list-returns-in_err-wait : goal.wait_expression_list-returns-in_err-wait
wait_expression_list-returns-in_err-wait t c = waits_failed _ _ _ _ _ _ _ c.in_err-wait.was (search rules)
    (c.wait.ensures _ _ _ _ c.loop-node.invariant c.expression_to-part.ensures)

pub wait_expression_list-loop-node-preserved : goal.wait_expression_list-loop-node-preserved
wait_expression_list-loop-node-preserved t c = trees_more tag_of_expression parts_of_expression _ _ _ _ c.args.nodes.now
    c.loop-node.node-index c.node-item.result c.in_ok-wait.was (search (rules, take_more)) (c.wait.ensures _ _ _ _
    c.loop-node.invariant c.expression_to-part.ensures)

pub expression_list_to-returns : goal.expression_list_to-returns
expression_list_to-returns t c = c.gather.ensures _ _ c.waiting-from.ensures c.wait_expression_list-waited.ensures

pub wait_unresolved_qualifier_level_list-returns-in_err-wait :
    goal.wait_unresolved_qualifier_level_list-returns-in_err-wait
wait_unresolved_qualifier_level_list-returns-in_err-wait t c = waits_failed _ _ _ _ _ _ _ c.in_err-wait.was (search
    rules) (c.wait.ensures _ _ _ _ c.loop-node.invariant c.unresolved_qualifier_level_to-part.ensures)

pub wait_unresolved_qualifier_level_list-loop-node-preserved :
    goal.wait_unresolved_qualifier_level_list-loop-node-preserved
wait_unresolved_qualifier_level_list-loop-node-preserved t c = trees_more tag_of_unresolved_qualifier_level
    parts_of_unresolved_qualifier_level _ _ _ _ c.args.nodes.now c.loop-node.node-index c.node-item.result
    c.in_ok-wait.was (search (rules, take_more)) (c.wait.ensures _ _ _ _ c.loop-node.invariant
    c.unresolved_qualifier_level_to-part.ensures)

pub unresolved_qualifier_level_list_to-returns : goal.unresolved_qualifier_level_list_to-returns
unresolved_qualifier_level_list_to-returns t c = c.gather.ensures _ _ c.waiting-from.ensures
    c.wait_unresolved_qualifier_level_list-waited.ensures
