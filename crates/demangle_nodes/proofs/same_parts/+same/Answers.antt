-- Written by tools/same_answers.py.
use Rattle.std.proofs.Common.{refl}
use Rattle.demangle_core.specs.Core.{Tag, code}
use Rattle.demangle_leaf_nodes.specs.TreeLeaves.{tag_of_clone_suffix, parts_of_clone_suffix, tag_of_resource_name, parts_of_resource_name}
use Rattle.demangle_nodes.specs.TreeNodes.{tag_of_mangled_name, tag_of_encoding, tag_of_global_ctor_dtor, tag_of_name, tag_of_template_arg, tag_of_expression, tag_of_unresolved_name, tag_of_unresolved_qualifier_level, tag_of_base_unresolved_name, tag_of_destructor_name, tag_of_expr_primary, tag_of_local_name, tag_of_special_name, tag_of_fold_expr, parts_of_mangled_name, parts_of_encoding, parts_of_global_ctor_dtor, parts_of_name, parts_of_template_arg, parts_of_expression, parts_of_unresolved_name, parts_of_unresolved_qualifier_level, parts_of_base_unresolved_name, parts_of_destructor_name, parts_of_expr_primary, parts_of_local_name, parts_of_special_name, parts_of_fold_expr}
use Rattle.demangle_nodes.proofs.Parts.{mangled_name_encoding, mangled_name_block_invoke, mangled_name_top_level_type, mangled_name_global_ctor_dtor, encoding_function, encoding_data, encoding_special, global_ctor_dtor_ctor, global_ctor_dtor_dtor, name_nested, name_unscoped, name_unscoped_template, name_local, template_arg_type_arg, template_arg_expression, template_arg_simple_expression, template_arg_arg_pack, expression_unary, expression_binary, expression_ternary, expression_prefix_inc, expression_prefix_dec, expression_call, expression_conversion_one, expression_conversion_many, expression_conversion_braced, expression_braced_init_list, expression_new, expression_global_new, expression_new_array, expression_global_new_array, expression_delete, expression_global_delete, expression_delete_array, expression_global_delete_array, expression_dynamic_cast, expression_static_cast, expression_const_cast, expression_reinterpret_cast, expression_typeid_type, expression_typeid_expr, expression_sizeof_type, expression_sizeof_expr, expression_alignof_type, expression_alignof_expr, expression_noexcept, expression_subobject, expression_template_param, expression_function_param, expression_member, expression_deref_member, expression_pointer_to_member, expression_sizeof_template_pack, expression_sizeof_function_pack, expression_sizeof_captured_template_pack, expression_pack_expansion, expression_fold, expression_throw, expression_rethrow, expression_unresolved_name, expression_primary, unresolved_name_name, unresolved_name_global, unresolved_name_nested1, unresolved_name_nested2, unresolved_name_global_nested2, base_unresolved_name_name, base_unresolved_name_operator, base_unresolved_name_destructor, destructor_name_unresolved, destructor_name_name, expr_primary_literal, expr_primary_external, local_name_relative, local_name_default, special_name_virtual_table, special_name_vtt, special_name_typeinfo, special_name_typeinfo_name, special_name_virtual_override_thunk, special_name_virtual_override_thunk_covariant, special_name_guard, special_name_guard_temporary, special_name_construction_vtable, special_name_typeinfo_function, special_name_tls_init, special_name_tls_wrapper, special_name_java_resource, special_name_transaction_clone, special_name_non_transaction_clone}
use Rattle.demangle_nodes.proofs.Equal.{same_variant, other_variant, behind, behind_list, last, last_leaf, and_then, and_then_leaf, and_then_number, differs, differs_leaf, differs_number}
use Rattle.demangle_nodes.proofs.Other.{other_mangled_name, other_encoding, other_global_ctor_dtor, other_name, other_template_arg, other_expression, other_unresolved_name, other_base_unresolved_name, other_destructor_name, other_expr_primary, other_local_name, other_special_name, other_fold_expr}
use Rattle.demangle_nodes.proofs.same_parts.+same.Goals as goal

pub same_mangled_name-returns-else-same_encoding : goal.same_mangled_name-returns-else-same_encoding
same_mangled_name-returns-else-same_encoding n c = same_variant tag_of_mangled_name parts_of_mangled_name c.in-Encoding.is c.in-Encoding-y.is (mangled_name_encoding c.in-Encoding.a c.in-Encoding.b) (mangled_name_encoding c.in-Encoding-y.other_a c.in-Encoding-y.other_b) refl (differs c.if-same_encoding.false (c.if-same_encoding.ensures))

pub same_mangled_name-returns-then-same_encoding : goal.same_mangled_name-returns-then-same_encoding
same_mangled_name-returns-then-same_encoding n c = same_variant tag_of_mangled_name parts_of_mangled_name c.in-Encoding.is c.in-Encoding-y.is (mangled_name_encoding c.in-Encoding.a c.in-Encoding.b) (mangled_name_encoding c.in-Encoding-y.other_a c.in-Encoding-y.other_b) refl (and_then (c.if-same_encoding.ensures) (last (behind_list tag_of_clone_suffix parts_of_clone_suffix c.deref.ensures.value c.deref-then-same_encoding.ensures.value c.same_clone_suffixes.ensures)))

pub same_mangled_name-returns-in_default : goal.same_mangled_name-returns-in_default
same_mangled_name-returns-in_default n c = other_variant tag_of_mangled_name parts_of_mangled_name c.args.y.now c.in-Encoding.is (other_mangled_name (code Tag.MangledNameEncoding) c.args.y.now c.in_default.not-Encoding)

pub same_mangled_name-returns-else-same_encoding-2 : goal.same_mangled_name-returns-else-same_encoding-2
same_mangled_name-returns-else-same_encoding-2 n c = same_variant tag_of_mangled_name parts_of_mangled_name c.in-BlockInvoke.is c.in-BlockInvoke-y.is (mangled_name_block_invoke c.in-BlockInvoke.a c.in-BlockInvoke.b) (mangled_name_block_invoke c.in-BlockInvoke-y.other_a c.in-BlockInvoke-y.other_b) refl (differs c.if-same_encoding-2.false (c.if-same_encoding-2.ensures))

pub same_mangled_name-returns-then-same_encoding-2 : goal.same_mangled_name-returns-then-same_encoding-2
same_mangled_name-returns-then-same_encoding-2 n c = same_variant tag_of_mangled_name parts_of_mangled_name c.in-BlockInvoke.is c.in-BlockInvoke-y.is (mangled_name_block_invoke c.in-BlockInvoke.a c.in-BlockInvoke.b) (mangled_name_block_invoke c.in-BlockInvoke-y.other_a c.in-BlockInvoke-y.other_b) refl (and_then (c.if-same_encoding-2.ensures) (last (c.same_optional_isize.ensures)))

pub same_mangled_name-returns-in_default-y : goal.same_mangled_name-returns-in_default-y
same_mangled_name-returns-in_default-y n c = other_variant tag_of_mangled_name parts_of_mangled_name c.args.y.now c.in-BlockInvoke.is (other_mangled_name (code Tag.MangledNameBlockInvoke) c.args.y.now c.in_default-y.not-BlockInvoke)

pub same_mangled_name-returns-in-TopLevelType-y : goal.same_mangled_name-returns-in-TopLevelType-y
same_mangled_name-returns-in-TopLevelType-y n c = same_variant tag_of_mangled_name parts_of_mangled_name c.in-TopLevelType.is c.in-TopLevelType-y.is (mangled_name_top_level_type c.in-TopLevelType.a) (mangled_name_top_level_type c.in-TopLevelType-y.other_a) refl (last_leaf (c.eq.ensures))

pub same_mangled_name-returns-in_default-y-2 : goal.same_mangled_name-returns-in_default-y-2
same_mangled_name-returns-in_default-y-2 n c = other_variant tag_of_mangled_name parts_of_mangled_name c.args.y.now c.in-TopLevelType.is (other_mangled_name (code Tag.MangledNameTopLevelType) c.args.y.now c.in_default-y-2.not-TopLevelType)

pub same_mangled_name-returns-in-GlobalCtorDtor-y : goal.same_mangled_name-returns-in-GlobalCtorDtor-y
same_mangled_name-returns-in-GlobalCtorDtor-y n c = same_variant tag_of_mangled_name parts_of_mangled_name c.in-GlobalCtorDtor.is c.in-GlobalCtorDtor-y.is (mangled_name_global_ctor_dtor c.in-GlobalCtorDtor.a) (mangled_name_global_ctor_dtor c.in-GlobalCtorDtor-y.other_a) refl (last (c.same_global_ctor_dtor.ensures))

pub same_mangled_name-returns-in_default-y-3 : goal.same_mangled_name-returns-in_default-y-3
same_mangled_name-returns-in_default-y-3 n c = other_variant tag_of_mangled_name parts_of_mangled_name c.args.y.now c.in-GlobalCtorDtor.is (other_mangled_name (code Tag.MangledNameGlobalCtorDtor) c.args.y.now c.in_default-y-3.not-GlobalCtorDtor)

pub same_encoding-returns-else-same_name : goal.same_encoding-returns-else-same_name
same_encoding-returns-else-same_name n c = same_variant tag_of_encoding parts_of_encoding c.in-Function.is c.in-Function-y.is (encoding_function c.in-Function.a c.in-Function.b) (encoding_function c.in-Function-y.other_a c.in-Function-y.other_b) refl (differs c.if-same_name.false (c.if-same_name.ensures))

pub same_encoding-returns-then-same_name : goal.same_encoding-returns-then-same_name
same_encoding-returns-then-same_name n c = same_variant tag_of_encoding parts_of_encoding c.in-Function.is c.in-Function-y.is (encoding_function c.in-Function.a c.in-Function.b) (encoding_function c.in-Function-y.other_a c.in-Function-y.other_b) refl (and_then (c.if-same_name.ensures) (last_leaf (c.eq.ensures)))

pub same_encoding-returns-in_default : goal.same_encoding-returns-in_default
same_encoding-returns-in_default n c = other_variant tag_of_encoding parts_of_encoding c.args.y.now c.in-Function.is (other_encoding (code Tag.EncodingFunction) c.args.y.now c.in_default.not-Function)

pub same_encoding-returns-in-Data-y : goal.same_encoding-returns-in-Data-y
same_encoding-returns-in-Data-y n c = same_variant tag_of_encoding parts_of_encoding c.in-Data.is c.in-Data-y.is (encoding_data c.in-Data.a) (encoding_data c.in-Data-y.other_a) refl (last (c.same_name-in-Data-y.ensures))

pub same_encoding-returns-in_default-y : goal.same_encoding-returns-in_default-y
same_encoding-returns-in_default-y n c = other_variant tag_of_encoding parts_of_encoding c.args.y.now c.in-Data.is (other_encoding (code Tag.EncodingData) c.args.y.now c.in_default-y.not-Data)

pub same_encoding-returns-in-Special-y : goal.same_encoding-returns-in-Special-y
same_encoding-returns-in-Special-y n c = same_variant tag_of_encoding parts_of_encoding c.in-Special.is c.in-Special-y.is (encoding_special c.in-Special.a) (encoding_special c.in-Special-y.other_a) refl (last (behind tag_of_special_name parts_of_special_name c.deref.ensures c.deref-in-Special-y.ensures c.same_special_name.ensures))

pub same_encoding-returns-in_default-y-2 : goal.same_encoding-returns-in_default-y-2
same_encoding-returns-in_default-y-2 n c = other_variant tag_of_encoding parts_of_encoding c.args.y.now c.in-Special.is (other_encoding (code Tag.EncodingSpecial) c.args.y.now c.in_default-y-2.not-Special)

pub same_global_ctor_dtor-returns-in-Ctor-y : goal.same_global_ctor_dtor-returns-in-Ctor-y
same_global_ctor_dtor-returns-in-Ctor-y n c = same_variant tag_of_global_ctor_dtor parts_of_global_ctor_dtor c.in-Ctor.is c.in-Ctor-y.is (global_ctor_dtor_ctor c.in-Ctor.a) (global_ctor_dtor_ctor c.in-Ctor-y.other_a) refl (last (behind tag_of_mangled_name parts_of_mangled_name c.deref.ensures c.deref-in-Ctor-y.ensures c.same_mangled_name.ensures))

pub same_global_ctor_dtor-returns-in_default : goal.same_global_ctor_dtor-returns-in_default
same_global_ctor_dtor-returns-in_default n c = other_variant tag_of_global_ctor_dtor parts_of_global_ctor_dtor c.args.y.now c.in-Ctor.is (other_global_ctor_dtor (code Tag.GlobalCtorDtorCtor) c.args.y.now c.in_default.not-Ctor)

pub same_global_ctor_dtor-returns-in-Dtor-y : goal.same_global_ctor_dtor-returns-in-Dtor-y
same_global_ctor_dtor-returns-in-Dtor-y n c = same_variant tag_of_global_ctor_dtor parts_of_global_ctor_dtor c.in-Dtor.is c.in-Dtor-y.is (global_ctor_dtor_dtor c.in-Dtor.a) (global_ctor_dtor_dtor c.in-Dtor-y.other_a) refl (last (behind tag_of_mangled_name parts_of_mangled_name c.deref-in-Dtor-y.ensures c.deref-in-Dtor-y-2.ensures c.same_mangled_name-in-Dtor-y.ensures))

pub same_global_ctor_dtor-returns-in_default-y : goal.same_global_ctor_dtor-returns-in_default-y
same_global_ctor_dtor-returns-in_default-y n c = other_variant tag_of_global_ctor_dtor parts_of_global_ctor_dtor c.args.y.now c.in-Dtor.is (other_global_ctor_dtor (code Tag.GlobalCtorDtorDtor) c.args.y.now c.in_default-y.not-Dtor)

pub same_name-returns-in-Nested-y : goal.same_name-returns-in-Nested-y
same_name-returns-in-Nested-y n c = same_variant tag_of_name parts_of_name c.in-Nested.is c.in-Nested-y.is (name_nested c.in-Nested.a) (name_nested c.in-Nested-y.other_a) refl (last_leaf (c.eq.ensures))

pub same_name-returns-in_default : goal.same_name-returns-in_default
same_name-returns-in_default n c = other_variant tag_of_name parts_of_name c.args.y.now c.in-Nested.is (other_name (code Tag.NameNested) c.args.y.now c.in_default.not-Nested)

pub same_name-returns-in-Unscoped-y : goal.same_name-returns-in-Unscoped-y
same_name-returns-in-Unscoped-y n c = same_variant tag_of_name parts_of_name c.in-Unscoped.is c.in-Unscoped-y.is (name_unscoped c.in-Unscoped.a) (name_unscoped c.in-Unscoped-y.other_a) refl (last_leaf (c.eq-in-Unscoped-y.ensures))

pub same_name-returns-in_default-y : goal.same_name-returns-in_default-y
same_name-returns-in_default-y n c = other_variant tag_of_name parts_of_name c.args.y.now c.in-Unscoped.is (other_name (code Tag.NameUnscoped) c.args.y.now c.in_default-y.not-Unscoped)

pub same_name-returns-else-eq : goal.same_name-returns-else-eq
same_name-returns-else-eq n c = same_variant tag_of_name parts_of_name c.in-UnscopedTemplate.is c.in-UnscopedTemplate-y.is (name_unscoped_template c.in-UnscopedTemplate.a c.in-UnscopedTemplate.b) (name_unscoped_template c.in-UnscopedTemplate-y.other_a c.in-UnscopedTemplate-y.other_b) refl (differs_leaf c.if-eq.false (c.if-eq.ensures))

pub same_name-returns-then-eq : goal.same_name-returns-then-eq
same_name-returns-then-eq n c = same_variant tag_of_name parts_of_name c.in-UnscopedTemplate.is c.in-UnscopedTemplate-y.is (name_unscoped_template c.in-UnscopedTemplate.a c.in-UnscopedTemplate.b) (name_unscoped_template c.in-UnscopedTemplate-y.other_a c.in-UnscopedTemplate-y.other_b) refl (and_then_leaf (c.if-eq.ensures) (last (c.same_template_args.ensures)))

pub same_name-returns-in_default-y-2 : goal.same_name-returns-in_default-y-2
same_name-returns-in_default-y-2 n c = other_variant tag_of_name parts_of_name c.args.y.now c.in-UnscopedTemplate.is (other_name (code Tag.NameUnscopedTemplate) c.args.y.now c.in_default-y-2.not-UnscopedTemplate)

pub same_name-returns-in-Local-y : goal.same_name-returns-in-Local-y
same_name-returns-in-Local-y n c = same_variant tag_of_name parts_of_name c.in-Local.is c.in-Local-y.is (name_local c.in-Local.a) (name_local c.in-Local-y.other_a) refl (last (c.same_local_name.ensures))

pub same_name-returns-in_default-y-3 : goal.same_name-returns-in_default-y-3
same_name-returns-in_default-y-3 n c = other_variant tag_of_name parts_of_name c.args.y.now c.in-Local.is (other_name (code Tag.NameLocal) c.args.y.now c.in_default-y-3.not-Local)

pub same_template_arg-returns-in-TypeArg-y : goal.same_template_arg-returns-in-TypeArg-y
same_template_arg-returns-in-TypeArg-y n c = same_variant tag_of_template_arg parts_of_template_arg c.in-TypeArg.is c.in-TypeArg-y.is (template_arg_type_arg c.in-TypeArg.a) (template_arg_type_arg c.in-TypeArg-y.other_a) refl (last_leaf (c.eq.ensures))

pub same_template_arg-returns-in_default : goal.same_template_arg-returns-in_default
same_template_arg-returns-in_default n c = other_variant tag_of_template_arg parts_of_template_arg c.args.y.now c.in-TypeArg.is (other_template_arg (code Tag.TemplateArgTypeArg) c.args.y.now c.in_default.not-TypeArg)

pub same_template_arg-returns-in-Expression-y : goal.same_template_arg-returns-in-Expression-y
same_template_arg-returns-in-Expression-y n c = same_variant tag_of_template_arg parts_of_template_arg c.in-Expression.is c.in-Expression-y.is (template_arg_expression c.in-Expression.a) (template_arg_expression c.in-Expression-y.other_a) refl (last (c.same_expression.ensures))

pub same_template_arg-returns-in_default-y : goal.same_template_arg-returns-in_default-y
same_template_arg-returns-in_default-y n c = other_variant tag_of_template_arg parts_of_template_arg c.args.y.now c.in-Expression.is (other_template_arg (code Tag.TemplateArgExpression) c.args.y.now c.in_default-y.not-Expression)

pub same_template_arg-returns-in-SimpleExpression-y : goal.same_template_arg-returns-in-SimpleExpression-y
same_template_arg-returns-in-SimpleExpression-y n c = same_variant tag_of_template_arg parts_of_template_arg c.in-SimpleExpression.is c.in-SimpleExpression-y.is (template_arg_simple_expression c.in-SimpleExpression.a) (template_arg_simple_expression c.in-SimpleExpression-y.other_a) refl (last (c.same_expr_primary.ensures))

pub same_template_arg-returns-in_default-y-2 : goal.same_template_arg-returns-in_default-y-2
same_template_arg-returns-in_default-y-2 n c = other_variant tag_of_template_arg parts_of_template_arg c.args.y.now c.in-SimpleExpression.is (other_template_arg (code Tag.TemplateArgSimpleExpression) c.args.y.now c.in_default-y-2.not-SimpleExpression)

pub same_template_arg-returns-in-ArgPack-y : goal.same_template_arg-returns-in-ArgPack-y
same_template_arg-returns-in-ArgPack-y n c = same_variant tag_of_template_arg parts_of_template_arg c.in-ArgPack.is c.in-ArgPack-y.is (template_arg_arg_pack c.in-ArgPack.a) (template_arg_arg_pack c.in-ArgPack-y.other_a) refl (last (behind_list tag_of_template_arg parts_of_template_arg c.deref.ensures.value c.deref-in-ArgPack-y.ensures.value c.same_argument_list.ensures))

pub same_template_arg-returns-in_default-y-3 : goal.same_template_arg-returns-in_default-y-3
same_template_arg-returns-in_default-y-3 n c = other_variant tag_of_template_arg parts_of_template_arg c.args.y.now c.in-ArgPack.is (other_template_arg (code Tag.TemplateArgArgPack) c.args.y.now c.in_default-y-3.not-ArgPack)

pub same_expression-returns-else-eq : goal.same_expression-returns-else-eq
same_expression-returns-else-eq n c = same_variant tag_of_expression parts_of_expression c.in-Unary.is c.in-Unary-y.is (expression_unary c.in-Unary.a c.in-Unary.b) (expression_unary c.in-Unary-y.other_a c.in-Unary-y.other_b) refl (differs_leaf c.if-eq.false (c.if-eq.ensures))

pub same_expression-returns-then-eq : goal.same_expression-returns-then-eq
same_expression-returns-then-eq n c = same_variant tag_of_expression parts_of_expression c.in-Unary.is c.in-Unary-y.is (expression_unary c.in-Unary.a c.in-Unary.b) (expression_unary c.in-Unary-y.other_a c.in-Unary-y.other_b) refl (and_then_leaf (c.if-eq.ensures) (last (behind tag_of_expression parts_of_expression c.deref.ensures c.deref-then-eq.ensures c.same_expression.ensures)))

pub same_expression-returns-in_default : goal.same_expression-returns-in_default
same_expression-returns-in_default n c = other_variant tag_of_expression parts_of_expression c.args.y.now c.in-Unary.is (other_expression (code Tag.ExpressionUnary) c.args.y.now c.in_default.not-Unary)

pub same_expression-returns-else-eq-2 : goal.same_expression-returns-else-eq-2
same_expression-returns-else-eq-2 n c = same_variant tag_of_expression parts_of_expression c.in-Binary.is c.in-Binary-y.is (expression_binary c.in-Binary.a c.in-Binary.b c.in-Binary.c) (expression_binary c.in-Binary-y.other_a c.in-Binary-y.other_b c.in-Binary-y.other_c) refl (differs_leaf c.if-eq-2.false (c.if-eq-2.ensures))

pub same_expression-returns-else-same_expression : goal.same_expression-returns-else-same_expression
same_expression-returns-else-same_expression n c = same_variant tag_of_expression parts_of_expression c.in-Binary.is c.in-Binary-y.is (expression_binary c.in-Binary.a c.in-Binary.b c.in-Binary.c) (expression_binary c.in-Binary-y.other_a c.in-Binary-y.other_b c.in-Binary-y.other_c) refl (and_then_leaf (c.if-eq-2.ensures) (differs c.if-same_expression.false (behind tag_of_expression parts_of_expression c.deref-then-eq-2.ensures c.deref-then-eq-2-2.ensures c.if-same_expression.ensures)))

pub same_expression-returns-then-same_expression : goal.same_expression-returns-then-same_expression
same_expression-returns-then-same_expression n c = same_variant tag_of_expression parts_of_expression c.in-Binary.is c.in-Binary-y.is (expression_binary c.in-Binary.a c.in-Binary.b c.in-Binary.c) (expression_binary c.in-Binary-y.other_a c.in-Binary-y.other_b c.in-Binary-y.other_c) refl (and_then_leaf (c.if-eq-2.ensures) (and_then (behind tag_of_expression parts_of_expression c.deref-then-eq-2.ensures c.deref-then-eq-2-2.ensures c.if-same_expression.ensures) (last (behind tag_of_expression parts_of_expression c.deref-then-same_expression.ensures c.deref-then-same_expression-2.ensures c.same_expression-then-same_expression.ensures))))

pub same_expression-returns-in_default-y : goal.same_expression-returns-in_default-y
same_expression-returns-in_default-y n c = other_variant tag_of_expression parts_of_expression c.args.y.now c.in-Binary.is (other_expression (code Tag.ExpressionBinary) c.args.y.now c.in_default-y.not-Binary)

pub same_expression-returns-else-eq-3 : goal.same_expression-returns-else-eq-3
same_expression-returns-else-eq-3 n c = same_variant tag_of_expression parts_of_expression c.in-Ternary.is c.in-Ternary-y.is (expression_ternary c.in-Ternary.a c.in-Ternary.b c.in-Ternary.c c.in-Ternary.d) (expression_ternary c.in-Ternary-y.other_a c.in-Ternary-y.other_b c.in-Ternary-y.other_c c.in-Ternary-y.other_d) refl (differs_leaf c.if-eq-3.false (c.if-eq-3.ensures))

pub same_expression-returns-else-same_expression-2 : goal.same_expression-returns-else-same_expression-2
same_expression-returns-else-same_expression-2 n c = same_variant tag_of_expression parts_of_expression c.in-Ternary.is c.in-Ternary-y.is (expression_ternary c.in-Ternary.a c.in-Ternary.b c.in-Ternary.c c.in-Ternary.d) (expression_ternary c.in-Ternary-y.other_a c.in-Ternary-y.other_b c.in-Ternary-y.other_c c.in-Ternary-y.other_d) refl (and_then_leaf (c.if-eq-3.ensures) (differs c.if-same_expression-2.false (behind tag_of_expression parts_of_expression c.deref-then-eq-3.ensures c.deref-then-eq-3-2.ensures c.if-same_expression-2.ensures)))

pub same_expression-returns-else-same_expression-3 : goal.same_expression-returns-else-same_expression-3
same_expression-returns-else-same_expression-3 n c = same_variant tag_of_expression parts_of_expression c.in-Ternary.is c.in-Ternary-y.is (expression_ternary c.in-Ternary.a c.in-Ternary.b c.in-Ternary.c c.in-Ternary.d) (expression_ternary c.in-Ternary-y.other_a c.in-Ternary-y.other_b c.in-Ternary-y.other_c c.in-Ternary-y.other_d) refl (and_then_leaf (c.if-eq-3.ensures) (and_then (behind tag_of_expression parts_of_expression c.deref-then-eq-3.ensures c.deref-then-eq-3-2.ensures c.if-same_expression-2.ensures) (differs c.if-same_expression-3.false (behind tag_of_expression parts_of_expression c.deref-then-same_expression-2-2.ensures c.deref-then-same_expression-2-3.ensures c.if-same_expression-3.ensures))))

pub same_expression-returns-then-same_expression-3 : goal.same_expression-returns-then-same_expression-3
same_expression-returns-then-same_expression-3 n c = same_variant tag_of_expression parts_of_expression c.in-Ternary.is c.in-Ternary-y.is (expression_ternary c.in-Ternary.a c.in-Ternary.b c.in-Ternary.c c.in-Ternary.d) (expression_ternary c.in-Ternary-y.other_a c.in-Ternary-y.other_b c.in-Ternary-y.other_c c.in-Ternary-y.other_d) refl (and_then_leaf (c.if-eq-3.ensures) (and_then (behind tag_of_expression parts_of_expression c.deref-then-eq-3.ensures c.deref-then-eq-3-2.ensures c.if-same_expression-2.ensures) (and_then (behind tag_of_expression parts_of_expression c.deref-then-same_expression-2-2.ensures c.deref-then-same_expression-2-3.ensures c.if-same_expression-3.ensures) (last (behind tag_of_expression parts_of_expression c.deref-then-same_expression-3.ensures c.deref-then-same_expression-3-2.ensures c.same_expression-then-same_expression-3.ensures)))))

pub same_expression-returns-in_default-y-2 : goal.same_expression-returns-in_default-y-2
same_expression-returns-in_default-y-2 n c = other_variant tag_of_expression parts_of_expression c.args.y.now c.in-Ternary.is (other_expression (code Tag.ExpressionTernary) c.args.y.now c.in_default-y-2.not-Ternary)

pub same_expression-returns-in-PrefixInc-y : goal.same_expression-returns-in-PrefixInc-y
same_expression-returns-in-PrefixInc-y n c = same_variant tag_of_expression parts_of_expression c.in-PrefixInc.is c.in-PrefixInc-y.is (expression_prefix_inc c.in-PrefixInc.a) (expression_prefix_inc c.in-PrefixInc-y.other_a) refl (last (behind tag_of_expression parts_of_expression c.deref-in-PrefixInc-y.ensures c.deref-in-PrefixInc-y-2.ensures c.same_expression-in-PrefixInc-y.ensures))

pub same_expression-returns-in_default-y-3 : goal.same_expression-returns-in_default-y-3
same_expression-returns-in_default-y-3 n c = other_variant tag_of_expression parts_of_expression c.args.y.now c.in-PrefixInc.is (other_expression (code Tag.ExpressionPrefixInc) c.args.y.now c.in_default-y-3.not-PrefixInc)

pub same_expression-returns-in-PrefixDec-y : goal.same_expression-returns-in-PrefixDec-y
same_expression-returns-in-PrefixDec-y n c = same_variant tag_of_expression parts_of_expression c.in-PrefixDec.is c.in-PrefixDec-y.is (expression_prefix_dec c.in-PrefixDec.a) (expression_prefix_dec c.in-PrefixDec-y.other_a) refl (last (behind tag_of_expression parts_of_expression c.deref-in-PrefixDec-y.ensures c.deref-in-PrefixDec-y-2.ensures c.same_expression-in-PrefixDec-y.ensures))

pub same_expression-returns-in_default-y-4 : goal.same_expression-returns-in_default-y-4
same_expression-returns-in_default-y-4 n c = other_variant tag_of_expression parts_of_expression c.args.y.now c.in-PrefixDec.is (other_expression (code Tag.ExpressionPrefixDec) c.args.y.now c.in_default-y-4.not-PrefixDec)

pub same_expression-returns-else-same_expression-4 : goal.same_expression-returns-else-same_expression-4
same_expression-returns-else-same_expression-4 n c = same_variant tag_of_expression parts_of_expression c.in-Call.is c.in-Call-y.is (expression_call c.in-Call.a c.in-Call.b) (expression_call c.in-Call-y.other_a c.in-Call-y.other_b) refl (differs c.if-same_expression-4.false (behind tag_of_expression parts_of_expression c.deref-in-Call-y.ensures c.deref-in-Call-y-2.ensures c.if-same_expression-4.ensures))

pub same_expression-returns-then-same_expression-4 : goal.same_expression-returns-then-same_expression-4
same_expression-returns-then-same_expression-4 n c = same_variant tag_of_expression parts_of_expression c.in-Call.is c.in-Call-y.is (expression_call c.in-Call.a c.in-Call.b) (expression_call c.in-Call-y.other_a c.in-Call-y.other_b) refl (and_then (behind tag_of_expression parts_of_expression c.deref-in-Call-y.ensures c.deref-in-Call-y-2.ensures c.if-same_expression-4.ensures) (last (behind_list tag_of_expression parts_of_expression c.deref-then-same_expression-4.ensures.value c.deref-then-same_expression-4-2.ensures.value c.same_expressions.ensures)))

pub same_expression-returns-in_default-y-5 : goal.same_expression-returns-in_default-y-5
same_expression-returns-in_default-y-5 n c = other_variant tag_of_expression parts_of_expression c.args.y.now c.in-Call.is (other_expression (code Tag.ExpressionCall) c.args.y.now c.in_default-y-5.not-Call)

pub same_expression-returns-else-eq-4 : goal.same_expression-returns-else-eq-4
same_expression-returns-else-eq-4 n c = same_variant tag_of_expression parts_of_expression c.in-ConversionOne.is c.in-ConversionOne-y.is (expression_conversion_one c.in-ConversionOne.a c.in-ConversionOne.b) (expression_conversion_one c.in-ConversionOne-y.other_a c.in-ConversionOne-y.other_b) refl (differs_leaf c.if-eq-4.false (c.if-eq-4.ensures))

pub same_expression-returns-then-eq-4 : goal.same_expression-returns-then-eq-4
same_expression-returns-then-eq-4 n c = same_variant tag_of_expression parts_of_expression c.in-ConversionOne.is c.in-ConversionOne-y.is (expression_conversion_one c.in-ConversionOne.a c.in-ConversionOne.b) (expression_conversion_one c.in-ConversionOne-y.other_a c.in-ConversionOne-y.other_b) refl (and_then_leaf (c.if-eq-4.ensures) (last (behind tag_of_expression parts_of_expression c.deref-then-eq-4.ensures c.deref-then-eq-4-2.ensures c.same_expression-then-eq-4.ensures)))

pub same_expression-returns-in_default-y-6 : goal.same_expression-returns-in_default-y-6
same_expression-returns-in_default-y-6 n c = other_variant tag_of_expression parts_of_expression c.args.y.now c.in-ConversionOne.is (other_expression (code Tag.ExpressionConversionOne) c.args.y.now c.in_default-y-6.not-ConversionOne)

pub same_expression-returns-else-eq-5 : goal.same_expression-returns-else-eq-5
same_expression-returns-else-eq-5 n c = same_variant tag_of_expression parts_of_expression c.in-ConversionMany.is c.in-ConversionMany-y.is (expression_conversion_many c.in-ConversionMany.a c.in-ConversionMany.b) (expression_conversion_many c.in-ConversionMany-y.other_a c.in-ConversionMany-y.other_b) refl (differs_leaf c.if-eq-5.false (c.if-eq-5.ensures))

pub same_expression-returns-then-eq-5 : goal.same_expression-returns-then-eq-5
same_expression-returns-then-eq-5 n c = same_variant tag_of_expression parts_of_expression c.in-ConversionMany.is c.in-ConversionMany-y.is (expression_conversion_many c.in-ConversionMany.a c.in-ConversionMany.b) (expression_conversion_many c.in-ConversionMany-y.other_a c.in-ConversionMany-y.other_b) refl (and_then_leaf (c.if-eq-5.ensures) (last (behind_list tag_of_expression parts_of_expression c.deref-then-eq-5.ensures.value c.deref-then-eq-5-2.ensures.value c.same_expressions-then-eq-5.ensures)))

pub same_expression-returns-in_default-y-7 : goal.same_expression-returns-in_default-y-7
same_expression-returns-in_default-y-7 n c = other_variant tag_of_expression parts_of_expression c.args.y.now c.in-ConversionMany.is (other_expression (code Tag.ExpressionConversionMany) c.args.y.now c.in_default-y-7.not-ConversionMany)

pub same_expression-returns-else-eq-6 : goal.same_expression-returns-else-eq-6
same_expression-returns-else-eq-6 n c = same_variant tag_of_expression parts_of_expression c.in-ConversionBraced.is c.in-ConversionBraced-y.is (expression_conversion_braced c.in-ConversionBraced.a c.in-ConversionBraced.b) (expression_conversion_braced c.in-ConversionBraced-y.other_a c.in-ConversionBraced-y.other_b) refl (differs_leaf c.if-eq-6.false (c.if-eq-6.ensures))

pub same_expression-returns-then-eq-6 : goal.same_expression-returns-then-eq-6
same_expression-returns-then-eq-6 n c = same_variant tag_of_expression parts_of_expression c.in-ConversionBraced.is c.in-ConversionBraced-y.is (expression_conversion_braced c.in-ConversionBraced.a c.in-ConversionBraced.b) (expression_conversion_braced c.in-ConversionBraced-y.other_a c.in-ConversionBraced-y.other_b) refl (and_then_leaf (c.if-eq-6.ensures) (last (behind_list tag_of_expression parts_of_expression c.deref-then-eq-6.ensures.value c.deref-then-eq-6-2.ensures.value c.same_expressions-then-eq-6.ensures)))

pub same_expression-returns-in_default-y-8 : goal.same_expression-returns-in_default-y-8
same_expression-returns-in_default-y-8 n c = other_variant tag_of_expression parts_of_expression c.args.y.now c.in-ConversionBraced.is (other_expression (code Tag.ExpressionConversionBraced) c.args.y.now c.in_default-y-8.not-ConversionBraced)

pub same_expression-returns-in-BracedInitList-y : goal.same_expression-returns-in-BracedInitList-y
same_expression-returns-in-BracedInitList-y n c = same_variant tag_of_expression parts_of_expression c.in-BracedInitList.is c.in-BracedInitList-y.is (expression_braced_init_list c.in-BracedInitList.a) (expression_braced_init_list c.in-BracedInitList-y.other_a) refl (last (behind_list tag_of_expression parts_of_expression c.deref-in-BracedInitList-y.ensures.value c.deref-in-BracedInitList-y-2.ensures.value c.same_expressions-in-BracedInitList-y.ensures))

pub same_expression-returns-in_default-y-9 : goal.same_expression-returns-in_default-y-9
same_expression-returns-in_default-y-9 n c = other_variant tag_of_expression parts_of_expression c.args.y.now c.in-BracedInitList.is (other_expression (code Tag.ExpressionBracedInitList) c.args.y.now c.in_default-y-9.not-BracedInitList)

pub same_expression-returns-else-same_expressions : goal.same_expression-returns-else-same_expressions
same_expression-returns-else-same_expressions n c = same_variant tag_of_expression parts_of_expression c.in-New.is c.in-New-y.is (expression_new c.in-New.a c.in-New.b c.in-New.c) (expression_new c.in-New-y.other_a c.in-New-y.other_b c.in-New-y.other_c) refl (differs c.if-same_expressions.false (behind_list tag_of_expression parts_of_expression c.deref-in-New-y.ensures.value c.deref-in-New-y-2.ensures.value c.if-same_expressions.ensures))

pub same_expression-returns-else-eq-7 : goal.same_expression-returns-else-eq-7
same_expression-returns-else-eq-7 n c = same_variant tag_of_expression parts_of_expression c.in-New.is c.in-New-y.is (expression_new c.in-New.a c.in-New.b c.in-New.c) (expression_new c.in-New-y.other_a c.in-New-y.other_b c.in-New-y.other_c) refl (and_then (behind_list tag_of_expression parts_of_expression c.deref-in-New-y.ensures.value c.deref-in-New-y-2.ensures.value c.if-same_expressions.ensures) (differs_leaf c.if-eq-7.false (c.if-eq-7.ensures)))

pub same_expression-returns-then-eq-7 : goal.same_expression-returns-then-eq-7
same_expression-returns-then-eq-7 n c = same_variant tag_of_expression parts_of_expression c.in-New.is c.in-New-y.is (expression_new c.in-New.a c.in-New.b c.in-New.c) (expression_new c.in-New-y.other_a c.in-New-y.other_b c.in-New-y.other_c) refl (and_then (behind_list tag_of_expression parts_of_expression c.deref-in-New-y.ensures.value c.deref-in-New-y-2.ensures.value c.if-same_expressions.ensures) (and_then_leaf (c.if-eq-7.ensures) (last (c.same_optional_initializer.ensures))))

pub same_expression-returns-in_default-y-10 : goal.same_expression-returns-in_default-y-10
same_expression-returns-in_default-y-10 n c = other_variant tag_of_expression parts_of_expression c.args.y.now c.in-New.is (other_expression (code Tag.ExpressionNew) c.args.y.now c.in_default-y-10.not-New)

pub same_expression-returns-else-same_expressions-2 : goal.same_expression-returns-else-same_expressions-2
same_expression-returns-else-same_expressions-2 n c = same_variant tag_of_expression parts_of_expression c.in-GlobalNew.is c.in-GlobalNew-y.is (expression_global_new c.in-GlobalNew.a c.in-GlobalNew.b c.in-GlobalNew.c) (expression_global_new c.in-GlobalNew-y.other_a c.in-GlobalNew-y.other_b c.in-GlobalNew-y.other_c) refl (differs c.if-same_expressions-2.false (behind_list tag_of_expression parts_of_expression c.deref-in-GlobalNew-y.ensures.value c.deref-in-GlobalNew-y-2.ensures.value c.if-same_expressions-2.ensures))

pub same_expression-returns-else-eq-8 : goal.same_expression-returns-else-eq-8
same_expression-returns-else-eq-8 n c = same_variant tag_of_expression parts_of_expression c.in-GlobalNew.is c.in-GlobalNew-y.is (expression_global_new c.in-GlobalNew.a c.in-GlobalNew.b c.in-GlobalNew.c) (expression_global_new c.in-GlobalNew-y.other_a c.in-GlobalNew-y.other_b c.in-GlobalNew-y.other_c) refl (and_then (behind_list tag_of_expression parts_of_expression c.deref-in-GlobalNew-y.ensures.value c.deref-in-GlobalNew-y-2.ensures.value c.if-same_expressions-2.ensures) (differs_leaf c.if-eq-8.false (c.if-eq-8.ensures)))

pub same_expression-returns-then-eq-8 : goal.same_expression-returns-then-eq-8
same_expression-returns-then-eq-8 n c = same_variant tag_of_expression parts_of_expression c.in-GlobalNew.is c.in-GlobalNew-y.is (expression_global_new c.in-GlobalNew.a c.in-GlobalNew.b c.in-GlobalNew.c) (expression_global_new c.in-GlobalNew-y.other_a c.in-GlobalNew-y.other_b c.in-GlobalNew-y.other_c) refl (and_then (behind_list tag_of_expression parts_of_expression c.deref-in-GlobalNew-y.ensures.value c.deref-in-GlobalNew-y-2.ensures.value c.if-same_expressions-2.ensures) (and_then_leaf (c.if-eq-8.ensures) (last (c.same_optional_initializer-then-eq-8.ensures))))

pub same_expression-returns-in_default-y-11 : goal.same_expression-returns-in_default-y-11
same_expression-returns-in_default-y-11 n c = other_variant tag_of_expression parts_of_expression c.args.y.now c.in-GlobalNew.is (other_expression (code Tag.ExpressionGlobalNew) c.args.y.now c.in_default-y-11.not-GlobalNew)

pub same_expression-returns-else-same_expressions-3 : goal.same_expression-returns-else-same_expressions-3
same_expression-returns-else-same_expressions-3 n c = same_variant tag_of_expression parts_of_expression c.in-NewArray.is c.in-NewArray-y.is (expression_new_array c.in-NewArray.a c.in-NewArray.b c.in-NewArray.c) (expression_new_array c.in-NewArray-y.other_a c.in-NewArray-y.other_b c.in-NewArray-y.other_c) refl (differs c.if-same_expressions-3.false (behind_list tag_of_expression parts_of_expression c.deref-in-NewArray-y.ensures.value c.deref-in-NewArray-y-2.ensures.value c.if-same_expressions-3.ensures))

pub same_expression-returns-else-eq-9 : goal.same_expression-returns-else-eq-9
same_expression-returns-else-eq-9 n c = same_variant tag_of_expression parts_of_expression c.in-NewArray.is c.in-NewArray-y.is (expression_new_array c.in-NewArray.a c.in-NewArray.b c.in-NewArray.c) (expression_new_array c.in-NewArray-y.other_a c.in-NewArray-y.other_b c.in-NewArray-y.other_c) refl (and_then (behind_list tag_of_expression parts_of_expression c.deref-in-NewArray-y.ensures.value c.deref-in-NewArray-y-2.ensures.value c.if-same_expressions-3.ensures) (differs_leaf c.if-eq-9.false (c.if-eq-9.ensures)))

pub same_expression-returns-then-eq-9 : goal.same_expression-returns-then-eq-9
same_expression-returns-then-eq-9 n c = same_variant tag_of_expression parts_of_expression c.in-NewArray.is c.in-NewArray-y.is (expression_new_array c.in-NewArray.a c.in-NewArray.b c.in-NewArray.c) (expression_new_array c.in-NewArray-y.other_a c.in-NewArray-y.other_b c.in-NewArray-y.other_c) refl (and_then (behind_list tag_of_expression parts_of_expression c.deref-in-NewArray-y.ensures.value c.deref-in-NewArray-y-2.ensures.value c.if-same_expressions-3.ensures) (and_then_leaf (c.if-eq-9.ensures) (last (c.same_optional_initializer-then-eq-9.ensures))))

pub same_expression-returns-in_default-y-12 : goal.same_expression-returns-in_default-y-12
same_expression-returns-in_default-y-12 n c = other_variant tag_of_expression parts_of_expression c.args.y.now c.in-NewArray.is (other_expression (code Tag.ExpressionNewArray) c.args.y.now c.in_default-y-12.not-NewArray)

pub same_expression-returns-else-same_expressions-4 : goal.same_expression-returns-else-same_expressions-4
same_expression-returns-else-same_expressions-4 n c = same_variant tag_of_expression parts_of_expression c.in-GlobalNewArray.is c.in-GlobalNewArray-y.is (expression_global_new_array c.in-GlobalNewArray.a c.in-GlobalNewArray.b c.in-GlobalNewArray.c) (expression_global_new_array c.in-GlobalNewArray-y.other_a c.in-GlobalNewArray-y.other_b c.in-GlobalNewArray-y.other_c) refl (differs c.if-same_expressions-4.false (behind_list tag_of_expression parts_of_expression c.deref-in-GlobalNewArray-y.ensures.value c.deref-in-GlobalNewArray-y-2.ensures.value c.if-same_expressions-4.ensures))

pub same_expression-returns-else-eq-10 : goal.same_expression-returns-else-eq-10
same_expression-returns-else-eq-10 n c = same_variant tag_of_expression parts_of_expression c.in-GlobalNewArray.is c.in-GlobalNewArray-y.is (expression_global_new_array c.in-GlobalNewArray.a c.in-GlobalNewArray.b c.in-GlobalNewArray.c) (expression_global_new_array c.in-GlobalNewArray-y.other_a c.in-GlobalNewArray-y.other_b c.in-GlobalNewArray-y.other_c) refl (and_then (behind_list tag_of_expression parts_of_expression c.deref-in-GlobalNewArray-y.ensures.value c.deref-in-GlobalNewArray-y-2.ensures.value c.if-same_expressions-4.ensures) (differs_leaf c.if-eq-10.false (c.if-eq-10.ensures)))

pub same_expression-returns-then-eq-10 : goal.same_expression-returns-then-eq-10
same_expression-returns-then-eq-10 n c = same_variant tag_of_expression parts_of_expression c.in-GlobalNewArray.is c.in-GlobalNewArray-y.is (expression_global_new_array c.in-GlobalNewArray.a c.in-GlobalNewArray.b c.in-GlobalNewArray.c) (expression_global_new_array c.in-GlobalNewArray-y.other_a c.in-GlobalNewArray-y.other_b c.in-GlobalNewArray-y.other_c) refl (and_then (behind_list tag_of_expression parts_of_expression c.deref-in-GlobalNewArray-y.ensures.value c.deref-in-GlobalNewArray-y-2.ensures.value c.if-same_expressions-4.ensures) (and_then_leaf (c.if-eq-10.ensures) (last (c.same_optional_initializer-then-eq-10.ensures))))

pub same_expression-returns-in_default-y-13 : goal.same_expression-returns-in_default-y-13
same_expression-returns-in_default-y-13 n c = other_variant tag_of_expression parts_of_expression c.args.y.now c.in-GlobalNewArray.is (other_expression (code Tag.ExpressionGlobalNewArray) c.args.y.now c.in_default-y-13.not-GlobalNewArray)

pub same_expression-returns-in-Delete-y : goal.same_expression-returns-in-Delete-y
same_expression-returns-in-Delete-y n c = same_variant tag_of_expression parts_of_expression c.in-Delete.is c.in-Delete-y.is (expression_delete c.in-Delete.a) (expression_delete c.in-Delete-y.other_a) refl (last (behind tag_of_expression parts_of_expression c.deref-in-Delete-y.ensures c.deref-in-Delete-y-2.ensures c.same_expression-in-Delete-y.ensures))

pub same_expression-returns-in_default-y-14 : goal.same_expression-returns-in_default-y-14
same_expression-returns-in_default-y-14 n c = other_variant tag_of_expression parts_of_expression c.args.y.now c.in-Delete.is (other_expression (code Tag.ExpressionDelete) c.args.y.now c.in_default-y-14.not-Delete)

pub same_expression-returns-in-GlobalDelete-y : goal.same_expression-returns-in-GlobalDelete-y
same_expression-returns-in-GlobalDelete-y n c = same_variant tag_of_expression parts_of_expression c.in-GlobalDelete.is c.in-GlobalDelete-y.is (expression_global_delete c.in-GlobalDelete.a) (expression_global_delete c.in-GlobalDelete-y.other_a) refl (last (behind tag_of_expression parts_of_expression c.deref-in-GlobalDelete-y.ensures c.deref-in-GlobalDelete-y-2.ensures c.same_expression-in-GlobalDelete-y.ensures))

pub same_expression-returns-in_default-y-15 : goal.same_expression-returns-in_default-y-15
same_expression-returns-in_default-y-15 n c = other_variant tag_of_expression parts_of_expression c.args.y.now c.in-GlobalDelete.is (other_expression (code Tag.ExpressionGlobalDelete) c.args.y.now c.in_default-y-15.not-GlobalDelete)

pub same_expression-returns-in-DeleteArray-y : goal.same_expression-returns-in-DeleteArray-y
same_expression-returns-in-DeleteArray-y n c = same_variant tag_of_expression parts_of_expression c.in-DeleteArray.is c.in-DeleteArray-y.is (expression_delete_array c.in-DeleteArray.a) (expression_delete_array c.in-DeleteArray-y.other_a) refl (last (behind tag_of_expression parts_of_expression c.deref-in-DeleteArray-y.ensures c.deref-in-DeleteArray-y-2.ensures c.same_expression-in-DeleteArray-y.ensures))

pub same_expression-returns-in_default-y-16 : goal.same_expression-returns-in_default-y-16
same_expression-returns-in_default-y-16 n c = other_variant tag_of_expression parts_of_expression c.args.y.now c.in-DeleteArray.is (other_expression (code Tag.ExpressionDeleteArray) c.args.y.now c.in_default-y-16.not-DeleteArray)

pub same_expression-returns-in-GlobalDeleteArray-y : goal.same_expression-returns-in-GlobalDeleteArray-y
same_expression-returns-in-GlobalDeleteArray-y n c = same_variant tag_of_expression parts_of_expression c.in-GlobalDeleteArray.is c.in-GlobalDeleteArray-y.is (expression_global_delete_array c.in-GlobalDeleteArray.a) (expression_global_delete_array c.in-GlobalDeleteArray-y.other_a) refl (last (behind tag_of_expression parts_of_expression c.deref-in-GlobalDeleteArray-y.ensures c.deref-in-GlobalDeleteArray-y-2.ensures c.same_expression-in-GlobalDeleteArray-y.ensures))

pub same_expression-returns-in_default-y-17 : goal.same_expression-returns-in_default-y-17
same_expression-returns-in_default-y-17 n c = other_variant tag_of_expression parts_of_expression c.args.y.now c.in-GlobalDeleteArray.is (other_expression (code Tag.ExpressionGlobalDeleteArray) c.args.y.now c.in_default-y-17.not-GlobalDeleteArray)

pub same_expression-returns-else-eq-11 : goal.same_expression-returns-else-eq-11
same_expression-returns-else-eq-11 n c = same_variant tag_of_expression parts_of_expression c.in-DynamicCast.is c.in-DynamicCast-y.is (expression_dynamic_cast c.in-DynamicCast.a c.in-DynamicCast.b) (expression_dynamic_cast c.in-DynamicCast-y.other_a c.in-DynamicCast-y.other_b) refl (differs_leaf c.if-eq-11.false (c.if-eq-11.ensures))

pub same_expression-returns-then-eq-11 : goal.same_expression-returns-then-eq-11
same_expression-returns-then-eq-11 n c = same_variant tag_of_expression parts_of_expression c.in-DynamicCast.is c.in-DynamicCast-y.is (expression_dynamic_cast c.in-DynamicCast.a c.in-DynamicCast.b) (expression_dynamic_cast c.in-DynamicCast-y.other_a c.in-DynamicCast-y.other_b) refl (and_then_leaf (c.if-eq-11.ensures) (last (behind tag_of_expression parts_of_expression c.deref-then-eq-11.ensures c.deref-then-eq-11-2.ensures c.same_expression-then-eq-11.ensures)))

pub same_expression-returns-in_default-y-18 : goal.same_expression-returns-in_default-y-18
same_expression-returns-in_default-y-18 n c = other_variant tag_of_expression parts_of_expression c.args.y.now c.in-DynamicCast.is (other_expression (code Tag.ExpressionDynamicCast) c.args.y.now c.in_default-y-18.not-DynamicCast)

pub same_expression-returns-else-eq-12 : goal.same_expression-returns-else-eq-12
same_expression-returns-else-eq-12 n c = same_variant tag_of_expression parts_of_expression c.in-StaticCast.is c.in-StaticCast-y.is (expression_static_cast c.in-StaticCast.a c.in-StaticCast.b) (expression_static_cast c.in-StaticCast-y.other_a c.in-StaticCast-y.other_b) refl (differs_leaf c.if-eq-12.false (c.if-eq-12.ensures))

pub same_expression-returns-then-eq-12 : goal.same_expression-returns-then-eq-12
same_expression-returns-then-eq-12 n c = same_variant tag_of_expression parts_of_expression c.in-StaticCast.is c.in-StaticCast-y.is (expression_static_cast c.in-StaticCast.a c.in-StaticCast.b) (expression_static_cast c.in-StaticCast-y.other_a c.in-StaticCast-y.other_b) refl (and_then_leaf (c.if-eq-12.ensures) (last (behind tag_of_expression parts_of_expression c.deref-then-eq-12.ensures c.deref-then-eq-12-2.ensures c.same_expression-then-eq-12.ensures)))

pub same_expression-returns-in_default-y-19 : goal.same_expression-returns-in_default-y-19
same_expression-returns-in_default-y-19 n c = other_variant tag_of_expression parts_of_expression c.args.y.now c.in-StaticCast.is (other_expression (code Tag.ExpressionStaticCast) c.args.y.now c.in_default-y-19.not-StaticCast)

pub same_expression-returns-else-eq-13 : goal.same_expression-returns-else-eq-13
same_expression-returns-else-eq-13 n c = same_variant tag_of_expression parts_of_expression c.in-ConstCast.is c.in-ConstCast-y.is (expression_const_cast c.in-ConstCast.a c.in-ConstCast.b) (expression_const_cast c.in-ConstCast-y.other_a c.in-ConstCast-y.other_b) refl (differs_leaf c.if-eq-13.false (c.if-eq-13.ensures))

pub same_expression-returns-then-eq-13 : goal.same_expression-returns-then-eq-13
same_expression-returns-then-eq-13 n c = same_variant tag_of_expression parts_of_expression c.in-ConstCast.is c.in-ConstCast-y.is (expression_const_cast c.in-ConstCast.a c.in-ConstCast.b) (expression_const_cast c.in-ConstCast-y.other_a c.in-ConstCast-y.other_b) refl (and_then_leaf (c.if-eq-13.ensures) (last (behind tag_of_expression parts_of_expression c.deref-then-eq-13.ensures c.deref-then-eq-13-2.ensures c.same_expression-then-eq-13.ensures)))

pub same_expression-returns-in_default-y-20 : goal.same_expression-returns-in_default-y-20
same_expression-returns-in_default-y-20 n c = other_variant tag_of_expression parts_of_expression c.args.y.now c.in-ConstCast.is (other_expression (code Tag.ExpressionConstCast) c.args.y.now c.in_default-y-20.not-ConstCast)

pub same_expression-returns-else-eq-14 : goal.same_expression-returns-else-eq-14
same_expression-returns-else-eq-14 n c = same_variant tag_of_expression parts_of_expression c.in-ReinterpretCast.is c.in-ReinterpretCast-y.is (expression_reinterpret_cast c.in-ReinterpretCast.a c.in-ReinterpretCast.b) (expression_reinterpret_cast c.in-ReinterpretCast-y.other_a c.in-ReinterpretCast-y.other_b) refl (differs_leaf c.if-eq-14.false (c.if-eq-14.ensures))

pub same_expression-returns-then-eq-14 : goal.same_expression-returns-then-eq-14
same_expression-returns-then-eq-14 n c = same_variant tag_of_expression parts_of_expression c.in-ReinterpretCast.is c.in-ReinterpretCast-y.is (expression_reinterpret_cast c.in-ReinterpretCast.a c.in-ReinterpretCast.b) (expression_reinterpret_cast c.in-ReinterpretCast-y.other_a c.in-ReinterpretCast-y.other_b) refl (and_then_leaf (c.if-eq-14.ensures) (last (behind tag_of_expression parts_of_expression c.deref-then-eq-14.ensures c.deref-then-eq-14-2.ensures c.same_expression-then-eq-14.ensures)))

pub same_expression-returns-in_default-y-21 : goal.same_expression-returns-in_default-y-21
same_expression-returns-in_default-y-21 n c = other_variant tag_of_expression parts_of_expression c.args.y.now c.in-ReinterpretCast.is (other_expression (code Tag.ExpressionReinterpretCast) c.args.y.now c.in_default-y-21.not-ReinterpretCast)

pub same_expression-returns-in-TypeidType-y : goal.same_expression-returns-in-TypeidType-y
same_expression-returns-in-TypeidType-y n c = same_variant tag_of_expression parts_of_expression c.in-TypeidType.is c.in-TypeidType-y.is (expression_typeid_type c.in-TypeidType.a) (expression_typeid_type c.in-TypeidType-y.other_a) refl (last_leaf (c.eq-in-TypeidType-y.ensures))

pub same_expression-returns-in_default-y-22 : goal.same_expression-returns-in_default-y-22
same_expression-returns-in_default-y-22 n c = other_variant tag_of_expression parts_of_expression c.args.y.now c.in-TypeidType.is (other_expression (code Tag.ExpressionTypeidType) c.args.y.now c.in_default-y-22.not-TypeidType)

pub same_expression-returns-in-TypeidExpr-y : goal.same_expression-returns-in-TypeidExpr-y
same_expression-returns-in-TypeidExpr-y n c = same_variant tag_of_expression parts_of_expression c.in-TypeidExpr.is c.in-TypeidExpr-y.is (expression_typeid_expr c.in-TypeidExpr.a) (expression_typeid_expr c.in-TypeidExpr-y.other_a) refl (last (behind tag_of_expression parts_of_expression c.deref-in-TypeidExpr-y.ensures c.deref-in-TypeidExpr-y-2.ensures c.same_expression-in-TypeidExpr-y.ensures))

pub same_expression-returns-in_default-y-23 : goal.same_expression-returns-in_default-y-23
same_expression-returns-in_default-y-23 n c = other_variant tag_of_expression parts_of_expression c.args.y.now c.in-TypeidExpr.is (other_expression (code Tag.ExpressionTypeidExpr) c.args.y.now c.in_default-y-23.not-TypeidExpr)

pub same_expression-returns-in-SizeofType-y : goal.same_expression-returns-in-SizeofType-y
same_expression-returns-in-SizeofType-y n c = same_variant tag_of_expression parts_of_expression c.in-SizeofType.is c.in-SizeofType-y.is (expression_sizeof_type c.in-SizeofType.a) (expression_sizeof_type c.in-SizeofType-y.other_a) refl (last_leaf (c.eq-in-SizeofType-y.ensures))

pub same_expression-returns-in_default-y-24 : goal.same_expression-returns-in_default-y-24
same_expression-returns-in_default-y-24 n c = other_variant tag_of_expression parts_of_expression c.args.y.now c.in-SizeofType.is (other_expression (code Tag.ExpressionSizeofType) c.args.y.now c.in_default-y-24.not-SizeofType)

pub same_expression-returns-in-SizeofExpr-y : goal.same_expression-returns-in-SizeofExpr-y
same_expression-returns-in-SizeofExpr-y n c = same_variant tag_of_expression parts_of_expression c.in-SizeofExpr.is c.in-SizeofExpr-y.is (expression_sizeof_expr c.in-SizeofExpr.a) (expression_sizeof_expr c.in-SizeofExpr-y.other_a) refl (last (behind tag_of_expression parts_of_expression c.deref-in-SizeofExpr-y.ensures c.deref-in-SizeofExpr-y-2.ensures c.same_expression-in-SizeofExpr-y.ensures))

pub same_expression-returns-in_default-y-25 : goal.same_expression-returns-in_default-y-25
same_expression-returns-in_default-y-25 n c = other_variant tag_of_expression parts_of_expression c.args.y.now c.in-SizeofExpr.is (other_expression (code Tag.ExpressionSizeofExpr) c.args.y.now c.in_default-y-25.not-SizeofExpr)

pub same_expression-returns-in-AlignofType-y : goal.same_expression-returns-in-AlignofType-y
same_expression-returns-in-AlignofType-y n c = same_variant tag_of_expression parts_of_expression c.in-AlignofType.is c.in-AlignofType-y.is (expression_alignof_type c.in-AlignofType.a) (expression_alignof_type c.in-AlignofType-y.other_a) refl (last_leaf (c.eq-in-AlignofType-y.ensures))

pub same_expression-returns-in_default-y-26 : goal.same_expression-returns-in_default-y-26
same_expression-returns-in_default-y-26 n c = other_variant tag_of_expression parts_of_expression c.args.y.now c.in-AlignofType.is (other_expression (code Tag.ExpressionAlignofType) c.args.y.now c.in_default-y-26.not-AlignofType)

pub same_expression-returns-in-AlignofExpr-y : goal.same_expression-returns-in-AlignofExpr-y
same_expression-returns-in-AlignofExpr-y n c = same_variant tag_of_expression parts_of_expression c.in-AlignofExpr.is c.in-AlignofExpr-y.is (expression_alignof_expr c.in-AlignofExpr.a) (expression_alignof_expr c.in-AlignofExpr-y.other_a) refl (last (behind tag_of_expression parts_of_expression c.deref-in-AlignofExpr-y.ensures c.deref-in-AlignofExpr-y-2.ensures c.same_expression-in-AlignofExpr-y.ensures))

pub same_expression-returns-in_default-y-27 : goal.same_expression-returns-in_default-y-27
same_expression-returns-in_default-y-27 n c = other_variant tag_of_expression parts_of_expression c.args.y.now c.in-AlignofExpr.is (other_expression (code Tag.ExpressionAlignofExpr) c.args.y.now c.in_default-y-27.not-AlignofExpr)

pub same_expression-returns-in-Noexcept-y : goal.same_expression-returns-in-Noexcept-y
same_expression-returns-in-Noexcept-y n c = same_variant tag_of_expression parts_of_expression c.in-Noexcept.is c.in-Noexcept-y.is (expression_noexcept c.in-Noexcept.a) (expression_noexcept c.in-Noexcept-y.other_a) refl (last (behind tag_of_expression parts_of_expression c.deref-in-Noexcept-y.ensures c.deref-in-Noexcept-y-2.ensures c.same_expression-in-Noexcept-y.ensures))

pub same_expression-returns-in_default-y-28 : goal.same_expression-returns-in_default-y-28
same_expression-returns-in_default-y-28 n c = other_variant tag_of_expression parts_of_expression c.args.y.now c.in-Noexcept.is (other_expression (code Tag.ExpressionNoexcept) c.args.y.now c.in_default-y-28.not-Noexcept)

pub same_expression-returns-in-Subobject-y : goal.same_expression-returns-in-Subobject-y
same_expression-returns-in-Subobject-y n c = same_variant tag_of_expression parts_of_expression c.in-Subobject.is c.in-Subobject-y.is (expression_subobject c.in-Subobject.a) (expression_subobject c.in-Subobject-y.other_a) refl (last (c.same_subobject_expr.ensures))

pub same_expression-returns-in_default-y-29 : goal.same_expression-returns-in_default-y-29
same_expression-returns-in_default-y-29 n c = other_variant tag_of_expression parts_of_expression c.args.y.now c.in-Subobject.is (other_expression (code Tag.ExpressionSubobject) c.args.y.now c.in_default-y-29.not-Subobject)

pub same_expression-returns-in-TemplateParam-y : goal.same_expression-returns-in-TemplateParam-y
same_expression-returns-in-TemplateParam-y n c = same_variant tag_of_expression parts_of_expression c.in-TemplateParam.is c.in-TemplateParam-y.is (expression_template_param c.in-TemplateParam.a) (expression_template_param c.in-TemplateParam-y.other_a) refl (last_leaf (c.eq-in-TemplateParam-y.ensures))

pub same_expression-returns-in_default-y-30 : goal.same_expression-returns-in_default-y-30
same_expression-returns-in_default-y-30 n c = other_variant tag_of_expression parts_of_expression c.args.y.now c.in-TemplateParam.is (other_expression (code Tag.ExpressionTemplateParam) c.args.y.now c.in_default-y-30.not-TemplateParam)

pub same_expression-returns-in-FunctionParam-y : goal.same_expression-returns-in-FunctionParam-y
same_expression-returns-in-FunctionParam-y n c = same_variant tag_of_expression parts_of_expression c.in-FunctionParam.is c.in-FunctionParam-y.is (expression_function_param c.in-FunctionParam.a) (expression_function_param c.in-FunctionParam-y.other_a) refl (last_leaf (c.eq-in-FunctionParam-y.ensures))

pub same_expression-returns-in_default-y-31 : goal.same_expression-returns-in_default-y-31
same_expression-returns-in_default-y-31 n c = other_variant tag_of_expression parts_of_expression c.args.y.now c.in-FunctionParam.is (other_expression (code Tag.ExpressionFunctionParam) c.args.y.now c.in_default-y-31.not-FunctionParam)

pub same_expression-returns-else-same_expression-5 : goal.same_expression-returns-else-same_expression-5
same_expression-returns-else-same_expression-5 n c = same_variant tag_of_expression parts_of_expression c.in-Member.is c.in-Member-y.is (expression_member c.in-Member.a c.in-Member.b) (expression_member c.in-Member-y.other_a c.in-Member-y.other_b) refl (differs c.if-same_expression-5.false (behind tag_of_expression parts_of_expression c.deref-in-Member-y.ensures c.deref-in-Member-y-2.ensures c.if-same_expression-5.ensures))

pub same_expression-returns-then-same_expression-5 : goal.same_expression-returns-then-same_expression-5
same_expression-returns-then-same_expression-5 n c = same_variant tag_of_expression parts_of_expression c.in-Member.is c.in-Member-y.is (expression_member c.in-Member.a c.in-Member.b) (expression_member c.in-Member-y.other_a c.in-Member-y.other_b) refl (and_then (behind tag_of_expression parts_of_expression c.deref-in-Member-y.ensures c.deref-in-Member-y-2.ensures c.if-same_expression-5.ensures) (last (c.same_member_name.ensures)))

pub same_expression-returns-in_default-y-32 : goal.same_expression-returns-in_default-y-32
same_expression-returns-in_default-y-32 n c = other_variant tag_of_expression parts_of_expression c.args.y.now c.in-Member.is (other_expression (code Tag.ExpressionMember) c.args.y.now c.in_default-y-32.not-Member)

pub same_expression-returns-else-same_expression-6 : goal.same_expression-returns-else-same_expression-6
same_expression-returns-else-same_expression-6 n c = same_variant tag_of_expression parts_of_expression c.in-DerefMember.is c.in-DerefMember-y.is (expression_deref_member c.in-DerefMember.a c.in-DerefMember.b) (expression_deref_member c.in-DerefMember-y.other_a c.in-DerefMember-y.other_b) refl (differs c.if-same_expression-6.false (behind tag_of_expression parts_of_expression c.deref-in-DerefMember-y.ensures c.deref-in-DerefMember-y-2.ensures c.if-same_expression-6.ensures))

pub same_expression-returns-then-same_expression-6 : goal.same_expression-returns-then-same_expression-6
same_expression-returns-then-same_expression-6 n c = same_variant tag_of_expression parts_of_expression c.in-DerefMember.is c.in-DerefMember-y.is (expression_deref_member c.in-DerefMember.a c.in-DerefMember.b) (expression_deref_member c.in-DerefMember-y.other_a c.in-DerefMember-y.other_b) refl (and_then (behind tag_of_expression parts_of_expression c.deref-in-DerefMember-y.ensures c.deref-in-DerefMember-y-2.ensures c.if-same_expression-6.ensures) (last (c.same_member_name-then-same_expression-6.ensures)))

pub same_expression-returns-in_default-y-33 : goal.same_expression-returns-in_default-y-33
same_expression-returns-in_default-y-33 n c = other_variant tag_of_expression parts_of_expression c.args.y.now c.in-DerefMember.is (other_expression (code Tag.ExpressionDerefMember) c.args.y.now c.in_default-y-33.not-DerefMember)

pub same_expression-returns-else-same_expression-7 : goal.same_expression-returns-else-same_expression-7
same_expression-returns-else-same_expression-7 n c = same_variant tag_of_expression parts_of_expression c.in-PointerToMember.is c.in-PointerToMember-y.is (expression_pointer_to_member c.in-PointerToMember.a c.in-PointerToMember.b) (expression_pointer_to_member c.in-PointerToMember-y.other_a c.in-PointerToMember-y.other_b) refl (differs c.if-same_expression-7.false (behind tag_of_expression parts_of_expression c.deref-in-PointerToMember-y.ensures c.deref-in-PointerToMember-y-2.ensures c.if-same_expression-7.ensures))

pub same_expression-returns-then-same_expression-7 : goal.same_expression-returns-then-same_expression-7
same_expression-returns-then-same_expression-7 n c = same_variant tag_of_expression parts_of_expression c.in-PointerToMember.is c.in-PointerToMember-y.is (expression_pointer_to_member c.in-PointerToMember.a c.in-PointerToMember.b) (expression_pointer_to_member c.in-PointerToMember-y.other_a c.in-PointerToMember-y.other_b) refl (and_then (behind tag_of_expression parts_of_expression c.deref-in-PointerToMember-y.ensures c.deref-in-PointerToMember-y-2.ensures c.if-same_expression-7.ensures) (last (behind tag_of_expression parts_of_expression c.deref-then-same_expression-7.ensures c.deref-then-same_expression-7-2.ensures c.same_expression-then-same_expression-7.ensures)))

pub same_expression-returns-in_default-y-34 : goal.same_expression-returns-in_default-y-34
same_expression-returns-in_default-y-34 n c = other_variant tag_of_expression parts_of_expression c.args.y.now c.in-PointerToMember.is (other_expression (code Tag.ExpressionPointerToMember) c.args.y.now c.in_default-y-34.not-PointerToMember)

pub same_expression-returns-in-SizeofTemplatePack-y : goal.same_expression-returns-in-SizeofTemplatePack-y
same_expression-returns-in-SizeofTemplatePack-y n c = same_variant tag_of_expression parts_of_expression c.in-SizeofTemplatePack.is c.in-SizeofTemplatePack-y.is (expression_sizeof_template_pack c.in-SizeofTemplatePack.a) (expression_sizeof_template_pack c.in-SizeofTemplatePack-y.other_a) refl (last_leaf (c.eq-in-SizeofTemplatePack-y.ensures))

pub same_expression-returns-in_default-y-35 : goal.same_expression-returns-in_default-y-35
same_expression-returns-in_default-y-35 n c = other_variant tag_of_expression parts_of_expression c.args.y.now c.in-SizeofTemplatePack.is (other_expression (code Tag.ExpressionSizeofTemplatePack) c.args.y.now c.in_default-y-35.not-SizeofTemplatePack)

pub same_expression-returns-in-SizeofFunctionPack-y : goal.same_expression-returns-in-SizeofFunctionPack-y
same_expression-returns-in-SizeofFunctionPack-y n c = same_variant tag_of_expression parts_of_expression c.in-SizeofFunctionPack.is c.in-SizeofFunctionPack-y.is (expression_sizeof_function_pack c.in-SizeofFunctionPack.a) (expression_sizeof_function_pack c.in-SizeofFunctionPack-y.other_a) refl (last_leaf (c.eq-in-SizeofFunctionPack-y.ensures))

pub same_expression-returns-in_default-y-36 : goal.same_expression-returns-in_default-y-36
same_expression-returns-in_default-y-36 n c = other_variant tag_of_expression parts_of_expression c.args.y.now c.in-SizeofFunctionPack.is (other_expression (code Tag.ExpressionSizeofFunctionPack) c.args.y.now c.in_default-y-36.not-SizeofFunctionPack)

pub same_expression-returns-in-SizeofCapturedTemplatePack-y : goal.same_expression-returns-in-SizeofCapturedTemplatePack-y
same_expression-returns-in-SizeofCapturedTemplatePack-y n c = same_variant tag_of_expression parts_of_expression c.in-SizeofCapturedTemplatePack.is c.in-SizeofCapturedTemplatePack-y.is (expression_sizeof_captured_template_pack c.in-SizeofCapturedTemplatePack.a) (expression_sizeof_captured_template_pack c.in-SizeofCapturedTemplatePack-y.other_a) refl (last (behind_list tag_of_template_arg parts_of_template_arg c.deref-in-SizeofCapturedTemplatePack-y.ensures.value c.deref-in-SizeofCapturedTemplatePack-y-2.ensures.value c.same_argument_list.ensures))

pub same_expression-returns-in_default-y-37 : goal.same_expression-returns-in_default-y-37
same_expression-returns-in_default-y-37 n c = other_variant tag_of_expression parts_of_expression c.args.y.now c.in-SizeofCapturedTemplatePack.is (other_expression (code Tag.ExpressionSizeofCapturedTemplatePack) c.args.y.now c.in_default-y-37.not-SizeofCapturedTemplatePack)

pub same_expression-returns-in-PackExpansion-y : goal.same_expression-returns-in-PackExpansion-y
same_expression-returns-in-PackExpansion-y n c = same_variant tag_of_expression parts_of_expression c.in-PackExpansion.is c.in-PackExpansion-y.is (expression_pack_expansion c.in-PackExpansion.a) (expression_pack_expansion c.in-PackExpansion-y.other_a) refl (last (behind tag_of_expression parts_of_expression c.deref-in-PackExpansion-y.ensures c.deref-in-PackExpansion-y-2.ensures c.same_expression-in-PackExpansion-y.ensures))

pub same_expression-returns-in_default-y-38 : goal.same_expression-returns-in_default-y-38
same_expression-returns-in_default-y-38 n c = other_variant tag_of_expression parts_of_expression c.args.y.now c.in-PackExpansion.is (other_expression (code Tag.ExpressionPackExpansion) c.args.y.now c.in_default-y-38.not-PackExpansion)

pub same_expression-returns-in-Fold-y : goal.same_expression-returns-in-Fold-y
same_expression-returns-in-Fold-y n c = same_variant tag_of_expression parts_of_expression c.in-Fold.is c.in-Fold-y.is (expression_fold c.in-Fold.a) (expression_fold c.in-Fold-y.other_a) refl (last (c.same_fold_expr.ensures))

pub same_expression-returns-in_default-y-39 : goal.same_expression-returns-in_default-y-39
same_expression-returns-in_default-y-39 n c = other_variant tag_of_expression parts_of_expression c.args.y.now c.in-Fold.is (other_expression (code Tag.ExpressionFold) c.args.y.now c.in_default-y-39.not-Fold)

pub same_expression-returns-in-Throw-y : goal.same_expression-returns-in-Throw-y
same_expression-returns-in-Throw-y n c = same_variant tag_of_expression parts_of_expression c.in-Throw.is c.in-Throw-y.is (expression_throw c.in-Throw.a) (expression_throw c.in-Throw-y.other_a) refl (last (behind tag_of_expression parts_of_expression c.deref-in-Throw-y.ensures c.deref-in-Throw-y-2.ensures c.same_expression-in-Throw-y.ensures))

pub same_expression-returns-in_default-y-40 : goal.same_expression-returns-in_default-y-40
same_expression-returns-in_default-y-40 n c = other_variant tag_of_expression parts_of_expression c.args.y.now c.in-Throw.is (other_expression (code Tag.ExpressionThrow) c.args.y.now c.in_default-y-40.not-Throw)

pub same_expression-returns-in-Rethrow-y : goal.same_expression-returns-in-Rethrow-y
same_expression-returns-in-Rethrow-y n c = same_variant tag_of_expression parts_of_expression c.in-Rethrow.is c.in-Rethrow-y.is (expression_rethrow) (expression_rethrow) refl (last_leaf refl)

pub same_expression-returns-in_default-y-41 : goal.same_expression-returns-in_default-y-41
same_expression-returns-in_default-y-41 n c = other_variant tag_of_expression parts_of_expression c.args.y.now c.in-Rethrow.is (other_expression (code Tag.ExpressionRethrow) c.args.y.now c.in_default-y-41.not-Rethrow)

pub same_expression-returns-in-UnresolvedName-y : goal.same_expression-returns-in-UnresolvedName-y
same_expression-returns-in-UnresolvedName-y n c = same_variant tag_of_expression parts_of_expression c.in-UnresolvedName.is c.in-UnresolvedName-y.is (expression_unresolved_name c.in-UnresolvedName.a) (expression_unresolved_name c.in-UnresolvedName-y.other_a) refl (last (c.same_unresolved_name.ensures))

pub same_expression-returns-in_default-y-42 : goal.same_expression-returns-in_default-y-42
same_expression-returns-in_default-y-42 n c = other_variant tag_of_expression parts_of_expression c.args.y.now c.in-UnresolvedName.is (other_expression (code Tag.ExpressionUnresolvedName) c.args.y.now c.in_default-y-42.not-UnresolvedName)

pub same_expression-returns-in-Primary-y : goal.same_expression-returns-in-Primary-y
same_expression-returns-in-Primary-y n c = same_variant tag_of_expression parts_of_expression c.in-Primary.is c.in-Primary-y.is (expression_primary c.in-Primary.a) (expression_primary c.in-Primary-y.other_a) refl (last (c.same_expr_primary.ensures))

pub same_expression-returns-in_default-y-43 : goal.same_expression-returns-in_default-y-43
same_expression-returns-in_default-y-43 n c = other_variant tag_of_expression parts_of_expression c.args.y.now c.in-Primary.is (other_expression (code Tag.ExpressionPrimary) c.args.y.now c.in_default-y-43.not-Primary)

pub same_unresolved_name-returns-in-Name-y : goal.same_unresolved_name-returns-in-Name-y
same_unresolved_name-returns-in-Name-y n c = same_variant tag_of_unresolved_name parts_of_unresolved_name c.in-Name.is c.in-Name-y.is (unresolved_name_name c.in-Name.a) (unresolved_name_name c.in-Name-y.other_a) refl (last (c.same_base_unresolved_name.ensures))

pub same_unresolved_name-returns-in_default : goal.same_unresolved_name-returns-in_default
same_unresolved_name-returns-in_default n c = other_variant tag_of_unresolved_name parts_of_unresolved_name c.args.y.now c.in-Name.is (other_unresolved_name (code Tag.UnresolvedNameName) c.args.y.now c.in_default.not-Name)

pub same_unresolved_name-returns-in-Global-y : goal.same_unresolved_name-returns-in-Global-y
same_unresolved_name-returns-in-Global-y n c = same_variant tag_of_unresolved_name parts_of_unresolved_name c.in-Global.is c.in-Global-y.is (unresolved_name_global c.in-Global.a) (unresolved_name_global c.in-Global-y.other_a) refl (last (c.same_base_unresolved_name-in-Global-y.ensures))

pub same_unresolved_name-returns-in_default-y : goal.same_unresolved_name-returns-in_default-y
same_unresolved_name-returns-in_default-y n c = other_variant tag_of_unresolved_name parts_of_unresolved_name c.args.y.now c.in-Global.is (other_unresolved_name (code Tag.UnresolvedNameGlobal) c.args.y.now c.in_default-y.not-Global)

pub same_unresolved_name-returns-else-eq : goal.same_unresolved_name-returns-else-eq
same_unresolved_name-returns-else-eq n c = same_variant tag_of_unresolved_name parts_of_unresolved_name c.in-Nested1.is c.in-Nested1-y.is (unresolved_name_nested1 c.in-Nested1.a c.in-Nested1.b c.in-Nested1.c) (unresolved_name_nested1 c.in-Nested1-y.other_a c.in-Nested1-y.other_b c.in-Nested1-y.other_c) refl (differs_leaf c.if-eq.false (c.if-eq.ensures))

pub same_unresolved_name-returns-else-same_qualifier_levels : goal.same_unresolved_name-returns-else-same_qualifier_levels
same_unresolved_name-returns-else-same_qualifier_levels n c = same_variant tag_of_unresolved_name parts_of_unresolved_name c.in-Nested1.is c.in-Nested1-y.is (unresolved_name_nested1 c.in-Nested1.a c.in-Nested1.b c.in-Nested1.c) (unresolved_name_nested1 c.in-Nested1-y.other_a c.in-Nested1-y.other_b c.in-Nested1-y.other_c) refl (and_then_leaf (c.if-eq.ensures) (differs c.if-same_qualifier_levels.false (behind_list tag_of_unresolved_qualifier_level parts_of_unresolved_qualifier_level c.deref.ensures.value c.deref-then-eq.ensures.value c.if-same_qualifier_levels.ensures)))

pub same_unresolved_name-returns-then-same_qualifier_levels : goal.same_unresolved_name-returns-then-same_qualifier_levels
same_unresolved_name-returns-then-same_qualifier_levels n c = same_variant tag_of_unresolved_name parts_of_unresolved_name c.in-Nested1.is c.in-Nested1-y.is (unresolved_name_nested1 c.in-Nested1.a c.in-Nested1.b c.in-Nested1.c) (unresolved_name_nested1 c.in-Nested1-y.other_a c.in-Nested1-y.other_b c.in-Nested1-y.other_c) refl (and_then_leaf (c.if-eq.ensures) (and_then (behind_list tag_of_unresolved_qualifier_level parts_of_unresolved_qualifier_level c.deref.ensures.value c.deref-then-eq.ensures.value c.if-same_qualifier_levels.ensures) (last (c.same_base_unresolved_name-then-same_qualifier_levels.ensures))))

pub same_unresolved_name-returns-in_default-y-2 : goal.same_unresolved_name-returns-in_default-y-2
same_unresolved_name-returns-in_default-y-2 n c = other_variant tag_of_unresolved_name parts_of_unresolved_name c.args.y.now c.in-Nested1.is (other_unresolved_name (code Tag.UnresolvedNameNested1) c.args.y.now c.in_default-y-2.not-Nested1)

pub same_unresolved_name-returns-else-same_qualifier_levels-2 : goal.same_unresolved_name-returns-else-same_qualifier_levels-2
same_unresolved_name-returns-else-same_qualifier_levels-2 n c = same_variant tag_of_unresolved_name parts_of_unresolved_name c.in-Nested2.is c.in-Nested2-y.is (unresolved_name_nested2 c.in-Nested2.a c.in-Nested2.b) (unresolved_name_nested2 c.in-Nested2-y.other_a c.in-Nested2-y.other_b) refl (differs c.if-same_qualifier_levels-2.false (behind_list tag_of_unresolved_qualifier_level parts_of_unresolved_qualifier_level c.deref-in-Nested2-y.ensures.value c.deref-in-Nested2-y-2.ensures.value c.if-same_qualifier_levels-2.ensures))

pub same_unresolved_name-returns-then-same_qualifier_levels-2 : goal.same_unresolved_name-returns-then-same_qualifier_levels-2
same_unresolved_name-returns-then-same_qualifier_levels-2 n c = same_variant tag_of_unresolved_name parts_of_unresolved_name c.in-Nested2.is c.in-Nested2-y.is (unresolved_name_nested2 c.in-Nested2.a c.in-Nested2.b) (unresolved_name_nested2 c.in-Nested2-y.other_a c.in-Nested2-y.other_b) refl (and_then (behind_list tag_of_unresolved_qualifier_level parts_of_unresolved_qualifier_level c.deref-in-Nested2-y.ensures.value c.deref-in-Nested2-y-2.ensures.value c.if-same_qualifier_levels-2.ensures) (last (c.same_base_unresolved_name-then-same_qualifier_levels-2.ensures)))

pub same_unresolved_name-returns-in_default-y-3 : goal.same_unresolved_name-returns-in_default-y-3
same_unresolved_name-returns-in_default-y-3 n c = other_variant tag_of_unresolved_name parts_of_unresolved_name c.args.y.now c.in-Nested2.is (other_unresolved_name (code Tag.UnresolvedNameNested2) c.args.y.now c.in_default-y-3.not-Nested2)

pub same_unresolved_name-returns-else-same_qualifier_levels-3 : goal.same_unresolved_name-returns-else-same_qualifier_levels-3
same_unresolved_name-returns-else-same_qualifier_levels-3 n c = same_variant tag_of_unresolved_name parts_of_unresolved_name c.in-GlobalNested2.is c.in-GlobalNested2-y.is (unresolved_name_global_nested2 c.in-GlobalNested2.a c.in-GlobalNested2.b) (unresolved_name_global_nested2 c.in-GlobalNested2-y.other_a c.in-GlobalNested2-y.other_b) refl (differs c.if-same_qualifier_levels-3.false (behind_list tag_of_unresolved_qualifier_level parts_of_unresolved_qualifier_level c.deref-in-GlobalNested2-y.ensures.value c.deref-in-GlobalNested2-y-2.ensures.value c.if-same_qualifier_levels-3.ensures))

pub same_unresolved_name-returns-then-same_qualifier_levels-3 : goal.same_unresolved_name-returns-then-same_qualifier_levels-3
same_unresolved_name-returns-then-same_qualifier_levels-3 n c = same_variant tag_of_unresolved_name parts_of_unresolved_name c.in-GlobalNested2.is c.in-GlobalNested2-y.is (unresolved_name_global_nested2 c.in-GlobalNested2.a c.in-GlobalNested2.b) (unresolved_name_global_nested2 c.in-GlobalNested2-y.other_a c.in-GlobalNested2-y.other_b) refl (and_then (behind_list tag_of_unresolved_qualifier_level parts_of_unresolved_qualifier_level c.deref-in-GlobalNested2-y.ensures.value c.deref-in-GlobalNested2-y-2.ensures.value c.if-same_qualifier_levels-3.ensures) (last (c.same_base_unresolved_name-then-same_qualifier_levels-3.ensures)))

pub same_unresolved_name-returns-in_default-y-4 : goal.same_unresolved_name-returns-in_default-y-4
same_unresolved_name-returns-in_default-y-4 n c = other_variant tag_of_unresolved_name parts_of_unresolved_name c.args.y.now c.in-GlobalNested2.is (other_unresolved_name (code Tag.UnresolvedNameGlobalNested2) c.args.y.now c.in_default-y-4.not-GlobalNested2)

pub same_base_unresolved_name-returns-in-Name-y : goal.same_base_unresolved_name-returns-in-Name-y
same_base_unresolved_name-returns-in-Name-y n c = same_variant tag_of_base_unresolved_name parts_of_base_unresolved_name c.in-Name.is c.in-Name-y.is (base_unresolved_name_name c.in-Name.a) (base_unresolved_name_name c.in-Name-y.other_a) refl (last (c.same_simple_id.ensures))

pub same_base_unresolved_name-returns-in_default : goal.same_base_unresolved_name-returns-in_default
same_base_unresolved_name-returns-in_default n c = other_variant tag_of_base_unresolved_name parts_of_base_unresolved_name c.args.y.now c.in-Name.is (other_base_unresolved_name (code Tag.BaseUnresolvedNameName) c.args.y.now c.in_default.not-Name)

pub same_base_unresolved_name-returns-else-eq : goal.same_base_unresolved_name-returns-else-eq
same_base_unresolved_name-returns-else-eq n c = same_variant tag_of_base_unresolved_name parts_of_base_unresolved_name c.in-Operator.is c.in-Operator-y.is (base_unresolved_name_operator c.in-Operator.a c.in-Operator.b) (base_unresolved_name_operator c.in-Operator-y.other_a c.in-Operator-y.other_b) refl (differs_leaf c.if-eq.false (c.if-eq.ensures))

pub same_base_unresolved_name-returns-then-eq : goal.same_base_unresolved_name-returns-then-eq
same_base_unresolved_name-returns-then-eq n c = same_variant tag_of_base_unresolved_name parts_of_base_unresolved_name c.in-Operator.is c.in-Operator-y.is (base_unresolved_name_operator c.in-Operator.a c.in-Operator.b) (base_unresolved_name_operator c.in-Operator-y.other_a c.in-Operator-y.other_b) refl (and_then_leaf (c.if-eq.ensures) (last (c.same_optional_template_args.ensures)))

pub same_base_unresolved_name-returns-in_default-y : goal.same_base_unresolved_name-returns-in_default-y
same_base_unresolved_name-returns-in_default-y n c = other_variant tag_of_base_unresolved_name parts_of_base_unresolved_name c.args.y.now c.in-Operator.is (other_base_unresolved_name (code Tag.BaseUnresolvedNameOperator) c.args.y.now c.in_default-y.not-Operator)

pub same_base_unresolved_name-returns-in-Destructor-y : goal.same_base_unresolved_name-returns-in-Destructor-y
same_base_unresolved_name-returns-in-Destructor-y n c = same_variant tag_of_base_unresolved_name parts_of_base_unresolved_name c.in-Destructor.is c.in-Destructor-y.is (base_unresolved_name_destructor c.in-Destructor.a) (base_unresolved_name_destructor c.in-Destructor-y.other_a) refl (last (c.same_destructor_name.ensures))

pub same_base_unresolved_name-returns-in_default-y-2 : goal.same_base_unresolved_name-returns-in_default-y-2
same_base_unresolved_name-returns-in_default-y-2 n c = other_variant tag_of_base_unresolved_name parts_of_base_unresolved_name c.args.y.now c.in-Destructor.is (other_base_unresolved_name (code Tag.BaseUnresolvedNameDestructor) c.args.y.now c.in_default-y-2.not-Destructor)

pub same_destructor_name-returns-in-Unresolved-y : goal.same_destructor_name-returns-in-Unresolved-y
same_destructor_name-returns-in-Unresolved-y n c = same_variant tag_of_destructor_name parts_of_destructor_name c.in-Unresolved.is c.in-Unresolved-y.is (destructor_name_unresolved c.in-Unresolved.a) (destructor_name_unresolved c.in-Unresolved-y.other_a) refl (last_leaf (c.eq.ensures))

pub same_destructor_name-returns-in_default : goal.same_destructor_name-returns-in_default
same_destructor_name-returns-in_default n c = other_variant tag_of_destructor_name parts_of_destructor_name c.args.y.now c.in-Unresolved.is (other_destructor_name (code Tag.DestructorNameUnresolved) c.args.y.now c.in_default.not-Unresolved)

pub same_destructor_name-returns-in-Name-y : goal.same_destructor_name-returns-in-Name-y
same_destructor_name-returns-in-Name-y n c = same_variant tag_of_destructor_name parts_of_destructor_name c.in-Name.is c.in-Name-y.is (destructor_name_name c.in-Name.a) (destructor_name_name c.in-Name-y.other_a) refl (last (c.same_simple_id.ensures))

pub same_destructor_name-returns-in_default-y : goal.same_destructor_name-returns-in_default-y
same_destructor_name-returns-in_default-y n c = other_variant tag_of_destructor_name parts_of_destructor_name c.args.y.now c.in-Name.is (other_destructor_name (code Tag.DestructorNameName) c.args.y.now c.in_default-y.not-Name)

pub same_expr_primary-returns-else-eq : goal.same_expr_primary-returns-else-eq
same_expr_primary-returns-else-eq n c = same_variant tag_of_expr_primary parts_of_expr_primary c.in-Literal.is c.in-Literal-y.is (expr_primary_literal c.in-Literal.a c.in-Literal.b c.in-Literal.c) (expr_primary_literal c.in-Literal-y.other_a c.in-Literal-y.other_b c.in-Literal-y.other_c) refl (differs_leaf c.if-eq.false (c.if-eq.ensures))

pub same_expr_primary-returns-in_default : goal.same_expr_primary-returns-in_default
same_expr_primary-returns-in_default n c = other_variant tag_of_expr_primary parts_of_expr_primary c.args.y.now c.in-Literal.is (other_expr_primary (code Tag.ExprPrimaryLiteral) c.args.y.now c.in_default.not-Literal)

pub same_expr_primary-returns-in-External-y : goal.same_expr_primary-returns-in-External-y
same_expr_primary-returns-in-External-y n c = same_variant tag_of_expr_primary parts_of_expr_primary c.in-External.is c.in-External-y.is (expr_primary_external c.in-External.a) (expr_primary_external c.in-External-y.other_a) refl (last (behind tag_of_mangled_name parts_of_mangled_name c.deref.ensures c.deref-in-External-y.ensures c.same_mangled_name.ensures))

pub same_expr_primary-returns-in_default-y : goal.same_expr_primary-returns-in_default-y
same_expr_primary-returns-in_default-y n c = other_variant tag_of_expr_primary parts_of_expr_primary c.args.y.now c.in-External.is (other_expr_primary (code Tag.ExprPrimaryExternal) c.args.y.now c.in_default-y.not-External)

pub same_local_name-returns-else-same_encoding : goal.same_local_name-returns-else-same_encoding
same_local_name-returns-else-same_encoding n c = same_variant tag_of_local_name parts_of_local_name c.in-Relative.is c.in-Relative-y.is (local_name_relative c.in-Relative.a c.in-Relative.b c.in-Relative.c) (local_name_relative c.in-Relative-y.other_a c.in-Relative-y.other_b c.in-Relative-y.other_c) refl (differs c.if-same_encoding.false (behind tag_of_encoding parts_of_encoding c.deref.ensures c.deref-in-Relative-y.ensures c.if-same_encoding.ensures))

pub same_local_name-returns-else-same_optional_name : goal.same_local_name-returns-else-same_optional_name
same_local_name-returns-else-same_optional_name n c = same_variant tag_of_local_name parts_of_local_name c.in-Relative.is c.in-Relative-y.is (local_name_relative c.in-Relative.a c.in-Relative.b c.in-Relative.c) (local_name_relative c.in-Relative-y.other_a c.in-Relative-y.other_b c.in-Relative-y.other_c) refl (and_then (behind tag_of_encoding parts_of_encoding c.deref.ensures c.deref-in-Relative-y.ensures c.if-same_encoding.ensures) (differs c.if-same_optional_name.false (c.if-same_optional_name.ensures)))

pub same_local_name-returns-then-same_optional_name : goal.same_local_name-returns-then-same_optional_name
same_local_name-returns-then-same_optional_name n c = same_variant tag_of_local_name parts_of_local_name c.in-Relative.is c.in-Relative-y.is (local_name_relative c.in-Relative.a c.in-Relative.b c.in-Relative.c) (local_name_relative c.in-Relative-y.other_a c.in-Relative-y.other_b c.in-Relative-y.other_c) refl (and_then (behind tag_of_encoding parts_of_encoding c.deref.ensures c.deref-in-Relative-y.ensures c.if-same_encoding.ensures) (and_then (c.if-same_optional_name.ensures) (last_leaf (c.same_optional_discriminator.ensures))))

pub same_local_name-returns-in_default : goal.same_local_name-returns-in_default
same_local_name-returns-in_default n c = other_variant tag_of_local_name parts_of_local_name c.args.y.now c.in-Relative.is (other_local_name (code Tag.LocalNameRelative) c.args.y.now c.in_default.not-Relative)

pub same_local_name-returns-else-same_encoding-2 : goal.same_local_name-returns-else-same_encoding-2
same_local_name-returns-else-same_encoding-2 n c = same_variant tag_of_local_name parts_of_local_name c.in-Default.is c.in-Default-y.is (local_name_default c.in-Default.a c.in-Default.b c.in-Default.c) (local_name_default c.in-Default-y.other_a c.in-Default-y.other_b c.in-Default-y.other_c) refl (differs c.if-same_encoding-2.false (behind tag_of_encoding parts_of_encoding c.deref-in-Default-y.ensures c.deref-in-Default-y-2.ensures c.if-same_encoding-2.ensures))

pub same_local_name-returns-else-same_optional_isize : goal.same_local_name-returns-else-same_optional_isize
same_local_name-returns-else-same_optional_isize n c = same_variant tag_of_local_name parts_of_local_name c.in-Default.is c.in-Default-y.is (local_name_default c.in-Default.a c.in-Default.b c.in-Default.c) (local_name_default c.in-Default-y.other_a c.in-Default-y.other_b c.in-Default-y.other_c) refl (and_then (behind tag_of_encoding parts_of_encoding c.deref-in-Default-y.ensures c.deref-in-Default-y-2.ensures c.if-same_encoding-2.ensures) (differs c.if-same_optional_isize.false (c.if-same_optional_isize.ensures)))

pub same_local_name-returns-then-same_optional_isize : goal.same_local_name-returns-then-same_optional_isize
same_local_name-returns-then-same_optional_isize n c = same_variant tag_of_local_name parts_of_local_name c.in-Default.is c.in-Default-y.is (local_name_default c.in-Default.a c.in-Default.b c.in-Default.c) (local_name_default c.in-Default-y.other_a c.in-Default-y.other_b c.in-Default-y.other_c) refl (and_then (behind tag_of_encoding parts_of_encoding c.deref-in-Default-y.ensures c.deref-in-Default-y-2.ensures c.if-same_encoding-2.ensures) (and_then (c.if-same_optional_isize.ensures) (last (behind tag_of_name parts_of_name c.deref-then-same_optional_isize.ensures c.deref-then-same_optional_isize-2.ensures c.same_name.ensures))))

pub same_local_name-returns-in_default-y : goal.same_local_name-returns-in_default-y
same_local_name-returns-in_default-y n c = other_variant tag_of_local_name parts_of_local_name c.args.y.now c.in-Default.is (other_local_name (code Tag.LocalNameDefault) c.args.y.now c.in_default-y.not-Default)

pub same_special_name-returns-in-VirtualTable-y : goal.same_special_name-returns-in-VirtualTable-y
same_special_name-returns-in-VirtualTable-y n c = same_variant tag_of_special_name parts_of_special_name c.in-VirtualTable.is c.in-VirtualTable-y.is (special_name_virtual_table c.in-VirtualTable.a) (special_name_virtual_table c.in-VirtualTable-y.other_a) refl (last_leaf (c.eq.ensures))

pub same_special_name-returns-in_default : goal.same_special_name-returns-in_default
same_special_name-returns-in_default n c = other_variant tag_of_special_name parts_of_special_name c.args.y.now c.in-VirtualTable.is (other_special_name (code Tag.SpecialNameVirtualTable) c.args.y.now c.in_default.not-VirtualTable)

pub same_special_name-returns-in-Vtt-y : goal.same_special_name-returns-in-Vtt-y
same_special_name-returns-in-Vtt-y n c = same_variant tag_of_special_name parts_of_special_name c.in-Vtt.is c.in-Vtt-y.is (special_name_vtt c.in-Vtt.a) (special_name_vtt c.in-Vtt-y.other_a) refl (last_leaf (c.eq-in-Vtt-y.ensures))

pub same_special_name-returns-in_default-y : goal.same_special_name-returns-in_default-y
same_special_name-returns-in_default-y n c = other_variant tag_of_special_name parts_of_special_name c.args.y.now c.in-Vtt.is (other_special_name (code Tag.SpecialNameVtt) c.args.y.now c.in_default-y.not-Vtt)

pub same_special_name-returns-in-Typeinfo-y : goal.same_special_name-returns-in-Typeinfo-y
same_special_name-returns-in-Typeinfo-y n c = same_variant tag_of_special_name parts_of_special_name c.in-Typeinfo.is c.in-Typeinfo-y.is (special_name_typeinfo c.in-Typeinfo.a) (special_name_typeinfo c.in-Typeinfo-y.other_a) refl (last_leaf (c.eq-in-Typeinfo-y.ensures))

pub same_special_name-returns-in_default-y-2 : goal.same_special_name-returns-in_default-y-2
same_special_name-returns-in_default-y-2 n c = other_variant tag_of_special_name parts_of_special_name c.args.y.now c.in-Typeinfo.is (other_special_name (code Tag.SpecialNameTypeinfo) c.args.y.now c.in_default-y-2.not-Typeinfo)

pub same_special_name-returns-in-TypeinfoName-y : goal.same_special_name-returns-in-TypeinfoName-y
same_special_name-returns-in-TypeinfoName-y n c = same_variant tag_of_special_name parts_of_special_name c.in-TypeinfoName.is c.in-TypeinfoName-y.is (special_name_typeinfo_name c.in-TypeinfoName.a) (special_name_typeinfo_name c.in-TypeinfoName-y.other_a) refl (last_leaf (c.eq-in-TypeinfoName-y.ensures))

pub same_special_name-returns-in_default-y-3 : goal.same_special_name-returns-in_default-y-3
same_special_name-returns-in_default-y-3 n c = other_variant tag_of_special_name parts_of_special_name c.args.y.now c.in-TypeinfoName.is (other_special_name (code Tag.SpecialNameTypeinfoName) c.args.y.now c.in_default-y-3.not-TypeinfoName)

pub same_special_name-returns-else-eq : goal.same_special_name-returns-else-eq
same_special_name-returns-else-eq n c = same_variant tag_of_special_name parts_of_special_name c.in-VirtualOverrideThunk.is c.in-VirtualOverrideThunk-y.is (special_name_virtual_override_thunk c.in-VirtualOverrideThunk.a c.in-VirtualOverrideThunk.b) (special_name_virtual_override_thunk c.in-VirtualOverrideThunk-y.other_a c.in-VirtualOverrideThunk-y.other_b) refl (differs_leaf c.if-eq.false (c.if-eq.ensures))

pub same_special_name-returns-then-eq : goal.same_special_name-returns-then-eq
same_special_name-returns-then-eq n c = same_variant tag_of_special_name parts_of_special_name c.in-VirtualOverrideThunk.is c.in-VirtualOverrideThunk-y.is (special_name_virtual_override_thunk c.in-VirtualOverrideThunk.a c.in-VirtualOverrideThunk.b) (special_name_virtual_override_thunk c.in-VirtualOverrideThunk-y.other_a c.in-VirtualOverrideThunk-y.other_b) refl (and_then_leaf (c.if-eq.ensures) (last (behind tag_of_encoding parts_of_encoding c.deref.ensures c.deref-then-eq.ensures c.same_encoding.ensures)))

pub same_special_name-returns-in_default-y-4 : goal.same_special_name-returns-in_default-y-4
same_special_name-returns-in_default-y-4 n c = other_variant tag_of_special_name parts_of_special_name c.args.y.now c.in-VirtualOverrideThunk.is (other_special_name (code Tag.SpecialNameVirtualOverrideThunk) c.args.y.now c.in_default-y-4.not-VirtualOverrideThunk)

pub same_special_name-returns-else-eq-2 : goal.same_special_name-returns-else-eq-2
same_special_name-returns-else-eq-2 n c = same_variant tag_of_special_name parts_of_special_name c.in-VirtualOverrideThunkCovariant.is c.in-VirtualOverrideThunkCovariant-y.is (special_name_virtual_override_thunk_covariant c.in-VirtualOverrideThunkCovariant.a c.in-VirtualOverrideThunkCovariant.b c.in-VirtualOverrideThunkCovariant.c) (special_name_virtual_override_thunk_covariant c.in-VirtualOverrideThunkCovariant-y.other_a c.in-VirtualOverrideThunkCovariant-y.other_b c.in-VirtualOverrideThunkCovariant-y.other_c) refl (differs_leaf c.if-eq-2.false (c.if-eq-2.ensures))

pub same_special_name-returns-else-eq-3 : goal.same_special_name-returns-else-eq-3
same_special_name-returns-else-eq-3 n c = same_variant tag_of_special_name parts_of_special_name c.in-VirtualOverrideThunkCovariant.is c.in-VirtualOverrideThunkCovariant-y.is (special_name_virtual_override_thunk_covariant c.in-VirtualOverrideThunkCovariant.a c.in-VirtualOverrideThunkCovariant.b c.in-VirtualOverrideThunkCovariant.c) (special_name_virtual_override_thunk_covariant c.in-VirtualOverrideThunkCovariant-y.other_a c.in-VirtualOverrideThunkCovariant-y.other_b c.in-VirtualOverrideThunkCovariant-y.other_c) refl (and_then_leaf (c.if-eq-2.ensures) (differs_leaf c.if-eq-3.false (c.if-eq-3.ensures)))

pub same_special_name-returns-then-eq-3 : goal.same_special_name-returns-then-eq-3
same_special_name-returns-then-eq-3 n c = same_variant tag_of_special_name parts_of_special_name c.in-VirtualOverrideThunkCovariant.is c.in-VirtualOverrideThunkCovariant-y.is (special_name_virtual_override_thunk_covariant c.in-VirtualOverrideThunkCovariant.a c.in-VirtualOverrideThunkCovariant.b c.in-VirtualOverrideThunkCovariant.c) (special_name_virtual_override_thunk_covariant c.in-VirtualOverrideThunkCovariant-y.other_a c.in-VirtualOverrideThunkCovariant-y.other_b c.in-VirtualOverrideThunkCovariant-y.other_c) refl (and_then_leaf (c.if-eq-2.ensures) (and_then_leaf (c.if-eq-3.ensures) (last (behind tag_of_encoding parts_of_encoding c.deref-then-eq-3.ensures c.deref-then-eq-3-2.ensures c.same_encoding-then-eq-3.ensures))))

pub same_special_name-returns-in_default-y-5 : goal.same_special_name-returns-in_default-y-5
same_special_name-returns-in_default-y-5 n c = other_variant tag_of_special_name parts_of_special_name c.args.y.now c.in-VirtualOverrideThunkCovariant.is (other_special_name (code Tag.SpecialNameVirtualOverrideThunkCovariant) c.args.y.now c.in_default-y-5.not-VirtualOverrideThunkCovariant)

pub same_special_name-returns-in-Guard-y : goal.same_special_name-returns-in-Guard-y
same_special_name-returns-in-Guard-y n c = same_variant tag_of_special_name parts_of_special_name c.in-Guard.is c.in-Guard-y.is (special_name_guard c.in-Guard.a) (special_name_guard c.in-Guard-y.other_a) refl (last (c.same_name.ensures))

pub same_special_name-returns-in_default-y-6 : goal.same_special_name-returns-in_default-y-6
same_special_name-returns-in_default-y-6 n c = other_variant tag_of_special_name parts_of_special_name c.args.y.now c.in-Guard.is (other_special_name (code Tag.SpecialNameGuard) c.args.y.now c.in_default-y-6.not-Guard)

pub same_special_name-returns-else-same_name : goal.same_special_name-returns-else-same_name
same_special_name-returns-else-same_name n c = same_variant tag_of_special_name parts_of_special_name c.in-GuardTemporary.is c.in-GuardTemporary-y.is (special_name_guard_temporary c.in-GuardTemporary.a c.in-GuardTemporary.b) (special_name_guard_temporary c.in-GuardTemporary-y.other_a c.in-GuardTemporary-y.other_b) refl (differs c.if-same_name.false (c.if-same_name.ensures))

pub same_special_name-returns-in_default-y-7 : goal.same_special_name-returns-in_default-y-7
same_special_name-returns-in_default-y-7 n c = other_variant tag_of_special_name parts_of_special_name c.args.y.now c.in-GuardTemporary.is (other_special_name (code Tag.SpecialNameGuardTemporary) c.args.y.now c.in_default-y-7.not-GuardTemporary)

pub same_special_name-returns-else-eq-4 : goal.same_special_name-returns-else-eq-4
same_special_name-returns-else-eq-4 n c = same_variant tag_of_special_name parts_of_special_name c.in-ConstructionVtable.is c.in-ConstructionVtable-y.is (special_name_construction_vtable c.in-ConstructionVtable.a c.in-ConstructionVtable.b c.in-ConstructionVtable.c) (special_name_construction_vtable c.in-ConstructionVtable-y.other_a c.in-ConstructionVtable-y.other_b c.in-ConstructionVtable-y.other_c) refl (differs_leaf c.if-eq-4.false (c.if-eq-4.ensures))

pub same_special_name-returns-else-same_usize : goal.same_special_name-returns-else-same_usize
same_special_name-returns-else-same_usize n c = same_variant tag_of_special_name parts_of_special_name c.in-ConstructionVtable.is c.in-ConstructionVtable-y.is (special_name_construction_vtable c.in-ConstructionVtable.a c.in-ConstructionVtable.b c.in-ConstructionVtable.c) (special_name_construction_vtable c.in-ConstructionVtable-y.other_a c.in-ConstructionVtable-y.other_b c.in-ConstructionVtable-y.other_c) refl (and_then_leaf (c.if-eq-4.ensures) (differs_number c.if-same_usize.false (c.if-same_usize.ensures)))

pub same_special_name-returns-then-same_usize : goal.same_special_name-returns-then-same_usize
same_special_name-returns-then-same_usize n c = same_variant tag_of_special_name parts_of_special_name c.in-ConstructionVtable.is c.in-ConstructionVtable-y.is (special_name_construction_vtable c.in-ConstructionVtable.a c.in-ConstructionVtable.b c.in-ConstructionVtable.c) (special_name_construction_vtable c.in-ConstructionVtable-y.other_a c.in-ConstructionVtable-y.other_b c.in-ConstructionVtable-y.other_c) refl (and_then_leaf (c.if-eq-4.ensures) (and_then_number (c.if-same_usize.ensures) (last_leaf (c.eq-then-same_usize.ensures))))

pub same_special_name-returns-in_default-y-8 : goal.same_special_name-returns-in_default-y-8
same_special_name-returns-in_default-y-8 n c = other_variant tag_of_special_name parts_of_special_name c.args.y.now c.in-ConstructionVtable.is (other_special_name (code Tag.SpecialNameConstructionVtable) c.args.y.now c.in_default-y-8.not-ConstructionVtable)

pub same_special_name-returns-in-TypeinfoFunction-y : goal.same_special_name-returns-in-TypeinfoFunction-y
same_special_name-returns-in-TypeinfoFunction-y n c = same_variant tag_of_special_name parts_of_special_name c.in-TypeinfoFunction.is c.in-TypeinfoFunction-y.is (special_name_typeinfo_function c.in-TypeinfoFunction.a) (special_name_typeinfo_function c.in-TypeinfoFunction-y.other_a) refl (last_leaf (c.eq-in-TypeinfoFunction-y.ensures))

pub same_special_name-returns-in_default-y-9 : goal.same_special_name-returns-in_default-y-9
same_special_name-returns-in_default-y-9 n c = other_variant tag_of_special_name parts_of_special_name c.args.y.now c.in-TypeinfoFunction.is (other_special_name (code Tag.SpecialNameTypeinfoFunction) c.args.y.now c.in_default-y-9.not-TypeinfoFunction)

pub same_special_name-returns-in-TlsInit-y : goal.same_special_name-returns-in-TlsInit-y
same_special_name-returns-in-TlsInit-y n c = same_variant tag_of_special_name parts_of_special_name c.in-TlsInit.is c.in-TlsInit-y.is (special_name_tls_init c.in-TlsInit.a) (special_name_tls_init c.in-TlsInit-y.other_a) refl (last (c.same_name-in-TlsInit-y.ensures))

pub same_special_name-returns-in_default-y-10 : goal.same_special_name-returns-in_default-y-10
same_special_name-returns-in_default-y-10 n c = other_variant tag_of_special_name parts_of_special_name c.args.y.now c.in-TlsInit.is (other_special_name (code Tag.SpecialNameTlsInit) c.args.y.now c.in_default-y-10.not-TlsInit)

pub same_special_name-returns-in-TlsWrapper-y : goal.same_special_name-returns-in-TlsWrapper-y
same_special_name-returns-in-TlsWrapper-y n c = same_variant tag_of_special_name parts_of_special_name c.in-TlsWrapper.is c.in-TlsWrapper-y.is (special_name_tls_wrapper c.in-TlsWrapper.a) (special_name_tls_wrapper c.in-TlsWrapper-y.other_a) refl (last (c.same_name-in-TlsWrapper-y.ensures))

pub same_special_name-returns-in_default-y-11 : goal.same_special_name-returns-in_default-y-11
same_special_name-returns-in_default-y-11 n c = other_variant tag_of_special_name parts_of_special_name c.args.y.now c.in-TlsWrapper.is (other_special_name (code Tag.SpecialNameTlsWrapper) c.args.y.now c.in_default-y-11.not-TlsWrapper)

pub same_special_name-returns-in-JavaResource-y : goal.same_special_name-returns-in-JavaResource-y
same_special_name-returns-in-JavaResource-y n c = same_variant tag_of_special_name parts_of_special_name c.in-JavaResource.is c.in-JavaResource-y.is (special_name_java_resource c.in-JavaResource.a) (special_name_java_resource c.in-JavaResource-y.other_a) refl (last (behind_list tag_of_resource_name parts_of_resource_name c.deref-in-JavaResource-y.ensures.value c.deref-in-JavaResource-y-2.ensures.value c.same_resource_names.ensures))

pub same_special_name-returns-in_default-y-12 : goal.same_special_name-returns-in_default-y-12
same_special_name-returns-in_default-y-12 n c = other_variant tag_of_special_name parts_of_special_name c.args.y.now c.in-JavaResource.is (other_special_name (code Tag.SpecialNameJavaResource) c.args.y.now c.in_default-y-12.not-JavaResource)

pub same_special_name-returns-in-TransactionClone-y : goal.same_special_name-returns-in-TransactionClone-y
same_special_name-returns-in-TransactionClone-y n c = same_variant tag_of_special_name parts_of_special_name c.in-TransactionClone.is c.in-TransactionClone-y.is (special_name_transaction_clone c.in-TransactionClone.a) (special_name_transaction_clone c.in-TransactionClone-y.other_a) refl (last (behind tag_of_encoding parts_of_encoding c.deref-in-TransactionClone-y.ensures c.deref-in-TransactionClone-y-2.ensures c.same_encoding-in-TransactionClone-y.ensures))

pub same_special_name-returns-in_default-y-13 : goal.same_special_name-returns-in_default-y-13
same_special_name-returns-in_default-y-13 n c = other_variant tag_of_special_name parts_of_special_name c.args.y.now c.in-TransactionClone.is (other_special_name (code Tag.SpecialNameTransactionClone) c.args.y.now c.in_default-y-13.not-TransactionClone)

pub same_special_name-returns-in-NonTransactionClone-y : goal.same_special_name-returns-in-NonTransactionClone-y
same_special_name-returns-in-NonTransactionClone-y n c = same_variant tag_of_special_name parts_of_special_name c.in-NonTransactionClone.is c.in-NonTransactionClone-y.is (special_name_non_transaction_clone c.in-NonTransactionClone.a) (special_name_non_transaction_clone c.in-NonTransactionClone-y.other_a) refl (last (behind tag_of_encoding parts_of_encoding c.deref-in-NonTransactionClone-y.ensures c.deref-in-NonTransactionClone-y-2.ensures c.same_encoding-in-NonTransactionClone-y.ensures))

pub same_special_name-returns-in_default-y-14 : goal.same_special_name-returns-in_default-y-14
same_special_name-returns-in_default-y-14 n c = other_variant tag_of_special_name parts_of_special_name c.args.y.now c.in-NonTransactionClone.is (other_special_name (code Tag.SpecialNameNonTransactionClone) c.args.y.now c.in_default-y-14.not-NonTransactionClone)

pub same_fold_expr-returns-in_default : goal.same_fold_expr-returns-in_default
same_fold_expr-returns-in_default n c = other_variant tag_of_fold_expr parts_of_fold_expr c.args.y.now c.in-UnaryLeft.is (other_fold_expr (code Tag.FoldExprUnaryLeft) c.args.y.now c.in_default.not-UnaryLeft)

pub same_fold_expr-returns-in_default-y : goal.same_fold_expr-returns-in_default-y
same_fold_expr-returns-in_default-y n c = other_variant tag_of_fold_expr parts_of_fold_expr c.args.y.now c.in-UnaryRight.is (other_fold_expr (code Tag.FoldExprUnaryRight) c.args.y.now c.in_default-y.not-UnaryRight)

pub same_fold_expr-returns-in_default-y-2 : goal.same_fold_expr-returns-in_default-y-2
same_fold_expr-returns-in_default-y-2 n c = other_variant tag_of_fold_expr parts_of_fold_expr c.args.y.now c.in-BinaryLeft.is (other_fold_expr (code Tag.FoldExprBinaryLeft) c.args.y.now c.in_default-y-2.not-BinaryLeft)

pub same_fold_expr-returns-in_default-y-3 : goal.same_fold_expr-returns-in_default-y-3
same_fold_expr-returns-in_default-y-3 n c = other_variant tag_of_fold_expr parts_of_fold_expr c.args.y.now c.in-BinaryRight.is (other_fold_expr (code Tag.FoldExprBinaryRight) c.args.y.now c.in_default-y-3.not-BinaryRight)
