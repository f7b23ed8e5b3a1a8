-- What the parts of a node are, as the code sees its fields: one equation a variant, and a set of them a type.
use Rattle.std.proofs.Common.{◌≡◌, refl, ap, ◌∙◌, sym, ℕ, ℤ, pos, Vec, Global}
use Rattle.std.specs.declared.option.Option.{Option}
use Rattle.std.specs.declared.option.Option.TheVariants as of_option
use Rattle.std.specs.declared.boxed.Box.{Box}
use Rattle.demangle_core.specs.Core.{Tag, end, node, place, number, mark, ◌⊕◌, trees}
use Rattle.demangle_vocab.specs.declared.operator.SimpleOperatorName.{SimpleOperatorName}
use Rattle.demangle_leaf_nodes.specs.declared.leaves.TemplateParam.{TemplateParam}
use Rattle.demangle_leaf_nodes.specs.declared.leaves.Discriminator.{Discriminator}
use Rattle.demangle_leaf_nodes.specs.declared.leaves.ResourceName.{ResourceName}
use Rattle.demangle_leaf_nodes.specs.declared.leaves.SourceName.{SourceName}
use Rattle.demangle_leaf_nodes.specs.declared.leaves.CloneSuffix.{CloneSuffix}
use Rattle.demangle_leaf_nodes.specs.declared.leaves.CallOffset.{CallOffset}
use Rattle.demangle_leaf_nodes.specs.declared.leaves.FunctionParam.{FunctionParam}
use Rattle.demangle_leaf_nodes.specs.declared.leaves.UnscopedTemplateNameHandle.{UnscopedTemplateNameHandle}
use Rattle.demangle_leaf_nodes.specs.declared.leaves.UnresolvedTypeHandle.{UnresolvedTypeHandle}
use Rattle.demangle_leaf_nodes.specs.declared.leaves.TypeHandle.{TypeHandle}
use Rattle.demangle_leaf_nodes.specs.declared.leaves.OperatorName.{OperatorName}
use Rattle.demangle_leaf_nodes.specs.declared.leaves.BareFunctionType.{BareFunctionType}
use Rattle.demangle_leaf_nodes.specs.declared.leaves.UnscopedName.{UnscopedName}
use Rattle.demangle_leaf_nodes.specs.declared.leaves.NestedName.{NestedName}
use Rattle.demangle_nodes.specs.declared.nodes.MangledName.{MangledName}
use Rattle.demangle_nodes.specs.declared.nodes.MangledName.TheVariants as of_mangled_name
use Rattle.demangle_nodes.specs.declared.nodes.Encoding.{Encoding}
use Rattle.demangle_nodes.specs.declared.nodes.Encoding.TheVariants as of_encoding
use Rattle.demangle_nodes.specs.declared.nodes.GlobalCtorDtor.{GlobalCtorDtor}
use Rattle.demangle_nodes.specs.declared.nodes.GlobalCtorDtor.TheVariants as of_global_ctor_dtor
use Rattle.demangle_nodes.specs.declared.nodes.Name.{Name}
use Rattle.demangle_nodes.specs.declared.nodes.Name.TheVariants as of_name
use Rattle.demangle_nodes.specs.declared.nodes.TemplateArgs.{TemplateArgs}
use Rattle.demangle_nodes.specs.declared.nodes.TemplateArg.{TemplateArg}
use Rattle.demangle_nodes.specs.declared.nodes.TemplateArg.TheVariants as of_template_arg
use Rattle.demangle_nodes.specs.declared.nodes.MemberName.{MemberName}
use Rattle.demangle_nodes.specs.declared.nodes.Initializer.{Initializer}
use Rattle.demangle_nodes.specs.declared.nodes.Expression.{Expression}
use Rattle.demangle_nodes.specs.declared.nodes.Expression.TheVariants as of_expression
use Rattle.demangle_nodes.specs.declared.nodes.UnresolvedName.{UnresolvedName}
use Rattle.demangle_nodes.specs.declared.nodes.UnresolvedName.TheVariants as of_unresolved_name
use Rattle.demangle_nodes.specs.declared.nodes.UnresolvedQualifierLevel.{UnresolvedQualifierLevel}
use Rattle.demangle_nodes.specs.declared.nodes.SimpleId.{SimpleId}
use Rattle.demangle_nodes.specs.declared.nodes.BaseUnresolvedName.{BaseUnresolvedName}
use Rattle.demangle_nodes.specs.declared.nodes.BaseUnresolvedName.TheVariants as of_base_unresolved_name
use Rattle.demangle_nodes.specs.declared.nodes.DestructorName.{DestructorName}
use Rattle.demangle_nodes.specs.declared.nodes.DestructorName.TheVariants as of_destructor_name
use Rattle.demangle_nodes.specs.declared.nodes.ExprPrimary.{ExprPrimary}
use Rattle.demangle_nodes.specs.declared.nodes.ExprPrimary.TheVariants as of_expr_primary
use Rattle.demangle_nodes.specs.declared.nodes.LocalName.{LocalName}
use Rattle.demangle_nodes.specs.declared.nodes.LocalName.TheVariants as of_local_name
use Rattle.demangle_nodes.specs.declared.nodes.SpecialName.{SpecialName}
use Rattle.demangle_nodes.specs.declared.nodes.SpecialName.TheVariants as of_special_name
use Rattle.demangle_nodes.specs.declared.nodes.SubobjectExpr.{SubobjectExpr}
use Rattle.demangle_nodes.specs.declared.nodes.FoldExpr.{FoldExpr}
use Rattle.demangle_nodes.specs.declared.nodes.FoldExpr.TheVariants as of_fold_expr
use Rattle.demangle_leaf_nodes.specs.TreeLeaves.{tree_of_option, tag_of_option, parts_of_option, tree_of_signed, tree_of_simple_operator_name, tree_of_template_param, tree_of_discriminator, tag_of_resource_name, parts_of_resource_name, tree_of_source_name, tag_of_clone_suffix, parts_of_clone_suffix, tree_of_call_offset, tree_of_function_param, tree_of_unscoped_template_name_handle, tree_of_unresolved_type_handle, tree_of_type_handle, tree_of_operator_name, tree_of_bare_function_type, tree_of_unscoped_name, tree_of_nested_name}
use Rattle.demangle_nodes.specs.TreeNodes.{tag_of_mangled_name, parts_of_mangled_name, tag_of_encoding, parts_of_encoding, tag_of_global_ctor_dtor, parts_of_global_ctor_dtor, tag_of_name, parts_of_name, tree_of_template_args, tag_of_template_arg, parts_of_template_arg, tree_of_initializer, tag_of_expression, parts_of_expression, tag_of_unresolved_name, parts_of_unresolved_name, tag_of_unresolved_qualifier_level, parts_of_unresolved_qualifier_level, tag_of_simple_id, parts_of_simple_id, tag_of_base_unresolved_name, parts_of_base_unresolved_name, tag_of_destructor_name, parts_of_destructor_name, tag_of_expr_primary, parts_of_expr_primary, tag_of_local_name, parts_of_local_name, tag_of_special_name, parts_of_special_name, tag_of_fold_expr, parts_of_fold_expr, row_of_expression, row_of_template_arg, row_of_unresolved_qualifier_level, boxed_name, tag_of_held_initializer, parts_of_held_initializer, tag_of_held_template_args, parts_of_held_template_args, tag_of_held_name, parts_of_held_name}
use Rattle.demangle_nodes.specs.declared.nodes.BaseUnresolvedName.TheBlock.{Row_of-Expression, end_of-Expression, more_of-Expression, items-the_row-Expression, items_hidden-the_row-Expression-1, hidden-the_row-Expression-1}
use Rattle.demangle_nodes.specs.declared.nodes.BaseUnresolvedName.TheBlock.{Row_of-TemplateArg, end_of-TemplateArg, more_of-TemplateArg, items-the_row-TemplateArg, items_hidden-the_row-TemplateArg-0, hidden-the_row-TemplateArg-0}
use Rattle.demangle_nodes.specs.declared.nodes.BaseUnresolvedName.TheBlock.{Row_of-UnresolvedQualifierLevel, end_of-UnresolvedQualifierLevel, more_of-UnresolvedQualifierLevel, items-the_row-UnresolvedQualifierLevel, items_hidden-the_row-UnresolvedQualifierLevel-2, hidden-the_row-UnresolvedQualifierLevel-2}
use Rattle.demangle_nodes.specs.declared.nodes.BaseUnresolvedName.TheBlock.{back-Expression-New-2}
use Rattle.demangle_nodes.specs.declared.nodes.BaseUnresolvedName.TheBlock.{back-BaseUnresolvedName-Operator-1}
use Rattle.demangle_nodes.specs.declared.nodes.BaseUnresolvedName.TheBlock.{back-LocalName-Relative-1}
use Rattle.demangle_nodes.specs.declared.nodes.SimpleId.{roll-SimpleId, out-SimpleId, roll-out-SimpleId}
use Rattle.demangle_nodes.specs.declared.nodes.UnresolvedQualifierLevel.{roll-UnresolvedQualifierLevel, out-UnresolvedQualifierLevel, roll-out-UnresolvedQualifierLevel}

rows_of_expression : (n : _) (row : Row_of-Expression n) → row_of_expression row ≡ trees tag_of_expression parts_of_expression (items-the_row-Expression n row)
unfolding parts_of_mangled_name parts_of_encoding parts_of_global_ctor_dtor parts_of_name parts_of_template_arg parts_of_expression parts_of_unresolved_name parts_of_unresolved_qualifier_level parts_of_simple_id parts_of_base_unresolved_name parts_of_destructor_name parts_of_expr_primary parts_of_local_name parts_of_special_name parts_of_fold_expr row_of_expression row_of_template_arg row_of_unresolved_qualifier_level parts_of_held_initializer parts_of_held_template_args parts_of_held_name
rows_of_expression n end_of-Expression = refl
rows_of_expression n (more_of-Expression x rest) = ap (node (tag_of_expression x) (parts_of_expression x)) (rows_of_expression _ rest)

pub row_expression : (v : Vec Expression Global) → row_of_expression (hidden-the_row-Expression-1 v) ≡ trees tag_of_expression parts_of_expression v.items
row_expression v = rows_of_expression _ (hidden-the_row-Expression-1 v) ∙ ap (trees tag_of_expression parts_of_expression) (items_hidden-the_row-Expression-1 v)

rows_of_template_arg : (n : _) (row : Row_of-TemplateArg n) → row_of_template_arg row ≡ trees tag_of_template_arg parts_of_template_arg (items-the_row-TemplateArg n row)
unfolding parts_of_mangled_name parts_of_encoding parts_of_global_ctor_dtor parts_of_name parts_of_template_arg parts_of_expression parts_of_unresolved_name parts_of_unresolved_qualifier_level parts_of_simple_id parts_of_base_unresolved_name parts_of_destructor_name parts_of_expr_primary parts_of_local_name parts_of_special_name parts_of_fold_expr row_of_expression row_of_template_arg row_of_unresolved_qualifier_level parts_of_held_initializer parts_of_held_template_args parts_of_held_name
rows_of_template_arg n end_of-TemplateArg = refl
rows_of_template_arg n (more_of-TemplateArg x rest) = ap (node (tag_of_template_arg x) (parts_of_template_arg x)) (rows_of_template_arg _ rest)

pub row_template_arg : (v : Vec TemplateArg Global) → row_of_template_arg (hidden-the_row-TemplateArg-0 v) ≡ trees tag_of_template_arg parts_of_template_arg v.items
row_template_arg v = rows_of_template_arg _ (hidden-the_row-TemplateArg-0 v) ∙ ap (trees tag_of_template_arg parts_of_template_arg) (items_hidden-the_row-TemplateArg-0 v)

rows_of_unresolved_qualifier_level : (n : _) (row : Row_of-UnresolvedQualifierLevel n) → row_of_unresolved_qualifier_level row ≡ trees tag_of_unresolved_qualifier_level parts_of_unresolved_qualifier_level (items-the_row-UnresolvedQualifierLevel n row)
unfolding parts_of_mangled_name parts_of_encoding parts_of_global_ctor_dtor parts_of_name parts_of_template_arg parts_of_expression parts_of_unresolved_name parts_of_unresolved_qualifier_level parts_of_simple_id parts_of_base_unresolved_name parts_of_destructor_name parts_of_expr_primary parts_of_local_name parts_of_special_name parts_of_fold_expr row_of_expression row_of_template_arg row_of_unresolved_qualifier_level parts_of_held_initializer parts_of_held_template_args parts_of_held_name
rows_of_unresolved_qualifier_level n end_of-UnresolvedQualifierLevel = refl
rows_of_unresolved_qualifier_level n (more_of-UnresolvedQualifierLevel x rest) = ap (node (tag_of_unresolved_qualifier_level x) (parts_of_unresolved_qualifier_level x)) (rows_of_unresolved_qualifier_level _ rest)

pub row_unresolved_qualifier_level : (v : Vec UnresolvedQualifierLevel Global) → row_of_unresolved_qualifier_level (hidden-the_row-UnresolvedQualifierLevel-2 v) ≡ trees tag_of_unresolved_qualifier_level parts_of_unresolved_qualifier_level v.items
row_unresolved_qualifier_level v = rows_of_unresolved_qualifier_level _ (hidden-the_row-UnresolvedQualifierLevel-2 v) ∙ ap (trees tag_of_unresolved_qualifier_level parts_of_unresolved_qualifier_level) (items_hidden-the_row-UnresolvedQualifierLevel-2 v)

held_tag_initializer : (o : Option (Initializer)) → tag_of_held_initializer (back-Expression-New-2 o) ≡ tag_of_option o
held_tag_initializer of_option.None = refl
held_tag_initializer (of_option.Some a) = refl

held_parts_initializer : (o : Option (Initializer)) → parts_of_held_initializer (back-Expression-New-2 o) ≡ parts_of_option tree_of_initializer o
unfolding parts_of_mangled_name parts_of_encoding parts_of_global_ctor_dtor parts_of_name parts_of_template_arg parts_of_expression parts_of_unresolved_name parts_of_unresolved_qualifier_level parts_of_simple_id parts_of_base_unresolved_name parts_of_destructor_name parts_of_expr_primary parts_of_local_name parts_of_special_name parts_of_fold_expr row_of_expression row_of_template_arg row_of_unresolved_qualifier_level parts_of_held_initializer parts_of_held_template_args parts_of_held_name
held_parts_initializer of_option.None = refl
held_parts_initializer (of_option.Some a) = ap (λ r. node Tag.Initializer (node Tag.Several r end) end) (row_expression a.0)

held_tag_template_args : (o : Option (TemplateArgs)) → tag_of_held_template_args (back-BaseUnresolvedName-Operator-1 o) ≡ tag_of_option o
held_tag_template_args of_option.None = refl
held_tag_template_args (of_option.Some a) = refl

held_parts_template_args : (o : Option (TemplateArgs)) → parts_of_held_template_args (back-BaseUnresolvedName-Operator-1 o) ≡ parts_of_option tree_of_template_args o
unfolding parts_of_mangled_name parts_of_encoding parts_of_global_ctor_dtor parts_of_name parts_of_template_arg parts_of_expression parts_of_unresolved_name parts_of_unresolved_qualifier_level parts_of_simple_id parts_of_base_unresolved_name parts_of_destructor_name parts_of_expr_primary parts_of_local_name parts_of_special_name parts_of_fold_expr row_of_expression row_of_template_arg row_of_unresolved_qualifier_level parts_of_held_initializer parts_of_held_template_args parts_of_held_name
held_parts_template_args of_option.None = refl
held_parts_template_args (of_option.Some a) = ap (λ r. node Tag.TemplateArgs (mark a.1 (node Tag.Several r end)) end) (row_template_arg a.0)

held_tag_name : (o : Option (Box Name Global)) → tag_of_held_name (back-LocalName-Relative-1 o) ≡ tag_of_option o
held_tag_name of_option.None = refl
held_tag_name (of_option.Some a) = refl

held_parts_name : (o : Option (Box Name Global)) → parts_of_held_name (back-LocalName-Relative-1 o) ≡ parts_of_option boxed_name o
unfolding parts_of_mangled_name parts_of_encoding parts_of_global_ctor_dtor parts_of_name parts_of_template_arg parts_of_expression parts_of_unresolved_name parts_of_unresolved_qualifier_level parts_of_simple_id parts_of_base_unresolved_name parts_of_destructor_name parts_of_expr_primary parts_of_local_name parts_of_special_name parts_of_fold_expr row_of_expression row_of_template_arg row_of_unresolved_qualifier_level parts_of_held_initializer parts_of_held_template_args parts_of_held_name
held_parts_name of_option.None = refl
held_parts_name (of_option.Some a) = refl

pub mangled_name_encoding : (a : Encoding) (b : Vec CloneSuffix Global) → parts_of_mangled_name (of_mangled_name.Encoding a b) ≡ node (tag_of_encoding a) (parts_of_encoding a) (node Tag.Several (trees tag_of_clone_suffix parts_of_clone_suffix b.items) end)
unfolding parts_of_mangled_name parts_of_encoding parts_of_global_ctor_dtor parts_of_name parts_of_template_arg parts_of_expression parts_of_unresolved_name parts_of_unresolved_qualifier_level parts_of_simple_id parts_of_base_unresolved_name parts_of_destructor_name parts_of_expr_primary parts_of_local_name parts_of_special_name parts_of_fold_expr row_of_expression row_of_template_arg row_of_unresolved_qualifier_level parts_of_held_initializer parts_of_held_template_args parts_of_held_name
mangled_name_encoding a b = refl

pub mangled_name_block_invoke : (a : Encoding) (b : Option ℤ) → parts_of_mangled_name (of_mangled_name.BlockInvoke a b) ≡ node (tag_of_encoding a) (parts_of_encoding a) (tree_of_option tree_of_signed b)
unfolding parts_of_mangled_name parts_of_encoding parts_of_global_ctor_dtor parts_of_name parts_of_template_arg parts_of_expression parts_of_unresolved_name parts_of_unresolved_qualifier_level parts_of_simple_id parts_of_base_unresolved_name parts_of_destructor_name parts_of_expr_primary parts_of_local_name parts_of_special_name parts_of_fold_expr row_of_expression row_of_template_arg row_of_unresolved_qualifier_level parts_of_held_initializer parts_of_held_template_args parts_of_held_name
mangled_name_block_invoke a b = refl

pub mangled_name_top_level_type : (a : TypeHandle) → parts_of_mangled_name (of_mangled_name.TopLevelType a) ≡ tree_of_type_handle a
unfolding parts_of_mangled_name parts_of_encoding parts_of_global_ctor_dtor parts_of_name parts_of_template_arg parts_of_expression parts_of_unresolved_name parts_of_unresolved_qualifier_level parts_of_simple_id parts_of_base_unresolved_name parts_of_destructor_name parts_of_expr_primary parts_of_local_name parts_of_special_name parts_of_fold_expr row_of_expression row_of_template_arg row_of_unresolved_qualifier_level parts_of_held_initializer parts_of_held_template_args parts_of_held_name
mangled_name_top_level_type a = refl

pub mangled_name_global_ctor_dtor : (a : GlobalCtorDtor) → parts_of_mangled_name (of_mangled_name.GlobalCtorDtor a) ≡ node (tag_of_global_ctor_dtor a) (parts_of_global_ctor_dtor a) end
unfolding parts_of_mangled_name parts_of_encoding parts_of_global_ctor_dtor parts_of_name parts_of_template_arg parts_of_expression parts_of_unresolved_name parts_of_unresolved_qualifier_level parts_of_simple_id parts_of_base_unresolved_name parts_of_destructor_name parts_of_expr_primary parts_of_local_name parts_of_special_name parts_of_fold_expr row_of_expression row_of_template_arg row_of_unresolved_qualifier_level parts_of_held_initializer parts_of_held_template_args parts_of_held_name
mangled_name_global_ctor_dtor a = refl

pub encoding_function : (a : Name) (b : BareFunctionType) → parts_of_encoding (of_encoding.Function a b) ≡ node (tag_of_name a) (parts_of_name a) (tree_of_bare_function_type b)
unfolding parts_of_mangled_name parts_of_encoding parts_of_global_ctor_dtor parts_of_name parts_of_template_arg parts_of_expression parts_of_unresolved_name parts_of_unresolved_qualifier_level parts_of_simple_id parts_of_base_unresolved_name parts_of_destructor_name parts_of_expr_primary parts_of_local_name parts_of_special_name parts_of_fold_expr row_of_expression row_of_template_arg row_of_unresolved_qualifier_level parts_of_held_initializer parts_of_held_template_args parts_of_held_name
encoding_function a b = refl

pub encoding_data : (a : Name) → parts_of_encoding (of_encoding.Data a) ≡ node (tag_of_name a) (parts_of_name a) end
unfolding parts_of_mangled_name parts_of_encoding parts_of_global_ctor_dtor parts_of_name parts_of_template_arg parts_of_expression parts_of_unresolved_name parts_of_unresolved_qualifier_level parts_of_simple_id parts_of_base_unresolved_name parts_of_destructor_name parts_of_expr_primary parts_of_local_name parts_of_special_name parts_of_fold_expr row_of_expression row_of_template_arg row_of_unresolved_qualifier_level parts_of_held_initializer parts_of_held_template_args parts_of_held_name
encoding_data a = refl

pub encoding_special : (a : Box SpecialName Global) → parts_of_encoding (of_encoding.Special a) ≡ node (tag_of_special_name a.value) (parts_of_special_name a.value) end
unfolding parts_of_mangled_name parts_of_encoding parts_of_global_ctor_dtor parts_of_name parts_of_template_arg parts_of_expression parts_of_unresolved_name parts_of_unresolved_qualifier_level parts_of_simple_id parts_of_base_unresolved_name parts_of_destructor_name parts_of_expr_primary parts_of_local_name parts_of_special_name parts_of_fold_expr row_of_expression row_of_template_arg row_of_unresolved_qualifier_level parts_of_held_initializer parts_of_held_template_args parts_of_held_name
encoding_special a = refl

pub global_ctor_dtor_ctor : (a : Box MangledName Global) → parts_of_global_ctor_dtor (of_global_ctor_dtor.Ctor a) ≡ node (tag_of_mangled_name a.value) (parts_of_mangled_name a.value) end
unfolding parts_of_mangled_name parts_of_encoding parts_of_global_ctor_dtor parts_of_name parts_of_template_arg parts_of_expression parts_of_unresolved_name parts_of_unresolved_qualifier_level parts_of_simple_id parts_of_base_unresolved_name parts_of_destructor_name parts_of_expr_primary parts_of_local_name parts_of_special_name parts_of_fold_expr row_of_expression row_of_template_arg row_of_unresolved_qualifier_level parts_of_held_initializer parts_of_held_template_args parts_of_held_name
global_ctor_dtor_ctor a = refl

pub global_ctor_dtor_dtor : (a : Box MangledName Global) → parts_of_global_ctor_dtor (of_global_ctor_dtor.Dtor a) ≡ node (tag_of_mangled_name a.value) (parts_of_mangled_name a.value) end
unfolding parts_of_mangled_name parts_of_encoding parts_of_global_ctor_dtor parts_of_name parts_of_template_arg parts_of_expression parts_of_unresolved_name parts_of_unresolved_qualifier_level parts_of_simple_id parts_of_base_unresolved_name parts_of_destructor_name parts_of_expr_primary parts_of_local_name parts_of_special_name parts_of_fold_expr row_of_expression row_of_template_arg row_of_unresolved_qualifier_level parts_of_held_initializer parts_of_held_template_args parts_of_held_name
global_ctor_dtor_dtor a = refl

pub name_nested : (a : NestedName) → parts_of_name (of_name.Nested a) ≡ tree_of_nested_name a
unfolding parts_of_mangled_name parts_of_encoding parts_of_global_ctor_dtor parts_of_name parts_of_template_arg parts_of_expression parts_of_unresolved_name parts_of_unresolved_qualifier_level parts_of_simple_id parts_of_base_unresolved_name parts_of_destructor_name parts_of_expr_primary parts_of_local_name parts_of_special_name parts_of_fold_expr row_of_expression row_of_template_arg row_of_unresolved_qualifier_level parts_of_held_initializer parts_of_held_template_args parts_of_held_name
name_nested a = refl

pub name_unscoped : (a : UnscopedName) → parts_of_name (of_name.Unscoped a) ≡ tree_of_unscoped_name a
unfolding parts_of_mangled_name parts_of_encoding parts_of_global_ctor_dtor parts_of_name parts_of_template_arg parts_of_expression parts_of_unresolved_name parts_of_unresolved_qualifier_level parts_of_simple_id parts_of_base_unresolved_name parts_of_destructor_name parts_of_expr_primary parts_of_local_name parts_of_special_name parts_of_fold_expr row_of_expression row_of_template_arg row_of_unresolved_qualifier_level parts_of_held_initializer parts_of_held_template_args parts_of_held_name
name_unscoped a = refl

pub name_unscoped_template : (a : UnscopedTemplateNameHandle) (b : TemplateArgs) → parts_of_name (of_name.UnscopedTemplate a b) ≡ tree_of_unscoped_template_name_handle a ⊕ (node Tag.TemplateArgs (mark b.1 (node Tag.Several (trees tag_of_template_arg parts_of_template_arg b.0.items) end)) end)
unfolding parts_of_mangled_name parts_of_encoding parts_of_global_ctor_dtor parts_of_name parts_of_template_arg parts_of_expression parts_of_unresolved_name parts_of_unresolved_qualifier_level parts_of_simple_id parts_of_base_unresolved_name parts_of_destructor_name parts_of_expr_primary parts_of_local_name parts_of_special_name parts_of_fold_expr row_of_expression row_of_template_arg row_of_unresolved_qualifier_level parts_of_held_initializer parts_of_held_template_args parts_of_held_name
name_unscoped_template a b = ap (λ r. tree_of_unscoped_template_name_handle a ⊕ (node Tag.TemplateArgs (mark b.1 (node Tag.Several r end)) end)) (row_template_arg b.0)

pub name_local : (a : LocalName) → parts_of_name (of_name.Local a) ≡ node (tag_of_local_name a) (parts_of_local_name a) end
unfolding parts_of_mangled_name parts_of_encoding parts_of_global_ctor_dtor parts_of_name parts_of_template_arg parts_of_expression parts_of_unresolved_name parts_of_unresolved_qualifier_level parts_of_simple_id parts_of_base_unresolved_name parts_of_destructor_name parts_of_expr_primary parts_of_local_name parts_of_special_name parts_of_fold_expr row_of_expression row_of_template_arg row_of_unresolved_qualifier_level parts_of_held_initializer parts_of_held_template_args parts_of_held_name
name_local a = refl

pub template_arg_type_arg : (a : TypeHandle) → parts_of_template_arg (of_template_arg.TypeArg a) ≡ tree_of_type_handle a
unfolding parts_of_mangled_name parts_of_encoding parts_of_global_ctor_dtor parts_of_name parts_of_template_arg parts_of_expression parts_of_unresolved_name parts_of_unresolved_qualifier_level parts_of_simple_id parts_of_base_unresolved_name parts_of_destructor_name parts_of_expr_primary parts_of_local_name parts_of_special_name parts_of_fold_expr row_of_expression row_of_template_arg row_of_unresolved_qualifier_level parts_of_held_initializer parts_of_held_template_args parts_of_held_name
template_arg_type_arg a = refl

pub template_arg_expression : (a : Expression) → parts_of_template_arg (of_template_arg.Expression a) ≡ node (tag_of_expression a) (parts_of_expression a) end
unfolding parts_of_mangled_name parts_of_encoding parts_of_global_ctor_dtor parts_of_name parts_of_template_arg parts_of_expression parts_of_unresolved_name parts_of_unresolved_qualifier_level parts_of_simple_id parts_of_base_unresolved_name parts_of_destructor_name parts_of_expr_primary parts_of_local_name parts_of_special_name parts_of_fold_expr row_of_expression row_of_template_arg row_of_unresolved_qualifier_level parts_of_held_initializer parts_of_held_template_args parts_of_held_name
template_arg_expression a = refl

pub template_arg_simple_expression : (a : ExprPrimary) → parts_of_template_arg (of_template_arg.SimpleExpression a) ≡ node (tag_of_expr_primary a) (parts_of_expr_primary a) end
unfolding parts_of_mangled_name parts_of_encoding parts_of_global_ctor_dtor parts_of_name parts_of_template_arg parts_of_expression parts_of_unresolved_name parts_of_unresolved_qualifier_level parts_of_simple_id parts_of_base_unresolved_name parts_of_destructor_name parts_of_expr_primary parts_of_local_name parts_of_special_name parts_of_fold_expr row_of_expression row_of_template_arg row_of_unresolved_qualifier_level parts_of_held_initializer parts_of_held_template_args parts_of_held_name
template_arg_simple_expression a = refl

pub template_arg_arg_pack : (a : Vec TemplateArg Global) → parts_of_template_arg (of_template_arg.ArgPack a) ≡ node Tag.Several (trees tag_of_template_arg parts_of_template_arg a.items) end
unfolding parts_of_mangled_name parts_of_encoding parts_of_global_ctor_dtor parts_of_name parts_of_template_arg parts_of_expression parts_of_unresolved_name parts_of_unresolved_qualifier_level parts_of_simple_id parts_of_base_unresolved_name parts_of_destructor_name parts_of_expr_primary parts_of_local_name parts_of_special_name parts_of_fold_expr row_of_expression row_of_template_arg row_of_unresolved_qualifier_level parts_of_held_initializer parts_of_held_template_args parts_of_held_name
template_arg_arg_pack a = ap (λ r. node Tag.Several r end) (row_template_arg a)

pub expression_unary : (a : OperatorName) (b : Box Expression Global) → parts_of_expression (of_expression.Unary a b) ≡ tree_of_operator_name a ⊕ (node (tag_of_expression b.value) (parts_of_expression b.value) end)
unfolding parts_of_mangled_name parts_of_encoding parts_of_global_ctor_dtor parts_of_name parts_of_template_arg parts_of_expression parts_of_unresolved_name parts_of_unresolved_qualifier_level parts_of_simple_id parts_of_base_unresolved_name parts_of_destructor_name parts_of_expr_primary parts_of_local_name parts_of_special_name parts_of_fold_expr row_of_expression row_of_template_arg row_of_unresolved_qualifier_level parts_of_held_initializer parts_of_held_template_args parts_of_held_name
expression_unary a b = refl

pub expression_binary : (a : OperatorName) (b : Box Expression Global) (c : Box Expression Global) → parts_of_expression (of_expression.Binary a b c) ≡ tree_of_operator_name a ⊕ (node (tag_of_expression b.value) (parts_of_expression b.value) (node (tag_of_expression c.value) (parts_of_expression c.value) end))
unfolding parts_of_mangled_name parts_of_encoding parts_of_global_ctor_dtor parts_of_name parts_of_template_arg parts_of_expression parts_of_unresolved_name parts_of_unresolved_qualifier_level parts_of_simple_id parts_of_base_unresolved_name parts_of_destructor_name parts_of_expr_primary parts_of_local_name parts_of_special_name parts_of_fold_expr row_of_expression row_of_template_arg row_of_unresolved_qualifier_level parts_of_held_initializer parts_of_held_template_args parts_of_held_name
expression_binary a b c = refl

pub expression_ternary : (a : OperatorName) (b : Box Expression Global) (c : Box Expression Global) (d : Box Expression Global) → parts_of_expression (of_expression.Ternary a b c d) ≡ tree_of_operator_name a ⊕ (node (tag_of_expression b.value) (parts_of_expression b.value) (node (tag_of_expression c.value) (parts_of_expression c.value) (node (tag_of_expression d.value) (parts_of_expression d.value) end)))
unfolding parts_of_mangled_name parts_of_encoding parts_of_global_ctor_dtor parts_of_name parts_of_template_arg parts_of_expression parts_of_unresolved_name parts_of_unresolved_qualifier_level parts_of_simple_id parts_of_base_unresolved_name parts_of_destructor_name parts_of_expr_primary parts_of_local_name parts_of_special_name parts_of_fold_expr row_of_expression row_of_template_arg row_of_unresolved_qualifier_level parts_of_held_initializer parts_of_held_template_args parts_of_held_name
expression_ternary a b c d = refl

pub expression_prefix_inc : (a : Box Expression Global) → parts_of_expression (of_expression.PrefixInc a) ≡ node (tag_of_expression a.value) (parts_of_expression a.value) end
unfolding parts_of_mangled_name parts_of_encoding parts_of_global_ctor_dtor parts_of_name parts_of_template_arg parts_of_expression parts_of_unresolved_name parts_of_unresolved_qualifier_level parts_of_simple_id parts_of_base_unresolved_name parts_of_destructor_name parts_of_expr_primary parts_of_local_name parts_of_special_name parts_of_fold_expr row_of_expression row_of_template_arg row_of_unresolved_qualifier_level parts_of_held_initializer parts_of_held_template_args parts_of_held_name
expression_prefix_inc a = refl

pub expression_prefix_dec : (a : Box Expression Global) → parts_of_expression (of_expression.PrefixDec a) ≡ node (tag_of_expression a.value) (parts_of_expression a.value) end
unfolding parts_of_mangled_name parts_of_encoding parts_of_global_ctor_dtor parts_of_name parts_of_template_arg parts_of_expression parts_of_unresolved_name parts_of_unresolved_qualifier_level parts_of_simple_id parts_of_base_unresolved_name parts_of_destructor_name parts_of_expr_primary parts_of_local_name parts_of_special_name parts_of_fold_expr row_of_expression row_of_template_arg row_of_unresolved_qualifier_level parts_of_held_initializer parts_of_held_template_args parts_of_held_name
expression_prefix_dec a = refl

pub expression_call : (a : Box Expression Global) (b : Vec Expression Global) → parts_of_expression (of_expression.Call a b) ≡ node (tag_of_expression a.value) (parts_of_expression a.value) (node Tag.Several (trees tag_of_expression parts_of_expression b.items) end)
unfolding parts_of_mangled_name parts_of_encoding parts_of_global_ctor_dtor parts_of_name parts_of_template_arg parts_of_expression parts_of_unresolved_name parts_of_unresolved_qualifier_level parts_of_simple_id parts_of_base_unresolved_name parts_of_destructor_name parts_of_expr_primary parts_of_local_name parts_of_special_name parts_of_fold_expr row_of_expression row_of_template_arg row_of_unresolved_qualifier_level parts_of_held_initializer parts_of_held_template_args parts_of_held_name
expression_call a b = ap (λ r. node (tag_of_expression a.value) (parts_of_expression a.value) (node Tag.Several r end)) (row_expression b)

pub expression_conversion_one : (a : TypeHandle) (b : Box Expression Global) → parts_of_expression (of_expression.ConversionOne a b) ≡ tree_of_type_handle a ⊕ (node (tag_of_expression b.value) (parts_of_expression b.value) end)
unfolding parts_of_mangled_name parts_of_encoding parts_of_global_ctor_dtor parts_of_name parts_of_template_arg parts_of_expression parts_of_unresolved_name parts_of_unresolved_qualifier_level parts_of_simple_id parts_of_base_unresolved_name parts_of_destructor_name parts_of_expr_primary parts_of_local_name parts_of_special_name parts_of_fold_expr row_of_expression row_of_template_arg row_of_unresolved_qualifier_level parts_of_held_initializer parts_of_held_template_args parts_of_held_name
expression_conversion_one a b = refl

pub expression_conversion_many : (a : TypeHandle) (b : Vec Expression Global) → parts_of_expression (of_expression.ConversionMany a b) ≡ tree_of_type_handle a ⊕ (node Tag.Several (trees tag_of_expression parts_of_expression b.items) end)
unfolding parts_of_mangled_name parts_of_encoding parts_of_global_ctor_dtor parts_of_name parts_of_template_arg parts_of_expression parts_of_unresolved_name parts_of_unresolved_qualifier_level parts_of_simple_id parts_of_base_unresolved_name parts_of_destructor_name parts_of_expr_primary parts_of_local_name parts_of_special_name parts_of_fold_expr row_of_expression row_of_template_arg row_of_unresolved_qualifier_level parts_of_held_initializer parts_of_held_template_args parts_of_held_name
expression_conversion_many a b = ap (λ r. tree_of_type_handle a ⊕ (node Tag.Several r end)) (row_expression b)

pub expression_conversion_braced : (a : TypeHandle) (b : Vec Expression Global) → parts_of_expression (of_expression.ConversionBraced a b) ≡ tree_of_type_handle a ⊕ (node Tag.Several (trees tag_of_expression parts_of_expression b.items) end)
unfolding parts_of_mangled_name parts_of_encoding parts_of_global_ctor_dtor parts_of_name parts_of_template_arg parts_of_expression parts_of_unresolved_name parts_of_unresolved_qualifier_level parts_of_simple_id parts_of_base_unresolved_name parts_of_destructor_name parts_of_expr_primary parts_of_local_name parts_of_special_name parts_of_fold_expr row_of_expression row_of_template_arg row_of_unresolved_qualifier_level parts_of_held_initializer parts_of_held_template_args parts_of_held_name
expression_conversion_braced a b = ap (λ r. tree_of_type_handle a ⊕ (node Tag.Several r end)) (row_expression b)

pub expression_braced_init_list : (a : Vec Expression Global) → parts_of_expression (of_expression.BracedInitList a) ≡ node Tag.Several (trees tag_of_expression parts_of_expression a.items) end
unfolding parts_of_mangled_name parts_of_encoding parts_of_global_ctor_dtor parts_of_name parts_of_template_arg parts_of_expression parts_of_unresolved_name parts_of_unresolved_qualifier_level parts_of_simple_id parts_of_base_unresolved_name parts_of_destructor_name parts_of_expr_primary parts_of_local_name parts_of_special_name parts_of_fold_expr row_of_expression row_of_template_arg row_of_unresolved_qualifier_level parts_of_held_initializer parts_of_held_template_args parts_of_held_name
expression_braced_init_list a = ap (λ r. node Tag.Several r end) (row_expression a)

pub expression_new : (a : Vec Expression Global) (b : TypeHandle) (c : Option Initializer) → parts_of_expression (of_expression.New a b c) ≡ node Tag.Several (trees tag_of_expression parts_of_expression a.items) (tree_of_type_handle b ⊕ (node (tag_of_option c) (parts_of_option tree_of_initializer c) end))
unfolding parts_of_mangled_name parts_of_encoding parts_of_global_ctor_dtor parts_of_name parts_of_template_arg parts_of_expression parts_of_unresolved_name parts_of_unresolved_qualifier_level parts_of_simple_id parts_of_base_unresolved_name parts_of_destructor_name parts_of_expr_primary parts_of_local_name parts_of_special_name parts_of_fold_expr row_of_expression row_of_template_arg row_of_unresolved_qualifier_level parts_of_held_initializer parts_of_held_template_args parts_of_held_name
expression_new a b c = ap (λ r. node Tag.Several r (tree_of_type_handle b ⊕ (node (tag_of_held_initializer (back-Expression-New-2 c)) (parts_of_held_initializer (back-Expression-New-2 c)) end))) (row_expression a) ∙ ap (λ r. node Tag.Several (trees tag_of_expression parts_of_expression a.items) (tree_of_type_handle b ⊕ (node r (parts_of_held_initializer (back-Expression-New-2 c)) end))) (held_tag_initializer c) ∙ ap (λ r. node Tag.Several (trees tag_of_expression parts_of_expression a.items) (tree_of_type_handle b ⊕ (node (tag_of_option c) r end))) (held_parts_initializer c)

pub expression_global_new : (a : Vec Expression Global) (b : TypeHandle) (c : Option Initializer) → parts_of_expression (of_expression.GlobalNew a b c) ≡ node Tag.Several (trees tag_of_expression parts_of_expression a.items) (tree_of_type_handle b ⊕ (node (tag_of_option c) (parts_of_option tree_of_initializer c) end))
unfolding parts_of_mangled_name parts_of_encoding parts_of_global_ctor_dtor parts_of_name parts_of_template_arg parts_of_expression parts_of_unresolved_name parts_of_unresolved_qualifier_level parts_of_simple_id parts_of_base_unresolved_name parts_of_destructor_name parts_of_expr_primary parts_of_local_name parts_of_special_name parts_of_fold_expr row_of_expression row_of_template_arg row_of_unresolved_qualifier_level parts_of_held_initializer parts_of_held_template_args parts_of_held_name
expression_global_new a b c = ap (λ r. node Tag.Several r (tree_of_type_handle b ⊕ (node (tag_of_held_initializer (back-Expression-New-2 c)) (parts_of_held_initializer (back-Expression-New-2 c)) end))) (row_expression a) ∙ ap (λ r. node Tag.Several (trees tag_of_expression parts_of_expression a.items) (tree_of_type_handle b ⊕ (node r (parts_of_held_initializer (back-Expression-New-2 c)) end))) (held_tag_initializer c) ∙ ap (λ r. node Tag.Several (trees tag_of_expression parts_of_expression a.items) (tree_of_type_handle b ⊕ (node (tag_of_option c) r end))) (held_parts_initializer c)

pub expression_new_array : (a : Vec Expression Global) (b : TypeHandle) (c : Option Initializer) → parts_of_expression (of_expression.NewArray a b c) ≡ node Tag.Several (trees tag_of_expression parts_of_expression a.items) (tree_of_type_handle b ⊕ (node (tag_of_option c) (parts_of_option tree_of_initializer c) end))
unfolding parts_of_mangled_name parts_of_encoding parts_of_global_ctor_dtor parts_of_name parts_of_template_arg parts_of_expression parts_of_unresolved_name parts_of_unresolved_qualifier_level parts_of_simple_id parts_of_base_unresolved_name parts_of_destructor_name parts_of_expr_primary parts_of_local_name parts_of_special_name parts_of_fold_expr row_of_expression row_of_template_arg row_of_unresolved_qualifier_level parts_of_held_initializer parts_of_held_template_args parts_of_held_name
expression_new_array a b c = ap (λ r. node Tag.Several r (tree_of_type_handle b ⊕ (node (tag_of_held_initializer (back-Expression-New-2 c)) (parts_of_held_initializer (back-Expression-New-2 c)) end))) (row_expression a) ∙ ap (λ r. node Tag.Several (trees tag_of_expression parts_of_expression a.items) (tree_of_type_handle b ⊕ (node r (parts_of_held_initializer (back-Expression-New-2 c)) end))) (held_tag_initializer c) ∙ ap (λ r. node Tag.Several (trees tag_of_expression parts_of_expression a.items) (tree_of_type_handle b ⊕ (node (tag_of_option c) r end))) (held_parts_initializer c)

pub expression_global_new_array : (a : Vec Expression Global) (b : TypeHandle) (c : Option Initializer) → parts_of_expression (of_expression.GlobalNewArray a b c) ≡ node Tag.Several (trees tag_of_expression parts_of_expression a.items) (tree_of_type_handle b ⊕ (node (tag_of_option c) (parts_of_option tree_of_initializer c) end))
unfolding parts_of_mangled_name parts_of_encoding parts_of_global_ctor_dtor parts_of_name parts_of_template_arg parts_of_expression parts_of_unresolved_name parts_of_unresolved_qualifier_level parts_of_simple_id parts_of_base_unresolved_name parts_of_destructor_name parts_of_expr_primary parts_of_local_name parts_of_special_name parts_of_fold_expr row_of_expression row_of_template_arg row_of_unresolved_qualifier_level parts_of_held_initializer parts_of_held_template_args parts_of_held_name
expression_global_new_array a b c = ap (λ r. node Tag.Several r (tree_of_type_handle b ⊕ (node (tag_of_held_initializer (back-Expression-New-2 c)) (parts_of_held_initializer (back-Expression-New-2 c)) end))) (row_expression a) ∙ ap (λ r. node Tag.Several (trees tag_of_expression parts_of_expression a.items) (tree_of_type_handle b ⊕ (node r (parts_of_held_initializer (back-Expression-New-2 c)) end))) (held_tag_initializer c) ∙ ap (λ r. node Tag.Several (trees tag_of_expression parts_of_expression a.items) (tree_of_type_handle b ⊕ (node (tag_of_option c) r end))) (held_parts_initializer c)

pub expression_delete : (a : Box Expression Global) → parts_of_expression (of_expression.Delete a) ≡ node (tag_of_expression a.value) (parts_of_expression a.value) end
unfolding parts_of_mangled_name parts_of_encoding parts_of_global_ctor_dtor parts_of_name parts_of_template_arg parts_of_expression parts_of_unresolved_name parts_of_unresolved_qualifier_level parts_of_simple_id parts_of_base_unresolved_name parts_of_destructor_name parts_of_expr_primary parts_of_local_name parts_of_special_name parts_of_fold_expr row_of_expression row_of_template_arg row_of_unresolved_qualifier_level parts_of_held_initializer parts_of_held_template_args parts_of_held_name
expression_delete a = refl

pub expression_global_delete : (a : Box Expression Global) → parts_of_expression (of_expression.GlobalDelete a) ≡ node (tag_of_expression a.value) (parts_of_expression a.value) end
unfolding parts_of_mangled_name parts_of_encoding parts_of_global_ctor_dtor parts_of_name parts_of_template_arg parts_of_expression parts_of_unresolved_name parts_of_unresolved_qualifier_level parts_of_simple_id parts_of_base_unresolved_name parts_of_destructor_name parts_of_expr_primary parts_of_local_name parts_of_special_name parts_of_fold_expr row_of_expression row_of_template_arg row_of_unresolved_qualifier_level parts_of_held_initializer parts_of_held_template_args parts_of_held_name
expression_global_delete a = refl

pub expression_delete_array : (a : Box Expression Global) → parts_of_expression (of_expression.DeleteArray a) ≡ node (tag_of_expression a.value) (parts_of_expression a.value) end
unfolding parts_of_mangled_name parts_of_encoding parts_of_global_ctor_dtor parts_of_name parts_of_template_arg parts_of_expression parts_of_unresolved_name parts_of_unresolved_qualifier_level parts_of_simple_id parts_of_base_unresolved_name parts_of_destructor_name parts_of_expr_primary parts_of_local_name parts_of_special_name parts_of_fold_expr row_of_expression row_of_template_arg row_of_unresolved_qualifier_level parts_of_held_initializer parts_of_held_template_args parts_of_held_name
expression_delete_array a = refl

pub expression_global_delete_array : (a : Box Expression Global) → parts_of_expression (of_expression.GlobalDeleteArray a) ≡ node (tag_of_expression a.value) (parts_of_expression a.value) end
unfolding parts_of_mangled_name parts_of_encoding parts_of_global_ctor_dtor parts_of_name parts_of_template_arg parts_of_expression parts_of_unresolved_name parts_of_unresolved_qualifier_level parts_of_simple_id parts_of_base_unresolved_name parts_of_destructor_name parts_of_expr_primary parts_of_local_name parts_of_special_name parts_of_fold_expr row_of_expression row_of_template_arg row_of_unresolved_qualifier_level parts_of_held_initializer parts_of_held_template_args parts_of_held_name
expression_global_delete_array a = refl

pub expression_dynamic_cast : (a : TypeHandle) (b : Box Expression Global) → parts_of_expression (of_expression.DynamicCast a b) ≡ tree_of_type_handle a ⊕ (node (tag_of_expression b.value) (parts_of_expression b.value) end)
unfolding parts_of_mangled_name parts_of_encoding parts_of_global_ctor_dtor parts_of_name parts_of_template_arg parts_of_expression parts_of_unresolved_name parts_of_unresolved_qualifier_level parts_of_simple_id parts_of_base_unresolved_name parts_of_destructor_name parts_of_expr_primary parts_of_local_name parts_of_special_name parts_of_fold_expr row_of_expression row_of_template_arg row_of_unresolved_qualifier_level parts_of_held_initializer parts_of_held_template_args parts_of_held_name
expression_dynamic_cast a b = refl

pub expression_static_cast : (a : TypeHandle) (b : Box Expression Global) → parts_of_expression (of_expression.StaticCast a b) ≡ tree_of_type_handle a ⊕ (node (tag_of_expression b.value) (parts_of_expression b.value) end)
unfolding parts_of_mangled_name parts_of_encoding parts_of_global_ctor_dtor parts_of_name parts_of_template_arg parts_of_expression parts_of_unresolved_name parts_of_unresolved_qualifier_level parts_of_simple_id parts_of_base_unresolved_name parts_of_destructor_name parts_of_expr_primary parts_of_local_name parts_of_special_name parts_of_fold_expr row_of_expression row_of_template_arg row_of_unresolved_qualifier_level parts_of_held_initializer parts_of_held_template_args parts_of_held_name
expression_static_cast a b = refl

pub expression_const_cast : (a : TypeHandle) (b : Box Expression Global) → parts_of_expression (of_expression.ConstCast a b) ≡ tree_of_type_handle a ⊕ (node (tag_of_expression b.value) (parts_of_expression b.value) end)
unfolding parts_of_mangled_name parts_of_encoding parts_of_global_ctor_dtor parts_of_name parts_of_template_arg parts_of_expression parts_of_unresolved_name parts_of_unresolved_qualifier_level parts_of_simple_id parts_of_base_unresolved_name parts_of_destructor_name parts_of_expr_primary parts_of_local_name parts_of_special_name parts_of_fold_expr row_of_expression row_of_template_arg row_of_unresolved_qualifier_level parts_of_held_initializer parts_of_held_template_args parts_of_held_name
expression_const_cast a b = refl

pub expression_reinterpret_cast : (a : TypeHandle) (b : Box Expression Global) → parts_of_expression (of_expression.ReinterpretCast a b) ≡ tree_of_type_handle a ⊕ (node (tag_of_expression b.value) (parts_of_expression b.value) end)
unfolding parts_of_mangled_name parts_of_encoding parts_of_global_ctor_dtor parts_of_name parts_of_template_arg parts_of_expression parts_of_unresolved_name parts_of_unresolved_qualifier_level parts_of_simple_id parts_of_base_unresolved_name parts_of_destructor_name parts_of_expr_primary parts_of_local_name parts_of_special_name parts_of_fold_expr row_of_expression row_of_template_arg row_of_unresolved_qualifier_level parts_of_held_initializer parts_of_held_template_args parts_of_held_name
expression_reinterpret_cast a b = refl

pub expression_typeid_type : (a : TypeHandle) → parts_of_expression (of_expression.TypeidType a) ≡ tree_of_type_handle a
unfolding parts_of_mangled_name parts_of_encoding parts_of_global_ctor_dtor parts_of_name parts_of_template_arg parts_of_expression parts_of_unresolved_name parts_of_unresolved_qualifier_level parts_of_simple_id parts_of_base_unresolved_name parts_of_destructor_name parts_of_expr_primary parts_of_local_name parts_of_special_name parts_of_fold_expr row_of_expression row_of_template_arg row_of_unresolved_qualifier_level parts_of_held_initializer parts_of_held_template_args parts_of_held_name
expression_typeid_type a = refl

pub expression_typeid_expr : (a : Box Expression Global) → parts_of_expression (of_expression.TypeidExpr a) ≡ node (tag_of_expression a.value) (parts_of_expression a.value) end
unfolding parts_of_mangled_name parts_of_encoding parts_of_global_ctor_dtor parts_of_name parts_of_template_arg parts_of_expression parts_of_unresolved_name parts_of_unresolved_qualifier_level parts_of_simple_id parts_of_base_unresolved_name parts_of_destructor_name parts_of_expr_primary parts_of_local_name parts_of_special_name parts_of_fold_expr row_of_expression row_of_template_arg row_of_unresolved_qualifier_level parts_of_held_initializer parts_of_held_template_args parts_of_held_name
expression_typeid_expr a = refl

pub expression_sizeof_type : (a : TypeHandle) → parts_of_expression (of_expression.SizeofType a) ≡ tree_of_type_handle a
unfolding parts_of_mangled_name parts_of_encoding parts_of_global_ctor_dtor parts_of_name parts_of_template_arg parts_of_expression parts_of_unresolved_name parts_of_unresolved_qualifier_level parts_of_simple_id parts_of_base_unresolved_name parts_of_destructor_name parts_of_expr_primary parts_of_local_name parts_of_special_name parts_of_fold_expr row_of_expression row_of_template_arg row_of_unresolved_qualifier_level parts_of_held_initializer parts_of_held_template_args parts_of_held_name
expression_sizeof_type a = refl

pub expression_sizeof_expr : (a : Box Expression Global) → parts_of_expression (of_expression.SizeofExpr a) ≡ node (tag_of_expression a.value) (parts_of_expression a.value) end
unfolding parts_of_mangled_name parts_of_encoding parts_of_global_ctor_dtor parts_of_name parts_of_template_arg parts_of_expression parts_of_unresolved_name parts_of_unresolved_qualifier_level parts_of_simple_id parts_of_base_unresolved_name parts_of_destructor_name parts_of_expr_primary parts_of_local_name parts_of_special_name parts_of_fold_expr row_of_expression row_of_template_arg row_of_unresolved_qualifier_level parts_of_held_initializer parts_of_held_template_args parts_of_held_name
expression_sizeof_expr a = refl

pub expression_alignof_type : (a : TypeHandle) → parts_of_expression (of_expression.AlignofType a) ≡ tree_of_type_handle a
unfolding parts_of_mangled_name parts_of_encoding parts_of_global_ctor_dtor parts_of_name parts_of_template_arg parts_of_expression parts_of_unresolved_name parts_of_unresolved_qualifier_level parts_of_simple_id parts_of_base_unresolved_name parts_of_destructor_name parts_of_expr_primary parts_of_local_name parts_of_special_name parts_of_fold_expr row_of_expression row_of_template_arg row_of_unresolved_qualifier_level parts_of_held_initializer parts_of_held_template_args parts_of_held_name
expression_alignof_type a = refl

pub expression_alignof_expr : (a : Box Expression Global) → parts_of_expression (of_expression.AlignofExpr a) ≡ node (tag_of_expression a.value) (parts_of_expression a.value) end
unfolding parts_of_mangled_name parts_of_encoding parts_of_global_ctor_dtor parts_of_name parts_of_template_arg parts_of_expression parts_of_unresolved_name parts_of_unresolved_qualifier_level parts_of_simple_id parts_of_base_unresolved_name parts_of_destructor_name parts_of_expr_primary parts_of_local_name parts_of_special_name parts_of_fold_expr row_of_expression row_of_template_arg row_of_unresolved_qualifier_level parts_of_held_initializer parts_of_held_template_args parts_of_held_name
expression_alignof_expr a = refl

pub expression_noexcept : (a : Box Expression Global) → parts_of_expression (of_expression.Noexcept a) ≡ node (tag_of_expression a.value) (parts_of_expression a.value) end
unfolding parts_of_mangled_name parts_of_encoding parts_of_global_ctor_dtor parts_of_name parts_of_template_arg parts_of_expression parts_of_unresolved_name parts_of_unresolved_qualifier_level parts_of_simple_id parts_of_base_unresolved_name parts_of_destructor_name parts_of_expr_primary parts_of_local_name parts_of_special_name parts_of_fold_expr row_of_expression row_of_template_arg row_of_unresolved_qualifier_level parts_of_held_initializer parts_of_held_template_args parts_of_held_name
expression_noexcept a = refl

pub expression_subobject : (a : SubobjectExpr) → parts_of_expression (of_expression.Subobject a) ≡ node Tag.SubobjectExpr (tree_of_type_handle a.ty ⊕ (node (tag_of_expression a.expr.value) (parts_of_expression a.expr.value) (number a.offset end))) end
unfolding parts_of_mangled_name parts_of_encoding parts_of_global_ctor_dtor parts_of_name parts_of_template_arg parts_of_expression parts_of_unresolved_name parts_of_unresolved_qualifier_level parts_of_simple_id parts_of_base_unresolved_name parts_of_destructor_name parts_of_expr_primary parts_of_local_name parts_of_special_name parts_of_fold_expr row_of_expression row_of_template_arg row_of_unresolved_qualifier_level parts_of_held_initializer parts_of_held_template_args parts_of_held_name
expression_subobject a = refl

pub expression_template_param : (a : TemplateParam) → parts_of_expression (of_expression.TemplateParam a) ≡ tree_of_template_param a
unfolding parts_of_mangled_name parts_of_encoding parts_of_global_ctor_dtor parts_of_name parts_of_template_arg parts_of_expression parts_of_unresolved_name parts_of_unresolved_qualifier_level parts_of_simple_id parts_of_base_unresolved_name parts_of_destructor_name parts_of_expr_primary parts_of_local_name parts_of_special_name parts_of_fold_expr row_of_expression row_of_template_arg row_of_unresolved_qualifier_level parts_of_held_initializer parts_of_held_template_args parts_of_held_name
expression_template_param a = refl

pub expression_function_param : (a : FunctionParam) → parts_of_expression (of_expression.FunctionParam a) ≡ tree_of_function_param a
unfolding parts_of_mangled_name parts_of_encoding parts_of_global_ctor_dtor parts_of_name parts_of_template_arg parts_of_expression parts_of_unresolved_name parts_of_unresolved_qualifier_level parts_of_simple_id parts_of_base_unresolved_name parts_of_destructor_name parts_of_expr_primary parts_of_local_name parts_of_special_name parts_of_fold_expr row_of_expression row_of_template_arg row_of_unresolved_qualifier_level parts_of_held_initializer parts_of_held_template_args parts_of_held_name
expression_function_param a = refl

pub expression_member : (a : Box Expression Global) (b : MemberName) → parts_of_expression (of_expression.Member a b) ≡ node (tag_of_expression a.value) (parts_of_expression a.value) (node Tag.MemberName (node (tag_of_name b.0.value) (parts_of_name b.0.value) end) end)
unfolding parts_of_mangled_name parts_of_encoding parts_of_global_ctor_dtor parts_of_name parts_of_template_arg parts_of_expression parts_of_unresolved_name parts_of_unresolved_qualifier_level parts_of_simple_id parts_of_base_unresolved_name parts_of_destructor_name parts_of_expr_primary parts_of_local_name parts_of_special_name parts_of_fold_expr row_of_expression row_of_template_arg row_of_unresolved_qualifier_level parts_of_held_initializer parts_of_held_template_args parts_of_held_name
expression_member a b = refl

pub expression_deref_member : (a : Box Expression Global) (b : MemberName) → parts_of_expression (of_expression.DerefMember a b) ≡ node (tag_of_expression a.value) (parts_of_expression a.value) (node Tag.MemberName (node (tag_of_name b.0.value) (parts_of_name b.0.value) end) end)
unfolding parts_of_mangled_name parts_of_encoding parts_of_global_ctor_dtor parts_of_name parts_of_template_arg parts_of_expression parts_of_unresolved_name parts_of_unresolved_qualifier_level parts_of_simple_id parts_of_base_unresolved_name parts_of_destructor_name parts_of_expr_primary parts_of_local_name parts_of_special_name parts_of_fold_expr row_of_expression row_of_template_arg row_of_unresolved_qualifier_level parts_of_held_initializer parts_of_held_template_args parts_of_held_name
expression_deref_member a b = refl

pub expression_pointer_to_member : (a : Box Expression Global) (b : Box Expression Global) → parts_of_expression (of_expression.PointerToMember a b) ≡ node (tag_of_expression a.value) (parts_of_expression a.value) (node (tag_of_expression b.value) (parts_of_expression b.value) end)
unfolding parts_of_mangled_name parts_of_encoding parts_of_global_ctor_dtor parts_of_name parts_of_template_arg parts_of_expression parts_of_unresolved_name parts_of_unresolved_qualifier_level parts_of_simple_id parts_of_base_unresolved_name parts_of_destructor_name parts_of_expr_primary parts_of_local_name parts_of_special_name parts_of_fold_expr row_of_expression row_of_template_arg row_of_unresolved_qualifier_level parts_of_held_initializer parts_of_held_template_args parts_of_held_name
expression_pointer_to_member a b = refl

pub expression_sizeof_template_pack : (a : TemplateParam) → parts_of_expression (of_expression.SizeofTemplatePack a) ≡ tree_of_template_param a
unfolding parts_of_mangled_name parts_of_encoding parts_of_global_ctor_dtor parts_of_name parts_of_template_arg parts_of_expression parts_of_unresolved_name parts_of_unresolved_qualifier_level parts_of_simple_id parts_of_base_unresolved_name parts_of_destructor_name parts_of_expr_primary parts_of_local_name parts_of_special_name parts_of_fold_expr row_of_expression row_of_template_arg row_of_unresolved_qualifier_level parts_of_held_initializer parts_of_held_template_args parts_of_held_name
expression_sizeof_template_pack a = refl

pub expression_sizeof_function_pack : (a : FunctionParam) → parts_of_expression (of_expression.SizeofFunctionPack a) ≡ tree_of_function_param a
unfolding parts_of_mangled_name parts_of_encoding parts_of_global_ctor_dtor parts_of_name parts_of_template_arg parts_of_expression parts_of_unresolved_name parts_of_unresolved_qualifier_level parts_of_simple_id parts_of_base_unresolved_name parts_of_destructor_name parts_of_expr_primary parts_of_local_name parts_of_special_name parts_of_fold_expr row_of_expression row_of_template_arg row_of_unresolved_qualifier_level parts_of_held_initializer parts_of_held_template_args parts_of_held_name
expression_sizeof_function_pack a = refl

pub expression_sizeof_captured_template_pack : (a : Vec TemplateArg Global) → parts_of_expression (of_expression.SizeofCapturedTemplatePack a) ≡ node Tag.Several (trees tag_of_template_arg parts_of_template_arg a.items) end
unfolding parts_of_mangled_name parts_of_encoding parts_of_global_ctor_dtor parts_of_name parts_of_template_arg parts_of_expression parts_of_unresolved_name parts_of_unresolved_qualifier_level parts_of_simple_id parts_of_base_unresolved_name parts_of_destructor_name parts_of_expr_primary parts_of_local_name parts_of_special_name parts_of_fold_expr row_of_expression row_of_template_arg row_of_unresolved_qualifier_level parts_of_held_initializer parts_of_held_template_args parts_of_held_name
expression_sizeof_captured_template_pack a = ap (λ r. node Tag.Several r end) (row_template_arg a)

pub expression_pack_expansion : (a : Box Expression Global) → parts_of_expression (of_expression.PackExpansion a) ≡ node (tag_of_expression a.value) (parts_of_expression a.value) end
unfolding parts_of_mangled_name parts_of_encoding parts_of_global_ctor_dtor parts_of_name parts_of_template_arg parts_of_expression parts_of_unresolved_name parts_of_unresolved_qualifier_level parts_of_simple_id parts_of_base_unresolved_name parts_of_destructor_name parts_of_expr_primary parts_of_local_name parts_of_special_name parts_of_fold_expr row_of_expression row_of_template_arg row_of_unresolved_qualifier_level parts_of_held_initializer parts_of_held_template_args parts_of_held_name
expression_pack_expansion a = refl

pub expression_fold : (a : FoldExpr) → parts_of_expression (of_expression.Fold a) ≡ node (tag_of_fold_expr a) (parts_of_fold_expr a) end
unfolding parts_of_mangled_name parts_of_encoding parts_of_global_ctor_dtor parts_of_name parts_of_template_arg parts_of_expression parts_of_unresolved_name parts_of_unresolved_qualifier_level parts_of_simple_id parts_of_base_unresolved_name parts_of_destructor_name parts_of_expr_primary parts_of_local_name parts_of_special_name parts_of_fold_expr row_of_expression row_of_template_arg row_of_unresolved_qualifier_level parts_of_held_initializer parts_of_held_template_args parts_of_held_name
expression_fold a = refl

pub expression_throw : (a : Box Expression Global) → parts_of_expression (of_expression.Throw a) ≡ node (tag_of_expression a.value) (parts_of_expression a.value) end
unfolding parts_of_mangled_name parts_of_encoding parts_of_global_ctor_dtor parts_of_name parts_of_template_arg parts_of_expression parts_of_unresolved_name parts_of_unresolved_qualifier_level parts_of_simple_id parts_of_base_unresolved_name parts_of_destructor_name parts_of_expr_primary parts_of_local_name parts_of_special_name parts_of_fold_expr row_of_expression row_of_template_arg row_of_unresolved_qualifier_level parts_of_held_initializer parts_of_held_template_args parts_of_held_name
expression_throw a = refl

pub expression_rethrow : parts_of_expression of_expression.Rethrow ≡ end
unfolding parts_of_mangled_name parts_of_encoding parts_of_global_ctor_dtor parts_of_name parts_of_template_arg parts_of_expression parts_of_unresolved_name parts_of_unresolved_qualifier_level parts_of_simple_id parts_of_base_unresolved_name parts_of_destructor_name parts_of_expr_primary parts_of_local_name parts_of_special_name parts_of_fold_expr row_of_expression row_of_template_arg row_of_unresolved_qualifier_level parts_of_held_initializer parts_of_held_template_args parts_of_held_name
expression_rethrow = refl

pub expression_unresolved_name : (a : UnresolvedName) → parts_of_expression (of_expression.UnresolvedName a) ≡ node (tag_of_unresolved_name a) (parts_of_unresolved_name a) end
unfolding parts_of_mangled_name parts_of_encoding parts_of_global_ctor_dtor parts_of_name parts_of_template_arg parts_of_expression parts_of_unresolved_name parts_of_unresolved_qualifier_level parts_of_simple_id parts_of_base_unresolved_name parts_of_destructor_name parts_of_expr_primary parts_of_local_name parts_of_special_name parts_of_fold_expr row_of_expression row_of_template_arg row_of_unresolved_qualifier_level parts_of_held_initializer parts_of_held_template_args parts_of_held_name
expression_unresolved_name a = refl

pub expression_primary : (a : ExprPrimary) → parts_of_expression (of_expression.Primary a) ≡ node (tag_of_expr_primary a) (parts_of_expr_primary a) end
unfolding parts_of_mangled_name parts_of_encoding parts_of_global_ctor_dtor parts_of_name parts_of_template_arg parts_of_expression parts_of_unresolved_name parts_of_unresolved_qualifier_level parts_of_simple_id parts_of_base_unresolved_name parts_of_destructor_name parts_of_expr_primary parts_of_local_name parts_of_special_name parts_of_fold_expr row_of_expression row_of_template_arg row_of_unresolved_qualifier_level parts_of_held_initializer parts_of_held_template_args parts_of_held_name
expression_primary a = refl

pub unresolved_name_name : (a : BaseUnresolvedName) → parts_of_unresolved_name (of_unresolved_name.Name a) ≡ node (tag_of_base_unresolved_name a) (parts_of_base_unresolved_name a) end
unfolding parts_of_mangled_name parts_of_encoding parts_of_global_ctor_dtor parts_of_name parts_of_template_arg parts_of_expression parts_of_unresolved_name parts_of_unresolved_qualifier_level parts_of_simple_id parts_of_base_unresolved_name parts_of_destructor_name parts_of_expr_primary parts_of_local_name parts_of_special_name parts_of_fold_expr row_of_expression row_of_template_arg row_of_unresolved_qualifier_level parts_of_held_initializer parts_of_held_template_args parts_of_held_name
unresolved_name_name a = refl

pub unresolved_name_global : (a : BaseUnresolvedName) → parts_of_unresolved_name (of_unresolved_name.Global a) ≡ node (tag_of_base_unresolved_name a) (parts_of_base_unresolved_name a) end
unfolding parts_of_mangled_name parts_of_encoding parts_of_global_ctor_dtor parts_of_name parts_of_template_arg parts_of_expression parts_of_unresolved_name parts_of_unresolved_qualifier_level parts_of_simple_id parts_of_base_unresolved_name parts_of_destructor_name parts_of_expr_primary parts_of_local_name parts_of_special_name parts_of_fold_expr row_of_expression row_of_template_arg row_of_unresolved_qualifier_level parts_of_held_initializer parts_of_held_template_args parts_of_held_name
unresolved_name_global a = refl

pub unresolved_name_nested1 : (a : UnresolvedTypeHandle) (b : Vec UnresolvedQualifierLevel Global) (c : BaseUnresolvedName) → parts_of_unresolved_name (of_unresolved_name.Nested1 a b c) ≡ tree_of_unresolved_type_handle a ⊕ (node Tag.Several (trees tag_of_unresolved_qualifier_level parts_of_unresolved_qualifier_level b.items) (node (tag_of_base_unresolved_name c) (parts_of_base_unresolved_name c) end))
unfolding parts_of_mangled_name parts_of_encoding parts_of_global_ctor_dtor parts_of_name parts_of_template_arg parts_of_expression parts_of_unresolved_name parts_of_unresolved_qualifier_level parts_of_simple_id parts_of_base_unresolved_name parts_of_destructor_name parts_of_expr_primary parts_of_local_name parts_of_special_name parts_of_fold_expr row_of_expression row_of_template_arg row_of_unresolved_qualifier_level parts_of_held_initializer parts_of_held_template_args parts_of_held_name
unresolved_name_nested1 a b c = ap (λ r. tree_of_unresolved_type_handle a ⊕ (node Tag.Several r (node (tag_of_base_unresolved_name c) (parts_of_base_unresolved_name c) end))) (row_unresolved_qualifier_level b)

pub unresolved_name_nested2 : (a : Vec UnresolvedQualifierLevel Global) (b : BaseUnresolvedName) → parts_of_unresolved_name (of_unresolved_name.Nested2 a b) ≡ node Tag.Several (trees tag_of_unresolved_qualifier_level parts_of_unresolved_qualifier_level a.items) (node (tag_of_base_unresolved_name b) (parts_of_base_unresolved_name b) end)
unfolding parts_of_mangled_name parts_of_encoding parts_of_global_ctor_dtor parts_of_name parts_of_template_arg parts_of_expression parts_of_unresolved_name parts_of_unresolved_qualifier_level parts_of_simple_id parts_of_base_unresolved_name parts_of_destructor_name parts_of_expr_primary parts_of_local_name parts_of_special_name parts_of_fold_expr row_of_expression row_of_template_arg row_of_unresolved_qualifier_level parts_of_held_initializer parts_of_held_template_args parts_of_held_name
unresolved_name_nested2 a b = ap (λ r. node Tag.Several r (node (tag_of_base_unresolved_name b) (parts_of_base_unresolved_name b) end)) (row_unresolved_qualifier_level a)

pub unresolved_name_global_nested2 : (a : Vec UnresolvedQualifierLevel Global) (b : BaseUnresolvedName) → parts_of_unresolved_name (of_unresolved_name.GlobalNested2 a b) ≡ node Tag.Several (trees tag_of_unresolved_qualifier_level parts_of_unresolved_qualifier_level a.items) (node (tag_of_base_unresolved_name b) (parts_of_base_unresolved_name b) end)
unfolding parts_of_mangled_name parts_of_encoding parts_of_global_ctor_dtor parts_of_name parts_of_template_arg parts_of_expression parts_of_unresolved_name parts_of_unresolved_qualifier_level parts_of_simple_id parts_of_base_unresolved_name parts_of_destructor_name parts_of_expr_primary parts_of_local_name parts_of_special_name parts_of_fold_expr row_of_expression row_of_template_arg row_of_unresolved_qualifier_level parts_of_held_initializer parts_of_held_template_args parts_of_held_name
unresolved_name_global_nested2 a b = ap (λ r. node Tag.Several r (node (tag_of_base_unresolved_name b) (parts_of_base_unresolved_name b) end)) (row_unresolved_qualifier_level a)

pub unresolved_qualifier_level_made : (a : SimpleId) → parts_of_unresolved_qualifier_level (roll-UnresolvedQualifierLevel record { 0 = a }) ≡ node (tag_of_simple_id a) (parts_of_simple_id a) end
unfolding parts_of_mangled_name parts_of_encoding parts_of_global_ctor_dtor parts_of_name parts_of_template_arg parts_of_expression parts_of_unresolved_name parts_of_unresolved_qualifier_level parts_of_simple_id parts_of_base_unresolved_name parts_of_destructor_name parts_of_expr_primary parts_of_local_name parts_of_special_name parts_of_fold_expr row_of_expression row_of_template_arg row_of_unresolved_qualifier_level parts_of_held_initializer parts_of_held_template_args parts_of_held_name roll-UnresolvedQualifierLevel denote.Hole.Carrier.roll
unresolved_qualifier_level_made a = refl

pub unresolved_qualifier_level_read : (x : UnresolvedQualifierLevel) → parts_of_unresolved_qualifier_level x ≡ node (tag_of_simple_id (out-UnresolvedQualifierLevel x).0) (parts_of_simple_id (out-UnresolvedQualifierLevel x).0) end
unresolved_qualifier_level_read x = ap parts_of_unresolved_qualifier_level (sym (roll-out-UnresolvedQualifierLevel x)) ∙ unresolved_qualifier_level_made (out-UnresolvedQualifierLevel x).0

pub simple_id_made : (a : SourceName) (b : Option TemplateArgs) → parts_of_simple_id (roll-SimpleId record { 0 = a; 1 = b }) ≡ tree_of_source_name a ⊕ (node (tag_of_option b) (parts_of_option tree_of_template_args b) end)
unfolding parts_of_mangled_name parts_of_encoding parts_of_global_ctor_dtor parts_of_name parts_of_template_arg parts_of_expression parts_of_unresolved_name parts_of_unresolved_qualifier_level parts_of_simple_id parts_of_base_unresolved_name parts_of_destructor_name parts_of_expr_primary parts_of_local_name parts_of_special_name parts_of_fold_expr row_of_expression row_of_template_arg row_of_unresolved_qualifier_level parts_of_held_initializer parts_of_held_template_args parts_of_held_name roll-SimpleId denote.Hole.Carrier.roll
simple_id_made a b = ap (λ r. tree_of_source_name a ⊕ (node r (parts_of_held_template_args (back-BaseUnresolvedName-Operator-1 b)) end)) (held_tag_template_args b) ∙ ap (λ r. tree_of_source_name a ⊕ (node (tag_of_option b) r end)) (held_parts_template_args b)

pub simple_id_read : (x : SimpleId) → parts_of_simple_id x ≡ tree_of_source_name (out-SimpleId x).0 ⊕ (node (tag_of_option (out-SimpleId x).1) (parts_of_option tree_of_template_args (out-SimpleId x).1) end)
simple_id_read x = ap parts_of_simple_id (sym (roll-out-SimpleId x)) ∙ simple_id_made (out-SimpleId x).0 (out-SimpleId x).1

pub base_unresolved_name_name : (a : SimpleId) → parts_of_base_unresolved_name (of_base_unresolved_name.Name a) ≡ node (tag_of_simple_id a) (parts_of_simple_id a) end
unfolding parts_of_mangled_name parts_of_encoding parts_of_global_ctor_dtor parts_of_name parts_of_template_arg parts_of_expression parts_of_unresolved_name parts_of_unresolved_qualifier_level parts_of_simple_id parts_of_base_unresolved_name parts_of_destructor_name parts_of_expr_primary parts_of_local_name parts_of_special_name parts_of_fold_expr row_of_expression row_of_template_arg row_of_unresolved_qualifier_level parts_of_held_initializer parts_of_held_template_args parts_of_held_name
base_unresolved_name_name a = refl

pub base_unresolved_name_operator : (a : OperatorName) (b : Option TemplateArgs) → parts_of_base_unresolved_name (of_base_unresolved_name.Operator a b) ≡ tree_of_operator_name a ⊕ (node (tag_of_option b) (parts_of_option tree_of_template_args b) end)
unfolding parts_of_mangled_name parts_of_encoding parts_of_global_ctor_dtor parts_of_name parts_of_template_arg parts_of_expression parts_of_unresolved_name parts_of_unresolved_qualifier_level parts_of_simple_id parts_of_base_unresolved_name parts_of_destructor_name parts_of_expr_primary parts_of_local_name parts_of_special_name parts_of_fold_expr row_of_expression row_of_template_arg row_of_unresolved_qualifier_level parts_of_held_initializer parts_of_held_template_args parts_of_held_name
base_unresolved_name_operator a b = ap (λ r. tree_of_operator_name a ⊕ (node r (parts_of_held_template_args (back-BaseUnresolvedName-Operator-1 b)) end)) (held_tag_template_args b) ∙ ap (λ r. tree_of_operator_name a ⊕ (node (tag_of_option b) r end)) (held_parts_template_args b)

pub base_unresolved_name_destructor : (a : DestructorName) → parts_of_base_unresolved_name (of_base_unresolved_name.Destructor a) ≡ node (tag_of_destructor_name a) (parts_of_destructor_name a) end
unfolding parts_of_mangled_name parts_of_encoding parts_of_global_ctor_dtor parts_of_name parts_of_template_arg parts_of_expression parts_of_unresolved_name parts_of_unresolved_qualifier_level parts_of_simple_id parts_of_base_unresolved_name parts_of_destructor_name parts_of_expr_primary parts_of_local_name parts_of_special_name parts_of_fold_expr row_of_expression row_of_template_arg row_of_unresolved_qualifier_level parts_of_held_initializer parts_of_held_template_args parts_of_held_name
base_unresolved_name_destructor a = refl

pub destructor_name_unresolved : (a : UnresolvedTypeHandle) → parts_of_destructor_name (of_destructor_name.Unresolved a) ≡ tree_of_unresolved_type_handle a
unfolding parts_of_mangled_name parts_of_encoding parts_of_global_ctor_dtor parts_of_name parts_of_template_arg parts_of_expression parts_of_unresolved_name parts_of_unresolved_qualifier_level parts_of_simple_id parts_of_base_unresolved_name parts_of_destructor_name parts_of_expr_primary parts_of_local_name parts_of_special_name parts_of_fold_expr row_of_expression row_of_template_arg row_of_unresolved_qualifier_level parts_of_held_initializer parts_of_held_template_args parts_of_held_name
destructor_name_unresolved a = refl

pub destructor_name_name : (a : SimpleId) → parts_of_destructor_name (of_destructor_name.Name a) ≡ node (tag_of_simple_id a) (parts_of_simple_id a) end
unfolding parts_of_mangled_name parts_of_encoding parts_of_global_ctor_dtor parts_of_name parts_of_template_arg parts_of_expression parts_of_unresolved_name parts_of_unresolved_qualifier_level parts_of_simple_id parts_of_base_unresolved_name parts_of_destructor_name parts_of_expr_primary parts_of_local_name parts_of_special_name parts_of_fold_expr row_of_expression row_of_template_arg row_of_unresolved_qualifier_level parts_of_held_initializer parts_of_held_template_args parts_of_held_name
destructor_name_name a = refl

pub expr_primary_literal : (a : TypeHandle) (b : ℕ) (c : ℕ) → parts_of_expr_primary (of_expr_primary.Literal a b c) ≡ tree_of_type_handle a ⊕ (place b c end)
unfolding parts_of_mangled_name parts_of_encoding parts_of_global_ctor_dtor parts_of_name parts_of_template_arg parts_of_expression parts_of_unresolved_name parts_of_unresolved_qualifier_level parts_of_simple_id parts_of_base_unresolved_name parts_of_destructor_name parts_of_expr_primary parts_of_local_name parts_of_special_name parts_of_fold_expr row_of_expression row_of_template_arg row_of_unresolved_qualifier_level parts_of_held_initializer parts_of_held_template_args parts_of_held_name
expr_primary_literal a b c = refl

pub expr_primary_external : (a : Box MangledName Global) → parts_of_expr_primary (of_expr_primary.External a) ≡ node (tag_of_mangled_name a.value) (parts_of_mangled_name a.value) end
unfolding parts_of_mangled_name parts_of_encoding parts_of_global_ctor_dtor parts_of_name parts_of_template_arg parts_of_expression parts_of_unresolved_name parts_of_unresolved_qualifier_level parts_of_simple_id parts_of_base_unresolved_name parts_of_destructor_name parts_of_expr_primary parts_of_local_name parts_of_special_name parts_of_fold_expr row_of_expression row_of_template_arg row_of_unresolved_qualifier_level parts_of_held_initializer parts_of_held_template_args parts_of_held_name
expr_primary_external a = refl

pub local_name_relative : (a : Box Encoding Global) (b : Option (Box Name Global)) (c : Option Discriminator) → parts_of_local_name (of_local_name.Relative a b c) ≡ node (tag_of_encoding a.value) (parts_of_encoding a.value) (node (tag_of_option b) (parts_of_option boxed_name b) (tree_of_option tree_of_discriminator c))
unfolding parts_of_mangled_name parts_of_encoding parts_of_global_ctor_dtor parts_of_name parts_of_template_arg parts_of_expression parts_of_unresolved_name parts_of_unresolved_qualifier_level parts_of_simple_id parts_of_base_unresolved_name parts_of_destructor_name parts_of_expr_primary parts_of_local_name parts_of_special_name parts_of_fold_expr row_of_expression row_of_template_arg row_of_unresolved_qualifier_level parts_of_held_initializer parts_of_held_template_args parts_of_held_name
local_name_relative a b c = ap (λ r. node (tag_of_encoding a.value) (parts_of_encoding a.value) (node r (parts_of_held_name (back-LocalName-Relative-1 b)) (tree_of_option tree_of_discriminator c))) (held_tag_name b) ∙ ap (λ r. node (tag_of_encoding a.value) (parts_of_encoding a.value) (node (tag_of_option b) r (tree_of_option tree_of_discriminator c))) (held_parts_name b)

pub local_name_default : (a : Box Encoding Global) (b : Option ℤ) (c : Box Name Global) → parts_of_local_name (of_local_name.Default a b c) ≡ node (tag_of_encoding a.value) (parts_of_encoding a.value) (tree_of_option tree_of_signed b ⊕ (node (tag_of_name c.value) (parts_of_name c.value) end))
unfolding parts_of_mangled_name parts_of_encoding parts_of_global_ctor_dtor parts_of_name parts_of_template_arg parts_of_expression parts_of_unresolved_name parts_of_unresolved_qualifier_level parts_of_simple_id parts_of_base_unresolved_name parts_of_destructor_name parts_of_expr_primary parts_of_local_name parts_of_special_name parts_of_fold_expr row_of_expression row_of_template_arg row_of_unresolved_qualifier_level parts_of_held_initializer parts_of_held_template_args parts_of_held_name
local_name_default a b c = refl

pub special_name_virtual_table : (a : TypeHandle) → parts_of_special_name (of_special_name.VirtualTable a) ≡ tree_of_type_handle a
unfolding parts_of_mangled_name parts_of_encoding parts_of_global_ctor_dtor parts_of_name parts_of_template_arg parts_of_expression parts_of_unresolved_name parts_of_unresolved_qualifier_level parts_of_simple_id parts_of_base_unresolved_name parts_of_destructor_name parts_of_expr_primary parts_of_local_name parts_of_special_name parts_of_fold_expr row_of_expression row_of_template_arg row_of_unresolved_qualifier_level parts_of_held_initializer parts_of_held_template_args parts_of_held_name
special_name_virtual_table a = refl

pub special_name_vtt : (a : TypeHandle) → parts_of_special_name (of_special_name.Vtt a) ≡ tree_of_type_handle a
unfolding parts_of_mangled_name parts_of_encoding parts_of_global_ctor_dtor parts_of_name parts_of_template_arg parts_of_expression parts_of_unresolved_name parts_of_unresolved_qualifier_level parts_of_simple_id parts_of_base_unresolved_name parts_of_destructor_name parts_of_expr_primary parts_of_local_name parts_of_special_name parts_of_fold_expr row_of_expression row_of_template_arg row_of_unresolved_qualifier_level parts_of_held_initializer parts_of_held_template_args parts_of_held_name
special_name_vtt a = refl

pub special_name_typeinfo : (a : TypeHandle) → parts_of_special_name (of_special_name.Typeinfo a) ≡ tree_of_type_handle a
unfolding parts_of_mangled_name parts_of_encoding parts_of_global_ctor_dtor parts_of_name parts_of_template_arg parts_of_expression parts_of_unresolved_name parts_of_unresolved_qualifier_level parts_of_simple_id parts_of_base_unresolved_name parts_of_destructor_name parts_of_expr_primary parts_of_local_name parts_of_special_name parts_of_fold_expr row_of_expression row_of_template_arg row_of_unresolved_qualifier_level parts_of_held_initializer parts_of_held_template_args parts_of_held_name
special_name_typeinfo a = refl

pub special_name_typeinfo_name : (a : TypeHandle) → parts_of_special_name (of_special_name.TypeinfoName a) ≡ tree_of_type_handle a
unfolding parts_of_mangled_name parts_of_encoding parts_of_global_ctor_dtor parts_of_name parts_of_template_arg parts_of_expression parts_of_unresolved_name parts_of_unresolved_qualifier_level parts_of_simple_id parts_of_base_unresolved_name parts_of_destructor_name parts_of_expr_primary parts_of_local_name parts_of_special_name parts_of_fold_expr row_of_expression row_of_template_arg row_of_unresolved_qualifier_level parts_of_held_initializer parts_of_held_template_args parts_of_held_name
special_name_typeinfo_name a = refl

pub special_name_virtual_override_thunk : (a : CallOffset) (b : Box Encoding Global) → parts_of_special_name (of_special_name.VirtualOverrideThunk a b) ≡ tree_of_call_offset a ⊕ (node (tag_of_encoding b.value) (parts_of_encoding b.value) end)
unfolding parts_of_mangled_name parts_of_encoding parts_of_global_ctor_dtor parts_of_name parts_of_template_arg parts_of_expression parts_of_unresolved_name parts_of_unresolved_qualifier_level parts_of_simple_id parts_of_base_unresolved_name parts_of_destructor_name parts_of_expr_primary parts_of_local_name parts_of_special_name parts_of_fold_expr row_of_expression row_of_template_arg row_of_unresolved_qualifier_level parts_of_held_initializer parts_of_held_template_args parts_of_held_name
special_name_virtual_override_thunk a b = refl

pub special_name_virtual_override_thunk_covariant : (a : CallOffset) (b : CallOffset) (c : Box Encoding Global) → parts_of_special_name (of_special_name.VirtualOverrideThunkCovariant a b c) ≡ tree_of_call_offset a ⊕ (tree_of_call_offset b ⊕ (node (tag_of_encoding c.value) (parts_of_encoding c.value) end))
unfolding parts_of_mangled_name parts_of_encoding parts_of_global_ctor_dtor parts_of_name parts_of_template_arg parts_of_expression parts_of_unresolved_name parts_of_unresolved_qualifier_level parts_of_simple_id parts_of_base_unresolved_name parts_of_destructor_name parts_of_expr_primary parts_of_local_name parts_of_special_name parts_of_fold_expr row_of_expression row_of_template_arg row_of_unresolved_qualifier_level parts_of_held_initializer parts_of_held_template_args parts_of_held_name
special_name_virtual_override_thunk_covariant a b c = refl

pub special_name_guard : (a : Name) → parts_of_special_name (of_special_name.Guard a) ≡ node (tag_of_name a) (parts_of_name a) end
unfolding parts_of_mangled_name parts_of_encoding parts_of_global_ctor_dtor parts_of_name parts_of_template_arg parts_of_expression parts_of_unresolved_name parts_of_unresolved_qualifier_level parts_of_simple_id parts_of_base_unresolved_name parts_of_destructor_name parts_of_expr_primary parts_of_local_name parts_of_special_name parts_of_fold_expr row_of_expression row_of_template_arg row_of_unresolved_qualifier_level parts_of_held_initializer parts_of_held_template_args parts_of_held_name
special_name_guard a = refl

pub special_name_guard_temporary : (a : Name) (b : ℕ) → parts_of_special_name (of_special_name.GuardTemporary a b) ≡ node (tag_of_name a) (parts_of_name a) (number (pos b) end)
unfolding parts_of_mangled_name parts_of_encoding parts_of_global_ctor_dtor parts_of_name parts_of_template_arg parts_of_expression parts_of_unresolved_name parts_of_unresolved_qualifier_level parts_of_simple_id parts_of_base_unresolved_name parts_of_destructor_name parts_of_expr_primary parts_of_local_name parts_of_special_name parts_of_fold_expr row_of_expression row_of_template_arg row_of_unresolved_qualifier_level parts_of_held_initializer parts_of_held_template_args parts_of_held_name
special_name_guard_temporary a b = refl

pub special_name_construction_vtable : (a : TypeHandle) (b : ℕ) (c : TypeHandle) → parts_of_special_name (of_special_name.ConstructionVtable a b c) ≡ tree_of_type_handle a ⊕ (number (pos b) (tree_of_type_handle c))
unfolding parts_of_mangled_name parts_of_encoding parts_of_global_ctor_dtor parts_of_name parts_of_template_arg parts_of_expression parts_of_unresolved_name parts_of_unresolved_qualifier_level parts_of_simple_id parts_of_base_unresolved_name parts_of_destructor_name parts_of_expr_primary parts_of_local_name parts_of_special_name parts_of_fold_expr row_of_expression row_of_template_arg row_of_unresolved_qualifier_level parts_of_held_initializer parts_of_held_template_args parts_of_held_name
special_name_construction_vtable a b c = refl

pub special_name_typeinfo_function : (a : TypeHandle) → parts_of_special_name (of_special_name.TypeinfoFunction a) ≡ tree_of_type_handle a
unfolding parts_of_mangled_name parts_of_encoding parts_of_global_ctor_dtor parts_of_name parts_of_template_arg parts_of_expression parts_of_unresolved_name parts_of_unresolved_qualifier_level parts_of_simple_id parts_of_base_unresolved_name parts_of_destructor_name parts_of_expr_primary parts_of_local_name parts_of_special_name parts_of_fold_expr row_of_expression row_of_template_arg row_of_unresolved_qualifier_level parts_of_held_initializer parts_of_held_template_args parts_of_held_name
special_name_typeinfo_function a = refl

pub special_name_tls_init : (a : Name) → parts_of_special_name (of_special_name.TlsInit a) ≡ node (tag_of_name a) (parts_of_name a) end
unfolding parts_of_mangled_name parts_of_encoding parts_of_global_ctor_dtor parts_of_name parts_of_template_arg parts_of_expression parts_of_unresolved_name parts_of_unresolved_qualifier_level parts_of_simple_id parts_of_base_unresolved_name parts_of_destructor_name parts_of_expr_primary parts_of_local_name parts_of_special_name parts_of_fold_expr row_of_expression row_of_template_arg row_of_unresolved_qualifier_level parts_of_held_initializer parts_of_held_template_args parts_of_held_name
special_name_tls_init a = refl

pub special_name_tls_wrapper : (a : Name) → parts_of_special_name (of_special_name.TlsWrapper a) ≡ node (tag_of_name a) (parts_of_name a) end
unfolding parts_of_mangled_name parts_of_encoding parts_of_global_ctor_dtor parts_of_name parts_of_template_arg parts_of_expression parts_of_unresolved_name parts_of_unresolved_qualifier_level parts_of_simple_id parts_of_base_unresolved_name parts_of_destructor_name parts_of_expr_primary parts_of_local_name parts_of_special_name parts_of_fold_expr row_of_expression row_of_template_arg row_of_unresolved_qualifier_level parts_of_held_initializer parts_of_held_template_args parts_of_held_name
special_name_tls_wrapper a = refl

pub special_name_java_resource : (a : Vec ResourceName Global) → parts_of_special_name (of_special_name.JavaResource a) ≡ node Tag.Several (trees tag_of_resource_name parts_of_resource_name a.items) end
unfolding parts_of_mangled_name parts_of_encoding parts_of_global_ctor_dtor parts_of_name parts_of_template_arg parts_of_expression parts_of_unresolved_name parts_of_unresolved_qualifier_level parts_of_simple_id parts_of_base_unresolved_name parts_of_destructor_name parts_of_expr_primary parts_of_local_name parts_of_special_name parts_of_fold_expr row_of_expression row_of_template_arg row_of_unresolved_qualifier_level parts_of_held_initializer parts_of_held_template_args parts_of_held_name
special_name_java_resource a = refl

pub special_name_transaction_clone : (a : Box Encoding Global) → parts_of_special_name (of_special_name.TransactionClone a) ≡ node (tag_of_encoding a.value) (parts_of_encoding a.value) end
unfolding parts_of_mangled_name parts_of_encoding parts_of_global_ctor_dtor parts_of_name parts_of_template_arg parts_of_expression parts_of_unresolved_name parts_of_unresolved_qualifier_level parts_of_simple_id parts_of_base_unresolved_name parts_of_destructor_name parts_of_expr_primary parts_of_local_name parts_of_special_name parts_of_fold_expr row_of_expression row_of_template_arg row_of_unresolved_qualifier_level parts_of_held_initializer parts_of_held_template_args parts_of_held_name
special_name_transaction_clone a = refl

pub special_name_non_transaction_clone : (a : Box Encoding Global) → parts_of_special_name (of_special_name.NonTransactionClone a) ≡ node (tag_of_encoding a.value) (parts_of_encoding a.value) end
unfolding parts_of_mangled_name parts_of_encoding parts_of_global_ctor_dtor parts_of_name parts_of_template_arg parts_of_expression parts_of_unresolved_name parts_of_unresolved_qualifier_level parts_of_simple_id parts_of_base_unresolved_name parts_of_destructor_name parts_of_expr_primary parts_of_local_name parts_of_special_name parts_of_fold_expr row_of_expression row_of_template_arg row_of_unresolved_qualifier_level parts_of_held_initializer parts_of_held_template_args parts_of_held_name
special_name_non_transaction_clone a = refl

pub fold_expr_unary_left : (a : SimpleOperatorName) (b : Box Expression Global) → parts_of_fold_expr (of_fold_expr.UnaryLeft a b) ≡ tree_of_simple_operator_name a ⊕ (node (tag_of_expression b.value) (parts_of_expression b.value) end)
unfolding parts_of_mangled_name parts_of_encoding parts_of_global_ctor_dtor parts_of_name parts_of_template_arg parts_of_expression parts_of_unresolved_name parts_of_unresolved_qualifier_level parts_of_simple_id parts_of_base_unresolved_name parts_of_destructor_name parts_of_expr_primary parts_of_local_name parts_of_special_name parts_of_fold_expr row_of_expression row_of_template_arg row_of_unresolved_qualifier_level parts_of_held_initializer parts_of_held_template_args parts_of_held_name
fold_expr_unary_left a b = refl

pub fold_expr_unary_right : (a : SimpleOperatorName) (b : Box Expression Global) → parts_of_fold_expr (of_fold_expr.UnaryRight a b) ≡ tree_of_simple_operator_name a ⊕ (node (tag_of_expression b.value) (parts_of_expression b.value) end)
unfolding parts_of_mangled_name parts_of_encoding parts_of_global_ctor_dtor parts_of_name parts_of_template_arg parts_of_expression parts_of_unresolved_name parts_of_unresolved_qualifier_level parts_of_simple_id parts_of_base_unresolved_name parts_of_destructor_name parts_of_expr_primary parts_of_local_name parts_of_special_name parts_of_fold_expr row_of_expression row_of_template_arg row_of_unresolved_qualifier_level parts_of_held_initializer parts_of_held_template_args parts_of_held_name
fold_expr_unary_right a b = refl

pub fold_expr_binary_left : (a : SimpleOperatorName) (b : Box Expression Global) (c : Box Expression Global) → parts_of_fold_expr (of_fold_expr.BinaryLeft a b c) ≡ tree_of_simple_operator_name a ⊕ (node (tag_of_expression b.value) (parts_of_expression b.value) (node (tag_of_expression c.value) (parts_of_expression c.value) end))
unfolding parts_of_mangled_name parts_of_encoding parts_of_global_ctor_dtor parts_of_name parts_of_template_arg parts_of_expression parts_of_unresolved_name parts_of_unresolved_qualifier_level parts_of_simple_id parts_of_base_unresolved_name parts_of_destructor_name parts_of_expr_primary parts_of_local_name parts_of_special_name parts_of_fold_expr row_of_expression row_of_template_arg row_of_unresolved_qualifier_level parts_of_held_initializer parts_of_held_template_args parts_of_held_name
fold_expr_binary_left a b c = refl

pub fold_expr_binary_right : (a : SimpleOperatorName) (b : Box Expression Global) (c : Box Expression Global) → parts_of_fold_expr (of_fold_expr.BinaryRight a b c) ≡ tree_of_simple_operator_name a ⊕ (node (tag_of_expression b.value) (parts_of_expression b.value) (node (tag_of_expression c.value) (parts_of_expression c.value) end))
unfolding parts_of_mangled_name parts_of_encoding parts_of_global_ctor_dtor parts_of_name parts_of_template_arg parts_of_expression parts_of_unresolved_name parts_of_unresolved_qualifier_level parts_of_simple_id parts_of_base_unresolved_name parts_of_destructor_name parts_of_expr_primary parts_of_local_name parts_of_special_name parts_of_fold_expr row_of_expression row_of_template_arg row_of_unresolved_qualifier_level parts_of_held_initializer parts_of_held_template_args parts_of_held_name
fold_expr_binary_right a b c = refl

pub ruleset parts_mangled_name = (mangled_name_encoding, mangled_name_block_invoke, mangled_name_top_level_type, mangled_name_global_ctor_dtor)

pub ruleset parts_encoding = (encoding_function, encoding_data, encoding_special)

pub ruleset parts_global_ctor_dtor = (global_ctor_dtor_ctor, global_ctor_dtor_dtor)

pub ruleset parts_name = (name_nested, name_unscoped, name_unscoped_template, name_local)

pub ruleset parts_template_arg = (template_arg_type_arg, template_arg_expression, template_arg_simple_expression, template_arg_arg_pack)

pub ruleset parts_expression = (expression_unary, expression_binary, expression_ternary, expression_prefix_inc, expression_prefix_dec, expression_call, expression_conversion_one, expression_conversion_many, expression_conversion_braced, expression_braced_init_list, expression_new, expression_global_new, expression_new_array, expression_global_new_array, expression_delete, expression_global_delete, expression_delete_array, expression_global_delete_array, expression_dynamic_cast, expression_static_cast, expression_const_cast, expression_reinterpret_cast, expression_typeid_type, expression_typeid_expr, expression_sizeof_type, expression_sizeof_expr, expression_alignof_type, expression_alignof_expr, expression_noexcept, expression_subobject, expression_template_param, expression_function_param, expression_member, expression_deref_member, expression_pointer_to_member, expression_sizeof_template_pack, expression_sizeof_function_pack, expression_sizeof_captured_template_pack, expression_pack_expansion, expression_fold, expression_throw, expression_rethrow, expression_unresolved_name, expression_primary)

pub ruleset parts_unresolved_name = (unresolved_name_name, unresolved_name_global, unresolved_name_nested1, unresolved_name_nested2, unresolved_name_global_nested2)

pub ruleset parts_unresolved_qualifier_level = (unresolved_qualifier_level_made, unresolved_qualifier_level_read)

pub ruleset parts_simple_id = (simple_id_made, simple_id_read)

pub ruleset parts_base_unresolved_name = (base_unresolved_name_name, base_unresolved_name_operator, base_unresolved_name_destructor)

pub ruleset parts_destructor_name = (destructor_name_unresolved, destructor_name_name)

pub ruleset parts_expr_primary = (expr_primary_literal, expr_primary_external)

pub ruleset parts_local_name = (local_name_relative, local_name_default)

pub ruleset parts_special_name = (special_name_virtual_table, special_name_vtt, special_name_typeinfo, special_name_typeinfo_name, special_name_virtual_override_thunk, special_name_virtual_override_thunk_covariant, special_name_guard, special_name_guard_temporary, special_name_construction_vtable, special_name_typeinfo_function, special_name_tls_init, special_name_tls_wrapper, special_name_java_resource, special_name_transaction_clone, special_name_non_transaction_clone)

pub ruleset parts_fold_expr = (fold_expr_unary_left, fold_expr_unary_right, fold_expr_binary_left, fold_expr_binary_right)
