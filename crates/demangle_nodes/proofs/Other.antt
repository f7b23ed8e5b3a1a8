-- Written by tools/same_answers.py.
-- For each type, that a node which isn't of one variant has another's tag: a step for all variants.
use Rattle.std.proofs.Common.{◌≡◌, sym, refl, subst, ℕ, ℤ, ◌==◌, Bool, true, false, Vec, Global, inl, inr}
use Rattle.std.proofs.lemmas.Bool.Decides.{eqb_tells}
use Rattle.demangle_core.specs.Core.{Tag, code}
use Rattle.std.specs.declared.option.Option.{Option}
use Rattle.std.specs.declared.boxed.Box.{Box}
use Rattle.demangle_vocab.specs.declared.operator.SimpleOperatorName.{SimpleOperatorName}
use Rattle.demangle_leaf_nodes.specs.declared.leaves.TemplateParam.{TemplateParam}
use Rattle.demangle_leaf_nodes.specs.declared.leaves.Discriminator.{Discriminator}
use Rattle.demangle_leaf_nodes.specs.declared.leaves.ResourceName.{ResourceName}
use Rattle.demangle_leaf_nodes.specs.declared.leaves.CloneSuffix.{CloneSuffix}
use Rattle.demangle_leaf_nodes.specs.declared.leaves.CallOffset.{CallOffset}
use Rattle.demangle_leaf_nodes.specs.declared.leaves.FunctionParam.{FunctionParam}
use Rattle.demangle_leaf_nodes.specs.declared.leaves.UnscopedTemplateNameHandle.{UnscopedTemplateNameHandle}
use Rattle.demangle_leaf_nodes.specs.declared.leaves.UnresolvedTypeHandle.{UnresolvedTypeHandle}
use Rattle.demangle_leaf_nodes.specs.declared.leaves.TypeHandle.{TypeHandle}
use Rattle.demangle_leaf_nodes.specs.declared.leaves.OperatorName.{OperatorName}
use Rattle.demangle_leaf_nodes.specs.declared.leaves.BareFunctionType.{BareFunctionType}
use Rattle.demangle_leaf_nodes.specs.declared.leaves.UnscopedName.{UnscopedName}
use Rattle.demangle_leaf_nodes.specs.declared.leaves.NestedName.{NestedName}
use Rattle.demangle_nodes.specs.declared.nodes.MangledName.{MangledName}
use Rattle.demangle_nodes.specs.declared.nodes.MangledName.TheVariants as of_mangled_name
use Rattle.demangle_nodes.specs.declared.nodes.Encoding.{Encoding}
use Rattle.demangle_nodes.specs.declared.nodes.Encoding.TheVariants as of_encoding
use Rattle.demangle_nodes.specs.declared.nodes.GlobalCtorDtor.{GlobalCtorDtor}
use Rattle.demangle_nodes.specs.declared.nodes.GlobalCtorDtor.TheVariants as of_global_ctor_dtor
use Rattle.demangle_nodes.specs.declared.nodes.Name.{Name}
use Rattle.demangle_nodes.specs.declared.nodes.Name.TheVariants as of_name
use Rattle.demangle_nodes.specs.declared.nodes.TemplateArgs.{TemplateArgs}
use Rattle.demangle_nodes.specs.declared.nodes.TemplateArg.{TemplateArg}
use Rattle.demangle_nodes.specs.declared.nodes.TemplateArg.TheVariants as of_template_arg
use Rattle.demangle_nodes.specs.declared.nodes.MemberName.{MemberName}
use Rattle.demangle_nodes.specs.declared.nodes.Initializer.{Initializer}
use Rattle.demangle_nodes.specs.declared.nodes.Expression.{Expression}
use Rattle.demangle_nodes.specs.declared.nodes.Expression.TheVariants as of_expression
use Rattle.demangle_nodes.specs.declared.nodes.UnresolvedName.{UnresolvedName}
use Rattle.demangle_nodes.specs.declared.nodes.UnresolvedName.TheVariants as of_unresolved_name
use Rattle.demangle_nodes.specs.declared.nodes.UnresolvedQualifierLevel.{UnresolvedQualifierLevel}
use Rattle.demangle_nodes.specs.declared.nodes.SimpleId.{SimpleId}
use Rattle.demangle_nodes.specs.declared.nodes.BaseUnresolvedName.{BaseUnresolvedName}
use Rattle.demangle_nodes.specs.declared.nodes.BaseUnresolvedName.TheVariants as of_base_unresolved_name
use Rattle.demangle_nodes.specs.declared.nodes.DestructorName.{DestructorName}
use Rattle.demangle_nodes.specs.declared.nodes.DestructorName.TheVariants as of_destructor_name
use Rattle.demangle_nodes.specs.declared.nodes.ExprPrimary.{ExprPrimary}
use Rattle.demangle_nodes.specs.declared.nodes.ExprPrimary.TheVariants as of_expr_primary
use Rattle.demangle_nodes.specs.declared.nodes.LocalName.{LocalName}
use Rattle.demangle_nodes.specs.declared.nodes.LocalName.TheVariants as of_local_name
use Rattle.demangle_nodes.specs.declared.nodes.SpecialName.{SpecialName}
use Rattle.demangle_nodes.specs.declared.nodes.SpecialName.TheVariants as of_special_name
use Rattle.demangle_nodes.specs.declared.nodes.SubobjectExpr.{SubobjectExpr}
use Rattle.demangle_nodes.specs.declared.nodes.FoldExpr.{FoldExpr}
use Rattle.demangle_nodes.specs.declared.nodes.FoldExpr.TheVariants as of_fold_expr
use Rattle.demangle_nodes.specs.declared.nodes.MangledName.{out-MangledName, roll-MangledName, roll-out-MangledName}
use Rattle.demangle_nodes.specs.declared.nodes.Encoding.{out-Encoding, roll-Encoding, roll-out-Encoding}
use Rattle.demangle_nodes.specs.declared.nodes.GlobalCtorDtor.{out-GlobalCtorDtor, roll-GlobalCtorDtor, roll-out-GlobalCtorDtor}
use Rattle.demangle_nodes.specs.declared.nodes.Name.{out-Name, roll-Name, roll-out-Name}
use Rattle.demangle_nodes.specs.declared.nodes.TemplateArg.{out-TemplateArg, roll-TemplateArg, roll-out-TemplateArg}
use Rattle.demangle_nodes.specs.declared.nodes.Expression.{out-Expression, roll-Expression, roll-out-Expression}
use Rattle.demangle_nodes.specs.declared.nodes.UnresolvedName.{out-UnresolvedName, roll-UnresolvedName, roll-out-UnresolvedName}
use Rattle.demangle_nodes.specs.declared.nodes.BaseUnresolvedName.{out-BaseUnresolvedName, roll-BaseUnresolvedName, roll-out-BaseUnresolvedName}
use Rattle.demangle_nodes.specs.declared.nodes.DestructorName.{out-DestructorName, roll-DestructorName, roll-out-DestructorName}
use Rattle.demangle_nodes.specs.declared.nodes.ExprPrimary.{out-ExprPrimary, roll-ExprPrimary, roll-out-ExprPrimary}
use Rattle.demangle_nodes.specs.declared.nodes.LocalName.{out-LocalName, roll-LocalName, roll-out-LocalName}
use Rattle.demangle_nodes.specs.declared.nodes.SpecialName.{out-SpecialName, roll-SpecialName, roll-out-SpecialName}
use Rattle.demangle_nodes.specs.declared.nodes.FoldExpr.{out-FoldExpr, roll-FoldExpr, roll-out-FoldExpr}
use Rattle.demangle_nodes.specs.declared.nodes.BaseUnresolvedName.TheOpen as opened
use Rattle.demangle_nodes.specs.TreeNodes.{tag_of_mangled_name, tag_of_encoding, tag_of_global_ctor_dtor, tag_of_name, tag_of_template_arg, tag_of_expression, tag_of_unresolved_name, tag_of_base_unresolved_name, tag_of_destructor_name, tag_of_expr_primary, tag_of_local_name, tag_of_special_name, tag_of_fold_expr}

abbrev pub pick : Bool → Type 0 → Type 0 → Type 0
pick true a b = a
pick false a b = b

abbrev pub NotMangledName : ℕ → MangledName → Type 0
NotMangledName k y = pick (k == code Tag.MangledNameEncoding) ((a : Encoding) (b : Vec CloneSuffix Global) → y ≡ of_mangled_name.Encoding a b → ⊥) (pick (k == code Tag.MangledNameBlockInvoke) ((a : Encoding) (b : Option ℤ) → y ≡ of_mangled_name.BlockInvoke a b → ⊥) (pick (k == code Tag.MangledNameTopLevelType) ((a : TypeHandle) → y ≡ of_mangled_name.TopLevelType a → ⊥) (pick (k == code Tag.MangledNameGlobalCtorDtor) ((a : GlobalCtorDtor) → y ≡ of_mangled_name.GlobalCtorDtor a → ⊥) (Unit {0}))))

moved_mangled_name : (y z : MangledName) → z ≡ y → NotMangledName (code (tag_of_mangled_name y)) y → NotMangledName (code (tag_of_mangled_name z)) z
moved_mangled_name y z e h = subst (λ x. NotMangledName (code (tag_of_mangled_name x)) x) (sym e) h

none_mangled_name : (y : MangledName) → NotMangledName (code (tag_of_mangled_name y)) y → ⊥
unfolding roll-MangledName denote.Hole.Carrier.roll
none_mangled_name y h = elim (out-MangledName y) as (λ o. roll-MangledName o ≡ y → ⊥) [ opened.Encoding a b ↦ λ e. (moved_mangled_name y _ e h) a b refl | opened.BlockInvoke a b ↦ λ e. (moved_mangled_name y _ e h) a b refl | opened.TopLevelType a ↦ λ e. (moved_mangled_name y _ e h) a refl | opened.GlobalCtorDtor a ↦ λ e. (moved_mangled_name y _ e h) a refl ] (roll-out-MangledName y)

pub other_mangled_name : (k : ℕ) (y : MangledName) → NotMangledName k y → (k == code (tag_of_mangled_name y)) ≡ false
other_mangled_name k y h = elim (eqb_tells k (code (tag_of_mangled_name y))) [ inl e ↦ absurd (none_mangled_name y (subst (λ n. NotMangledName n y) e.1 h)) | inr e ↦ e.0 ]

abbrev pub NotEncoding : ℕ → Encoding → Type 0
NotEncoding k y = pick (k == code Tag.EncodingFunction) ((a : Name) (b : BareFunctionType) → y ≡ of_encoding.Function a b → ⊥) (pick (k == code Tag.EncodingData) ((a : Name) → y ≡ of_encoding.Data a → ⊥) (pick (k == code Tag.EncodingSpecial) ((a : Box SpecialName Global) → y ≡ of_encoding.Special a → ⊥) (Unit {0})))

moved_encoding : (y z : Encoding) → z ≡ y → NotEncoding (code (tag_of_encoding y)) y → NotEncoding (code (tag_of_encoding z)) z
moved_encoding y z e h = subst (λ x. NotEncoding (code (tag_of_encoding x)) x) (sym e) h

none_encoding : (y : Encoding) → NotEncoding (code (tag_of_encoding y)) y → ⊥
unfolding roll-Encoding denote.Hole.Carrier.roll
none_encoding y h = elim (out-Encoding y) as (λ o. roll-Encoding o ≡ y → ⊥) [ opened.Function a b ↦ λ e. (moved_encoding y _ e h) a b refl | opened.Data a ↦ λ e. (moved_encoding y _ e h) a refl | opened.Special a ↦ λ e. (moved_encoding y _ e h) a refl ] (roll-out-Encoding y)

pub other_encoding : (k : ℕ) (y : Encoding) → NotEncoding k y → (k == code (tag_of_encoding y)) ≡ false
other_encoding k y h = elim (eqb_tells k (code (tag_of_encoding y))) [ inl e ↦ absurd (none_encoding y (subst (λ n. NotEncoding n y) e.1 h)) | inr e ↦ e.0 ]

abbrev pub NotGlobalCtorDtor : ℕ → GlobalCtorDtor → Type 0
NotGlobalCtorDtor k y = pick (k == code Tag.GlobalCtorDtorCtor) ((a : Box MangledName Global) → y ≡ of_global_ctor_dtor.Ctor a → ⊥) (pick (k == code Tag.GlobalCtorDtorDtor) ((a : Box MangledName Global) → y ≡ of_global_ctor_dtor.Dtor a → ⊥) (Unit {0}))

moved_global_ctor_dtor : (y z : GlobalCtorDtor) → z ≡ y → NotGlobalCtorDtor (code (tag_of_global_ctor_dtor y)) y → NotGlobalCtorDtor (code (tag_of_global_ctor_dtor z)) z
moved_global_ctor_dtor y z e h = subst (λ x. NotGlobalCtorDtor (code (tag_of_global_ctor_dtor x)) x) (sym e) h

none_global_ctor_dtor : (y : GlobalCtorDtor) → NotGlobalCtorDtor (code (tag_of_global_ctor_dtor y)) y → ⊥
unfolding roll-GlobalCtorDtor denote.Hole.Carrier.roll
none_global_ctor_dtor y h = elim (out-GlobalCtorDtor y) as (λ o. roll-GlobalCtorDtor o ≡ y → ⊥) [ opened.Ctor a ↦ λ e. (moved_global_ctor_dtor y _ e h) a refl | opened.Dtor a ↦ λ e. (moved_global_ctor_dtor y _ e h) a refl ] (roll-out-GlobalCtorDtor y)

pub other_global_ctor_dtor : (k : ℕ) (y : GlobalCtorDtor) → NotGlobalCtorDtor k y → (k == code (tag_of_global_ctor_dtor y)) ≡ false
other_global_ctor_dtor k y h = elim (eqb_tells k (code (tag_of_global_ctor_dtor y))) [ inl e ↦ absurd (none_global_ctor_dtor y (subst (λ n. NotGlobalCtorDtor n y) e.1 h)) | inr e ↦ e.0 ]

abbrev pub NotName : ℕ → Name → Type 0
NotName k y = pick (k == code Tag.NameNested) ((a : NestedName) → y ≡ of_name.Nested a → ⊥) (pick (k == code Tag.NameUnscoped) ((a : UnscopedName) → y ≡ of_name.Unscoped a → ⊥) (pick (k == code Tag.NameUnscopedTemplate) ((a : UnscopedTemplateNameHandle) (b : TemplateArgs) → y ≡ of_name.UnscopedTemplate a b → ⊥) (pick (k == code Tag.NameLocal) ((a : LocalName) → y ≡ of_name.Local a → ⊥) (Unit {0}))))

moved_name : (y z : Name) → z ≡ y → NotName (code (tag_of_name y)) y → NotName (code (tag_of_name z)) z
moved_name y z e h = subst (λ x. NotName (code (tag_of_name x)) x) (sym e) h

none_name : (y : Name) → NotName (code (tag_of_name y)) y → ⊥
unfolding roll-Name denote.Hole.Carrier.roll
none_name y h = elim (out-Name y) as (λ o. roll-Name o ≡ y → ⊥) [ opened.Nested a ↦ λ e. (moved_name y _ e h) a refl | opened.Unscoped a ↦ λ e. (moved_name y _ e h) a refl | opened.UnscopedTemplate a b ↦ λ e. (moved_name y _ e h) a b refl | opened.Local a ↦ λ e. (moved_name y _ e h) a refl ] (roll-out-Name y)

pub other_name : (k : ℕ) (y : Name) → NotName k y → (k == code (tag_of_name y)) ≡ false
other_name k y h = elim (eqb_tells k (code (tag_of_name y))) [ inl e ↦ absurd (none_name y (subst (λ n. NotName n y) e.1 h)) | inr e ↦ e.0 ]

abbrev pub NotTemplateArg : ℕ → TemplateArg → Type 0
NotTemplateArg k y = pick (k == code Tag.TemplateArgTypeArg) ((a : TypeHandle) → y ≡ of_template_arg.TypeArg a → ⊥) (pick (k == code Tag.TemplateArgExpression) ((a : Expression) → y ≡ of_template_arg.Expression a → ⊥) (pick (k == code Tag.TemplateArgSimpleExpression) ((a : ExprPrimary) → y ≡ of_template_arg.SimpleExpression a → ⊥) (pick (k == code Tag.TemplateArgArgPack) ((a : Vec TemplateArg Global) → y ≡ of_template_arg.ArgPack a → ⊥) (Unit {0}))))

moved_template_arg : (y z : TemplateArg) → z ≡ y → NotTemplateArg (code (tag_of_template_arg y)) y → NotTemplateArg (code (tag_of_template_arg z)) z
moved_template_arg y z e h = subst (λ x. NotTemplateArg (code (tag_of_template_arg x)) x) (sym e) h

none_template_arg : (y : TemplateArg) → NotTemplateArg (code (tag_of_template_arg y)) y → ⊥
unfolding roll-TemplateArg denote.Hole.Carrier.roll
none_template_arg y h = elim (out-TemplateArg y) as (λ o. roll-TemplateArg o ≡ y → ⊥) [ opened.TypeArg a ↦ λ e. (moved_template_arg y _ e h) a refl | opened.Expression a ↦ λ e. (moved_template_arg y _ e h) a refl | opened.SimpleExpression a ↦ λ e. (moved_template_arg y _ e h) a refl | opened.ArgPack a ↦ λ e. (moved_template_arg y _ e h) a refl ] (roll-out-TemplateArg y)

pub other_template_arg : (k : ℕ) (y : TemplateArg) → NotTemplateArg k y → (k == code (tag_of_template_arg y)) ≡ false
other_template_arg k y h = elim (eqb_tells k (code (tag_of_template_arg y))) [ inl e ↦ absurd (none_template_arg y (subst (λ n. NotTemplateArg n y) e.1 h)) | inr e ↦ e.0 ]

abbrev pub NotExpression : ℕ → Expression → Type 0
NotExpression k y = pick (k == code Tag.ExpressionUnary) ((a : OperatorName) (b : Box Expression Global) → y ≡ of_expression.Unary a b → ⊥) (pick (k == code Tag.ExpressionBinary) ((a : OperatorName) (b : Box Expression Global) (c : Box Expression Global) → y ≡ of_expression.Binary a b c → ⊥) (pick (k == code Tag.ExpressionTernary) ((a : OperatorName) (b : Box Expression Global) (c : Box Expression Global) (d : Box Expression Global) → y ≡ of_expression.Ternary a b c d → ⊥) (pick (k == code Tag.ExpressionPrefixInc) ((a : Box Expression Global) → y ≡ of_expression.PrefixInc a → ⊥) (pick (k == code Tag.ExpressionPrefixDec) ((a : Box Expression Global) → y ≡ of_expression.PrefixDec a → ⊥) (pick (k == code Tag.ExpressionCall) ((a : Box Expression Global) (b : Vec Expression Global) → y ≡ of_expression.Call a b → ⊥) (pick (k == code Tag.ExpressionConversionOne) ((a : TypeHandle) (b : Box Expression Global) → y ≡ of_expression.ConversionOne a b → ⊥) (pick (k == code Tag.ExpressionConversionMany) ((a : TypeHandle) (b : Vec Expression Global) → y ≡ of_expression.ConversionMany a b → ⊥) (pick (k == code Tag.ExpressionConversionBraced) ((a : TypeHandle) (b : Vec Expression Global) → y ≡ of_expression.ConversionBraced a b → ⊥) (pick (k == code Tag.ExpressionBracedInitList) ((a : Vec Expression Global) → y ≡ of_expression.BracedInitList a → ⊥) (pick (k == code Tag.ExpressionNew) ((a : Vec Expression Global) (b : TypeHandle) (c : Option Initializer) → y ≡ of_expression.New a b c → ⊥) (pick (k == code Tag.ExpressionGlobalNew) ((a : Vec Expression Global) (b : TypeHandle) (c : Option Initializer) → y ≡ of_expression.GlobalNew a b c → ⊥) (pick (k == code Tag.ExpressionNewArray) ((a : Vec Expression Global) (b : TypeHandle) (c : Option Initializer) → y ≡ of_expression.NewArray a b c → ⊥) (pick (k == code Tag.ExpressionGlobalNewArray) ((a : Vec Expression Global) (b : TypeHandle) (c : Option Initializer) → y ≡ of_expression.GlobalNewArray a b c → ⊥) (pick (k == code Tag.ExpressionDelete) ((a : Box Expression Global) → y ≡ of_expression.Delete a → ⊥) (pick (k == code Tag.ExpressionGlobalDelete) ((a : Box Expression Global) → y ≡ of_expression.GlobalDelete a → ⊥) (pick (k == code Tag.ExpressionDeleteArray) ((a : Box Expression Global) → y ≡ of_expression.DeleteArray a → ⊥) (pick (k == code Tag.ExpressionGlobalDeleteArray) ((a : Box Expression Global) → y ≡ of_expression.GlobalDeleteArray a → ⊥) (pick (k == code Tag.ExpressionDynamicCast) ((a : TypeHandle) (b : Box Expression Global) → y ≡ of_expression.DynamicCast a b → ⊥) (pick (k == code Tag.ExpressionStaticCast) ((a : TypeHandle) (b : Box Expression Global) → y ≡ of_expression.StaticCast a b → ⊥) (pick (k == code Tag.ExpressionConstCast) ((a : TypeHandle) (b : Box Expression Global) → y ≡ of_expression.ConstCast a b → ⊥) (pick (k == code Tag.ExpressionReinterpretCast) ((a : TypeHandle) (b : Box Expression Global) → y ≡ of_expression.ReinterpretCast a b → ⊥) (pick (k == code Tag.ExpressionTypeidType) ((a : TypeHandle) → y ≡ of_expression.TypeidType a → ⊥) (pick (k == code Tag.ExpressionTypeidExpr) ((a : Box Expression Global) → y ≡ of_expression.TypeidExpr a → ⊥) (pick (k == code Tag.ExpressionSizeofType) ((a : TypeHandle) → y ≡ of_expression.SizeofType a → ⊥) (pick (k == code Tag.ExpressionSizeofExpr) ((a : Box Expression Global) → y ≡ of_expression.SizeofExpr a → ⊥) (pick (k == code Tag.ExpressionAlignofType) ((a : TypeHandle) → y ≡ of_expression.AlignofType a → ⊥) (pick (k == code Tag.ExpressionAlignofExpr) ((a : Box Expression Global) → y ≡ of_expression.AlignofExpr a → ⊥) (pick (k == code Tag.ExpressionNoexcept) ((a : Box Expression Global) → y ≡ of_expression.Noexcept a → ⊥) (pick (k == code Tag.ExpressionSubobject) ((a : SubobjectExpr) → y ≡ of_expression.Subobject a → ⊥) (pick (k == code Tag.ExpressionTemplateParam) ((a : TemplateParam) → y ≡ of_expression.TemplateParam a → ⊥) (pick (k == code Tag.ExpressionFunctionParam) ((a : FunctionParam) → y ≡ of_expression.FunctionParam a → ⊥) (pick (k == code Tag.ExpressionMember) ((a : Box Expression Global) (b : MemberName) → y ≡ of_expression.Member a b → ⊥) (pick (k == code Tag.ExpressionDerefMember) ((a : Box Expression Global) (b : MemberName) → y ≡ of_expression.DerefMember a b → ⊥) (pick (k == code Tag.ExpressionPointerToMember) ((a : Box Expression Global) (b : Box Expression Global) → y ≡ of_expression.PointerToMember a b → ⊥) (pick (k == code Tag.ExpressionSizeofTemplatePack) ((a : TemplateParam) → y ≡ of_expression.SizeofTemplatePack a → ⊥) (pick (k == code Tag.ExpressionSizeofFunctionPack) ((a : FunctionParam) → y ≡ of_expression.SizeofFunctionPack a → ⊥) (pick (k == code Tag.ExpressionSizeofCapturedTemplatePack) ((a : Vec TemplateArg Global) → y ≡ of_expression.SizeofCapturedTemplatePack a → ⊥) (pick (k == code Tag.ExpressionPackExpansion) ((a : Box Expression Global) → y ≡ of_expression.PackExpansion a → ⊥) (pick (k == code Tag.ExpressionFold) ((a : FoldExpr) → y ≡ of_expression.Fold a → ⊥) (pick (k == code Tag.ExpressionThrow) ((a : Box Expression Global) → y ≡ of_expression.Throw a → ⊥) (pick (k == code Tag.ExpressionRethrow) (y ≡ of_expression.Rethrow → ⊥) (pick (k == code Tag.ExpressionUnresolvedName) ((a : UnresolvedName) → y ≡ of_expression.UnresolvedName a → ⊥) (pick (k == code Tag.ExpressionPrimary) ((a : ExprPrimary) → y ≡ of_expression.Primary a → ⊥) (Unit {0}))))))))))))))))))))))))))))))))))))))))))))

moved_expression : (y z : Expression) → z ≡ y → NotExpression (code (tag_of_expression y)) y → NotExpression (code (tag_of_expression z)) z
moved_expression y z e h = subst (λ x. NotExpression (code (tag_of_expression x)) x) (sym e) h

none_expression : (y : Expression) → NotExpression (code (tag_of_expression y)) y → ⊥
unfolding roll-Expression denote.Hole.Carrier.roll
none_expression y h = elim (out-Expression y) as (λ o. roll-Expression o ≡ y → ⊥) [ opened.Unary a b ↦ λ e. (moved_expression y _ e h) a b refl | opened.Binary a b c ↦ λ e. (moved_expression y _ e h) a b c refl | opened.Ternary a b c d ↦ λ e. (moved_expression y _ e h) a b c d refl | opened.PrefixInc a ↦ λ e. (moved_expression y _ e h) a refl | opened.PrefixDec a ↦ λ e. (moved_expression y _ e h) a refl | opened.Call a b ↦ λ e. (moved_expression y _ e h) a b refl | opened.ConversionOne a b ↦ λ e. (moved_expression y _ e h) a b refl | opened.ConversionMany a b ↦ λ e. (moved_expression y _ e h) a b refl | opened.ConversionBraced a b ↦ λ e. (moved_expression y _ e h) a b refl | opened.BracedInitList a ↦ λ e. (moved_expression y _ e h) a refl | opened.New a b c ↦ λ e. (moved_expression y _ e h) a b c refl | opened.GlobalNew a b c ↦ λ e. (moved_expression y _ e h) a b c refl | opened.NewArray a b c ↦ λ e. (moved_expression y _ e h) a b c refl | opened.GlobalNewArray a b c ↦ λ e. (moved_expression y _ e h) a b c refl | opened.Delete a ↦ λ e. (moved_expression y _ e h) a refl | opened.GlobalDelete a ↦ λ e. (moved_expression y _ e h) a refl | opened.DeleteArray a ↦ λ e. (moved_expression y _ e h) a refl | opened.GlobalDeleteArray a ↦ λ e. (moved_expression y _ e h) a refl | opened.DynamicCast a b ↦ λ e. (moved_expression y _ e h) a b refl | opened.StaticCast a b ↦ λ e. (moved_expression y _ e h) a b refl | opened.ConstCast a b ↦ λ e. (moved_expression y _ e h) a b refl | opened.ReinterpretCast a b ↦ λ e. (moved_expression y _ e h) a b refl | opened.TypeidType a ↦ λ e. (moved_expression y _ e h) a refl | opened.TypeidExpr a ↦ λ e. (moved_expression y _ e h) a refl | opened.SizeofType a ↦ λ e. (moved_expression y _ e h) a refl | opened.SizeofExpr a ↦ λ e. (moved_expression y _ e h) a refl | opened.AlignofType a ↦ λ e. (moved_expression y _ e h) a refl | opened.AlignofExpr a ↦ λ e. (moved_expression y _ e h) a refl | opened.Noexcept a ↦ λ e. (moved_expression y _ e h) a refl | opened.Subobject a ↦ λ e. (moved_expression y _ e h) a refl | opened.TemplateParam a ↦ λ e. (moved_expression y _ e h) a refl | opened.FunctionParam a ↦ λ e. (moved_expression y _ e h) a refl | opened.Member a b ↦ λ e. (moved_expression y _ e h) a b refl | opened.DerefMember a b ↦ λ e. (moved_expression y _ e h) a b refl | opened.PointerToMember a b ↦ λ e. (moved_expression y _ e h) a b refl | opened.SizeofTemplatePack a ↦ λ e. (moved_expression y _ e h) a refl | opened.SizeofFunctionPack a ↦ λ e. (moved_expression y _ e h) a refl | opened.SizeofCapturedTemplatePack a ↦ λ e. (moved_expression y _ e h) a refl | opened.PackExpansion a ↦ λ e. (moved_expression y _ e h) a refl | opened.Fold a ↦ λ e. (moved_expression y _ e h) a refl | opened.Throw a ↦ λ e. (moved_expression y _ e h) a refl | opened.Rethrow ↦ λ e. (moved_expression y _ e h) refl | opened.UnresolvedName a ↦ λ e. (moved_expression y _ e h) a refl | opened.Primary a ↦ λ e. (moved_expression y _ e h) a refl ] (roll-out-Expression y)

pub other_expression : (k : ℕ) (y : Expression) → NotExpression k y → (k == code (tag_of_expression y)) ≡ false
other_expression k y h = elim (eqb_tells k (code (tag_of_expression y))) [ inl e ↦ absurd (none_expression y (subst (λ n. NotExpression n y) e.1 h)) | inr e ↦ e.0 ]

abbrev pub NotUnresolvedName : ℕ → UnresolvedName → Type 0
NotUnresolvedName k y = pick (k == code Tag.UnresolvedNameName) ((a : BaseUnresolvedName) → y ≡ of_unresolved_name.Name a → ⊥) (pick (k == code Tag.UnresolvedNameGlobal) ((a : BaseUnresolvedName) → y ≡ of_unresolved_name.Global a → ⊥) (pick (k == code Tag.UnresolvedNameNested1) ((a : UnresolvedTypeHandle) (b : Vec UnresolvedQualifierLevel Global) (c : BaseUnresolvedName) → y ≡ of_unresolved_name.Nested1 a b c → ⊥) (pick (k == code Tag.UnresolvedNameNested2) ((a : Vec UnresolvedQualifierLevel Global) (b : BaseUnresolvedName) → y ≡ of_unresolved_name.Nested2 a b → ⊥) (pick (k == code Tag.UnresolvedNameGlobalNested2) ((a : Vec UnresolvedQualifierLevel Global) (b : BaseUnresolvedName) → y ≡ of_unresolved_name.GlobalNested2 a b → ⊥) (Unit {0})))))

moved_unresolved_name : (y z : UnresolvedName) → z ≡ y → NotUnresolvedName (code (tag_of_unresolved_name y)) y → NotUnresolvedName (code (tag_of_unresolved_name z)) z
moved_unresolved_name y z e h = subst (λ x. NotUnresolvedName (code (tag_of_unresolved_name x)) x) (sym e) h

none_unresolved_name : (y : UnresolvedName) → NotUnresolvedName (code (tag_of_unresolved_name y)) y → ⊥
unfolding roll-UnresolvedName denote.Hole.Carrier.roll
none_unresolved_name y h = elim (out-UnresolvedName y) as (λ o. roll-UnresolvedName o ≡ y → ⊥) [ opened.UnresolvedName::Name a ↦ λ e. (moved_unresolved_name y _ e h) a refl | opened.Global a ↦ λ e. (moved_unresolved_name y _ e h) a refl | opened.Nested1 a b c ↦ λ e. (moved_unresolved_name y _ e h) a b c refl | opened.Nested2 a b ↦ λ e. (moved_unresolved_name y _ e h) a b refl | opened.GlobalNested2 a b ↦ λ e. (moved_unresolved_name y _ e h) a b refl ] (roll-out-UnresolvedName y)

pub other_unresolved_name : (k : ℕ) (y : UnresolvedName) → NotUnresolvedName k y → (k == code (tag_of_unresolved_name y)) ≡ false
other_unresolved_name k y h = elim (eqb_tells k (code (tag_of_unresolved_name y))) [ inl e ↦ absurd (none_unresolved_name y (subst (λ n. NotUnresolvedName n y) e.1 h)) | inr e ↦ e.0 ]

abbrev pub NotBaseUnresolvedName : ℕ → BaseUnresolvedName → Type 0
NotBaseUnresolvedName k y = pick (k == code Tag.BaseUnresolvedNameName) ((a : SimpleId) → y ≡ of_base_unresolved_name.Name a → ⊥) (pick (k == code Tag.BaseUnresolvedNameOperator) ((a : OperatorName) (b : Option TemplateArgs) → y ≡ of_base_unresolved_name.Operator a b → ⊥) (pick (k == code Tag.BaseUnresolvedNameDestructor) ((a : DestructorName) → y ≡ of_base_unresolved_name.Destructor a → ⊥) (Unit {0})))

moved_base_unresolved_name : (y z : BaseUnresolvedName) → z ≡ y → NotBaseUnresolvedName (code (tag_of_base_unresolved_name y)) y → NotBaseUnresolvedName (code (tag_of_base_unresolved_name z)) z
moved_base_unresolved_name y z e h = subst (λ x. NotBaseUnresolvedName (code (tag_of_base_unresolved_name x)) x) (sym e) h

none_base_unresolved_name : (y : BaseUnresolvedName) → NotBaseUnresolvedName (code (tag_of_base_unresolved_name y)) y → ⊥
unfolding roll-BaseUnresolvedName denote.Hole.Carrier.roll
none_base_unresolved_name y h = elim (out-BaseUnresolvedName y) as (λ o. roll-BaseUnresolvedName o ≡ y → ⊥) [ opened.BaseUnresolvedName::Name a ↦ λ e. (moved_base_unresolved_name y _ e h) a refl | opened.Operator a b ↦ λ e. (moved_base_unresolved_name y _ e h) a b refl | opened.Destructor a ↦ λ e. (moved_base_unresolved_name y _ e h) a refl ] (roll-out-BaseUnresolvedName y)

pub other_base_unresolved_name : (k : ℕ) (y : BaseUnresolvedName) → NotBaseUnresolvedName k y → (k == code (tag_of_base_unresolved_name y)) ≡ false
other_base_unresolved_name k y h = elim (eqb_tells k (code (tag_of_base_unresolved_name y))) [ inl e ↦ absurd (none_base_unresolved_name y (subst (λ n. NotBaseUnresolvedName n y) e.1 h)) | inr e ↦ e.0 ]

abbrev pub NotDestructorName : ℕ → DestructorName → Type 0
NotDestructorName k y = pick (k == code Tag.DestructorNameUnresolved) ((a : UnresolvedTypeHandle) → y ≡ of_destructor_name.Unresolved a → ⊥) (pick (k == code Tag.DestructorNameName) ((a : SimpleId) → y ≡ of_destructor_name.Name a → ⊥) (Unit {0}))

moved_destructor_name : (y z : DestructorName) → z ≡ y → NotDestructorName (code (tag_of_destructor_name y)) y → NotDestructorName (code (tag_of_destructor_name z)) z
moved_destructor_name y z e h = subst (λ x. NotDestructorName (code (tag_of_destructor_name x)) x) (sym e) h

none_destructor_name : (y : DestructorName) → NotDestructorName (code (tag_of_destructor_name y)) y → ⊥
unfolding roll-DestructorName denote.Hole.Carrier.roll
none_destructor_name y h = elim (out-DestructorName y) as (λ o. roll-DestructorName o ≡ y → ⊥) [ opened.Unresolved a ↦ λ e. (moved_destructor_name y _ e h) a refl | opened.DestructorName::Name a ↦ λ e. (moved_destructor_name y _ e h) a refl ] (roll-out-DestructorName y)

pub other_destructor_name : (k : ℕ) (y : DestructorName) → NotDestructorName k y → (k == code (tag_of_destructor_name y)) ≡ false
other_destructor_name k y h = elim (eqb_tells k (code (tag_of_destructor_name y))) [ inl e ↦ absurd (none_destructor_name y (subst (λ n. NotDestructorName n y) e.1 h)) | inr e ↦ e.0 ]

abbrev pub NotExprPrimary : ℕ → ExprPrimary → Type 0
NotExprPrimary k y = pick (k == code Tag.ExprPrimaryLiteral) ((a : TypeHandle) (b : ℕ) (c : ℕ) → y ≡ of_expr_primary.Literal a b c → ⊥) (pick (k == code Tag.ExprPrimaryExternal) ((a : Box MangledName Global) → y ≡ of_expr_primary.External a → ⊥) (Unit {0}))

moved_expr_primary : (y z : ExprPrimary) → z ≡ y → NotExprPrimary (code (tag_of_expr_primary y)) y → NotExprPrimary (code (tag_of_expr_primary z)) z
moved_expr_primary y z e h = subst (λ x. NotExprPrimary (code (tag_of_expr_primary x)) x) (sym e) h

none_expr_primary : (y : ExprPrimary) → NotExprPrimary (code (tag_of_expr_primary y)) y → ⊥
unfolding roll-ExprPrimary denote.Hole.Carrier.roll
none_expr_primary y h = elim (out-ExprPrimary y) as (λ o. roll-ExprPrimary o ≡ y → ⊥) [ opened.Literal a b c ↦ λ e. (moved_expr_primary y _ e h) a b c refl | opened.External a ↦ λ e. (moved_expr_primary y _ e h) a refl ] (roll-out-ExprPrimary y)

pub other_expr_primary : (k : ℕ) (y : ExprPrimary) → NotExprPrimary k y → (k == code (tag_of_expr_primary y)) ≡ false
other_expr_primary k y h = elim (eqb_tells k (code (tag_of_expr_primary y))) [ inl e ↦ absurd (none_expr_primary y (subst (λ n. NotExprPrimary n y) e.1 h)) | inr e ↦ e.0 ]

abbrev pub NotLocalName : ℕ → LocalName → Type 0
NotLocalName k y = pick (k == code Tag.LocalNameRelative) ((a : Box Encoding Global) (b : Option (Box Name Global)) (c : Option Discriminator) → y ≡ of_local_name.Relative a b c → ⊥) (pick (k == code Tag.LocalNameDefault) ((a : Box Encoding Global) (b : Option ℤ) (c : Box Name Global) → y ≡ of_local_name.Default a b c → ⊥) (Unit {0}))

moved_local_name : (y z : LocalName) → z ≡ y → NotLocalName (code (tag_of_local_name y)) y → NotLocalName (code (tag_of_local_name z)) z
moved_local_name y z e h = subst (λ x. NotLocalName (code (tag_of_local_name x)) x) (sym e) h

none_local_name : (y : LocalName) → NotLocalName (code (tag_of_local_name y)) y → ⊥
unfolding roll-LocalName denote.Hole.Carrier.roll
none_local_name y h = elim (out-LocalName y) as (λ o. roll-LocalName o ≡ y → ⊥) [ opened.Relative a b c ↦ λ e. (moved_local_name y _ e h) a b c refl | opened.Default a b c ↦ λ e. (moved_local_name y _ e h) a b c refl ] (roll-out-LocalName y)

pub other_local_name : (k : ℕ) (y : LocalName) → NotLocalName k y → (k == code (tag_of_local_name y)) ≡ false
other_local_name k y h = elim (eqb_tells k (code (tag_of_local_name y))) [ inl e ↦ absurd (none_local_name y (subst (λ n. NotLocalName n y) e.1 h)) | inr e ↦ e.0 ]

abbrev pub NotSpecialName : ℕ → SpecialName → Type 0
NotSpecialName k y = pick (k == code Tag.SpecialNameVirtualTable) ((a : TypeHandle) → y ≡ of_special_name.VirtualTable a → ⊥) (pick (k == code Tag.SpecialNameVtt) ((a : TypeHandle) → y ≡ of_special_name.Vtt a → ⊥) (pick (k == code Tag.SpecialNameTypeinfo) ((a : TypeHandle) → y ≡ of_special_name.Typeinfo a → ⊥) (pick (k == code Tag.SpecialNameTypeinfoName) ((a : TypeHandle) → y ≡ of_special_name.TypeinfoName a → ⊥) (pick (k == code Tag.SpecialNameVirtualOverrideThunk) ((a : CallOffset) (b : Box Encoding Global) → y ≡ of_special_name.VirtualOverrideThunk a b → ⊥) (pick (k == code Tag.SpecialNameVirtualOverrideThunkCovariant) ((a : CallOffset) (b : CallOffset) (c : Box Encoding Global) → y ≡ of_special_name.VirtualOverrideThunkCovariant a b c → ⊥) (pick (k == code Tag.SpecialNameGuard) ((a : Name) → y ≡ of_special_name.Guard a → ⊥) (pick (k == code Tag.SpecialNameGuardTemporary) ((a : Name) (b : ℕ) → y ≡ of_special_name.GuardTemporary a b → ⊥) (pick (k == code Tag.SpecialNameConstructionVtable) ((a : TypeHandle) (b : ℕ) (c : TypeHandle) → y ≡ of_special_name.ConstructionVtable a b c → ⊥) (pick (k == code Tag.SpecialNameTypeinfoFunction) ((a : TypeHandle) → y ≡ of_special_name.TypeinfoFunction a → ⊥) (pick (k == code Tag.SpecialNameTlsInit) ((a : Name) → y ≡ of_special_name.TlsInit a → ⊥) (pick (k == code Tag.SpecialNameTlsWrapper) ((a : Name) → y ≡ of_special_name.TlsWrapper a → ⊥) (pick (k == code Tag.SpecialNameJavaResource) ((a : Vec ResourceName Global) → y ≡ of_special_name.JavaResource a → ⊥) (pick (k == code Tag.SpecialNameTransactionClone) ((a : Box Encoding Global) → y ≡ of_special_name.TransactionClone a → ⊥) (pick (k == code Tag.SpecialNameNonTransactionClone) ((a : Box Encoding Global) → y ≡ of_special_name.NonTransactionClone a → ⊥) (Unit {0})))))))))))))))

moved_special_name : (y z : SpecialName) → z ≡ y → NotSpecialName (code (tag_of_special_name y)) y → NotSpecialName (code (tag_of_special_name z)) z
moved_special_name y z e h = subst (λ x. NotSpecialName (code (tag_of_special_name x)) x) (sym e) h

none_special_name : (y : SpecialName) → NotSpecialName (code (tag_of_special_name y)) y → ⊥
unfolding roll-SpecialName denote.Hole.Carrier.roll
none_special_name y h = elim (out-SpecialName y) as (λ o. roll-SpecialName o ≡ y → ⊥) [ opened.VirtualTable a ↦ λ e. (moved_special_name y _ e h) a refl | opened.Vtt a ↦ λ e. (moved_special_name y _ e h) a refl | opened.Typeinfo a ↦ λ e. (moved_special_name y _ e h) a refl | opened.TypeinfoName a ↦ λ e. (moved_special_name y _ e h) a refl | opened.VirtualOverrideThunk a b ↦ λ e. (moved_special_name y _ e h) a b refl | opened.VirtualOverrideThunkCovariant a b c ↦ λ e. (moved_special_name y _ e h) a b c refl | opened.Guard a ↦ λ e. (moved_special_name y _ e h) a refl | opened.GuardTemporary a b ↦ λ e. (moved_special_name y _ e h) a b refl | opened.ConstructionVtable a b c ↦ λ e. (moved_special_name y _ e h) a b c refl | opened.TypeinfoFunction a ↦ λ e. (moved_special_name y _ e h) a refl | opened.TlsInit a ↦ λ e. (moved_special_name y _ e h) a refl | opened.TlsWrapper a ↦ λ e. (moved_special_name y _ e h) a refl | opened.JavaResource a ↦ λ e. (moved_special_name y _ e h) a refl | opened.TransactionClone a ↦ λ e. (moved_special_name y _ e h) a refl | opened.NonTransactionClone a ↦ λ e. (moved_special_name y _ e h) a refl ] (roll-out-SpecialName y)

pub other_special_name : (k : ℕ) (y : SpecialName) → NotSpecialName k y → (k == code (tag_of_special_name y)) ≡ false
other_special_name k y h = elim (eqb_tells k (code (tag_of_special_name y))) [ inl e ↦ absurd (none_special_name y (subst (λ n. NotSpecialName n y) e.1 h)) | inr e ↦ e.0 ]

abbrev pub NotFoldExpr : ℕ → FoldExpr → Type 0
NotFoldExpr k y = pick (k == code Tag.FoldExprUnaryLeft) ((a : SimpleOperatorName) (b : Box Expression Global) → y ≡ of_fold_expr.UnaryLeft a b → ⊥) (pick (k == code Tag.FoldExprUnaryRight) ((a : SimpleOperatorName) (b : Box Expression Global) → y ≡ of_fold_expr.UnaryRight a b → ⊥) (pick (k == code Tag.FoldExprBinaryLeft) ((a : SimpleOperatorName) (b : Box Expression Global) (c : Box Expression Global) → y ≡ of_fold_expr.BinaryLeft a b c → ⊥) (pick (k == code Tag.FoldExprBinaryRight) ((a : SimpleOperatorName) (b : Box Expression Global) (c : Box Expression Global) → y ≡ of_fold_expr.BinaryRight a b c → ⊥) (Unit {0}))))

moved_fold_expr : (y z : FoldExpr) → z ≡ y → NotFoldExpr (code (tag_of_fold_expr y)) y → NotFoldExpr (code (tag_of_fold_expr z)) z
moved_fold_expr y z e h = subst (λ x. NotFoldExpr (code (tag_of_fold_expr x)) x) (sym e) h

none_fold_expr : (y : FoldExpr) → NotFoldExpr (code (tag_of_fold_expr y)) y → ⊥
unfolding roll-FoldExpr denote.Hole.Carrier.roll
none_fold_expr y h = elim (out-FoldExpr y) as (λ o. roll-FoldExpr o ≡ y → ⊥) [ opened.UnaryLeft a b ↦ λ e. (moved_fold_expr y _ e h) a b refl | opened.UnaryRight a b ↦ λ e. (moved_fold_expr y _ e h) a b refl | opened.BinaryLeft a b c ↦ λ e. (moved_fold_expr y _ e h) a b c refl | opened.BinaryRight a b c ↦ λ e. (moved_fold_expr y _ e h) a b c refl ] (roll-out-FoldExpr y)

pub other_fold_expr : (k : ℕ) (y : FoldExpr) → NotFoldExpr k y → (k == code (tag_of_fold_expr y)) ≡ false
other_fold_expr k y h = elim (eqb_tells k (code (tag_of_fold_expr y))) [ inl e ↦ absurd (none_fold_expr y (subst (λ n. NotFoldExpr n y) e.1 h)) | inr e ↦ e.0 ]
