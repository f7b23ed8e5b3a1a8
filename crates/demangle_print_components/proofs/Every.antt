-- Each expression is an operator, of one of the other kinds that have a line of their own, or of one of the shapes.
use Rattle.std.proofs.Common.{◌≡◌, refl, true, List, [], ◌∷◌, ◌++◌}
use Rattle.demangle_core.specs.Core.{Tag}
use Rattle.demangle_nodes.specs.declared.nodes.Expression.{Expression}
use Rattle.demangle_nodes.specs.declared.nodes.Expression.TheVariants as of_expression
use Rattle.demangle_print_shapes.specs.Kinds.{is_one_of, shaped_kinds}
use Rattle.demangle_print_components.specs.Kinds.{call_kinds, primary_kinds}

abbrev pub operator_kinds : List Tag
operator_kinds =
    Tag.ExpressionUnary ∷ Tag.ExpressionBinary ∷ Tag.ExpressionTernary ∷ Tag.ExpressionFold ∷ Tag.ExpressionMember
    ∷ Tag.ExpressionDerefMember ∷ Tag.ExpressionPointerToMember ∷ Tag.ExpressionSubobject ∷ []

pub every_kind
    : (x : Expression) → is_one_of (operator_kinds ++ (call_kinds ++ (primary_kinds ++ shaped_kinds))) x ≡ true
every_kind (of_expression.Unary' _ _ _) = refl
every_kind (of_expression.Binary' _ _ _ _ _) = refl
every_kind (of_expression.Ternary' _ _ _ _ _ _ _) = refl
every_kind (of_expression.PrefixInc' _ _) = refl
every_kind (of_expression.PrefixDec' _ _) = refl
every_kind (of_expression.Fold _) = refl
every_kind (of_expression.Call' _ _ _ _) = refl
every_kind (of_expression.ConversionOne' _ _ _) = refl
every_kind (of_expression.ConversionMany' _ _ _) = refl
every_kind (of_expression.ConversionBraced' _ _ _) = refl
every_kind (of_expression.BracedInitList' _ _) = refl
every_kind (of_expression.DynamicCast' _ _ _) = refl
every_kind (of_expression.StaticCast' _ _ _) = refl
every_kind (of_expression.ConstCast' _ _ _) = refl
every_kind (of_expression.ReinterpretCast' _ _ _) = refl
every_kind (of_expression.New' _ _ _ _) = refl
every_kind (of_expression.NewArray' _ _ _ _) = refl
every_kind (of_expression.GlobalNew' _ _ _ _) = refl
every_kind (of_expression.GlobalNewArray' _ _ _ _) = refl
every_kind (of_expression.Delete' _ _) = refl
every_kind (of_expression.DeleteArray' _ _) = refl
every_kind (of_expression.GlobalDelete' _ _) = refl
every_kind (of_expression.GlobalDeleteArray' _ _) = refl
every_kind (of_expression.TypeidType _) = refl
every_kind (of_expression.TypeidExpr' _ _) = refl
every_kind (of_expression.SizeofType _) = refl
every_kind (of_expression.SizeofExpr' _ _) = refl
every_kind (of_expression.AlignofType _) = refl
every_kind (of_expression.AlignofExpr' _ _) = refl
every_kind (of_expression.Noexcept' _ _) = refl
every_kind (of_expression.SizeofTemplatePack _) = refl
every_kind (of_expression.SizeofFunctionPack _) = refl
every_kind (of_expression.SizeofCapturedTemplatePack' _ _) = refl
every_kind (of_expression.Member' _ _ _ _) = refl
every_kind (of_expression.DerefMember' _ _ _ _) = refl
every_kind (of_expression.PointerToMember' _ _ _ _) = refl
every_kind (of_expression.Subobject' _ _ _ _) = refl
every_kind (of_expression.TemplateParam _) = refl
every_kind (of_expression.FunctionParam _) = refl
every_kind (of_expression.PackExpansion' _ _) = refl
every_kind (of_expression.Throw' _ _) = refl
every_kind of_expression.Rethrow = refl
every_kind (of_expression.UnresolvedName _) = refl
every_kind (of_expression.Primary _) = refl
