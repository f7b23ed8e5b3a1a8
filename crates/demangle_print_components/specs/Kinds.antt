-- The kinds of expressions that have a line of their own and are no operators.
use Rattle.std.specs.Prelude.{List, [], ◌∷◌}
use Rattle.demangle_core.specs.Core.{Tag}

-- calls, conversions, lists in braces and expansions of packs
abbrev pub call_kinds : List Tag
call_kinds =
    Tag.ExpressionCall ∷ Tag.ExpressionConversionOne ∷ Tag.ExpressionConversionMany
    ∷ Tag.ExpressionConversionBraced ∷ Tag.ExpressionBracedInitList ∷ Tag.ExpressionPackExpansion ∷ []

-- literals, names, parameters and sizes of packs
abbrev pub primary_kinds : List Tag
primary_kinds =
    Tag.ExpressionSizeofTemplatePack ∷ Tag.ExpressionSizeofFunctionPack ∷ Tag.ExpressionSizeofCapturedTemplatePack
    ∷ Tag.ExpressionTemplateParam ∷ Tag.ExpressionFunctionParam ∷ Tag.ExpressionRethrow
    ∷ Tag.ExpressionUnresolvedName ∷ Tag.ExpressionPrimary ∷ []
