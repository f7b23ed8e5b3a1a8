-- The kinds of expressions whose line is a shape that several have.
use Rattle.std.specs.Prelude.{Bool, false, ◌==◌, ◌||◌, List, [], ◌∷◌, ◌++◌}
use Rattle.demangle_core.specs.Core.{Tag, code}
use Rattle.demangle_nodes.specs.declared.nodes.Expression.{Expression}
use Rattle.demangle_nodes.specs.TreeNodes.{tag_of_expression}

abbrev pub is_one_of : List Tag → Expression → Bool
is_one_of [] x = false
is_one_of (t ∷ ts) x = (code t == code (tag_of_expression x)) || is_one_of ts x

-- an operand behind a word
abbrev pub led_kinds : List Tag
led_kinds =
    Tag.ExpressionPrefixInc ∷ Tag.ExpressionPrefixDec ∷ Tag.ExpressionDelete ∷ Tag.ExpressionDeleteArray
    ∷ Tag.ExpressionGlobalDelete ∷ Tag.ExpressionGlobalDeleteArray ∷ Tag.ExpressionThrow ∷ []

-- an operand or a type in parentheses, behind a word
abbrev pub enclosed_kinds : List Tag
enclosed_kinds =
    Tag.ExpressionTypeidType ∷ Tag.ExpressionTypeidExpr ∷ Tag.ExpressionSizeofType ∷ Tag.ExpressionSizeofExpr
    ∷ Tag.ExpressionAlignofType ∷ Tag.ExpressionAlignofExpr ∷ Tag.ExpressionNoexcept ∷ []

-- casts and creations
abbrev pub made_kinds : List Tag
made_kinds =
    Tag.ExpressionDynamicCast ∷ Tag.ExpressionStaticCast ∷ Tag.ExpressionConstCast ∷ Tag.ExpressionReinterpretCast
    ∷ Tag.ExpressionNew ∷ Tag.ExpressionNewArray ∷ Tag.ExpressionGlobalNew ∷ Tag.ExpressionGlobalNewArray ∷ []

abbrev pub shaped_kinds : List Tag
shaped_kinds = led_kinds ++ (enclosed_kinds ++ made_kinds)
