-- With which of its alternatives the next bytes leave an expression: those before can't begin with them, and aren't
-- tried where levels enough are left.
use Rattle.std.specs.Prelude.{Bool, true, ◌||◌, List, ℕ}
use Rattle.demangle_core.specs.Core.{Tag}
use Rattle.demangle_grammar.specs.Rule.{Class, Row}
use Rattle.demangle_grammar.specs.Items.{◌·◌, r, made, these}
use Rattle.demangle_grammar.specs.Reading.{next_is, is_empty}
use Rattle.demangle_grammar.specs.Code.{Go, Here, Reply}
use Rattle.demangle_grammar.specs.Parts.{alone, else_row}
use Rattle.demangle_forms.specs.ExpressionForms.{expression_at, operators_at, references_at}
use Rattle.demangle_read_expressions.specs.declared.first_bytes.ExpressionStart.{ExpressionStart}
use Rattle.demangle_read_expressions.specs.declared.first_bytes.ExpressionStart.TheVariants as of_start

-- whether the bytes leave these alternatives
abbrev pub leaves_expression : ExpressionStart → List ℕ → Bool
leaves_expression of_start.All bs = true
leaves_expression of_start.Parameters bs = next_is (these "T") bs
leaves_expression of_start.UnresolvedNames bs = next_is Class.digits bs
leaves_expression of_start.Literals bs = next_is (these "L") bs
leaves_expression of_start.Operators bs = is_empty bs || next_is (these "E_") bs

unfoldable pub parameters_at : Go → Bool → Here → Reply
parameters_at go c s =
    else_row (alone (r Row.template_param · made Tag.ExpressionTemplateParam) go c s) (λ u.
    else_row (alone (r Row.function_param · made Tag.ExpressionFunctionParam) go c s) (λ u. references_at go c s))

unfoldable pub literals_at : Go → Bool → Here → Reply
literals_at go c s =
    else_row (alone (r Row.expr_primary · made Tag.ExpressionPrimary) go c s) (λ u. operators_at go c s)

abbrev pub expression_from : ExpressionStart → Go → Bool → Here → Reply
expression_from of_start.All go c s = expression_at go c s
expression_from of_start.Parameters go c s = parameters_at go c s
expression_from of_start.UnresolvedNames go c s = references_at go c s
expression_from of_start.Literals go c s = literals_at go c s
expression_from of_start.Operators go c s = operators_at go c s
