-- The alternatives of a template argument behind the first, in parts.
use Rattle.std.specs.Prelude.{Bool}
use Rattle.demangle_core.specs.Core.{Tag}
use Rattle.demangle_grammar.specs.Rule.{Row}
use Rattle.demangle_grammar.specs.Items.{◌·◌, r, t, made}
use Rattle.demangle_grammar.specs.Code.{Go, Here, Reply}
use Rattle.demangle_grammar.specs.Parts.{alone, else_row}
use Rattle.demangle_forms.specs.ArgForms.{pack_at}

-- types and packs
unfoldable pub typed_at : Go → Bool → Here → Reply
typed_at go c s = else_row (alone (t · made Tag.TemplateArgTypeArg) go c s) (λ u. pack_at go c s)

-- literals, and those behind them
unfoldable pub primary_at : Go → Bool → Here → Reply
primary_at go c s =
    else_row (alone (r Row.expr_primary · made Tag.TemplateArgSimpleExpression) go c s) (λ u. typed_at go c s)
