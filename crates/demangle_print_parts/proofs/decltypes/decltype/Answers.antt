use Rattle.std.proofs.Common.{refl}
use Rattle.demangle_nodes.specs.TreeNodes.{tree_of_expression}
use Rattle.demangle_entries.specs.TreeEntries.{tree_of_decltype}
use Rattle.demangle_printing.specs.Print.{body}
use Rattle.demangle_printing.specs.Lines.{line_steps}
use Rattle.demangle_meets.specs.Place.{world_of}
use Rattle.demangle_meets.proofs.Parts.{meets_at, prints_at, prints_deep, prints_node}
use Rattle.demangle_scope.specs.ScopeOf.{scope_of}
use Rattle.demangle_print_parts.specs.Decltypes.{type_of}
use Rattle.demangle_print_parts.proofs.Itself.{decltype_is_itself}
use Rattle.demangle_print_parts.proofs.decltypes.decltype.Goals as goal

pub returns-in_default : goal.returns-in_default
returns-in_default g c = prints_deep (decltype_is_itself _ c.args.node.now) c.in_default.ensures

pub returns-in-IdExpression : goal.returns-in-IdExpression
unfolding body line_steps
returns-in-IdExpression g c =
    prints_at tree_of_decltype c.in-IdExpression.is (prints_node refl c.in-Some.ensures.0
    (meets_at
    (λ x. type_of (world_of (g.B.Below.at c.in-Some.below).refers) (tree_of_expression x) (scope_of c.args.scope))
    c.deref.ensures c.type_of.ensures))

pub returns-in-Expression : goal.returns-in-Expression
unfolding body line_steps
returns-in-Expression g c =
    prints_at tree_of_decltype c.in-Expression.is (prints_node refl c.in-Some.ensures.0
    (meets_at
    (λ x. type_of (world_of (g.B.Below.at c.in-Some.below).refers) (tree_of_expression x) (scope_of c.args.scope))
    c.deref-in-Expression.ensures c.type_of-in-Expression.ensures))
