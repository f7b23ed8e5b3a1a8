use Rattle.std.proofs.Common.{Some, sym, true, ◌∙◌}
use Rattle.demangle_nodes.specs.TreeNodes.{tree_of_expression}
use Rattle.demangle_printing.specs.Reader.{operand_in}
use Rattle.demangle_printing.specs.Rules.{line_of}
use Rattle.demangle_meets.specs.Place.{world_of}
use Rattle.demangle_meets.proofs.Acts.{meets_done, meets_text}
use Rattle.demangle_meets.proofs.Parts.{meets_at, meets_part}
use Rattle.demangle_scope.specs.ScopeOf.{scope_of}
use Rattle.demangle_print_expressions.proofs.shapes.operand.Goals as goal

pub returns-then-is_bare : goal.returns-then-is_bare
returns-then-is_bare g c =
    meets_at (λ v. operand_in v (line_of (world_of (g.B.Below.at c.args.below).refers) (Some (tree_of_expression
    c.args.node.now)) (scope_of c.args.scope))) (sym c.if-is_bare.true ∙ c.is_bare.ensures _)
    c.expression.ensures.meets

pub returns-else-is_bare : goal.returns-else-is_bare
returns-else-is_bare g c =
    meets_at (λ v. operand_in v (line_of (world_of (g.B.Below.at c.args.below).refers) (Some (tree_of_expression
    c.args.node.now)) (scope_of c.args.scope))) (sym c.if-is_bare.false ∙ c.is_bare.ensures _) (meets_text
    c.text.ensures (meets_part c.expression-else-is_bare.ensures (meets_text c.text-else-is_bare.ensures meets_done)))
