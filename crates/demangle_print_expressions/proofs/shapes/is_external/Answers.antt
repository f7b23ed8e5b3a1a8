use Rattle.std.proofs.Common.{ap, sym, ◌∙◌}
use Rattle.demangle_nodes.specs.TreeNodes.{tag_of_expr_primary}
use Rattle.demangle_printing.specs.Reader.{is_external}
use Rattle.demangle_print_primaries.proofs.Itself.{seen_primary}
use Rattle.demangle_print_expressions.proofs.shapes.is_external.Goals as goal

pub returns-in-External : goal.returns-in-External
returns-in-External c =
    λ r. sym (ap is_external (seen_primary r c.args.node.now ∙ ap tag_of_expr_primary c.in-External.is))

pub returns-in-Literal : goal.returns-in-Literal
returns-in-Literal c =
    λ r. sym (ap is_external (seen_primary r c.args.node.now ∙ ap tag_of_expr_primary c.in-Literal.is))
