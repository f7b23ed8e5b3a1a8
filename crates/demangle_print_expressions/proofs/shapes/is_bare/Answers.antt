use Rattle.std.proofs.Common.{ap, sym, ◌∙◌}
use Rattle.demangle_nodes.specs.TreeNodes.{tag_of_expression, tree_of_expression}
use Rattle.demangle_printing.specs.Reader.{is_bare_node}
use Rattle.demangle_meets.specs.Place.{world_of}
use Rattle.demangle_print_primaries.proofs.Itself.{bare_primary, not_bare, seen_expression}
use Rattle.demangle_print_expressions.proofs.shapes.is_bare.Goals as goal

pub returns-in-FunctionParam : goal.returns-in-FunctionParam
returns-in-FunctionParam c =
    λ r. sym (ap (is_bare_node (world_of r) (tree_of_expression c.args.node.now))
    (seen_expression r c.args.node.now ∙ ap tag_of_expression c.in-FunctionParam.is))

pub returns-in-Primary : goal.returns-in-Primary
returns-in-Primary c =
    λ r. c.is_external.ensures r ∙ sym (bare_primary r c.args.node.now _ c.in-Primary.is)

pub returns-in_default : goal.returns-in_default
returns-in_default c =
    λ r. not_bare r c.args.node.now c.in_default.not-FunctionParam c.in_default.not-Primary
