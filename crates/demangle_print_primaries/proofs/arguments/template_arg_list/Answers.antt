use Rattle.std.proofs.Common.{map, sym}
use Rattle.demangle_nodes.specs.TreeNodes.{tree_of_template_arg}
use Rattle.demangle_printing.specs.Rules.{lines_of}
use Rattle.demangle_meets.specs.Place.{world_of}
use Rattle.demangle_meets.proofs.Acts.{meets_done}
use Rattle.demangle_meets.proofs.Parts.{meets_at}
use Rattle.demangle_scope.specs.ScopeOf.{scope_of}
use Rattle.demangle_print_parts.proofs.Commas.{drops_one, is_empty, list_begins, list_next, list_over}
use Rattle.demangle_print_primaries.proofs.arguments.template_arg_list.Goals as goal

pub returns-in_default : goal.returns-in_default
returns-in_default g c =
    meets_at
    (λ xs. lines_of (world_of (g.B.Below.at c.args.below).refers) (map tree_of_template_arg xs)
    (scope_of c.args.scope))
    (sym (is_empty c.args.nodes.now c.in_default.ensures.cases)) meets_done

pub loop-node-init : goal.loop-node-init
loop-node-init g c =
    list_begins tree_of_template_arg c.args.nodes.now c.in-Some.rest.now c.in-Some.first.now c.template_arg.ensures
    c.in-Some.ensures.cases.0

pub loop-node-preserved : goal.loop-node-preserved
loop-node-preserved g c =
    list_next tree_of_template_arg c.in-Some.rest.now c.loop-node.node-index c.node-item.result
    c.loop-node.invariant c.text.ensures c.template_arg-in-loop-node.ensures
    (drops_one _ _ _ c.node-item.is c.loop-node-test.true)

pub returns : goal.returns
returns g c = list_over tree_of_template_arg _ _ c.loop-node.invariant c.loop-node-test.false
