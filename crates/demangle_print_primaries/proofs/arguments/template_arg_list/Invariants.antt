use Rattle.std.proofs.Common.{map, drop}
use Rattle.demangle_nodes.specs.TreeNodes.{tree_of_template_arg}
use Rattle.demangle_printing.specs.Rules.{lines_of}
use Rattle.demangle_meets.specs.Meets.{ListRemains}
use Rattle.demangle_meets.specs.Place.{world_of}
use Rattle.demangle_scope.specs.ScopeOf.{scope_of}
use Rattle.demangle_print_below.specs.PageOf.{page}
use Rattle.demangle_print_primaries.proofs.arguments.template_arg_list.Given as goal

abbrev pub invariant-loop-node : goal.invariant-loop-node
invariant-loop-node g l =
    ListRemains (g.B.Below.at l.below) (page g.W.DemangleWrite.seen l.fn.ctx) (page g.W.DemangleWrite.seen l.ctx)
    (lines_of (world_of (g.B.Below.at l.below).refers) (map tree_of_template_arg l.nodes) (scope_of l.scope))
    (map tree_of_template_arg (drop l.node-index l.rest)) (scope_of l.scope)
