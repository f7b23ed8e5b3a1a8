use Rattle.std.proofs.Common.{map, drop}
use Rattle.demangle_nodes.specs.TreeNodes.{tree_of_unresolved_qualifier_level}
use Rattle.demangle_meets.specs.Meets.{Remains}
use Rattle.demangle_meets.specs.Place.{world_of}
use Rattle.demangle_scope.specs.ScopeOf.{scope_of}
use Rattle.demangle_print_below.specs.PageOf.{page}
use Rattle.demangle_print_primaries.specs.Levels.{levels_of}
use Rattle.demangle_print_primaries.proofs.unresolved.levels.Given as goal

abbrev pub invariant-loop-node : goal.invariant-loop-node
invariant-loop-node g l =
    Remains (g.B.Below.at l.below) (page g.W.DemangleWrite.seen l.fn.ctx) (page g.W.DemangleWrite.seen l.ctx)
    (levels_of (world_of (g.B.Below.at l.below).refers) (scope_of l.scope)
    (map tree_of_unresolved_qualifier_level l.nodes))
    (levels_of (world_of (g.B.Below.at l.below).refers) (scope_of l.scope)
    (map tree_of_unresolved_qualifier_level (drop l.node-index l.nodes)))
