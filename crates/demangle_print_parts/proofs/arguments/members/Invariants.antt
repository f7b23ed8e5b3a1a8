use Rattle.std.proofs.Common.{map, drop}
use Rattle.demangle_nodes.specs.TreeNodes.{tree_of_template_arg}
use Rattle.demangle_printing.specs.Rules.{members_of}
use Rattle.demangle_meets.specs.Meets.{MembersRemain}
use Rattle.demangle_meets.specs.Place.{world_of}
use Rattle.demangle_scope.specs.ScopeOf.{scope_of}
use Rattle.demangle_print_below.specs.PageOf.{page}
use Rattle.demangle_print_parts.proofs.arguments.members.Given as goal

abbrev pub invariant-loop-index : goal.invariant-loop-index
invariant-loop-index g l =
    MembersRemain (g.B.Below.at l.below) (page g.W.DemangleWrite.seen l.fn.ctx) (page g.W.DemangleWrite.seen l.ctx)
    (members_of (world_of (g.B.Below.at l.below).refers) l.args.1 (map tree_of_template_arg l.args.0.items)
    (scope_of l.scope))
    l.index l.args.1 (map tree_of_template_arg (drop l.index l.args.0.items)) (scope_of l.scope)
