use Rattle.std.proofs.Common.{drop, map}
use Rattle.demangle_core.specs.Core.{Core}
use Rattle.demangle_leaf_nodes.specs.TreeLeaves.{tree_of_clone_suffix}
use Rattle.demangle_printing.specs.Items.{itself}
use Rattle.demangle_printing.specs.Scope.{Scope}
use Rattle.demangle_printing.specs.Step.{Step}
use Rattle.demangle_meets.specs.Meets.{Remains}
use Rattle.demangle_meets.specs.Place.{world_of}
use Rattle.demangle_print_below.specs.PageOf.{page}
use Rattle.demangle_print_parts.specs.Pieces.{each_of}
use Rattle.demangle_print_unqualified.proofs.suffixes.each_suffix.Given as goal

abbrev pub invariant-loop-node : goal.invariant-loop-node
invariant-loop-node g l =
    (sc : Scope Core) →
    Remains (g.B.Below.at l.below) (page g.W.DemangleWrite.seen l.fn.ctx) (page g.W.DemangleWrite.seen l.ctx)
    (each_of (world_of (g.B.Below.at l.below).refers) (itself Step.done) (map tree_of_clone_suffix l.fn.nodes) sc)
    (each_of (world_of (g.B.Below.at l.below).refers) (itself Step.done)
    (map tree_of_clone_suffix (drop l.node-index l.nodes)) sc)
