use Rattle.std.proofs.Common.{drop, map}
use Rattle.demangle_core.specs.Core.{Core}
use Rattle.demangle_leaf_nodes.specs.TreeLeaves.{tree_of_signed}
use Rattle.demangle_printing.specs.Items.{spelled_itself, t, ◌·◌}
use Rattle.demangle_printing.specs.Scope.{Scope}
use Rattle.demangle_printing.specs.Step.{Step}
use Rattle.demangle_meets.specs.Meets.{Remains}
use Rattle.demangle_meets.specs.Place.{Place, world_of}
use Rattle.demangle_print_below.specs.PageOf.{page}
use Rattle.demangle_print_parts.specs.Pieces.{each_of}
use Rattle.demangle_print_unqualified.proofs.suffixes.clone_numbers.Given as goal

abbrev pub invariant-loop-n : goal.invariant-loop-n
invariant-loop-n g l =
    (p : Place) (sc : Scope Core) →
    Remains p (page g.W.DemangleWrite.seen l.fn.ctx) (page g.W.DemangleWrite.seen l.ctx)
    (each_of (world_of p.refers) ((t "." · spelled_itself) Step.done) (map tree_of_signed l.fn.numbers) sc)
    (each_of (world_of p.refers) ((t "." · spelled_itself) Step.done)
    (map tree_of_signed (drop l.n-index l.numbers)) sc)
