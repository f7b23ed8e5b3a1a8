use Rattle.std.proofs.Common.{length}
use Rattle.demangle_printing.specs.Rules.{rvalues}
use Rattle.demangle_meets.specs.Place.{world_of}
use Rattle.demangle_meets.specs.Meets.{RvaluesRemain}
use Rattle.demangle_context.specs.PageOf.{page}
use Rattle.demangle_lines_inner.proofs.references.take_rvalues.Given as goal

abbrev pub invariant-loop-below : goal.invariant-loop-below
invariant-loop-below g l =
    RvaluesRemain (g.B.Below.at l.below) (page g.T.InnerNode.tree g.T.RefersTo.table g.W.DemangleWrite.seen l.fn.ctx)
    (page g.T.InnerNode.tree g.T.RefersTo.table g.W.DemangleWrite.seen l.ctx)
    (rvalues (world_of (g.B.Below.at l.below).refers)
    (length (page g.T.InnerNode.tree g.T.RefersTo.table g.W.DemangleWrite.seen l.fn.ctx).inner))
    (length (page g.T.InnerNode.tree g.T.RefersTo.table g.W.DemangleWrite.seen l.ctx).inner)

abbrev pub decreases-loop-below : goal.decreases-loop-below
decreases-loop-below g l = length (page g.T.InnerNode.tree g.T.RefersTo.table g.W.DemangleWrite.seen l.ctx).inner
