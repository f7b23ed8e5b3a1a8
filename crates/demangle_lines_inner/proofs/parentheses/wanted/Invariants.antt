use Rattle.std.proofs.Common.{◌≡◌, drop}
use Rattle.demangle_printing.specs.Parameters.{wanted}
use Rattle.demangle_meets.specs.Place.{world_of}
use Rattle.demangle_context.specs.PageOf.{page}
use Rattle.demangle_lines_inner.proofs.parentheses.wanted.Given as goal

-- none of the items so far wants any
abbrev pub invariant-loop-from_top : goal.invariant-loop-from_top
invariant-loop-from_top g l =
    wanted (world_of (g.B.Below.at l.below).refers) (drop l.from_top (page g.T.InnerNode.tree g.T.RefersTo.table g.W.DemangleWrite.seen l.ctx).inner)
    ≡ wanted (world_of (g.B.Below.at l.below).refers) (page g.T.InnerNode.tree g.T.RefersTo.table g.W.DemangleWrite.seen l.ctx).inner
