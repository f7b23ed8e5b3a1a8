use Rattle.std.proofs.Common.{length}
use Rattle.demangle_printing.specs.Rules.{rvalues}
use Rattle.demangle_meets.specs.Place.{Place, world_of}
use Rattle.demangle_meets.specs.Meets.{RvaluesRemain}
use Rattle.demangle_print_below.specs.PageOf.{page}
use Rattle.demangle_print_below.proofs.references.take_rvalues.Given as goal

abbrev pub invariant-loop-ctx : goal.invariant-loop-ctx
invariant-loop-ctx g l = (p : Place) →
    RvaluesRemain p (page g.W.DemangleWrite.seen l.fn.ctx) (page g.W.DemangleWrite.seen l.ctx)
    (rvalues (world_of p.refers) (length (page g.W.DemangleWrite.seen l.fn.ctx).inner))
    (length (page g.W.DemangleWrite.seen l.ctx).inner)

abbrev pub decreases-loop-ctx : goal.decreases-loop-ctx
decreases-loop-ctx g l = length (page g.W.DemangleWrite.seen l.ctx).inner
