use Rattle.std.proofs.Common.{◌≡◌, drop}
use Rattle.demangle_printing.specs.Parameters.{wanted}
use Rattle.demangle_meets.specs.Place.{Refers, world_of}
use Rattle.demangle_print_below.specs.PageOf.{page}
use Rattle.demangle_print_inner.proofs.parentheses.wanted.Given as goal

-- none of the items so far wants any
abbrev pub invariant-loop-from_top : goal.invariant-loop-from_top
invariant-loop-from_top g l = (r : Refers) →
    wanted (world_of r) (drop l.from_top (page g.W.DemangleWrite.seen l.ctx).inner)
    ≡ wanted (world_of r) (page g.W.DemangleWrite.seen l.ctx).inner
