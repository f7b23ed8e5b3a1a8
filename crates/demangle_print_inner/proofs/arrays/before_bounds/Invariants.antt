use Rattle.std.proofs.Common.{◌-◌, length, true}
use Rattle.demangle_printing.specs.Arrays.{array_turns}
use Rattle.demangle_meets.specs.Meets.{ArraysRemain}
use Rattle.demangle_meets.specs.Place.{world_of}
use Rattle.demangle_scope.specs.ScopeOf.{scope_of}
use Rattle.demangle_print_below.specs.PageOf.{page}
use Rattle.demangle_print_inner.proofs.arrays.before_bounds.Given as goal

abbrev pub invariant-loop-turn : goal.invariant-loop-turn
invariant-loop-turn g l =
    ArraysRemain (g.B.Below.at l.below) (page g.W.DemangleWrite.seen l.fn.ctx) (page g.W.DemangleWrite.seen l.ctx)
    (array_turns (world_of (g.B.Below.at l.below).refers) (length (page g.W.DemangleWrite.seen l.fn.ctx).inner)
    (scope_of l.scope) true)
    (length (page g.W.DemangleWrite.seen l.fn.ctx).inner - l._turn) l.is_spaced (scope_of l.scope)
