use Rattle.std.proofs.Common.{◌-◌, length}
use Rattle.demangle_printing.specs.Rules.{turns}
use Rattle.demangle_meets.specs.Meets.{TurnsRemain}
use Rattle.demangle_meets.specs.Place.{world_of}
use Rattle.demangle_scope.specs.ScopeOf.{scope_of}
use Rattle.demangle_print_below.specs.PageOf.{page}
use Rattle.demangle_print_inner.proofs.waiting.all_waiting.Given as goal

abbrev pub invariant-loop-turn : goal.invariant-loop-turn
invariant-loop-turn g l =
    TurnsRemain (g.B.Below.at l.below) (page g.W.DemangleWrite.seen l.fn.ctx) (page g.W.DemangleWrite.seen l.ctx)
    (turns (world_of (g.B.Below.at l.below).refers) (length (page g.W.DemangleWrite.seen l.fn.ctx).inner)
    (scope_of l.scope))
    (length (page g.W.DemangleWrite.seen l.fn.ctx).inner - l._turn) (scope_of l.scope)
