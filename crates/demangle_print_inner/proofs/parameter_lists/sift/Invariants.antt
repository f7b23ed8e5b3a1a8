use Rattle.std.proofs.Common.{◌-◌, length}
use Rattle.demangle_printing.specs.Parameters.{is_kept}
use Rattle.demangle_printing.specs.Rules.{inside_of}
use Rattle.demangle_meets.specs.Meets.{RemainsToSift}
use Rattle.demangle_meets.specs.Place.{world_of}
use Rattle.demangle_scope.specs.ScopeOf.{scope_of}
use Rattle.demangle_print_below.specs.PageOf.{page}
use Rattle.demangle_print_inner.proofs.parameter_lists.sift.Given as goal

abbrev pub invariant-loop-turn : goal.invariant-loop-turn
invariant-loop-turn g l =
    RemainsToSift (g.B.Below.at l.below) (page g.W.DemangleWrite.seen l.fn.ctx) (page g.W.DemangleWrite.seen l.ctx)
    (is_kept (world_of (g.B.Below.at l.below).refers))
    (inside_of (world_of (g.B.Below.at l.below).refers) (scope_of l.scope)) (length
    (page g.W.DemangleWrite.seen l.fn.ctx).inner)
    (length (page g.W.DemangleWrite.seen l.fn.ctx).inner - l._turn)
