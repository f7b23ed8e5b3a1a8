use Rattle.std.proofs.Common.{subst}
use Rattle.demangle_leaves_to_cells.specs.Put.{Waits}
use Rattle.demangle_leaves_to_cells.proofs.Puts.{wait_waits}
use Rattle.demangle_leaves_to_cells.proofs.lists.wait.Goals as goal

pub returns-in-Ok-Ok : goal.returns-in-Ok-Ok
returns-in-Ok-Ok c = λ before middle x y w p.
    wait_waits before middle _ _ x y c.args.part c.in-Ok-Ok.part _ c.in-Ok-Ok.is-1 c.wait.ensures.kept
    c.wait.ensures.waits c.wait.ensures.same c.wait.ensures.refused
    (subst (λ r. Waits before middle r x) c.in-Ok-Ok.is-0 w) p
