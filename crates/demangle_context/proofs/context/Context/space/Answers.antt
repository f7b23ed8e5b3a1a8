use Rattle.demangle_context.specs.View.{view}
use Rattle.demangle_context.specs.PageOf.{page}
use Rattle.demangle_context.proofs.TextSteps.{spaces}
use Rattle.demangle_context.proofs.context.Context.space.Goals as goal

pub returns-in-None : goal.returns-in-None
unfolding page view
returns-in-None g c =
    rw (c.in-None.is, c.refusal_in-self.ensures)
    (spaces g.T.RefersTo.table c.ensure_space.result c.ensure_space.ensures)
