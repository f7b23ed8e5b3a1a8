use Rattle.demangle_context.specs.View.{view}
use Rattle.demangle_context.specs.PageOf.{page}
use Rattle.demangle_context.proofs.TextSteps.{writes}
use Rattle.demangle_context.proofs.context.Context.text.Goals as goal

pub returns-in-None : goal.returns-in-None
unfolding page view
returns-in-None g c =
    rw (c.in-None.is, c.refusal_in-self.ensures)
    (writes g.T.RefersTo.table c.args.text.now c.write.result c.write.ensures)
