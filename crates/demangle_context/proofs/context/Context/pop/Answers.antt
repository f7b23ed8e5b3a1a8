use Rattle.demangle_context.specs.View.{view}
use Rattle.demangle_context.specs.PageOf.{page}
use Rattle.demangle_context.proofs.ItemSteps.{pops}
use Rattle.demangle_context.proofs.context.Context.pop.Goals as goal

pub returns-clause-step : goal.returns-clause-step
unfolding page view
returns-clause-step g c = pops g.T.RefersTo.table _ _ c.pop_inner-item.ensures.after
