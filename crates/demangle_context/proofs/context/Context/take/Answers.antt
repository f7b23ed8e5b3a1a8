use Rattle.demangle_context.specs.View.{view}
use Rattle.demangle_context.specs.PageOf.{page}
use Rattle.demangle_context.proofs.ItemSteps.{takes}
use Rattle.demangle_context.proofs.context.Context.take.Goals as goal

pub returns : goal.returns
unfolding page view
returns g c =
    takes g.T.RefersTo.table _ _ g.T.InnerNode.tree c.pop_inner.result c.pop_inner.ensures.value
    c.pop_inner.ensures.after
