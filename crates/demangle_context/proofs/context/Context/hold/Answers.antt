use Rattle.demangle_context.specs.View.{view}
use Rattle.demangle_context.specs.PageOf.{page}
use Rattle.demangle_context.proofs.ItemSteps.{pushes}
use Rattle.demangle_context.proofs.context.Context.hold.Goals as goal

pub returns-in-None : goal.returns-in-None
unfolding page view
returns-in-None g c =
    rw (c.in-None.is, c.full_in-self.ensures)
    (pushes g.T.RefersTo.table _ _ c.args.level (g.T.InnerNode.tree c.args.item) c.push_inner_at.result
    c.push_inner_at.ensures.pushed c.push_inner_at.ensures.unchanged c.push_inner_at.ensures.room)
