use Rattle.demangle_context.specs.View.{view}
use Rattle.demangle_context.specs.PageOf.{page}
use Rattle.demangle_context.proofs.ItemSteps.{keeps}
use Rattle.demangle_context.proofs.context.Context.keep.Goals as goal

pub returns-in-None : goal.returns-in-None
unfolding page view
returns-in-None g c h hs top =
    rw (c.in-None.is, c.full_in-self.ensures)
    (keeps g.T.RefersTo.table _ _ h hs c.keep_inner.result c.keep_inner.ensures.kept c.keep_inner.ensures.unchanged
    c.keep_inner.ensures.room top)
