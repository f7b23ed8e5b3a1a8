use Rattle.std.proofs.Common.{◌-◌, ◌∙◌, ap}
use Rattle.demangle_context.specs.View.{view}
use Rattle.demangle_context.specs.PageOf.{page}
use Rattle.demangle_context.proofs.ItemSteps.{returns}
use Rattle.demangle_context.proofs.context.Context.unkeep.Goals as goal

pub returns-in-None : goal.returns-in-None
unfolding page view
returns-in-None g c =
    rw (c.in-None.is, c.full_in-self.ensures)
    (returns g.T.RefersTo.table _ _ c.args.before c.saturating_sub-count.result c.return_kept.result
    (c.saturating_sub-count.ensures ∙ ap (λ n. n - c.args.before) c.kept_len.ensures)
    c.return_kept.ensures.returned c.return_kept.ensures.unchanged c.return_kept.ensures.room)
