use Rattle.std.proofs.Common.{◌≡◌, true, false, refl, sym, ◌∙◌}
use Rattle.demangle_context.specs.View.{view}
use Rattle.demangle_context.specs.PageOf.{page}
use Rattle.demangle_context.proofs.NodeSteps.{ends_node}
use Rattle.demangle_context.proofs.context.Context.end_node.Goals as goal

pub returns-in-None : goal.returns-in-None
unfolding page view
returns-in-None g c =
    ends_node g.T.RefersTo.table _ _ c.args.was_told (λ _. rw c.in-None.is refl) c.pop_node.ensures

pub returns-then-was_told : goal.returns-then-was_told
unfolding page view
returns-then-was_told g c =
    ends_node g.T.RefersTo.table _ _ c.args.was_told
    (λ e. absurd (let k : true ≡ false = sym c.if-was_told.true ∙ e in cc)) c.pop_node-then-was_told.ensures
