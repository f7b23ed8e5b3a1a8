use Rattle.demangle_context.specs.ItemsOf.{items_of}
use Rattle.demangle_context.specs.View.{view}
use Rattle.demangle_context.proofs.Hold.{ready_has_room}
use Rattle.demangle_context.proofs.context.Context.push_inner.Goals as goal

pub returns-clause-fits : goal.returns-clause-fits
unfolding view items_of
returns-clause-fits g c = λ r. c.push_inner_at.ensures.room (ready_has_room c.args.self.now.items.below r)
