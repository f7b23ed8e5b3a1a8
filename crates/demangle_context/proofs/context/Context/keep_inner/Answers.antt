use Rattle.demangle_context.specs.ItemsOf.{items_of}
use Rattle.demangle_context.specs.View.{view}
use Rattle.demangle_context.proofs.Hold.{ready_has_room}
use Rattle.demangle_context.proofs.context.Context.keep_inner.Goals as goal

pub returns-in-Err-clause-fits : goal.returns-in-Err-clause-fits
unfolding view items_of
returns-in-Err-clause-fits g c = λ r. c.in-Err.ensures.room (ready_has_room c.args.self.now.items.below r)
