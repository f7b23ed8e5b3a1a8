use Rattle.std.proofs.Common.{arith, ◌∙◌}
use Rattle.demangle_context.specs.ItemsOf.{held, items_of}
use Rattle.demangle_context.proofs.Lists.{length_newest}
use Rattle.demangle_context.proofs.Stacks.{returned_least}
use Rattle.demangle_context.proofs.inner_items.InnerItems.return_kept.Goals as goal

pub returns-in-Ok-clause-returned : goal.returns-in-Ok-clause-returned
unfolding items_of
returns-in-Ok-clause-returned g c =
    let moved = rw c.in-Ok.ensures.items at c.move_back.ensures in
    moved
    ∙ returned_least c.args.count c.len.result c.min-there.result _ c.min-there.ensures
    (let n = length_newest (held g.T.InnerNode.tree) c.args.self.now.kept.items in
    omega (arith, n, c.len.ensures, c.args.self.now.kept.ok.0))
