use Rattle.std.proofs.Common.{arith, ◌≤◌, length}
use Rattle.demangle_context.specs.ItemsOf.{items_of}
use Rattle.demangle_context.proofs.Stacks.{stack_returned}
use Rattle.demangle_context.proofs.inner_items.InnerItems.move_one_back.Goals as goal

pub returns-clause-returned : goal.returns-clause-returned
unfolding items_of
returns-clause-returned g c =
    let h : c.args.self.now.base ≤ length c.args.self.now.items.items =
    omega (arith, c.args.self.now.within, c.args.self.now.items.ok.0) in
    stack_returned _ _ _ _ c.args.self.now.kept.items _ _ _ _ h c.take_last-top.ensures.items
    c.push_reserved.ensures.items
