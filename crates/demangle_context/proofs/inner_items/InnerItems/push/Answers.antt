use Rattle.std.proofs.Common.{arith, ◌<◌, ◌≤◌, length, vec_len, vec_capacity}
use Rattle.demangle_context.specs.ItemsOf.{items_of}
use Rattle.demangle_context.proofs.Stacks.{stack_pushed, room_above}
use Rattle.demangle_context.proofs.inner_items.InnerItems.push.Goals as goal

pub returns-in-Ok-clause-pushed : goal.returns-in-Ok-clause-pushed
unfolding items_of
returns-in-Ok-clause-pushed g c =
    let h : c.args.self.now.base ≤ length c.args.self.now.items.items =
    omega (arith, c.args.self.now.within, c.args.self.now.items.ok.0) in
    stack_pushed _ _ _ _ c.args.self.now.kept.items _ _ _ h c.in-Ok.ensures.items

pub returns-in-Err-clause-room : goal.returns-in-Err-clause-room
unfolding items_of
returns-in-Err-clause-room g c = λ r.
    let h : c.args.self.now.base ≤ length c.args.self.now.items.items =
    omega (arith, c.args.self.now.within, c.args.self.now.items.ok.0) in
    let all = room_above _ _ _ c.args.self.now.kept.items _ _ _ h c.args.self.now.room r in
    let more : vec_len c.args.self.now.items < vec_capacity c.args.self.now.items =
    omega (arith, all, c.args.self.now.items.ok.0) in
    c.in-Err.ensures.succeeds more
