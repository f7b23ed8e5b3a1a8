use Rattle.std.proofs.Common.{arith, ◌+◌, ◌-◌, ◌<◌, ◌≡◌, length, ap, sym, ◌∙◌, Some}
use Rattle.demangle_context.specs.ItemsOf.{held, items_of}
use Rattle.demangle_context.proofs.Lists.{length_above, nth_above}
use Rattle.demangle_context.proofs.inner_items.InnerItems.held_at.Goals as goal

pub returns : goal.returns
unfolding items_of
returns g c =
    let f = held g.T.InnerNode.tree in
    let xs = c.args.self.now.items.items in
    let count = length_above f c.args.self.now.base xs in
    let few : c.args.from_top + c.args.self.now.base < length xs =
    omega (arith, count, c.if-from_top-len.false, c.len.ensures) in
    let place : (c.len-2.result - 1 - c.args.from_top) + (c.args.from_top + 1) ≡ length xs =
    omega (arith, few, c.len-2.ensures, c.args.self.now.items.ok.0) in
    ap (λ z. Some (f z)) c.index.ensures
    ∙ sym (nth_above f c.args.self.now.base c.args.from_top (c.len-2.result - 1 - c.args.from_top) xs
    c.index.result.now few place)
