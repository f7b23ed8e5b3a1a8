use Rattle.std.proofs.Common.{◌∙◌, sym, arith, ◌≤◌, length}
use Rattle.demangle_context.specs.ItemsOf.{items_of}
use Rattle.demangle_context.proofs.Lists.{length_below}
use Rattle.demangle_context.proofs.Stacks.{stack_aside}
use Rattle.demangle_context.proofs.inner_items.InnerItems.barrier.Goals as goal

pub returns-clause-after : goal.returns-clause-after
unfolding items_of
returns-clause-after g c =
    stack_aside _ _ _ _ c.args.self.now.kept.items _ _ (c.len-self.ensures ∙ c.args.self.now.items.ok.0)

pub returns-clause-before : goal.returns-clause-before
unfolding items_of
returns-clause-before g c =
    let h : c.args.self.now.base ≤ length c.args.self.now.items.items =
    omega (arith, c.args.self.now.within, c.args.self.now.items.ok.0) in
    sym (length_below _ _ _ h)
