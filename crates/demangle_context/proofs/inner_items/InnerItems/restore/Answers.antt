use Rattle.std.proofs.Common.{arith, ◌≤◌, length, ap, ◌∙◌, min}
use Rattle.demangle_context.specs.ItemsOf.{items_of}
use Rattle.demangle_context.proofs.Stacks.{stack_restored}
use Rattle.demangle_context.proofs.inner_items.InnerItems.restore.Goals as goal

pub returns : goal.returns
unfolding items_of
returns g c =
    let h : c.args.self.now.base ≤ length c.args.self.now.items.items =
    omega (arith, c.args.self.now.within, c.args.self.now.items.ok.0) in
    stack_restored _ _ _ _ _ _ c.args.self.now.kept.items _ _ h c.truncate.ensures.items
    (c.min-self.ensures ∙ ap (min c.args.self.now.base) c.saved.view_is)
