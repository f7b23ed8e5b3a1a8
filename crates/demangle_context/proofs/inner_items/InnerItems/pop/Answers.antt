use Rattle.std.proofs.Common.{arith, ◌≤◌, length, ap, sym, option_map}
use Rattle.demangle_context.specs.Items.{tree_of}
use Rattle.demangle_context.specs.ItemsOf.{items_of}
use Rattle.demangle_context.proofs.Stacks.{stack_empty, stack_popped, top_empty, top_popped}
use Rattle.demangle_context.proofs.inner_items.InnerItems.pop.Goals as goal

pub returns-then-len-self-clause-after : goal.returns-then-len-self-clause-after
unfolding items_of
returns-then-len-self-clause-after g c =
    let h : length c.args.self.now.items.items ≤ c.args.self.now.base =
    omega (arith, c.if-len-self.true, c.len.ensures, c.args.self.now.items.ok.0) in
    stack_empty _ _ _ c.args.self.now.kept.items _ _ h

pub returns-then-len-self-clause-value : goal.returns-then-len-self-clause-value
unfolding items_of
returns-then-len-self-clause-value g c =
    let h : length c.args.self.now.items.items ≤ c.args.self.now.base =
    omega (arith, c.if-len-self.true, c.len.ensures, c.args.self.now.items.ok.0) in
    sym (ap (option_map tree_of) (top_empty _ _ _ h))

pub returns-clause-after : goal.returns-clause-after
unfolding items_of
returns-clause-after g c =
    let h : c.args.self.now.base ≤ length c.take_last.new.self.items =
    omega (
      arith,
      c.args.self.now.within,
      c.if-len-self.false,
      c.len.ensures,
      c.take_last.ensures.len,
      c.take_last.new.self.ok.0,
    ) in
    stack_popped _ _ _ _ c.args.self.now.kept.items _ _ _ h c.take_last.ensures.items

pub returns-clause-value : goal.returns-clause-value
unfolding items_of
returns-clause-value g c =
    let h : c.args.self.now.base ≤ length c.take_last.new.self.items =
    omega (
      arith,
      c.args.self.now.within,
      c.if-len-self.false,
      c.len.ensures,
      c.take_last.ensures.len,
      c.take_last.new.self.ok.0,
    ) in
    sym (ap (option_map tree_of) (top_popped _ _ _ _ _ h c.take_last.ensures.items))
