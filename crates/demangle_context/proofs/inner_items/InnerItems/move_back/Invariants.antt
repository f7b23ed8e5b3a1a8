use Rattle.std.proofs.Common.{◌≡◌, ◌+◌, ◌≤◌, vec_len, vec_capacity}
use Rattle.demangle_context.specs.Items.{with_returned}
use Rattle.demangle_context.specs.ItemsOf.{items_of}
use Rattle.demangle_context.proofs.inner_items.InnerItems.move_back.Given as goal

abbrev pub invariant-loop-left : goal.invariant-loop-left
invariant-loop-left g l = record {
  room : vec_len l.self.items + l.left ≤ vec_capacity l.self.items;
  there : l.left ≤ vec_len l.self.kept;
  returned : with_returned l.left (items_of g.T.InnerNode.tree l.self)
      ≡ with_returned l.count (items_of g.T.InnerNode.tree l.initial.self);
}

abbrev pub decreases-loop-left : goal.decreases-loop-left
decreases-loop-left g l = l.left
