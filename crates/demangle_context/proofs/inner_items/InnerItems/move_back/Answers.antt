use Rattle.std.proofs.Common.{arith}
use Rattle.demangle_context.proofs.Stacks.{returned_step, returned_end}
use Rattle.demangle_context.proofs.inner_items.InnerItems.move_back.Goals as goal

pub loop-left-preserved : goal.loop-left-preserved
loop-left-preserved g c = record {
  room = omega arith;
  there = omega arith;
  returned = returned_step c.loop-left.left _ _ _ c.loop-left-test.true c.move_one_back.ensures.returned
      c.loop-left.invariant.returned;
}

pub returns : goal.returns
returns g c = returned_end c.loop-left.left _ _ c.loop-left-test.false c.loop-left.invariant.returned
