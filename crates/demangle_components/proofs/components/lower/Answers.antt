use Rattle.std.proofs.Common.{arith}
use Rattle.demangle_components.proofs.Woven.{lowered_step, lowered_stop}
use Rattle.demangle_components.proofs.components.lower.Goals as goal

pub loop-i-preserved : goal.loop-i-preserved
loop-i-preserved c = record {
  within = omega arith;
  lowered = lowered_step _ _ _ _ _ c.loop-i-test.true c.loop-i.invariant.within c.loop-i.invariant.lowered c.index.ensures c.if-index-most.true;
}

pub returns-else-index-most : goal.returns-else-index-most
returns-else-index-most c =
    lowered_stop _ _ _ _ _ c.requires c.loop-i-test.true c.loop-i.invariant.within c.loop-i.invariant.lowered c.index.ensures c.if-index-most.false
