use Rattle.std.proofs.Common.{rules}
use Rattle.demangle_parse.specs.Levels.{read_at}
use Rattle.demangle_parse.proofs.Tries.{brackets_low, brackets_high, brackets_end, tells_deep, tells_enough}
use Rattle.demangle_parse.proofs.levels.levels_between.Goals as goal

pub returns-in_err-needs_more-clause-kept : goal.returns-in_err-needs_more-clause-kept
returns-in_err-needs_more-clause-kept g c whole h =
    c.needs_more.ensures.kept whole (c.loop-levels.invariant.kept whole h)

pub loop-levels-preserved-then-branch : goal.loop-levels-preserved-then-branch
loop-levels-preserved-then-branch g c = record {
  kept = λ whole h. c.needs_more.ensures.kept whole (c.loop-levels.invariant.kept whole h);
  between = λ few most whole h b.
      brackets_low few most (read_at g.X.ReadCells.row c.args.conversion c.args.text c.args.at whole) c.loop-levels.low
      c.loop-levels.high _ (c.loop-levels.invariant.between few most whole h b) (search rules) (search rules)
      (tells_deep _ _ (search rules)
      (c.in_ok-needs_more.ensures.tells whole (c.loop-levels.invariant.kept whole h)));
}

pub loop-levels-preserved : goal.loop-levels-preserved
loop-levels-preserved g c = record {
  kept = λ whole h. c.needs_more.ensures.kept whole (c.loop-levels.invariant.kept whole h);
  between = λ few most whole h b.
      brackets_high few most (read_at g.X.ReadCells.row c.args.conversion c.args.text c.args.at whole) c.loop-levels.low
      c.loop-levels.high _ (c.loop-levels.invariant.between few most whole h b) (search rules) (search rules)
      (tells_enough _ _ (search rules)
      (c.in_ok-needs_more.ensures.tells whole (c.loop-levels.invariant.kept whole h)));
}

pub returns-clause-needs : goal.returns-clause-needs
returns-clause-needs g c few most whole h b =
    brackets_end few most (read_at g.X.ReadCells.row c.args.conversion c.args.text c.args.at whole) c.loop-levels.low
    c.loop-levels.high (c.loop-levels.invariant.between few most whole h b) (search rules)
