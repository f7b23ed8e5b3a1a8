use Rattle.std.proofs.Common.{inl, inr, ⊎_elim, rules, arith}
use Rattle.demangle_parse.specs.Levels.{read_at}
use Rattle.demangle_parse.proofs.Tries.{brackets, tells_deep, tells_enough}
use Rattle.demangle_parse.proofs.levels.levels_around.Goals as goal

pub returns-in_err-needs_more-clause-kept : goal.returns-in_err-needs_more-clause-kept
returns-in_err-needs_more-clause-kept g c whole h =
    c.needs_more.ensures.kept whole (c.loop-levels.invariant.kept whole h)

pub returns-then-not-branch-clause-kept : goal.returns-then-not-branch-clause-kept
returns-then-not-branch-clause-kept g c whole h =
    c.needs_more.ensures.kept whole (c.loop-levels.invariant.kept whole h)

pub returns-then-not-branch-clause-bounds : goal.returns-then-not-branch-clause-bounds
returns-then-not-branch-clause-bounds g c whole h =
    let i = c.loop-levels.invariant in
    brackets c.args.few c.args.depth.levels
    (read_at g.X.ReadCells.row c.args.depth.conversion c.args.text c.args.at whole) c.loop-levels.low
    c.loop-levels.levels i.left i.order
    (inr (tells_enough _ _ (search rules)
    (c.in_ok-needs_more.ensures.tells whole (c.loop-levels.invariant.kept whole h))))
    (⊎_elim (λ s. inl s.0) (λ d. inr (d.0, d.1 whole h)) i.below)

pub loop-levels-preserved : goal.loop-levels-preserved
loop-levels-preserved g c = record {
  left = c.more_levels-levels.ensures.left;
  order = let m = c.more_levels-levels.ensures.more in omega (arith, m);
  kept = λ whole h. c.needs_more.ensures.kept whole (c.loop-levels.invariant.kept whole h);
  below = inr (
    c.more_levels-levels.ensures.more,
    λ whole h.
        tells_deep _ _ (search rules)
        (c.in_ok-needs_more.ensures.tells whole (c.loop-levels.invariant.kept whole h)),
  );
}
