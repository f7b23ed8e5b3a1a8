use Rattle.std.proofs.Common.{sym, ◌∙◌}
use Rattle.demangle_meets.specs.Place.{world_of}
use Rattle.demangle_meets.proofs.Lines.{rvalues_all}
use Rattle.demangle_lines_inner.proofs.Rvalues.{rvalue_taken, rvalues_stop, shorter}
use Rattle.demangle_lines_inner.proofs.references.take_rvalues.Goals as goal

pub loop-below-init : goal.loop-below-init
loop-below-init g c = rvalues_all _

pub loop-below-preserved : goal.loop-below-preserved
loop-below-preserved g c =
    rvalue_taken c.loop-below.invariant (sym c.is_rvalue_top.ensures ∙ c.loop-below-test.true) c.pop.ensures.step
    c.pop.ensures.inner

pub loop-below-smaller : goal.loop-below-smaller
loop-below-smaller g c =
    shorter (world_of (g.B.Below.at c.args.below).refers) _ _ (sym c.is_rvalue_top.ensures ∙ c.loop-below-test.true) c.pop.ensures.inner

pub returns : goal.returns
returns g c = rvalues_stop c.loop-below.invariant (sym c.is_rvalue_top.ensures ∙ c.loop-below-test.false)
