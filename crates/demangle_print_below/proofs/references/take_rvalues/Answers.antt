use Rattle.std.proofs.Common.{sym, ◌∙◌}
use Rattle.demangle_meets.proofs.Lines.{rvalues_all}
use Rattle.demangle_print_below.proofs.Rvalues.{nowhere, rvalue_taken, rvalues_stop, shorter}
use Rattle.demangle_print_below.proofs.references.take_rvalues.Goals as goal

pub loop-ctx-init : goal.loop-ctx-init
loop-ctx-init g c = λ p. rvalues_all _

pub loop-ctx-preserved : goal.loop-ctx-preserved
loop-ctx-preserved g c = λ p.
    rvalue_taken (c.loop-ctx.invariant p)
    (sym (c.is_rvalue_top.ensures p.refers) ∙ c.loop-ctx-test.true) c.pop.ensures.step c.pop.ensures.inner

pub loop-ctx-smaller : goal.loop-ctx-smaller
loop-ctx-smaller g c =
    shorter _ _ (sym (c.is_rvalue_top.ensures nowhere) ∙ c.loop-ctx-test.true) c.pop.ensures.inner

pub returns : goal.returns
returns g c = λ p.
    rvalues_stop (c.loop-ctx.invariant p)
    (sym (c.is_rvalue_top.ensures p.refers) ∙ c.loop-ctx-test.false)
