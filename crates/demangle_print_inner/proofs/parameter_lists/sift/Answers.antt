use Rattle.std.proofs.Common.{sym, ◌∙◌}
use Rattle.demangle_print_inner.proofs.Items.{kept_is}
use Rattle.demangle_print_inner.proofs.Turns.{sift_begins, sift_does, sift_done, sift_keeps, sift_stops}
use Rattle.demangle_print_inner.proofs.parameter_lists.sift.Goals as goal

pub loop-turn-init : goal.loop-turn-init
loop-turn-init g c = sift_begins _

pub loop-turn-preserved-then-is_kept : goal.loop-turn-preserved-then-is_kept
loop-turn-preserved-then-is_kept g c =
    sift_keeps _ _ _ c.waiting-turn-end.ensures c.loop-turn-test.true c.loop-turn.invariant c.in-Some.ensures
    (sym (c.is_kept.ensures (g.B.Below.at c.args.below).refers
    ∙ kept_is (g.B.Below.at c.args.below).refers c.in-Some.item) ∙ c.if-is_kept.true)
    c.keep.ensures

pub loop-turn-preserved : goal.loop-turn-preserved
loop-turn-preserved g c =
    sift_does _ _ _ c.waiting-turn-end.ensures c.loop-turn-test.true c.loop-turn.invariant c.in-Some.ensures
    (sym (c.is_kept.ensures (g.B.Below.at c.args.below).refers
    ∙ kept_is (g.B.Below.at c.args.below).refers c.in-Some.item) ∙ c.if-is_kept.false)
    c.pop.ensures.step c.inner.ensures.meets

pub returns-in_default : goal.returns-in_default
returns-in_default g c = sift_stops _ _ c.loop-turn.invariant c.in_default.ensures

pub returns : goal.returns
returns g c = sift_done _ _ _ c.waiting-turn-end.ensures c.loop-turn-test.false c.loop-turn.invariant
