use Rattle.std.proofs.Common.{true, sym, ◌∙◌}
use Rattle.demangle_printing.specs.Arrays.{other, qualified}
use Rattle.demangle_print_inner.proofs.Items.{turn_is}
use Rattle.demangle_print_inner.proofs.Turns.{arrays_begin, arrays_done, arrays_next, arrays_none, arrays_qualified}
use Rattle.demangle_print_inner.proofs.Turns.{arrays_stop}
use Rattle.demangle_print_inner.proofs.arrays.before_bounds.Goals as goal

pub loop-turn-init : goal.loop-turn-init
loop-turn-init g c = arrays_begin _ true

pub loop-turn-preserved-in-Array : goal.loop-turn-preserved-in-Array
loop-turn-preserved-in-Array g c =
    arrays_next _ _ _ c.waiting-turn-end.ensures c.loop-turn-test.true c.loop-turn.invariant c.in-Some.ensures
    (sym (turn_is (g.B.Below.at c.args.below).refers c.in-Some.item) ∙ sym c.in-Array.ensures) c.take_top.ensures

pub loop-turn-preserved : goal.loop-turn-preserved
loop-turn-preserved g c =
    arrays_qualified _ _ _ c.waiting-turn-end.ensures c.loop-turn-test.true c.loop-turn.invariant c.in-Some.ensures
    (sym (turn_is (g.B.Below.at c.args.below).refers c.in-Some.item) ∙ sym c.in-Elements.ensures)
    c.take_top-in-Elements.ensures

pub returns-in_default : goal.returns-in_default
returns-in_default g c =
    arrays_none _ c.loop-turn.invariant c.in_default.ensures (c.space_before.ensures _)

pub returns-in-Qualified : goal.returns-in-Qualified
returns-in-Qualified g c =
    arrays_stop qualified _ _ _ c.waiting-turn-end.ensures c.loop-turn-test.true c.loop-turn.invariant c.in-Some.ensures
    (sym (turn_is (g.B.Below.at c.args.below).refers c.in-Some.item) ∙ sym c.in-Qualified.ensures)
    c.others_in_parentheses.ensures

pub returns-in-Other : goal.returns-in-Other
returns-in-Other g c =
    arrays_stop other _ _ _ c.waiting-turn-end.ensures c.loop-turn-test.true c.loop-turn.invariant c.in-Some.ensures
    (sym (turn_is (g.B.Below.at c.args.below).refers c.in-Some.item) ∙ sym c.in-Other.ensures)
    c.all_in_parentheses.ensures

pub returns : goal.returns
returns g c =
    arrays_done _ _ _ c.waiting-turn-end.ensures c.loop-turn-test.false c.loop-turn.invariant
    (c.space_before-2.ensures _)
