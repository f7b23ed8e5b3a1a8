use Rattle.demangle_print_inner.proofs.Turns.{turns_begin, turns_done, turns_next}
use Rattle.demangle_meets.proofs.Lines.{turns_taken}
use Rattle.demangle_print_inner.proofs.waiting.all_waiting.Goals as goal

pub loop-turn-init : goal.loop-turn-init
loop-turn-init g c = turns_begin _

pub loop-turn-preserved : goal.loop-turn-preserved
loop-turn-preserved g c =
    turns_next _ _ _ c.waiting-turn-end.ensures c.loop-turn-test.true c.loop-turn.invariant c.in-Some.ensures
    c.inner.ensures

pub returns-in_default : goal.returns-in_default
returns-in_default g c = turns_taken c.loop-turn.invariant c.in_default.ensures

pub returns : goal.returns
returns g c = turns_done _ _ _ c.waiting-turn-end.ensures c.loop-turn-test.false c.loop-turn.invariant
