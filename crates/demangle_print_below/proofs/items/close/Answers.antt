use Rattle.demangle_meets.proofs.Acts.{closes_other, closes_own}
use Rattle.demangle_print_below.proofs.items.close.Goals as goal

pub returns-then-take_own : goal.returns-then-take_own
returns-then-take_own g c = closes_own (rw c.level.ensures at c.if-take_own.ensures) c.inner.ensures.meets

pub returns-else-take_own : goal.returns-else-take_own
returns-else-take_own g c = closes_other (rw c.level.ensures at c.if-take_own.ensures)
