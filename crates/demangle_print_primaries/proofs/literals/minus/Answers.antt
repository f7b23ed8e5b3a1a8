use Rattle.std.proofs.Common.{sym, true}
use Rattle.demangle_meets.proofs.Acts.{meets_done, meets_text}
use Rattle.demangle_print_primaries.proofs.literals.minus.Goals as goal

pub returns-then-is_negative : goal.returns-then-is_negative
returns-then-is_negative g c =
    λ p. rw (sym c.is_negative.ensures, c.if-is_negative.true) (meets_text c.text.ensures meets_done)

pub returns-else-is_negative : goal.returns-else-is_negative
returns-else-is_negative g c = λ p. rw (sym c.is_negative.ensures, c.if-is_negative.false) meets_done
