use Rattle.demangle_meets.proofs.Acts.{meets_done, meets_fail, meets_text}
use Rattle.demangle_lines.proofs.bytes.bytes_text.Goals as goal

pub returns-in-Some : goal.returns-in-Some
returns-in-Some g c = λ p. rw c.in-Some.ensures.1 (meets_text (rw c.in-Some.ensures.0 at c.text.ensures) meets_done)

pub returns-in-None : goal.returns-in-None
returns-in-None g c = λ p. rw c.in-None.ensures (meets_fail c.fail.ensures)
