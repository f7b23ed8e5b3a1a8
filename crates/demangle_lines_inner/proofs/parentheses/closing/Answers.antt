use Rattle.demangle_meets.proofs.Acts.{meets_done, meets_text}
use Rattle.demangle_lines_inner.proofs.parentheses.closing.Goals as goal

pub returns-in-Needless : goal.returns-in-Needless
returns-in-Needless g c = λ p. rw c.in-Needless.is meets_done

pub returns-in-Plain : goal.returns-in-Plain
returns-in-Plain g c = λ p. rw c.in-Plain.is (meets_text c.text.ensures meets_done)

pub returns-in-Spaced : goal.returns-in-Spaced
returns-in-Spaced g c = λ p. rw c.in-Spaced.is (meets_text c.text-in-Spaced.ensures meets_done)
