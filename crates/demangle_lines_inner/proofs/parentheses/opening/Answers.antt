use Rattle.std.proofs.Common.{refl}
use Rattle.demangle_meets.proofs.Acts.{meets_ask, meets_done, meets_space, meets_text}
use Rattle.demangle_lines_inner.proofs.parentheses.opening.Goals as goal

pub returns-in-Needless : goal.returns-in-Needless
returns-in-Needless g c = λ p. rw c.in-Needless.is meets_done

pub returns-in-Plain : goal.returns-in-Plain
returns-in-Plain g c = λ p.
    rw c.in-Plain.is (meets_ask (λ _. refl) (c.space_unless_open_or_star.ensures p)
    (meets_text c.text.ensures meets_done))

pub returns-in-Spaced : goal.returns-in-Spaced
returns-in-Spaced g c = λ p.
    rw c.in-Spaced.is (meets_space c.space.ensures (meets_text c.text-in-Spaced.ensures meets_done))
