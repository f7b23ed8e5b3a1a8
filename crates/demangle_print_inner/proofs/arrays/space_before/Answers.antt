use Rattle.demangle_meets.proofs.Acts.{meets_done, meets_space}
use Rattle.demangle_print_inner.proofs.arrays.space_before.Goals as goal

pub returns-then-is_spaced : goal.returns-then-is_spaced
returns-then-is_spaced g c = λ p. rw c.if-is_spaced.true (meets_space c.space.ensures meets_done)

pub returns-else-is_spaced : goal.returns-else-is_spaced
returns-else-is_spaced g c = λ p. rw c.if-is_spaced.false meets_done
