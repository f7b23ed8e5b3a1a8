use Rattle.demangle_meets.proofs.Acts.{meets_space, meets_text, meets_done}
use Rattle.demangle_print_parts.proofs.builtin.word_if.Goals as goal

pub returns-then-is_there : goal.returns-then-is_there
returns-then-is_there g c = λ p.
    rw c.if-is_there.true (meets_space c.space.ensures (meets_text c.text.ensures meets_done))

pub returns-else-is_there : goal.returns-else-is_there
returns-else-is_there g c = λ p. rw c.if-is_there.false meets_done
