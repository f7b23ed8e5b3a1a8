use Rattle.demangle_meets.proofs.Acts.{meets_done, meets_space}
use Rattle.demangle_print_parts.proofs.operators.space_before_word.Goals as goal

pub returns-then-is_word : goal.returns-then-is_word
returns-then-is_word g c = λ p s. rw (← c.is_word.ensures p.refers s, c.if-is_word.true)
    (meets_space c.space.ensures meets_done)

pub returns-else-is_word : goal.returns-else-is_word
returns-else-is_word g c = λ p s. rw (← c.is_word.ensures p.refers s, c.if-is_word.false) meets_done
