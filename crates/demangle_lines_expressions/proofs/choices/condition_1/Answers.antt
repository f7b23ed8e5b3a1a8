use Rattle.demangle_lines.proofs.Doing.{always, either_off, either_on}
use Rattle.demangle_lines_expressions.proofs.choices.condition_1.Goals as goal

pub returns-then-is_inner_word : goal.returns-then-is_inner_word
returns-then-is_inner_word g c = either_on (always c.is_inner_word.ensures) c.if-is_inner_word.true

pub returns-else-is_inner_word : goal.returns-else-is_inner_word
returns-else-is_inner_word g c = either_off (always c.is_inner_word.ensures) c.if-is_inner_word.false (always
    c.is_inner_word-else-is_inner_word.ensures)
