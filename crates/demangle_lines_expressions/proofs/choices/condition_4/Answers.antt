use Rattle.demangle_lines.proofs.Doing.{always, either_off, either_on}
use Rattle.demangle_lines_expressions.proofs.choices.condition_4.Goals as goal

pub returns-then-is_innermost_word : goal.returns-then-is_innermost_word
returns-then-is_innermost_word g c = either_on (always c.is_innermost_word.ensures) c.if-is_innermost_word.true

pub returns-else-is_innermost_word : goal.returns-else-is_innermost_word
returns-else-is_innermost_word g c = either_off (always c.is_innermost_word.ensures) c.if-is_innermost_word.false
    (always c.is_innermost_word-else-is_innermost_word.ensures)
