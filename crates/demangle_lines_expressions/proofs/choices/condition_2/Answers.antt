use Rattle.demangle_lines.proofs.Doing.{always, both_off, both_on}
use Rattle.demangle_lines_expressions.proofs.choices.condition_2.Goals as goal

pub returns-then-is_innermost_word : goal.returns-then-is_innermost_word
returns-then-is_innermost_word g c = both_on (always c.is_innermost_word.ensures) c.if-is_innermost_word.true (always
    c.spells.ensures)

pub returns-else-is_innermost_word : goal.returns-else-is_innermost_word
returns-else-is_innermost_word g c = both_off (always c.is_innermost_word.ensures) c.if-is_innermost_word.false
