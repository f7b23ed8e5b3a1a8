use Rattle.demangle_lines.proofs.Doing.{always, either_off, either_on}
use Rattle.demangle_lines_names.proofs.choices.condition_3.Goals as goal

pub returns-then-is_word : goal.returns-then-is_word
returns-then-is_word g c = either_on (always c.is_word.ensures) c.if-is_word.true

pub returns-else-is_word : goal.returns-else-is_word
returns-else-is_word g c = either_off (always c.is_word.ensures) c.if-is_word.false c.condition_4.ensures
