use Rattle.demangle_meets.proofs.Acts.{meets_block, meets_done}
use Rattle.demangle_meets.proofs.Lines.{meets_rest}
use Rattle.demangle_lines.proofs.Doing.{always, chooses_no, chooses_yes}
use Rattle.demangle_lines_expressions.proofs.choices.choice_13.Goals as goal

pub returns-then-is_innermost_word : goal.returns-then-is_innermost_word
returns-then-is_innermost_word g c = chooses_yes (always c.is_innermost_word.ensures) c.if-is_innermost_word.true
    (meets_block (meets_rest (c.choice_8.ensures.rest _) (meets_block c.magnitude.ensures meets_done)) meets_done)

pub returns-else-is_innermost_word : goal.returns-else-is_innermost_word
returns-else-is_innermost_word g c = chooses_no (always c.is_innermost_word.ensures) c.if-is_innermost_word.false
    (meets_block (meets_rest (c.choice_11.ensures.rest _) meets_done) (meets_block (meets_rest
    (c.choice_8-else-is_innermost_word.ensures.rest _) (meets_block c.magnitude-else-is_innermost_word.ensures
    meets_done)) meets_done))
