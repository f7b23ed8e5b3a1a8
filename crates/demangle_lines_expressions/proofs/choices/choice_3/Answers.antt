use Rattle.demangle_meets.proofs.Acts.{meets_block, meets_done, meets_text}
use Rattle.demangle_lines.proofs.Doing.{always, chooses_no, chooses_yes}
use Rattle.demangle_lines_expressions.proofs.choices.choice_3.Goals as goal

pub returns-then-is_inner_word : goal.returns-then-is_inner_word
returns-then-is_inner_word g c = chooses_yes (always c.is_inner_word.ensures) c.if-is_inner_word.true (meets_block
    c.operand.ensures (meets_text c.text.ensures (meets_block c.operand-then-is_inner_word.ensures (meets_text
    c.text-then-is_inner_word.ensures (meets_block c.operand-then-is_inner_word-2.ensures meets_done)))))

pub returns-else-is_inner_word : goal.returns-else-is_inner_word
returns-else-is_inner_word g c = chooses_no (always c.is_inner_word.ensures) c.if-is_inner_word.false (meets_block
    c.part.ensures (meets_text c.text-else-is_inner_word.ensures (meets_block c.part-else-is_inner_word.ensures
    (meets_text c.text-else-is_inner_word-2.ensures (meets_block c.part-else-is_inner_word-2.ensures (meets_text
    c.text-else-is_inner_word-3.ensures (meets_block c.part-else-is_inner_word-3.ensures (meets_text
    c.text-else-is_inner_word-4.ensures meets_done))))))))
