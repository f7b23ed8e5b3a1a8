use Rattle.demangle_meets.proofs.Acts.{meets_block, meets_done, meets_text}
use Rattle.demangle_lines.proofs.Doing.{chooses_no, chooses_yes}
use Rattle.demangle_lines_functions.proofs.choices.choice_1.Goals as goal

pub returns-then-condition_1 : goal.returns-then-condition_1
returns-then-condition_1 g c = chooses_yes c.condition_1.ensures c.if-condition_1.true (meets_block
    c.innermost_part.ensures (meets_text c.text.ensures meets_done))

pub returns-else-condition_1 : goal.returns-else-condition_1
returns-else-condition_1 g c = chooses_no c.condition_1.ensures c.if-condition_1.false meets_done
