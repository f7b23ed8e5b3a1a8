use Rattle.demangle_meets.proofs.Acts.{meets_block, meets_done}
use Rattle.demangle_lines.proofs.Doing.{chooses_no, chooses_yes}
use Rattle.demangle_lines_names.proofs.choices.choice_3.Goals as goal

pub returns-then-condition_1 : goal.returns-then-condition_1
returns-then-condition_1 g c = chooses_yes c.condition_1.ensures c.if-condition_1.true (meets_block
    c.name_part.ensures meets_done)

pub returns-else-condition_1 : goal.returns-else-condition_1
returns-else-condition_1 g c = chooses_no c.condition_1.ensures c.if-condition_1.false meets_done
