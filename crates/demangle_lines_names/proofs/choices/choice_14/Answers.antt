use Rattle.demangle_meets.proofs.Acts.{meets_done, meets_space}
use Rattle.demangle_lines.proofs.Doing.{chooses_no, chooses_yes}
use Rattle.demangle_lines_names.proofs.choices.choice_14.Goals as goal

pub returns-then-condition_2 : goal.returns-then-condition_2
returns-then-condition_2 g c = chooses_yes c.condition_2.ensures c.if-condition_2.true (meets_space c.space.ensures
    meets_done)

pub returns-else-condition_2 : goal.returns-else-condition_2
returns-else-condition_2 g c = chooses_no c.condition_2.ensures c.if-condition_2.false meets_done
