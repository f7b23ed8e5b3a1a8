use Rattle.demangle_meets.proofs.Acts.{meets_done, meets_text}
use Rattle.demangle_meets.proofs.Lines.{meets_rest}
use Rattle.demangle_lines.proofs.Doing.{chooses_no, chooses_yes}
use Rattle.demangle_lines_expressions.proofs.choices.choice_6.Goals as goal

pub returns-then-condition_3 : goal.returns-then-condition_3
returns-then-condition_3 g c = chooses_yes c.condition_3.ensures c.if-condition_3.true (meets_text c.text.ensures
    meets_done)

pub returns-else-condition_3 : goal.returns-else-condition_3
returns-else-condition_3 g c = chooses_no c.condition_3.ensures c.if-condition_3.false (meets_rest
    (c.choice_7.ensures.rest _) meets_done)
