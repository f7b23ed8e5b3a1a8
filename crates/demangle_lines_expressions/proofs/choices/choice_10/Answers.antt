use Rattle.demangle_meets.proofs.Acts.{meets_block, meets_done, meets_text}
use Rattle.demangle_meets.proofs.Lines.{meets_rest}
use Rattle.demangle_lines.proofs.Doing.{chooses_no, chooses_yes}
use Rattle.demangle_lines_expressions.proofs.choices.choice_10.Goals as goal

pub returns-then-condition_4 : goal.returns-then-condition_4
returns-then-condition_4 g c = chooses_yes c.condition_4.ensures c.if-condition_4.true (meets_block (meets_rest
    (c.choice_11.ensures.rest _) meets_done) (meets_block (meets_rest (c.choice_12.ensures.rest _) (meets_block
    c.magnitude.ensures (meets_text c.text.ensures meets_done))) meets_done))

pub returns-else-condition_4 : goal.returns-else-condition_4
returns-else-condition_4 g c = chooses_no c.condition_4.ensures c.if-condition_4.false (meets_rest
    (c.choice_13.ensures.rest _) meets_done)
