use Rattle.demangle_meets.proofs.Acts.{meets_block, meets_done, meets_text}
use Rattle.demangle_lines.proofs.Doing.{chooses_no, chooses_yes}
use Rattle.demangle_lines_expressions.proofs.choices.choice_11.Goals as goal

pub returns-then-is_on : goal.returns-then-is_on
returns-then-is_on g c = chooses_yes (record { is = λ l. c.is_on.ensures }) c.if-is_on.true (meets_text c.text.ensures
    (meets_block c.part.ensures (meets_text c.text-then-is_on.ensures meets_done)))

pub returns-else-is_on : goal.returns-else-is_on
returns-else-is_on g c = chooses_no (record { is = λ l. c.is_on.ensures }) c.if-is_on.false meets_done
