use Rattle.demangle_meets.proofs.Acts.{meets_done, meets_text}
use Rattle.demangle_lines.proofs.Doing.{always, chooses_no, chooses_yes}
use Rattle.demangle_lines_expressions.proofs.choices.choice_8.Goals as goal

pub returns-then-is_negative : goal.returns-then-is_negative
returns-then-is_negative g c = chooses_yes (always c.is_negative.ensures) c.if-is_negative.true (meets_text
    c.text.ensures meets_done)

pub returns-else-is_negative : goal.returns-else-is_negative
returns-else-is_negative g c = chooses_no (always c.is_negative.ensures) c.if-is_negative.false meets_done
