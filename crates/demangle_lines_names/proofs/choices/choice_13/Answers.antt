use Rattle.demangle_meets.proofs.Acts.{meets_done, meets_text}
use Rattle.demangle_lines.proofs.Doing.{always, chooses_no, chooses_yes}
use Rattle.demangle_lines_names.proofs.choices.choice_13.Goals as goal

pub returns-then-is_anonymous : goal.returns-then-is_anonymous
returns-then-is_anonymous g c = chooses_yes (always c.is_anonymous.ensures) c.if-is_anonymous.true (meets_text
    c.text.ensures meets_done)

pub returns-else-is_anonymous : goal.returns-else-is_anonymous
returns-else-is_anonymous g c = chooses_no (always c.is_anonymous.ensures) c.if-is_anonymous.false c.name.ensures
