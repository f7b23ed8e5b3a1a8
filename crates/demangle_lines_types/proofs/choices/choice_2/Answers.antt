use Rattle.demangle_meets.proofs.Acts.{meets_done, meets_space, meets_text}
use Rattle.demangle_lines.proofs.Doing.{always, chooses_no, chooses_yes}
use Rattle.demangle_lines_types.proofs.choices.choice_2.Goals as goal

pub returns-then-is_true : goal.returns-then-is_true
returns-then-is_true g c = chooses_yes (always c.is_true.ensures) c.if-is_true.true (meets_space c.space.ensures
    (meets_text c.text.ensures meets_done))

pub returns-else-is_true : goal.returns-else-is_true
returns-else-is_true g c = chooses_no (always c.is_true.ensures) c.if-is_true.false meets_done
