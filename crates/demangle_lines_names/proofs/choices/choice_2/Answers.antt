use Rattle.demangle_meets.proofs.Acts.{meets_block, meets_done, meets_text}
use Rattle.demangle_lines.proofs.Doing.{always, chooses_no, chooses_yes}
use Rattle.demangle_lines_names.proofs.choices.choice_2.Goals as goal

pub returns-then-is_there : goal.returns-then-is_there
returns-then-is_there g c = chooses_yes (always c.is_there.ensures) c.if-is_there.true (meets_block
    c.name_part.ensures (meets_text c.text.ensures meets_done))

pub returns-else-is_there : goal.returns-else-is_there
returns-else-is_there g c = chooses_no (always c.is_there.ensures) c.if-is_there.false meets_done
