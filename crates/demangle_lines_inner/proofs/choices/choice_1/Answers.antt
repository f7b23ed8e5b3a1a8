use Rattle.demangle_meets.proofs.Acts.{meets_block, meets_done}
use Rattle.demangle_lines.proofs.Doing.{always, chooses_no, chooses_yes}
use Rattle.demangle_lines_inner.proofs.choices.choice_1.Goals as goal

pub returns-then-is_qualified : goal.returns-then-is_qualified
returns-then-is_qualified g c = chooses_yes (always c.is_qualified.ensures) c.if-is_qualified.true (meets_block
    c.part.ensures meets_done)

pub returns-else-is_qualified : goal.returns-else-is_qualified
returns-else-is_qualified g c = chooses_no (always c.is_qualified.ensures) c.if-is_qualified.false meets_done
