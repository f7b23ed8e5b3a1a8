use Rattle.demangle_meets.proofs.Acts.{meets_block, meets_done}
use Rattle.demangle_meets.proofs.Around.{meets_held}
use Rattle.demangle_lines.proofs.Doing.{chooses_no, chooses_yes}
use Rattle.demangle_lines_functions.proofs.choices.choice_2.Goals as goal

pub returns-then-is_on : goal.returns-then-is_on
returns-then-is_on g c = chooses_yes (record { is = λ l. c.is_on.ensures }) c.if-is_on.true (meets_held c.hold.ensures
    (meets_block c.part.ensures meets_done) c.close.ensures meets_done)

pub returns-else-is_on : goal.returns-else-is_on
returns-else-is_on g c = chooses_no (record { is = λ l. c.is_on.ensures }) c.if-is_on.false (meets_block
    c.part-else-is_on.ensures meets_done)
