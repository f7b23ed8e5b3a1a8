use Rattle.demangle_meets.proofs.Acts.{meets_done, meets_text}
use Rattle.demangle_lines.proofs.Doing.{chooses_no, chooses_yes}
use Rattle.demangle_lines_arguments.proofs.choices.choice_4.Goals as goal

pub returns-then-last_is : goal.returns-then-last_is
returns-then-last_is g c = chooses_yes (record { is = λ l. c.last_is.ensures }) c.if-last_is.true (meets_text
    c.text.ensures meets_done)

pub returns-else-last_is : goal.returns-else-last_is
returns-else-last_is g c = chooses_no (record { is = λ l. c.last_is.ensures }) c.if-last_is.false meets_done
