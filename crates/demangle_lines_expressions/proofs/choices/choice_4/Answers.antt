use Rattle.demangle_meets.proofs.Acts.{meets_block, meets_done, meets_text}
use Rattle.demangle_lines.proofs.Doing.{always, chooses_no, chooses_yes}
use Rattle.demangle_lines_expressions.proofs.choices.choice_4.Goals as goal

pub returns-then-has_prefix_arguments : goal.returns-then-has_prefix_arguments
returns-then-has_prefix_arguments g c = chooses_yes (always c.has_prefix_arguments.ensures)
    c.if-has_prefix_arguments.true (meets_text c.text.ensures (meets_block c.part.ensures (meets_text
    c.text-then-has_prefix_arguments.ensures meets_done)))

pub returns-else-has_prefix_arguments : goal.returns-else-has_prefix_arguments
returns-else-has_prefix_arguments g c = chooses_no (always c.has_prefix_arguments.ensures)
    c.if-has_prefix_arguments.false (meets_block c.part-else-has_prefix_arguments.ensures meets_done)
