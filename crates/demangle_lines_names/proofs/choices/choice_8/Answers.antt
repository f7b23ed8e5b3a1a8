use Rattle.demangle_meets.proofs.Acts.{meets_block, meets_done, meets_set}
use Rattle.demangle_meets.proofs.Around.{meets_fence}
use Rattle.demangle_meets.proofs.Events.{meets_event}
use Rattle.demangle_lines.proofs.Doing.{chooses_no, chooses_yes}
use Rattle.demangle_lines_names.proofs.choices.choice_8.Goals as goal

pub returns-then-is_on : goal.returns-then-is_on
returns-then-is_on g c = chooses_yes (record { is = λ l. c.is_on.ensures }) c.if-is_on.true (meets_set c.turn.ensures
    (meets_event c.begin_node-told.ensures (meets_fence c.fence-items.ensures (meets_block c.name_part.ensures
    meets_done) c.unfence.ensures meets_done) c.end_node.ensures meets_done))

pub returns-else-is_on : goal.returns-else-is_on
returns-else-is_on g c = chooses_no (record { is = λ l. c.is_on.ensures }) c.if-is_on.false (meets_event
    c.begin_node-told-else-is_on.ensures (meets_fence c.fence-items-else-is_on.ensures (meets_block
    c.name_part-else-is_on.ensures meets_done) c.unfence-else-is_on.ensures meets_done) c.end_node-else-is_on.ensures
    meets_done)
