use Rattle.demangle_printing.specs.World.{listed}
use Rattle.demangle_meets.specs.Place.{world_of}
use Rattle.demangle_meets.proofs.Acts.{meets_done}
use Rattle.demangle_meets.proofs.Parts.{meets_found}
use Rattle.demangle_lines.specs.Pieces.{each_of}
use Rattle.demangle_lines.specs.ScopeOf.{lent_scope}
use Rattle.demangle_lines.proofs.Doing.{chooses_no, chooses_yes}
use Rattle.demangle_lines_names.specs.Choices.{each_1_steps}
use Rattle.demangle_lines_names.proofs.choices.choice_1.Goals as goal

pub returns-then-is_on : goal.returns-then-is_on
returns-then-is_on g c = chooses_yes (record { is = λ l. c.is_on.ensures }) c.if-is_on.true (meets_found (λ y. each_of
    (world_of (g.B.Below.at c.args.below).refers) each_1_steps (listed (world_of (g.B.Below.at c.args.below).refers)
    y) (lent_scope g.T.InnerNode.tree c.args.scope)) c.part_at.ensures c.each_1.ensures meets_done)

pub returns-else-is_on : goal.returns-else-is_on
returns-else-is_on g c = chooses_no (record { is = λ l. c.is_on.ensures }) c.if-is_on.false meets_done
