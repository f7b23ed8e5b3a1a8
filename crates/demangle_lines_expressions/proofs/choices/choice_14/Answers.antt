use Rattle.std.proofs.Common.{◌∷◌, [], Some}
use Rattle.demangle_printing.specs.Step.{Step}
use Rattle.demangle_printing.specs.Reader.{run}
use Rattle.demangle_meets.specs.Place.{world_of}
use Rattle.demangle_meets.proofs.Acts.{meets_block, meets_done}
use Rattle.demangle_meets.proofs.Parts.{meets_found}
use Rattle.demangle_lines.proofs.Doing.{always, chooses_no, chooses_yes}
use Rattle.demangle_lines_expressions.proofs.choices.choice_14.Goals as goal

pub returns-then-is_there : goal.returns-then-is_there
returns-then-is_there g c = chooses_yes (always c.is_there.ensures) c.if-is_there.true (meets_found (λ s. run
    (world_of (g.B.Below.at c.args.below).refers) (Some (g.T.InnerNode.tree c.args.tree)) s (Step.line (0 ∷ [])
    (Step.line (1 ∷ []) Step.done))) c.with_inner_these-inner.ensures (meets_block c.part.ensures (meets_block
    c.part-then-is_there.ensures meets_done)) meets_done)

pub returns-else-is_there : goal.returns-else-is_there
returns-else-is_there g c = chooses_no (always c.is_there.ensures) c.if-is_there.false (meets_block
    c.part-else-is_there.ensures meets_done)
