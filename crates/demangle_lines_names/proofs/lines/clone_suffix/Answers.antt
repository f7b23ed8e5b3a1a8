use Rattle.demangle_printing.specs.Lines.{line_steps}
use Rattle.demangle_printing.specs.World.{listed}
use Rattle.demangle_meets.specs.Place.{world_of}
use Rattle.demangle_meets.proofs.Acts.{meets_block, meets_done, meets_text}
use Rattle.demangle_meets.proofs.Parts.{meets_found}
use Rattle.demangle_lines.specs.Pieces.{each_of}
use Rattle.demangle_lines.specs.ScopeOf.{lent_scope}
use Rattle.demangle_lines_names.specs.Choices.{each_2_steps}
use Rattle.demangle_lines_names.proofs.lines.clone_suffix.Goals as goal

pub returns : goal.returns
unfolding line_steps
returns g c = record {
  meets = meets_text c.text.ensures (meets_block c.name_part.ensures (meets_found (λ y. each_of
      (world_of (g.B.Below.at c.args.below).refers) each_2_steps (listed (world_of (g.B.Below.at c.args.below).refers)
      y) (lent_scope g.T.InnerNode.tree c.args.scope)) c.part_at.ensures c.each_2.ensures (meets_text c.text-2.ensures
      meets_done)));
}
