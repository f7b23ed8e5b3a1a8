use Rattle.demangle_printing.specs.Lines.{line_steps}
use Rattle.demangle_printing.specs.World.{listed}
use Rattle.demangle_meets.specs.Place.{world_of}
use Rattle.demangle_meets.proofs.Acts.{meets_done}
use Rattle.demangle_meets.proofs.Parts.{meets_found}
use Rattle.demangle_lines.specs.Pieces.{each_of}
use Rattle.demangle_lines.specs.ScopeOf.{lent_scope}
use Rattle.demangle_lines_names.specs.Choices.{each_1_steps}
use Rattle.demangle_lines_names.proofs.lines.abi_tags.Goals as goal

pub returns : goal.returns
unfolding line_steps
returns g c = record {
  meets = meets_found (λ y. each_of (world_of (g.B.Below.at c.args.below).refers) each_1_steps
      (listed (world_of (g.B.Below.at c.args.below).refers) y) (lent_scope g.T.InnerNode.tree c.args.scope))
      c.part_at.ensures c.each_1.ensures meets_done;
}
