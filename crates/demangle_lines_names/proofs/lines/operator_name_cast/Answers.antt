use Rattle.std.proofs.Common.{◌∷◌, [], Some}
use Rattle.demangle_printing.specs.Lines.{line_steps}
use Rattle.demangle_printing.specs.Step.{Step}
use Rattle.demangle_printing.specs.Reader.{run}
use Rattle.demangle_meets.specs.Place.{world_of}
use Rattle.demangle_meets.proofs.Acts.{meets_block, meets_done, meets_space}
use Rattle.demangle_meets.proofs.Around.{meets_fence}
use Rattle.demangle_meets.proofs.Parts.{meets_found}
use Rattle.demangle_lines_names.proofs.lines.operator_name_cast.Goals as goal

pub returns : goal.returns
unfolding line_steps
returns g c = record {
  meets = meets_fence c.fence-items.ensures (meets_space c.space.ensures (meets_found (λ s. run
      (world_of (g.B.Below.at c.args.below).refers) (Some (g.T.InnerNode.tree c.args.tree)) s (Step.line (0 ∷ [])
      Step.done)) c.with_type_arguments-inner.ensures (meets_block c.name_part.ensures meets_done) meets_done))
      c.unfence.ensures meets_done;
}
