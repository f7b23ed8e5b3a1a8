use Rattle.std.proofs.Common.{◌∷◌, [], Some, codes, false}
use Rattle.demangle_core.specs.Lookups.{as_prefix}
use Rattle.demangle_printing.specs.Lines.{line_steps}
use Rattle.demangle_printing.specs.Step.{Step, Piece, Test}
use Rattle.demangle_printing.specs.Reader.{run}
use Rattle.demangle_meets.specs.Place.{world_of}
use Rattle.demangle_meets.proofs.Acts.{meets_block, meets_done}
use Rattle.demangle_meets.proofs.Around.{meets_fence}
use Rattle.demangle_meets.proofs.Parts.{meets_found}
use Rattle.demangle_printing.specs.State as kind
use Rattle.demangle_lines_functions.proofs.lines.encoding_function.Goals as goal

pub returns : goal.returns
unfolding line_steps
returns g c = record {
  meets = meets_fence c.fence-items.ensures (meets_found (λ s. run (world_of (g.B.Below.at
      c.args.below).refers) (Some (g.T.InnerNode.tree c.args.tree)) s (Step.block (Step.with_args as_prefix (0 ∷ [])
      (Step.block (Step.block (Step.test (Test.both (Test.has_args as_prefix (0 ∷ [])) (Test.both (Test.flag
      kind.returns) (Test.isnt (Test.special (0 ∷ []))))) (Step.line (1 ∷ 0 ∷ 0 ∷ []) (Step.say (Piece.quoted (codes
      " ")) Step.done)) Step.done Step.done) (Step.block (Step.test (Test.flag kind.params) (Step.held [] false
      (Step.line (0 ∷ []) Step.done) Step.done) (Step.line (0 ∷ []) Step.done) Step.done) Step.done)) Step.done)
      Step.done) Step.done)) c.with_leaf_name-inner.ensures (meets_block c.under_1.ensures.meets meets_done) meets_done)
      c.unfence.ensures meets_done;
}
