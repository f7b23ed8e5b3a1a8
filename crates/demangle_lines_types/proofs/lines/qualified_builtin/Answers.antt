use Rattle.std.proofs.Common.{◌∷◌, [], Some, false}
use Rattle.demangle_printing.specs.Lines.{line_steps}
use Rattle.demangle_printing.specs.Step.{Step}
use Rattle.demangle_printing.specs.Act.{done}
use Rattle.demangle_printing.specs.Reader.{held_for, run}
use Rattle.demangle_meets.specs.Place.{world_of}
use Rattle.demangle_meets.proofs.Acts.{meets_block, meets_done}
use Rattle.demangle_meets.proofs.Around.{meets_held}
use Rattle.demangle_meets.proofs.Parts.{meets_at}
use Rattle.demangle_lines.specs.ScopeOf.{lent_scope}
use Rattle.demangle_lines_types.proofs.lines.qualified_builtin.Goals as goal

pub returns-in-None : goal.returns-in-None
unfolding line_steps
returns-in-None g c = record {
  meets = meets_at (λ y. held_for (world_of (g.B.Below.at c.args.below).refers) y false
      (lent_scope g.T.InnerNode.tree c.args.scope) (run (world_of (g.B.Below.at c.args.below).refers) (Some
      (g.T.InnerNode.tree c.args.tree)) (lent_scope g.T.InnerNode.tree c.args.scope) (Step.line (1 ∷ []) Step.done))
      done) c.in-None.ensures (meets_block (meets_block c.part.ensures meets_done) meets_done);
}

pub returns-in-Some : goal.returns-in-Some
unfolding line_steps
returns-in-Some g c = record {
  meets = meets_at (λ y. held_for (world_of (g.B.Below.at c.args.below).refers) y false
      (lent_scope g.T.InnerNode.tree c.args.scope) (run (world_of (g.B.Below.at c.args.below).refers) (Some
      (g.T.InnerNode.tree c.args.tree)) (lent_scope g.T.InnerNode.tree c.args.scope) (Step.line (1 ∷ []) Step.done))
      done) c.in-Some.ensures (meets_held c.hold.ensures (meets_block c.part-in-Some.ensures meets_done) c.close.ensures
      meets_done);
}
