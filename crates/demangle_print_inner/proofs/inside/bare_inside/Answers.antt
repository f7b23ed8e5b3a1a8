use Rattle.std.proofs.Common.{drop, map, ◌∙◌, ap}
use Rattle.demangle_leaf_nodes.specs.TreeLeaves.{tree_of_type_handle}
use Rattle.demangle_printing.specs.Act.{call, done}
use Rattle.demangle_printing.specs.Act as job
use Rattle.demangle_printing.specs.Print.{body}
use Rattle.demangle_printing.specs.Lines.{inside_steps}
use Rattle.demangle_meets.proofs.Parts.{meets_at}
use Rattle.demangle_scope.specs.ScopeOf.{scope_of}
use Rattle.demangle_print_inner.proofs.Lists.{types_behind}
use Rattle.demangle_print_inner.proofs.inside.bare_inside.Goals as goal

pub returns : goal.returns
unfolding body inside_steps
returns g c = record {
  meets = meets_at (λ l. call (job.parameters l) (scope_of c.args.scope) done)
      (ap (map tree_of_type_handle) (c.behind_result.ensures ∙ ap (drop 1) c.as_slice.ensures.value)
      ∙ types_behind (g.B.Below.at c.args.below).refers c.args.node.now)
      c.parameters.ensures;
}
