use Rattle.std.proofs.Common.{Some, sym}
use Rattle.demangle_entries.specs.TreeEntries.{tag_of_prefix, tree_of_prefix}
use Rattle.demangle_printing.specs.Lines.{line_steps}
use Rattle.demangle_meets.proofs.Acts.{meets_done}
use Rattle.demangle_meets.proofs.Around.{meets_fence}
use Rattle.demangle_meets.proofs.Events.{meets_event}
use Rattle.demangle_meets.proofs.Parts.{meets_at}
use Rattle.demangle_scope.specs.ScopeOf.{scope_of}
use Rattle.demangle_print_unqualified.specs.Pieces.{in_fence}
use Rattle.demangle_print_unqualified.proofs.Itself.{prefix_line}
use Rattle.demangle_print_names.proofs.prefixes.prefix_steps.Goals as goal

pub returns : goal.returns
returns g c =
    record {
      meets =
          meets_at (λ z. z)
          (sym (prefix_line (g.B.Below.at c.args.below).refers c.args.node.now (scope_of c.args.scope)))
          (c.prefix_kind-kind.ensures.rest (g.B.Below.at c.args.below) _ (Some (tree_of_prefix c.args.node.now))
          (scope_of c.args.scope) (λ k. in_fence (line_steps (tag_of_prefix c.args.node.now)))
          (meets_event c.begin_node-told.ensures
          (meets_fence c.fence-items.ensures c.path.ensures c.unfence.ensures meets_done)
          c.end_node.ensures meets_done));
    }
