use Rattle.std.proofs.Common.{Some}
use Rattle.demangle_nodes.proofs.Parts.{encoding_function}
use Rattle.demangle_nodes.specs.TreeNodes.{parts_of_encoding, tag_of_encoding, tree_of_name}
use Rattle.demangle_printing.specs.Lines.{line_steps}
use Rattle.demangle_printing.specs.Lines.Functions.{in_leaf_scope}
use Rattle.demangle_printing.specs.Print.{body}
use Rattle.demangle_printing.specs.Reader.{run}
use Rattle.demangle_printing.specs.Rules.{leaf_name_of}
use Rattle.demangle_printing.specs.Scope.{with_leaf}
use Rattle.demangle_meets.proofs.Acts.{meets_block, meets_done}
use Rattle.demangle_meets.proofs.Around.{meets_fence}
use Rattle.demangle_meets.proofs.Parts.{line_parts, meets_at}
use Rattle.demangle_meets.specs.Place.{world_of}
use Rattle.demangle_scope.specs.ScopeOf.{scope_of}
use Rattle.demangle_print_names.proofs.Functions.{function_tree}
use Rattle.demangle_print_names.proofs.encodings.function.Goals as goal

pub returns : goal.returns
unfolding body line_steps
returns g c =
    line_parts {sc = scope_of c.args.scope} tag_of_encoding parts_of_encoding c.requires.is
    (encoding_function c.args.name.now c.args.types.now) (record {
      meets =
          meets_fence c.fence-items.ensures
          (meets_block (meets_block
          (meets_at
          (λ z. run (world_of (g.B.Below.at c.args.below).refers) (Some z)
          (with_leaf (leaf_name_of (world_of (g.B.Below.at c.args.below).refers) (Some
          (tree_of_name c.args.name.now)))
          (scope_of c.args.scope)) in_leaf_scope)
          (function_tree c.args.node.now c.args.name.now c.args.types.now c.requires.is)
          c.with_its_leaf.ensures) meets_done) meets_done)
          c.unfence.ensures meets_done;
    })
