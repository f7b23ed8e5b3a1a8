use Rattle.std.proofs.Common.{Some, refl}
use Rattle.demangle_core.specs.Core.{node}
use Rattle.demangle_leaf_nodes.specs.TreeLeaves.{tree_of_option}
use Rattle.demangle_nodes.proofs.Parts.{local_name_default, local_name_relative}
use Rattle.demangle_nodes.specs.TreeNodes.{boxed_name, parts_of_encoding, parts_of_local_name, tag_of_encoding}
use Rattle.demangle_nodes.specs.TreeNodes.{tag_of_local_name, tree_of_encoding}
use Rattle.demangle_printing.specs.Act.{block, done, with_params}
use Rattle.demangle_printing.specs.Lines.{line_steps}
use Rattle.demangle_printing.specs.Lines.Names.{in_local}
use Rattle.demangle_printing.specs.Print.{body}
use Rattle.demangle_printing.specs.Reader.{run}
use Rattle.demangle_printing.specs.Rules.{line_of}
use Rattle.demangle_meets.proofs.Parts.{meets_at, prints_deep, prints_node, prints_parts}
use Rattle.demangle_meets.specs.Place.{world_of}
use Rattle.demangle_scope.specs.ScopeOf.{scope_of}
use Rattle.demangle_print_parts.specs.Pieces.{row}
use Rattle.demangle_print_unqualified.proofs.Itself.{local_is_itself}
use Rattle.demangle_print_names.proofs.local.local_name.Goals as goal

pub returns-in_default : goal.returns-in_default
returns-in_default g c = prints_deep (local_is_itself _ c.args.node.now) c.in_default.ensures

pub returns-in-Relative : goal.returns-in-Relative
unfolding body line_steps
returns-in-Relative g c =
    prints_parts tag_of_local_name parts_of_local_name c.in-Relative.is
    (local_name_relative _ c.in-Relative.name _) (prints_node refl c.in-Some.ensures.0
    (meets_at (λ x. with_params (block (line_of (world_of (g.B.Below.at c.in-Some.below).refers) (Some
    (tree_of_encoding x)) (scope_of c.args.scope))
    (block (run (world_of (g.B.Below.at c.in-Some.below).refers) (Some (row (node (tag_of_encoding x)
    (parts_of_encoding x)
    (tree_of_option boxed_name c.in-Relative.name)))) (scope_of c.args.scope) in_local) done)) done)
    c.deref.ensures c.relative.ensures))

pub returns-in-Default : goal.returns-in-Default
unfolding body line_steps
returns-in-Default g c =
    prints_parts tag_of_local_name parts_of_local_name c.in-Default.is
    (local_name_default _ _ _) (prints_node refl c.in-Some.ensures.0
    (meets_at (λ x. with_params (block (line_of (world_of (g.B.Below.at c.in-Some.below).refers) (Some
    (tree_of_encoding x)) (scope_of c.args.scope)) done) done)
    c.deref-in-Default.ensures c.in_default.ensures))
